-- What the callers of asks were told, and what is kept to be told.
use Rattle.std.specs.Prelude.{ℕ, Bool, true, false, not, ◌&&◌, ◌||◌, if◌then◌else◌, ◌==◌, List, [], ◌∷◌, Option, Some, None}
use Rattle.mdb_log.specs.declared.reply.Reply.{Reply}
use Rattle.mdb_log.specs.declared.reply.Reply.TheVariants.{Pooled, Ended}
use Rattle.mdb_log.specs.declared.log.Entry.{Entry}
use Rattle.mdb_log.specs.Driver.{is_refusal}
use Rattle.mdb_proxies.specs.declared.asked.Asked.{Asked}
use Rattle.mdb_proxies.specs.Charge.{requests, returns, since}

-- the reply tells what a request came to
abbrev pub tells : Reply → Bool
tells (Pooled pool id) = true
tells (Ended end) = true
tells _ = false

-- the reply to the first of the entries that is the request
abbrev pub reply_to : ℕ → List Entry → Option Reply
reply_to r [] = None
reply_to r (e ∷ es) = if requests r e.step.act then Some e.reply else reply_to r es

-- the reply, where it tells an outcome or is a refusal
abbrev pub worth_keeping : Option Reply → Option Reply
worth_keeping None = None
worth_keeping (Some reply) = if tells reply || is_refusal reply then Some reply else None

-- Kept: the outcome, or the refusal, that the entry which handed the ask on replied, until it is told. The caller of an ask that was handed on
-- as it was made is told an outcome at once, and one that was refused is no ask, so that only the reply to an ask that was held back is kept.
abbrev pub kept_reply : List Entry → Asked → Option Reply
kept_reply log x = if x.told then None else worth_keeping (reply_to x.request (since log x))

-- the entry was accepted, and returns the connection of the request
abbrev pub takes_back : ℕ → Entry → Bool
takes_back r e = not (is_refusal e.reply) && returns r e.step.act

-- one of the entries was accepted, and returned the connection of the request
abbrev pub is_returned : ℕ → List Entry → Bool
is_returned r [] = false
is_returned r (e ∷ es) = takes_back r e || is_returned r es

-- the caller of the ask returned the connection
abbrev pub is_finished : List Entry → Asked → Bool
is_finished log x = is_returned x.request (since log x)

-- the ask of the number
abbrev pub ask_of : ℕ → List Asked → Option Asked
ask_of r [] = None
ask_of r (x ∷ xs) = if r == x.request then Some x else ask_of r xs

-- the ask, whose caller was told what it came to, if so
abbrev pub told_if : Bool → Asked → Asked
told_if true x = record x { told = true }
told_if false x = x

-- the asks, after the caller of that of the number was told what it came to
abbrev pub tell : ℕ → List Asked → List Asked
tell r [] = []
tell r (x ∷ xs) = if r == x.request then told_if true x ∷ xs else x ∷ tell r xs
