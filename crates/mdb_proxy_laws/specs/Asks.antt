-- Whose requests the entries of a proxy's log are.
use Rattle.std.specs.Prelude.{◌≡◌, ℕ, Bool, true, false, not, ◌&&◌, if◌then◌else◌, ◌==◌, List, [], ◌∷◌, ⊤}
use Rattle.std.specs.List.{list_any}
use Rattle.mdb_base.specs.Equality.{same_address}
use Rattle.mdb_base.specs.declared.address.ServerAddress.{ServerAddress}
use Rattle.mdb_log.specs.declared.log.Entry.{Entry}
use Rattle.mdb_log.specs.declared.reply.Reply.{Reply}
use Rattle.mdb_log.specs.declared.step.Act.{Act}
use Rattle.mdb_log.specs.declared.step.Act.TheVariants.{Request, Collect, Return}
use Rattle.mdb_log.specs.Driver.{is_refusal}
use Rattle.mdb_proxies.specs.declared.asked.Asked.{Asked}
use Rattle.mdb_proxies.specs.Charge.{requests, since}
use Rattle.mdb_proxies.specs.Passing.{is_passed}
use Rattle.mdb_proxies.specs.View.{ProxyView}

-- the first of the entries that is the request was accepted
abbrev pub is_taken : ℕ → List Entry → Bool
is_taken r [] = false
is_taken r (e ∷ es) = if requests r e.step.act then not (is_refusal e.reply) else is_taken r es

-- the ask is of this number, at this address, and the first request since it was accepted
abbrev pub is_ask_of : List Entry → ℕ → ServerAddress → Asked → Bool
is_ask_of log r a x = (r == x.request) && (same_address x.address a && is_taken r (since log x))

-- The act is one that a proxy makes; and where it is a request that was accepted, an ask is its own.
abbrev pub IsAsked : List Entry → List Asked → Act → Reply → Type 0
IsAsked log asks (Request r a) reply = is_refusal reply ≡ false → list_any (is_ask_of log r a) asks ≡ true
IsAsked log asks (Collect r) reply = ⊤
IsAsked log asks (Return r used) reply = ⊤
IsAsked log asks act reply = is_passed act ≡ true

-- so are those of these entries
abbrev pub EachAsked : List Entry → List Asked → List Entry → Type 0
EachAsked log asks [] = ⊤
EachAsked log asks (e ∷ es) = IsAsked log asks e.step.act e.reply × EachAsked log asks es

-- Asked: behind the first entry of the log each is of an act that a proxy makes, and each accepted request is of an ask.
pub record AreAsked (first : Entry) (v : ProxyView) : Type 0 where
  pub later : List Entry
  pub is : v.log ≡ first ∷ later
  pub each : EachAsked v.log v.asks later
