-- What a step of a proxy is answered, and what it makes of the asks.
use Rattle.std.specs.Prelude.{◌≡◌, ℕ, Bool, true, false, not, ◌&&◌, ◌||◌, if◌then◌else◌, nat_lt, nat_le, is_some, List, [], ◌∷◌, ◌++◌, length, Option, Some, None, option_map}
use Rattle.mdb_base.specs.declared.address.ServerAddress.{ServerAddress}
use Rattle.mdb_log.specs.declared.reply.Reply.{Reply}
use Rattle.mdb_log.specs.declared.step.Act.{Act}
use Rattle.mdb_log.specs.declared.step.Act.TheVariants.{Request, Return, Collect as Collects}
use Rattle.mdb_log.specs.declared.step.Step.{Step}
use Rattle.mdb_log.specs.declared.log.Entry.{Entry}
use Rattle.mdb_log.specs.Driver.{is_refusal}
use Rattle.mdb_log.specs.History.{history_of, last_moment}
use Rattle.mdb_proxies.specs.declared.asked.Asked.{Asked}
use Rattle.mdb_proxies.specs.declared.step.ProxyAct.{ProxyAct}
use Rattle.mdb_proxies.specs.declared.step.ProxyAct.TheVariants.{Ask, Collect, Finish, Pass}
use Rattle.mdb_proxies.specs.declared.step.ProxyStep.{ProxyStep}
use Rattle.mdb_proxies.specs.declared.step.ProxyReply.{ProxyReply}
use Rattle.mdb_proxies.specs.declared.step.ProxyReply.TheVariants.{Core, Held, Refused}
use Rattle.mdb_proxies.specs.declared.step.ProxyRefused.{ProxyRefused}
use Rattle.mdb_proxies.specs.declared.step.ProxyRefused.TheVariants.{TimeBack, NoTenant, RequestKnown, UnknownRequest, NotPassed}
use Rattle.mdb_proxies.specs.Shares.{share_of}
use Rattle.mdb_proxies.specs.Passing.{is_passed}
use Rattle.mdb_proxies.specs.Charge.{is_held, charge, is_held_at}
use Rattle.mdb_proxies.specs.Telling.{tells, kept_reply, is_finished, ask_of, told_if, tell}
use Rattle.mdb_proxies.specs.Entries.{GoesOn, Enters}
use Rattle.mdb_proxies.specs.Tables.{is_fresh}
use Rattle.mdb_proxies.specs.View.{ProxyView}

-- the ask is there, its caller was told nothing that it came to, and did not return the connection
abbrev pub is_collectable : List Entry → Option Asked → Bool
is_collectable log None = false
is_collectable log (Some x) = not x.told && not (is_finished log x)

-- why an act is refused, whatever its moment
abbrev pub refusal_by : List ℕ → List Asked → List Entry → ProxyAct → Option ProxyRefused
refusal_by shares asks log (Ask t r a) = if nat_le (length shares) t then Some NoTenant else (if is_fresh r asks then None else Some RequestKnown)
refusal_by shares asks log (Collect r) = if is_collectable log (ask_of r asks) then None else Some UnknownRequest
refusal_by shares asks log (Finish r used) = None
refusal_by shares asks log (Pass act) = if is_passed act then None else Some NotPassed

-- Refusals, in their order: a moment before that of the core's last accepted step; a tenant that is not there; a number that an ask has; a request that
-- was never asked, told what it came to, or returned; an act that is not passed.
abbrev pub refusal_at : ℕ → List ℕ → List Asked → List Entry → ProxyAct → Option ProxyRefused
refusal_at moment shares asks log act = if nat_lt moment (last_moment (history_of log)) then Some (TimeBack (last_moment (history_of log))) else refusal_by shares asks log act

-- why the step is refused
abbrev pub refusal_of : ProxyView → ProxyStep → Option ProxyRefused
refusal_of v s = refusal_at s.moment v.shares v.asks v.log s.act

-- the rules hold a new ask of the tenant back: its charge at the address is not below its share, or an earlier ask of it is held back there
abbrev pub is_held_off : List ℕ → List Asked → List Entry → ℕ → ServerAddress → Bool
is_held_off shares asks log t a = nat_le (share_of shares t) (charge asks log t a) || is_held_at asks log t a

-- what a caller of the ask is answered without the core: that it is held back, or the kept reply
abbrev pub found : List Entry → Option Asked → Option ProxyReply
found log None = None
found log (Some x) = if is_held log x then Some Held else option_map Core (kept_reply log x)

-- the reply that is kept for the caller of the ask
abbrev pub kept_for : List Entry → Option Asked → Option Reply
kept_for log None = None
kept_for log (Some x) = kept_reply log x

-- What an act that is not refused is answered without the core: that the request is held back, or the reply that was kept for its caller.
abbrev pub answer_by : List ℕ → List Asked → List Entry → ProxyAct → Option ProxyReply
answer_by shares asks log (Ask t r a) = if is_held_off shares asks log t a then Some Held else None
answer_by shares asks log (Collect r) = found log (ask_of r asks)
answer_by shares asks log _ = None

-- the act of the core that an act of a proxy is
abbrev pub core_act : ProxyAct → Act
core_act (Ask t r a) = Request r a
core_act (Collect r) = Collects r
core_act (Finish r used) = Return r used
core_act (Pass act) = act

abbrev pub core_step : ℕ → ProxyAct → Step
core_step moment act = record { moment = moment; act = core_act act }

-- A step that is not refused is answered by the proxy, and adds only what is handed on; or by the core, as the entry of its own act.
abbrev pub Replies : ℕ → List ℕ → List Asked → Step → List Entry → List Entry → ProxyReply → Option ProxyReply → Type 0
Replies moment shares asks step log more reply (Some own) = (reply ≡ own) × GoesOn moment shares asks log more
Replies moment shares asks step log more reply None = (told : Reply) × (reply ≡ Core told) × Enters moment shares asks step told log more

-- a new ask
abbrev pub new_ask : List Entry → ℕ → ℕ → ServerAddress → Asked
new_ask log t r a = record { tenant = t; request = r; address = a; entries = length log; told = false }

-- the asks and a new one, unless the core refused it
abbrev pub with_ask : List Asked → Asked → ProxyReply → List Asked
with_ask asks x (Core reply) = if is_refusal reply then asks else asks ++ told_if (tells reply) x ∷ []
with_ask asks x Held = asks ++ x ∷ []
with_ask asks x (Refused why) = asks

-- the reply to a caller tells what its ask came to, or is the one that was kept
abbrev pub tells_caller : Option Reply → ProxyReply → Bool
tells_caller kept (Core reply) = is_some kept || tells reply
tells_caller kept _ = false

abbrev pub tell_if : Bool → ℕ → List Asked → List Asked
tell_if true r asks = tell r asks
tell_if false r asks = asks

-- The asks after a step that is not refused, by its reply.
abbrev pub asks_after : List Asked → List Entry → ProxyAct → ProxyReply → List Asked
asks_after asks log (Ask t r a) reply = with_ask asks (new_ask log t r a) reply
asks_after asks log (Collect r) reply = tell_if (tells_caller (kept_for log (ask_of r asks)) reply) r asks
asks_after asks log _ reply = asks

-- A step that is not refused, with this reply: what it makes of the asks, and what it adds to the log.
pub record Performs (moment : ℕ) (shares : List ℕ) (old new : List Asked) (log more : List Entry) (act : ProxyAct) (reply : ProxyReply) : Type 0 where
  pub asks : new ≡ asks_after old log act reply
  pub replied : Replies moment shares new (core_step moment act) log more reply (answer_by shares old log act)
