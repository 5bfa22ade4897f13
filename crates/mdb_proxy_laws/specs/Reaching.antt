-- What a proxy comes to by its steps, by what its contract says of each.
use Rattle.std.specs.Prelude.{◌≡◌, ℕ, List, [], ◌∷◌, Some, None}
use Rattle.mdb_log.specs.declared.log.Entry.{Entry}
use Rattle.mdb_proxies.specs.Replies.{refusal_of, Performs}
use Rattle.mdb_proxies.specs.View.{ProxyView, KeepsShares}
use Rattle.mdb_proxies.specs.declared.step.ProxyStep.{ProxyStep}
use Rattle.mdb_proxies.specs.declared.step.ProxyReply.{ProxyReply}
use Rattle.mdb_proxies.specs.declared.step.ProxyReply.TheVariants.{Refused as IsRefused}
use Rattle.mdb_proxies.specs.declared.step.ProxyRefused.{ProxyRefused}

-- A step of a proxy that was answered: refused by the first reason that holds, and then nothing changed, or performed.
pub record Steps (old new : ProxyView) (step : ProxyStep) : Type 0 where
  pub reply : ProxyReply
  pub shares : new.shares ≡ old.shares
  pub refused : (why : ProxyRefused) → refusal_of old step ≡ Some why → (reply ≡ IsRefused why) × (new ≡ old)
  pub performs : refusal_of old step ≡ None → Performs step.moment old.shares old.asks new.asks old.log new.log step.act reply
  pub keeps : KeepsShares new

-- The one is reached from the other by these steps. A step that runs out of memory changes nothing, and is none of them.
abbrev pub Reaches : ProxyView → ProxyView → List ProxyStep → Type 0
Reaches old new [] = new ≡ old
Reaches old new (s ∷ ss) = (mid : ProxyView) × Steps old mid s × Reaches mid new ss

-- a proxy with these shares and no ask, whose core's log has this entry alone
abbrev pub begun : List ℕ → Entry → ProxyView
begun shares first = record { shares = shares; asks = []; log = first ∷ [] }
