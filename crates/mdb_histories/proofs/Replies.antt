-- The reply to a step is no refusal where the step is accepted, and is read by nothing that is said of pools.
use Rattle.std.proofs.Common.{ℕ, ◌≡◌, Bool, true, false, if◌then◌else◌, List, [], ◌∷◌, ◌++◌, Option, Some, None, refl, sym, ◌∙◌, ap, subst}
use Rattle.mdb_base.specs.Equality.{same_address}
use Rattle.mdb_base.specs.declared.address.ServerAddress.{ServerAddress}
use Rattle.mdb_base.specs.declared.options.Options.{Options}
use Rattle.mdb_events.specs.declared.cmap.CmapEvent.TheVariants.{PoolClosed}
use Rattle.mdb_events.specs.declared.fact.Fact.{Fact}
use Rattle.mdb_events.specs.declared.fact.Fact.TheVariants.{Opened, Pool, Granted, Ended, Raised}
use Rattle.mdb_log.specs.declared.step.Step.{Step}
use Rattle.mdb_log.specs.declared.step.Act.{Act}
use Rattle.mdb_log.specs.declared.step.Act.TheVariants as Do
use Rattle.mdb_log.specs.declared.reply.Reply.{Reply}
use Rattle.mdb_log.specs.History.{Item, did, made, is_number, of_pool, open_pool, after_fact, has_asked}
use Rattle.mdb_log.specs.Homes.{Home, homes}
use Rattle.mdb_log.specs.Own.{IsAccepted}
use Rattle.mdb_log.specs.Requests.{is_claimed}
use Rattle.mdb_pool_rules.proofs.LimitsAreKept.{reply-accepted}
use Rattle.mdb_sound.specs.Sound.{Sound}
use Rattle.mdb_driver_rules.specs.Answer.{pool_reply, reply_to}
use Rattle.mdb_driver_rules.specs.Homes.{home_of, is_here}
use Rattle.mdb_histories.specs.SoundHistory.{MayCome, FactNames, was_opened}
use Rattle.mdb_histories.proofs.Comes.{AllMayCome}

pool-accepted : (h z : List Item) (act : Act) (x : Option Home) → IsAccepted (pool_reply h z act x)
pool-accepted h z Do.Claim None = tt
pool-accepted h z act None = tt
pool-accepted h z act (Some x) = reply-accepted x.number (is_claimed h x.number) (of_pool x.number h) (of_pool x.number z) act

pub accepted-reply : (o : Options) (h : List Item) (step : Step) (z : List Item) (act : Act) → IsAccepted (reply_to o h step z act)
accepted-reply o h step z (Do.Hello a p came) = tt
accepted-reply o h step z (Do.Beaten a p duration came) = tt
accepted-reply o h step z (Do.Error r error) = tt
accepted-reply o h step z (Do.Hosts hosts) = tt
accepted-reply o h step z (Do.Want w) = tt
accepted-reply o h step z (Do.Unwant w) = tt
accepted-reply o h step z (Do.Rtt a p sample) = on (is_here h a p) refl
  where
    on : (b : Bool) → is_here h a p ≡ b → IsAccepted (reply_to o h step z (Do.Rtt a p sample))
    on true e = rw e tt
    on false e = rw e tt
accepted-reply o h step z act = pool-accepted h z act (home_of h act)

-- histories that say the same of pools
pub record IsLike (k j : List Item) : Type 0 where
  pub items : (p : ℕ) → of_pool p j ≡ of_pool p k
  pub homes_are : homes j ≡ homes k
  pub open_are : (a : ServerAddress) → open_pool j a ≡ open_pool k a

pub like-reply : (step : Step) (first second : Reply) (h : List Item) → IsLike (did step first ∷ h) (did step second ∷ h)
like-reply step first second h = record { items = λ p. refl; homes_are = refl; open_are = λ a. refl }

like-fact : (m : ℕ) (f : Fact) (k j : List Item) → IsLike k j → IsLike (made m f ∷ k) (made m f ∷ j)
like-fact m f k j e = record { items = λ p. ap (after_fact p m f) (e.items p); homes_are = at_homes f; open_are = λ a. at_open a f }
  where
    at_homes : (f : Fact) → homes (made m f ∷ j) ≡ homes (made m f ∷ k)
    at_homes (Opened p a) = ap (λ hs. hs ++ record { number = p; address = a } ∷ []) e.homes_are
    at_homes _ = e.homes_are

    at_open : (a : ServerAddress) (f : Fact) → open_pool (made m f ∷ j) a ≡ open_pool (made m f ∷ k) a
    at_open a (Opened p b) = ap (λ x. if same_address b a then Some p else x) (e.open_are a)
    at_open a (Pool p (PoolClosed ev)) = ap (λ x. if is_number x p then None else x) (e.open_are a)
    at_open a _ = e.open_are a

like-opened : (k j : List Item) (p : ℕ) → IsLike k j → was_opened k p ≡ true → was_opened j p ≡ true
like-opened k j p e w = rw e.homes_are w

like-names : (k j : List Item) → IsLike k j → (f : Fact) → FactNames k f → FactNames j f
like-names k j e (Opened p a) w = rw e.homes_are w
like-names k j e (Pool p event) w = like-opened k j p e w
like-names k j e (Granted r p c) w = like-opened k j p e w
like-names k j e (Raised p service error) w = like-opened k j p e w
like-names k j e (Ended r end) w = record { pool = w.pool; asked = ap (λ xs. has_asked xs r) (e.items w.pool) ∙ w.asked }
like-names k j e _ w = tt

like-comes : (m : ℕ) (k j : List Item) (f : Fact) → IsLike k j → MayCome k (made m f) → MayCome j (made m f)
like-comes m k j f e w = record { in_each = λ p. subst (λ xs. Sound (after_fact p m f xs)) (sym (e.items p)) (w.in_each p); names = like-names k j e f w.names }

pub like-come : (m : ℕ) (fs : List Fact) (k j : List Item) → IsLike k j → AllMayCome m k fs → AllMayCome m j fs
like-come m [] k j e c = tt
like-come m (f ∷ fs) k j e c = (like-comes m k j f e c.0, like-come m fs (made m f ∷ k) (made m f ∷ j) (like-fact m f k j e) c.1)
