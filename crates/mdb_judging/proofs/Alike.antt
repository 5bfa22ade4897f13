-- Histories that differ in nothing that legality asks of: they stay so, whatever comes after both, and events of servers and of the topology add nothing.
use Rattle.std.proofs.Common.{ℕ, ◌+◌, nat_lt, ◌≡◌, Bool, true, false, not, ◌&&◌, ◌||◌, if◌then◌else◌, List, [], ◌∷◌, ◌++◌, Option, Some, None, refl, sym, ap, ◌∙◌}
use Rattle.mdb_base.specs.declared.address.ServerAddress.{ServerAddress}
use Rattle.mdb_base.specs.Equality.{same_address}
use Rattle.mdb_events.specs.declared.cmap.CmapEvent.{CmapEvent}
use Rattle.mdb_events.specs.declared.cmap.CmapEvent.TheVariants.{PoolClosed}
use Rattle.mdb_events.specs.declared.sdam.SdamEvent.{SdamEvent}
use Rattle.mdb_events.specs.declared.fact.Fact.{Fact}
use Rattle.mdb_events.specs.declared.fact.Fact.TheVariants as fact
use Rattle.mdb_log.specs.declared.options.PoolOptions.{PoolOptions}
use Rattle.mdb_log.specs.declared.step.Act.{Act}
use Rattle.mdb_log.specs.declared.step.Act.TheVariants.{Request, Warm, Return, GiveUp, Pin}
use Rattle.mdb_log.specs.declared.reply.Reply.{Reply}
use Rattle.mdb_log.specs.History.{Item, did, made, open_pool, is_number}
use Rattle.mdb_log.specs.Homes.{Home, homes}
use Rattle.mdb_log.specs.Connections.{has, one_if}
use Rattle.mdb_log.specs.PlainHolders.{holds, pins_made, pins_dropped, is_pinned, adds_pin, drops_pin, comes_back, is_taking}
use Rattle.mdb_tallies.specs.Changes.{held_by_now}
use Rattle.mdb_tallies.proofs.Steps.{held-now}
use Rattle.mdb_pins.proofs.Stood.{pinned-again}
use Rattle.mdb_log.specs.PlainRequests.{requests}
use Rattle.mdb_tallies.specs.Standing.{connection_of, gift_of, party_of, pool_stands}
use Rattle.mdb_tallies.specs.Changes.{connection_after, gift_after, party_after, pool_after}
use Rattle.mdb_tallies.specs.Reading.{of_fact, of_act}
use Rattle.mdb_tallies.proofs.Facts.{fact-connection}
use Rattle.mdb_tallies.proofs.Steps.{step-connection}
use Rattle.mdb_tallies.proofs.Parties.{fact-gift, fact-party, step-gift, step-party}
use Rattle.mdb_tallies.proofs.PoolCounts.{fact-pool, step-pool}

-- the two say the same of each connection, gift, party and pool, of the pools in their order and of the requests in theirs
pub record Alike (o : PoolOptions) (h k : List Item) : Type 0 where
  pub connections : (p c : ℕ) → connection_of h p c ≡ connection_of k p c
  pub gifts : (r p c : ℕ) → gift_of h r p c ≡ gift_of k r p c
  pub parties : (r : ℕ) → party_of h r ≡ party_of k r
  pub pools : (p : ℕ) → pool_stands o h p ≡ pool_stands o k p
  pub open_at : (a : ServerAddress) → open_pool h a ≡ open_pool k a
  pub homes_are : homes h ≡ homes k
  pub requests_are : requests h ≡ requests k
  pub made_are : (p c : ℕ) → pins_made p h c ≡ pins_made p k c
  pub dropped_are : (p c : ℕ) → pins_dropped p h c ≡ pins_dropped p k c
  pub pinned_are : (p c : ℕ) → is_pinned p h c ≡ is_pinned p k c

pub alike-none : (o : PoolOptions) → Alike o [] []
alike-none o = record {
  connections = λ p c. refl;
  gifts = λ r p c. refl;
  parties = λ r. refl;
  pools = λ p. refl;
  open_at = λ a. refl;
  homes_are = refl;
  requests_are = refl;
  made_are = λ p c. refl;
  dropped_are = λ p c. refl;
  pinned_are = λ p c. refl;
}

-- facts

fact-open : (m : ℕ) (f : Fact) (h k : List Item) (a : ServerAddress) → open_pool h a ≡ open_pool k a → open_pool (made m f ∷ h) a ≡ open_pool (made m f ∷ k) a
fact-open m (fact.Opened p b) h k a e = ap (λ x. if same_address b a then Some p else x) e
fact-open m (fact.Pool p (PoolClosed event)) h k a e = ap (λ x. if is_number x p then None else x) e
fact-open m f h k a e = e

fact-homes : (m : ℕ) (f : Fact) (h k : List Item) → homes h ≡ homes k → homes (made m f ∷ h) ≡ homes (made m f ∷ k)
fact-homes m (fact.Opened p a) h k e = ap (λ x. x ++ record { number = p; address = a } ∷ []) e
fact-homes m f h k e = e

-- the same fact came
pub alike-fact : (o : PoolOptions) (m : ℕ) (f : Fact) (h k : List Item) → Alike o h k → Alike o (made m f ∷ h) (made m f ∷ k)
alike-fact o m f h k x =
    let now : (p c : ℕ) → connection_of (made m f ∷ h) p c ≡ connection_of (made m f ∷ k) p c =
    λ p c. fact-connection m f h p c ∙ (λ i. connection_after (of_fact f) (λ r. x.gifts r p c i) (λ r. x.parties r i) p c (x.connections p c i)) ∙ sym (fact-connection m f k p c) in
    record {
      connections = now;
      gifts = λ r p c. fact-gift m f h r p c ∙ ap (gift_after (of_fact f) r p c) (x.gifts r p c) ∙ sym (fact-gift m f k r p c);
      parties = λ r. fact-party m f h r ∙ ap (party_after (of_fact f) r) (x.parties r) ∙ sym (fact-party m f k r);
      pools = λ p. fact-pool o m f h p ∙ (λ i. pool_after (of_fact f) o.load_balanced (λ c. x.connections p c i) (λ c. now p c i) p (x.pools p i)) ∙ sym (fact-pool o m f k p);
      open_at = λ a. fact-open m f h k a (x.open_at a);
      homes_are = fact-homes m f h k x.homes_are;
      requests_are = x.requests_are;
      made_are = x.made_are;
      dropped_are = x.dropped_are;
      pinned_are = λ p c. pinned-again p h c ∙ x.pinned_are p c ∙ sym (pinned-again p k c);
    }

-- an event of a server or of the topology says nothing of pools
pub alike-told : (o : PoolOptions) (m : ℕ) (event : SdamEvent) (h k : List Item) → Alike o h k → Alike o (made m (fact.Sdam event) ∷ h) k
alike-told o m event h k x = record {
  connections = λ p c. fact-connection m (fact.Sdam event) h p c ∙ x.connections p c;
  gifts = λ r p c. fact-gift m (fact.Sdam event) h r p c ∙ x.gifts r p c;
  parties = λ r. fact-party m (fact.Sdam event) h r ∙ x.parties r;
  pools = λ p. fact-pool o m (fact.Sdam event) h p ∙ x.pools p;
  open_at = x.open_at;
  homes_are = x.homes_are;
  requests_are = x.requests_are;
  made_are = x.made_are;
  dropped_are = x.dropped_are;
  pinned_are = λ p c. pinned-again p h c ∙ x.pinned_are p c;
}

-- steps

holds-same : (o : PoolOptions) (h k : List Item) (p r c : ℕ) → Alike o h k → holds p h r c ≡ holds p k r c
holds-same o h k p r c x = held-now p h r c ∙ (λ i. held_by_now (x.gifts r p c i) (x.parties r i) (x.connections p c i)) ∙ sym (held-now p k r c)

adds-same : (o : PoolOptions) (act : Act) (h k : List Item) (p c : ℕ) → Alike o h k → adds_pin p act h c ≡ adds_pin p act k c
adds-same o (Pin r) h k p c x = holds-same o h k p r c x
adds-same o act h k p c x = refl

comes-same : (o : PoolOptions) (m : ℕ) (act : Act) (reply : Reply) (h k : List Item) (p c : ℕ) → Alike o h k → comes_back p (did (record { moment = m; act = act }) reply) h c ≡ comes_back p (did (record { moment = m; act = act }) reply) k c
comes-same o m (Return r used) reply h k p c x = holds-same o h k p r c x
comes-same o m (GiveUp r) reply h k p c x = holds-same o h k p r c x
comes-same o m act reply h k p c x = refl

made-same : (o : PoolOptions) (m : ℕ) (act : Act) (reply : Reply) (h k : List Item) (p c : ℕ) → Alike o h k → pins_made p (did (record { moment = m; act = act }) reply ∷ h) c ≡ pins_made p (did (record { moment = m; act = act }) reply ∷ k) c
made-same o m act reply h k p c x = (λ i. x.made_are p c i + one_if (adds-same o act h k p c x i))

dropped-same : (o : PoolOptions) (m : ℕ) (act : Act) (reply : Reply) (h k : List Item) (p c : ℕ) → Alike o h k → pins_dropped p (did (record { moment = m; act = act }) reply ∷ h) c ≡ pins_dropped p (did (record { moment = m; act = act }) reply ∷ k) c
dropped-same o m act reply h k p c x = (λ i. x.dropped_are p c i + one_if (drops_pin p act c))

step-requests : (m : ℕ) (act : Act) (reply : Reply) (h k : List Item) → requests h ≡ requests k → requests (did (record { moment = m; act = act }) reply ∷ h) ≡ requests (did (record { moment = m; act = act }) reply ∷ k)
step-requests m (Request r a) reply h k e = ap (λ rs. if has r rs then rs else (rs ++ r ∷ [])) e
step-requests m (Warm r a) reply h k e = ap (λ rs. if has r rs then rs else (rs ++ r ∷ [])) e
step-requests m act reply h k e = e

-- the same step was accepted
pub alike-step : (o : PoolOptions) (m : ℕ) (act : Act) (reply : Reply) (h k : List Item) → Alike o h k → Alike o (did (record { moment = m; act = act }) reply ∷ h) (did (record { moment = m; act = act }) reply ∷ k)
alike-step o m act reply h k x =
    let now : (p c : ℕ) → connection_of (did (record { moment = m; act = act }) reply ∷ h) p c ≡ connection_of (did (record { moment = m; act = act }) reply ∷ k) p c =
    λ p c. step-connection m act reply h p c ∙ (λ i. connection_after (of_act (λ a. x.open_at a i) act) (λ r. x.gifts r p c i) (λ r. x.parties r i) p c (x.connections p c i)) ∙ sym (step-connection m act reply k p c) in
    record {
      connections = now;
      gifts = λ r p c. step-gift m act reply h r p c ∙ (λ i. gift_after (of_act (λ a. x.open_at a i) act) r p c (x.gifts r p c i)) ∙ sym (step-gift m act reply k r p c);
      parties = λ r. step-party m act reply h r ∙ (λ i. party_after (of_act (λ a. x.open_at a i) act) r (x.parties r i)) ∙ sym (step-party m act reply k r);
      pools = λ p. step-pool o m act reply h p ∙ (λ i. pool_after (of_act (λ a. x.open_at a i) act) o.load_balanced (λ c. x.connections p c i) (λ c. now p c i) p (x.pools p i)) ∙ sym (step-pool o m act reply k p);
      open_at = x.open_at;
      homes_are = x.homes_are;
      requests_are = step-requests m act reply h k x.requests_are;
      made_are = λ p c. made-same o m act reply h k p c x;
      dropped_are = λ p c. dropped-same o m act reply h k p c x;
      pinned_are = λ p c. (λ i. (if comes-same o m act reply h k p c x i then true else (if is_taking p (did (record { moment = m; act = act }) reply) c then false else x.pinned_are p c i)) && nat_lt (dropped-same o m act reply h k p c x i) (made-same o m act reply h k p c x i));
    }
