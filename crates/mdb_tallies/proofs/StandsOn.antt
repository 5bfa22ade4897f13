-- Tables that stand for a history, and follow one more item, stand for the history with it.
use Rattle.std.proofs.Common.{ℕ, ◌≡◌, List, ◌∷◌, sym, ap, ◌∙◌}
use Rattle.mdb_events.specs.declared.fact.Fact.{Fact}
use Rattle.mdb_log.specs.declared.options.PoolOptions.{PoolOptions}
use Rattle.mdb_log.specs.declared.step.Act.{Act}
use Rattle.mdb_log.specs.declared.reply.Reply.{Reply}
use Rattle.mdb_log.specs.History.{Item, did, made, open_pool}
use Rattle.mdb_tallies.specs.declared.tables.Tables.{Tables}
use Rattle.mdb_tallies.specs.Standing.{connection_of}
use Rattle.mdb_tallies.specs.Tables.{at}
use Rattle.mdb_tallies.specs.Changes.{connection_after, gift_after, party_after, pool_after}
use Rattle.mdb_tallies.specs.Reading.{of_fact, of_act}
use Rattle.mdb_tallies.specs.Kept.{Follows, Stands}
use Rattle.mdb_tallies.proofs.Facts.{fact-connection}
use Rattle.mdb_tallies.proofs.Steps.{step-connection}
use Rattle.mdb_tallies.proofs.Parties.{fact-gift, fact-party, step-gift, step-party}
use Rattle.mdb_tallies.proofs.PoolCounts.{fact-pool, step-pool}

fact-stood : (o : PoolOptions) (m : ℕ) (fact : Fact) (h : List Item) (old new : Tables) → Stands o h old → Follows o.load_balanced (of_fact fact) old new → (p c : ℕ) → at new.connections p c 0 ≡ connection_of (made m fact ∷ h) p c
fact-stood o m fact h old new s f p c = f.connections p c ∙ (λ i. connection_after (of_fact fact) (λ r. s.gifts r p c i) (λ r. s.parties r i) p c (s.connections p c i)) ∙ sym (fact-connection m fact h p c)

-- One more fact.
pub stands-fact : (o : PoolOptions) (m : ℕ) (fact : Fact) (h : List Item) (old new : Tables) → Stands o h old → Follows o.load_balanced (of_fact fact) old new → Stands o (made m fact ∷ h) new
stands-fact o m fact h old new s f = record {
  connections = fact-stood o m fact h old new s f;
  gifts = λ r p c. f.gifts r p c ∙ ap (gift_after (of_fact fact) r p c) (s.gifts r p c) ∙ sym (fact-gift m fact h r p c);
  parties = λ r. f.parties r ∙ ap (party_after (of_fact fact) r) (s.parties r) ∙ sym (fact-party m fact h r);
  pools = λ p. f.pools p ∙ (λ i. pool_after (of_fact fact) o.load_balanced (λ c. s.connections p c i) (λ c. fact-stood o m fact h old new s f p c i) p (s.pools p i)) ∙ sym (fact-pool o m fact h p);
  lists = f.lists s.lists;
}

step-stood : (o : PoolOptions) (m : ℕ) (act : Act) (reply : Reply) (h : List Item) (old new : Tables) → Stands o h old → Follows o.load_balanced (of_act (open_pool h) act) old new → (p c : ℕ) → at new.connections p c 0 ≡ connection_of (did (record { moment = m; act = act }) reply ∷ h) p c
step-stood o m act reply h old new s f p c = f.connections p c ∙ (λ i. connection_after (of_act (open_pool h) act) (λ r. s.gifts r p c i) (λ r. s.parties r i) p c (s.connections p c i)) ∙ sym (step-connection m act reply h p c)

-- One more accepted step.
pub stands-step : (o : PoolOptions) (m : ℕ) (act : Act) (reply : Reply) (h : List Item) (old new : Tables) → Stands o h old → Follows o.load_balanced (of_act (open_pool h) act) old new → Stands o (did (record { moment = m; act = act }) reply ∷ h) new
stands-step o m act reply h old new s f = record {
  connections = step-stood o m act reply h old new s f;
  gifts = λ r p c. f.gifts r p c ∙ ap (gift_after (of_act (open_pool h) act) r p c) (s.gifts r p c) ∙ sym (step-gift m act reply h r p c);
  parties = λ r. f.parties r ∙ ap (party_after (of_act (open_pool h) act) r) (s.parties r) ∙ sym (step-party m act reply h r);
  pools = λ p. f.pools p ∙ (λ i. pool_after (of_act (open_pool h) act) o.load_balanced (λ c. s.connections p c i) (λ c. step-stood o m act reply h old new s f p c i) p (s.pools p i)) ∙ sym (step-pool o m act reply h p);
  lists = f.lists s.lists;
}
