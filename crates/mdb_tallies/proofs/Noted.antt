-- Tables in which one party or one pool was noted anew are those after the change.
use Rattle.std.proofs.Common.{ℕ, ◌≡◌, ◌==◌, Bool, true, false, not, ◌&&◌, if◌then◌else◌, Option, refl, ap, ◌∙◌}
use Rattle.mdb_tallies.specs.declared.party.Party.{Party}
use Rattle.mdb_tallies.specs.declared.pools.Pool.{Pool}
use Rattle.mdb_tallies.specs.declared.default_map.DefaultMap.{DefaultMap}
use Rattle.mdb_tallies.specs.declared.tables.Tables.{Tables}
use Rattle.mdb_tallies.specs.declared.occurrence.Occurrence.TheVariants as change
use Rattle.mdb_tallies.specs.declared.occurrence.How.TheVariants.{GaveBack, Over}
use Rattle.mdb_tallies.specs.Tables.{at, same_key}
use Rattle.mdb_tallies.specs.Kept.{Follows, PartyDid}
use Rattle.mdb_tallies.specs.Changes.{party_after}
use Rattle.mdb_tallies.proofs.Placed.{same, covers-same}

-- one value of a table by one number is another
pub noted : {V : Type 0} (k : ℕ) (v : V) (f : V → V) (old new : DefaultMap V) → ((a b c : ℕ) → at new a b c ≡ (if same_key k 0 0 a b c then v else at old a b c)) → v ≡ f (at old k 0 0) → (q : ℕ) → at new q 0 0 ≡ (if k == q then f (at old q 0 0) else at old q 0 0)
noted k v f old new n e q = n q 0 0 ∙ go (k == q) refl
  where
    go : (b : Bool) → (k == q) ≡ b → (if (b && true) && true then v else at old q 0 0) ≡ (if b then f (at old q 0 0) else at old q 0 0)
    go true u = e ∙ ap (λ m. f (at old m 0 0)) (same k q u)
    go false u = refl

pub returned-follows : (b : Bool) (r : ℕ) (old now : Tables) (t : DefaultMap Party) (v : Party) → PartyDid GaveBack r old now → ((a b c : ℕ) → at t a b c ≡ (if same_key r 0 0 a b c then v else at now.parties a b c)) → v ≡ record (at now.parties r 0 0) { is_returned = true } → Follows b (change.Returned r) old (record now { parties = t })
returned-follows b r old now t v d n e = record { connections = d.connections; gifts = λ s p c. ap (λ x. at x s p c) d.gifts; parties = λ s. noted r v (λ x. record x { is_returned = true }) now.parties t n e s ∙ ap (λ x. party_after (change.Returned r) s (at x s 0 0)) d.parties; pools = λ p. ap (λ x. at x p 0 0) d.pools; lists = covers-same old (record now { parties = t }) d.gifts d.places }

pub ended-follows : (b : Bool) (r : ℕ) (old now : Tables) (t : DefaultMap Party) (v : Party) → PartyDid Over r old now → ((a b c : ℕ) → at t a b c ≡ (if same_key r 0 0 a b c then v else at now.parties a b c)) → v ≡ record (at now.parties r 0 0) { is_ended = true } → Follows b (change.Ended r) old (record now { parties = t })
ended-follows b r old now t v d n e = record { connections = d.connections; gifts = λ s p c. ap (λ x. at x s p c) d.gifts; parties = λ s. noted r v (λ x. record x { is_ended = true }) now.parties t n e s ∙ ap (λ x. party_after (change.Ended r) s (at x s 0 0)) d.parties; pools = λ p. ap (λ x. at x p 0 0) d.pools; lists = covers-same old (record now { parties = t }) d.gifts d.places }

pub opened-follows : (b : Bool) (q : ℕ) (now : Tables) (t : DefaultMap Pool) (v : Pool) → ((a b c : ℕ) → at t a b c ≡ (if same_key q 0 0 a b c then v else at now.pools a b c)) → v ≡ record (at now.pools q 0 0) { is_opened = true } → Follows b (change.Opened q) now (record now { pools = t })
opened-follows b q now t v n e = record { connections = λ p c. refl; gifts = λ s p c. refl; parties = λ s. refl; pools = noted q v (λ x. record x { is_opened = true }) now.pools t n e; lists = covers-same now (record now { pools = t }) refl refl }

pub turned-follows : (b : Bool) (q : ℕ) (ready : Bool) (now : Tables) (t : DefaultMap Pool) (v : Pool) → ((a b c : ℕ) → at t a b c ≡ (if same_key q 0 0 a b c then v else at now.pools a b c)) → v ≡ record (at now.pools q 0 0) { is_ready = ready } → Follows b (change.Turned q ready) now (record now { pools = t })
turned-follows b q ready now t v n e = record { connections = λ p c. refl; gifts = λ s p c. refl; parties = λ s. refl; pools = noted q v (λ x. record x { is_ready = ready }) now.pools t n e; lists = covers-same now (record now { pools = t }) refl refl }

pub began-follows : (q : ℕ) (ready : Bool) (now : Tables) (t : DefaultMap Pool) (v : Pool) → ((a b c : ℕ) → at t a b c ≡ (if same_key q 0 0 a b c then v else at now.pools a b c)) → v ≡ record (at now.pools q 0 0) { is_ready = ready } → Follows ready (change.Began q) now (record now { pools = t })
began-follows q ready now t v n e = record { connections = λ p c. refl; gifts = λ s p c. refl; parties = λ s. refl; pools = noted q v (λ x. record x { is_ready = ready }) now.pools t n e; lists = covers-same now (record now { pools = t }) refl refl }

turned-round : (b : Bool) (x y : Party) → (if b then x else y) ≡ (if not b then y else x)
turned-round true x y = refl
turned-round false x y = refl

pub asked-follows : (b : Bool) (r : ℕ) (pool : Option ℕ) (warm : Bool) (now : Tables) (t : DefaultMap Party) (v : Party) → ((a b c : ℕ) → at t a b c ≡ (if same_key r 0 0 a b c then v else at now.parties a b c)) → v ≡ (if (at now.parties r 0 0).is_asked then at now.parties r 0 0 else record (at now.parties r 0 0) { is_asked = true; pool = pool; is_warm = warm }) → Follows b (change.Asked r pool warm) now (record now { parties = t })
asked-follows b r pool warm now t v n e = record { connections = λ p c. refl; gifts = λ s p c. refl; parties = λ s. noted r v (λ x. if x.is_asked then x else record x { is_asked = true; pool = pool; is_warm = warm }) now.parties t n e s ∙ first (r == s) (at now.parties s 0 0); pools = λ p. refl; lists = covers-same now (record now { parties = t }) refl refl }
  where
    first : (b : Bool) (x : Party) → (if b then (if x.is_asked then x else record x { is_asked = true; pool = pool; is_warm = warm }) else x) ≡ (if b && not x.is_asked then record x { is_asked = true; pool = pool; is_warm = warm } else x)
    first true x = turned-round x.is_asked x (record x { is_asked = true; pool = pool; is_warm = warm })
    first false x = refl

pub ruleset note_follows = (returned-follows, ended-follows, opened-follows, turned-follows, began-follows, asked-follows)
