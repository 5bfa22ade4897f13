-- Tables in which a party was given a connection are those after its take or its grant.
use Rattle.std.proofs.Common.{ℕ, ◌≡◌, ◌==◌, Bool, true, false, not, ◌&&◌, if◌then◌else◌, refl, sym, ap, ◌∙◌}
use Rattle.mdb_tallies.specs.declared.connection.Connection.{Connection}
use Rattle.mdb_tallies.specs.declared.party.Gift.{Gift}
use Rattle.mdb_tallies.specs.declared.party.Party.{Party}
use Rattle.mdb_tallies.specs.declared.default_map.DefaultMap.{DefaultMap}
use Rattle.mdb_tallies.specs.declared.tables.Tables.{Tables}
use Rattle.mdb_tallies.specs.declared.occurrence.Occurrence.TheVariants as change
use Rattle.mdb_tallies.specs.Tables.{at, same_key}
use Rattle.mdb_tallies.specs.Standing.{is_lent}
use Rattle.mdb_tallies.specs.Kept.{Replaces, Gives, Follows}
use Rattle.mdb_tallies.specs.Changes.{changed_if, once_taken, once_granted, kept_now, lent_now, recounted, pool_if, party_after}
use Rattle.mdb_tallies.proofs.Placed.{same, covers-same, placed, placed-unseen, placed-pool-none}
use Rattle.mdb_tallies.proofs.Noted.{noted}

-- what the pair was, where the test holds
moved : (f : Gift → Connection → Connection) (g : ℕ → ℕ → Gift) (q d p c : ℕ) (y : Connection) → changed_if ((q == p) && (d == c)) (f (g q d)) y ≡ changed_if ((q == p) && (d == c)) (f (g p c)) y
moved f g q d p c y = go (q == p) (d == c) refl refl
  where
    go : (b t : Bool) → (q == p) ≡ b → (d == c) ≡ t → changed_if (b && t) (f (g q d)) y ≡ changed_if (b && t) (f (g p c)) y
    go true true u v = ap (λ n. f (g n d) y) (same q p u) ∙ ap (λ n. f (g p n) y) (same d c v)
    go true false u v = refl
    go false t u v = refl

moved-gift : (f : Gift → Gift) (g : ℕ → ℕ → ℕ → Gift) (r q d s p c : ℕ) → (if same_key r q d s p c then f (g r q d) else g s p c) ≡ (if ((r == s) && (q == p)) && (d == c) then f (g s p c) else g s p c)
moved-gift f g r q d s p c = go (r == s) (q == p) (d == c) refl refl refl
  where
    go : (a b t : Bool) → (r == s) ≡ a → (q == p) ≡ b → (d == c) ≡ t → (if (a && b) && t then f (g r q d) else g s p c) ≡ (if (a && b) && t then f (g s p c) else g s p c)
    go true true true w u v = ap (λ n. f (g n q d)) (same r s w) ∙ ap (λ n. f (g s n d)) (same q p u) ∙ ap (λ n. f (g s p n)) (same d c v)
    go true true false w u v = refl
    go true false t w u v = refl
    go false b t w u v = refl

abbrev taking : Party → Gift → Connection → Connection
taking x y = once_taken (kept_now y x) (not x.is_returned) (lent_now y x)

abbrev granting : Party → Gift → Connection → Connection
granting x y = once_granted (lent_now y x) (is_lent true y.is_taken x.is_returned x.is_ended)

abbrev once_given : Gift → Gift
once_given y = record y { is_taken = true }

abbrev once_lent : Gift → Gift
once_lent y = record y { is_granted = true }

abbrev once_marked : Party → Party
once_marked y = record y { is_granted = true }

pub taken-follows : (b : Bool) (r q d : ℕ) (x : Connection) (g : Gift) (old mid new : Tables) → Replaces q d x 0 old mid → x ≡ once_taken (kept_now (at old.gifts r q d) (at old.parties r 0 0)) (not (at old.parties r 0 0).is_returned) (lent_now (at old.gifts r q d) (at old.parties r 0 0)) (at old.connections q d 0) → Gives r q d g mid new → g ≡ record (at old.gifts r q d) { is_taken = true } → Follows b (change.Taken r q d) old new
taken-follows b r q d x g old mid new e f h k = record {
  connections = λ p c. ap (λ t. at t p c 0) h.connections ∙ placed q d 0 x (taking (at old.parties r 0 0) (at old.gifts r q d)) old mid e f p c ∙ moved (taking (at old.parties r 0 0)) (λ n m. at old.gifts r n m) q d p c (at old.connections p c 0);
  gifts = λ s p c. h.gifts s p c ∙ ap (λ y. if same_key r q d s p c then y else at mid.gifts s p c) k ∙ ap (λ t. if same_key r q d s p c then once_given (at old.gifts r q d) else at t s p c) e.gifts ∙ moved-gift once_given (λ n m l. at old.gifts n m l) r q d s p c;
  parties = λ s. ap (λ t. at t s 0 0) (h.parties ∙ e.parties);
  pools = λ p. ap (λ t. at t p 0 0) h.pools ∙ placed-unseen q d x (taking (at old.parties r 0 0) (at old.gifts r q d)) old mid (λ y. (refl, refl, refl)) e f p;
  lists = λ covers. h.lists (covers-same old mid e.gifts e.places covers);
}

pub granted-follows : (b : Bool) (r q d : ℕ) (x : Connection) (g : Gift) (v : Party) (old mid now : Tables) (t : DefaultMap Party) → Replaces q d x 0 old mid → x ≡ once_granted (lent_now (at old.gifts r q d) (at old.parties r 0 0)) (lent_now g (at old.parties r 0 0)) (at old.connections q d 0) → Gives r q d g mid now → g ≡ record (at old.gifts r q d) { is_granted = true } → ((a b c : ℕ) → at t a b c ≡ (if same_key r 0 0 a b c then v else at now.parties a b c)) → v ≡ record (at old.parties r 0 0) { is_granted = true } → Follows b (change.Granted r q d) old (record now { parties = t })
granted-follows b r q d x g v old mid now t e f h k n w = record {
  connections = λ p c. ap (λ y. at y p c 0) h.connections ∙ placed q d 0 x (granting (at old.parties r 0 0) (at old.gifts r q d)) old mid e is p c ∙ moved (granting (at old.parties r 0 0)) (λ n m. at old.gifts r n m) q d p c (at old.connections p c 0);
  gifts = λ s p c. h.gifts s p c ∙ ap (λ y. if same_key r q d s p c then y else at mid.gifts s p c) k ∙ ap (λ y. if same_key r q d s p c then once_lent (at old.gifts r q d) else at y s p c) e.gifts ∙ moved-gift once_lent (λ n m l. at old.gifts n m l) r q d s p c;
  parties = λ s. noted r v once_marked now.parties t n (w ∙ ap (λ y. once_marked (at y r 0 0)) (sym (h.parties ∙ e.parties))) s ∙ ap (λ y. party_after (change.Granted r q d) s (at y s 0 0)) (h.parties ∙ e.parties);
  pools = λ p. ap (λ y. at y p 0 0) h.pools ∙ placed-pool-none q d x old mid e p ∙ ap (λ y. pool_if (q == p) (recounted (at old.connections p d 0) (at y p d 0) (at old.pools p 0 0)) (at old.pools p 0 0)) (sym h.connections);
  lists = λ covers. covers-same now (record now { parties = t }) refl refl (h.lists (covers-same old mid e.gifts e.places covers));
}
  where
    is : x ≡ once_granted (lent_now (at old.gifts r q d) (at old.parties r 0 0)) (is_lent true (at old.gifts r q d).is_taken (at old.parties r 0 0).is_returned (at old.parties r 0 0).is_ended) (at old.connections q d 0)
    is = f ∙ ap (λ y. once_granted (lent_now (at old.gifts r q d) (at old.parties r 0 0)) (lent_now y (at old.parties r 0 0)) (at old.connections q d 0)) k

pub ruleset given_follows = (taken-follows, granted-follows)
