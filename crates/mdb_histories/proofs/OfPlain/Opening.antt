-- The history of an opening opens the seeds by the plain sentences too.
use Rattle.std.proofs.Common.{ℕ, suc, ◌≡◌, ◌+◌, ◌<◌, ◌≤◌, ◌==◌, Bool, true, false, not, ◌&&◌, ◌||◌, List, [], ◌∷◌, length, map, refl, sym, ◌∙◌, ap, arith, IsPermutation}
use Rattle.std.proofs.lemmas.Bool.{and_from}
use Rattle.std.proofs.lemmas.List.Sorted.{list_any-IsPermutation}
use Rattle.std.specs.List.{list_all}
use Rattle.mdb_base.specs.declared.address.ServerAddress.{ServerAddress}
use Rattle.mdb_base.specs.declared.options.Options.{Options}
use Rattle.mdb_base.specs.Equality.{same_address}
use Rattle.mdb_base.specs.AddressOrder.{is_before, in_order}
use Rattle.mdb_log.specs.History.{Item, of_pool}
use Rattle.mdb_log.specs.Connections.{has}
use Rattle.mdb_log.specs.State.{state_of, is_ready}
use Rattle.mdb_log.specs.Homes.{Home, homes}
use Rattle.mdb_log.specs.Opening.{pool_options}
use Rattle.mdb_log.specs.LegalLog.{numbered, OpensSeeds}
use Rattle.mdb_log.specs.PlainState.{pools, is_ready_pool}
use Rattle.mdb_log.specs.PlainLegal.{counts_from, is_ascending, has_address, opens_seeds}
use Rattle.mdb_describe.proofs.Addresses.{own-address}
use Rattle.mdb_log.proofs.Numbers.{same-number}
use Rattle.mdb_histories.proofs.OfPlain.States.{ready-alike}

numbered-counts : (n : ℕ) (list : List ServerAddress) → counts_from n (numbered n list) ≡ true
numbered-counts n [] = refl
numbered-counts n (a ∷ more) = and_from (n == n) (counts_from (n + 1) (numbered (n + 1) more)) (same-number n) (numbered-counts (n + 1) more)

numbered-addresses : (n : ℕ) (list : List ServerAddress) → map (λ x. x.address) (numbered n list) ≡ list
numbered-addresses n [] = refl
numbered-addresses n (a ∷ more) = ap (λ (more : List ServerAddress). a ∷ more) (numbered-addresses (n + 1) more)

length-numbered : (n : ℕ) (list : List ServerAddress) → length (numbered n list) ≡ length list
length-numbered n [] = refl
length-numbered n (a ∷ more) = ap (λ k. suc k) (length-numbered (n + 1) more)

ascends : (list : List ServerAddress) → is_ascending list ≡ in_order list
ascends [] = refl
ascends (a ∷ []) = refl
ascends (a ∷ b ∷ more) = ap (λ c. is_before a b && c) (ascends (b ∷ more))

-- one list has each address of the other
covers : (xs ys : List ServerAddress) → ((a : ServerAddress) → has_address ys a ≡ true → has_address xs a ≡ true) → list_all (has_address xs) ys ≡ true
covers xs [] all = refl
covers xs (y ∷ ys) all =
    and_from (has_address xs y) (list_all (has_address xs) ys) (all y (rw (own-address y) refl)) (covers xs ys (λ a e. all a (later a e)))
  where
    later : (a : ServerAddress) → has_address ys a ≡ true → same_address a y || has_address ys a ≡ true
    later a e = rw e (on (same_address a y))
      where
        on : (b : Bool) → b || true ≡ true
        on true = refl
        on false = refl

same-addresses : (xs ys : List ServerAddress) → IsPermutation xs ys → (list_all (has_address ys) xs ≡ true) × (list_all (has_address xs) ys ≡ true)
same-addresses xs ys same =
    (covers ys xs (λ a e. sym (list_any-IsPermutation (same_address a) xs ys same) ∙ e), covers xs ys (λ a e. list_any-IsPermutation (same_address a) xs ys same ∙ e))

numbered-has : (n k : ℕ) (list : List ServerAddress) → n ≤ k → k < n + length list → has k (map (λ x. x.number) (numbered n list)) ≡ true
numbered-has n k [] l m = absurd (omega arith)
numbered-has n k (a ∷ more) l m = on (n == k) refl (numbered-has (n + 1) k more)
  where
    on : (b : Bool) → (n == k) ≡ b → (n + 1 ≤ k → k < (n + 1) + length more → has k (map (λ x. x.number) (numbered (n + 1) more)) ≡ true) → b || has k (map (λ x. x.number) (numbered (n + 1) more)) ≡ true
    on true e deeper = refl
    on false e deeper = deeper (apart (n == k) refl) (omega arith)
      where
        apart : (b : Bool) → (n == k) ≡ b → n + 1 ≤ k
        apart true f = cc
        apart false f = grind arith

numbered-all : (f : Home → Bool) (n : ℕ) (list : List ServerAddress) → ((x : Home) → n ≤ x.number → x.number < n + length list → f x ≡ true) → list_all f (numbered n list) ≡ true
numbered-all f n [] all = refl
numbered-all f n (a ∷ more) all = and_from (f (record { number = n; address = a })) (list_all f (numbered (n + 1) more)) (all (record { number = n; address = a }) (omega arith) (omega arith)) (numbered-all f (n + 1) more (λ x l m. all x (omega arith) (omega arith)))

pub seeds-opened : (o : Options) (h : List Item) → OpensSeeds o h → opens_seeds o h ≡ true
seeds-opened o h w =
    and_from _ _ counts (and_from _ _ rises (and_from _ _ (at-seeds).0 (and_from _ _ (at-seeds).1 (on o.load_balanced refl))))
  where
    e : homes h ≡ numbered 0 w.list
    e = w.opened

    addresses : map (λ x. x.address) (homes h) ≡ w.list
    addresses = ap (λ xs. map (λ (x : Home). x.address) xs) e ∙ numbered-addresses 0 w.list

    counts : counts_from 0 (homes h) ≡ true
    counts = ap (counts_from 0) e ∙ numbered-counts 0 w.list

    rises : is_ascending (map (λ x. x.address) (homes h)) ≡ true
    rises = ap is_ascending addresses ∙ (ascends w.list ∙ w.ordered)

    at-seeds : (list_all (has_address (map (λ x. x.address) (homes h))) o.seeds ≡ true) × (list_all (has_address o.seeds) (map (λ x. x.address) (homes h)) ≡ true)
    at-seeds = let both : (list_all (has_address w.list) o.seeds ≡ true) × (list_all (has_address o.seeds) w.list ≡ true) = same-addresses o.seeds w.list w.same in (ap (λ list. list_all (has_address list) o.seeds) addresses ∙ both.0, ap (list_all (has_address o.seeds)) addresses ∙ both.1)

    size : length (homes h) ≡ length w.list
    size = ap length e ∙ length-numbered 0 w.list

    one : o.load_balanced ≡ true → (x : Home) → 0 ≤ x.number → x.number < 0 + length w.list → is_ready_pool (pool_options o) x.number h ≡ true
    one b x l m =
        let r : state_of (pool_options o) (of_pool x.number h) ≡ is_ready = w.ready b x.number (rw size (omega arith)) in
        let i : has x.number (pools h) ≡ true = ap (λ xs. has x.number (map (λ (x : Home). x.number) xs)) e ∙ numbered-has 0 x.number w.list (omega arith) (omega arith) in
        ready-alike (pool_options o) x.number h ∙ rw (i, r) refl

    on : (b : Bool) → o.load_balanced ≡ b → not b || list_all (λ x. is_ready_pool (pool_options o) x.number h) (homes h) ≡ true
    on true b = ap (list_all (λ x. is_ready_pool (pool_options o) x.number h)) e ∙ numbered-all (λ x. is_ready_pool (pool_options o) x.number h) 0 w.list (one b)
    on false b = refl
