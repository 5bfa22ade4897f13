-- What a pool knows with an act that it accepts.
use Rattle.std.proofs.Common.{ℕ, ◌≡◌, Bool, true, false, ◌||◌, ◌==◌, List, [], ◌∷◌, None, is_some, refl, ◌∙◌, not, nat_lt}
use Rattle.std.proofs.Math.Bool.{or_assoc}
use Rattle.std.proofs.lemmas.Bool.{not-false}
use Rattle.mdb_base.specs.declared.address.ServerAddress.{ServerAddress}
use Rattle.mdb_log.specs.declared.step.Act.{Act}
use Rattle.mdb_log.specs.declared.step.Act.TheVariants.{Open, Request, Warm, Collect, Claim, GiveUp, Established, Failed, Return, Pin, Replicate, Take, Unpin, Error, Hello, Beat, Beaten, Rtt, Hosts, ClusterTime, Want, Unwant, Stop, Maintain, Expire, Ready, Clear, Close}
use Rattle.mdb_log.specs.declared.step.FailedAt.TheVariants.{Pre, Post}
use Rattle.mdb_log.specs.declared.reply.Refused.TheVariants.{RequestKnown, Unpinned, PinInUse, UnknownServer}
use Rattle.mdb_log.specs.History.{Item, PoolItem, after_act, gave_up, given, failed, established, returned, pinned_by, replicated, taken, unpinned, has_asked, has_taken, has_party, if_so, is_number, of_pool, open_pool}
use Rattle.mdb_log.specs.Requests.{names_party, was_asked}
use Rattle.mdb_log.proofs.Numbers.{same-number}
use Rattle.mdb_pool.specs.Now.{queries}
use Rattle.mdb_pool.specs.Core.{PoolCore}
use Rattle.mdb_pool.specs.Kept.Values.{request_at, connection_at, is_held_at, pins_at}
use Rattle.mdb_pool_rules.specs.Refusal.{first_row}
use Rattle.mdb_pool.specs.Refusing.{rows_now, is_here, is_pinned_here}
use Rattle.mdb_pool.specs.Planning.{with_item}
use Rattle.mdb_pool.specs.Standing.{StandsFor}
use Rattle.mdb_pool.proofs.Answered.Refusal.{here-is}
use Rattle.mdb_log.proofs.Bools.{both-true}
use Rattle.mdb_pool_rules.proofs.FirstRow.{three-pass, two-pass}

or-swap : (a b d : Bool) → a || (b || d) ≡ b || (a || d)
or-swap true true d = refl
or-swap true false d = refl
or-swap false b d = refl

-- one item more or not, which says nothing of parties
if-party : (b : Bool) (i : PoolItem) (xs : List PoolItem) (k : ℕ) → has_party (i ∷ xs) k ≡ has_party xs k → has_party (if_so b i xs) k ≡ has_party xs k
if-party true i xs k e = e
if-party false i xs k e = refl

if-asked : (b : Bool) (i : PoolItem) (xs : List PoolItem) (k : ℕ) → has_asked (i ∷ xs) k ≡ has_asked xs k → has_asked (if_so b i xs) k ≡ has_asked xs k
if-asked true i xs k e = e
if-asked false i xs k e = refl

module _ (s : PoolCore) (m : ℕ) (xs : List PoolItem) where
  -- the parties that the pool knows then
  pub names-item : (act : Act) → first_row (rows_now s act) ≡ None → (k : ℕ) → has_party (with_item s.pool m act xs) k ≡ names_party act k || has_party xs k
  unfolding queries
  names-item (Request r a) e k = rw (same-number s.pool) (or_assoc (r == k) (has_asked xs k) (has_taken xs k))
  names-item (Warm r a) e k = rw (same-number s.pool) (or_assoc (r == k) (has_asked xs k) (has_taken xs k))
  names-item (GiveUp r) e k = if-party (has_asked xs r) (gave_up r) xs k refl
  names-item (Established q c how) e k = if-party (q == s.pool) (established c how m) xs k refl
  names-item (Failed q c Pre error) e k = if-party (q == s.pool) (failed c None) xs k refl
  names-item (Failed q c (Post service) error) e k = if-party (q == s.pool) (failed c service) xs k refl
  names-item (Return r used) e k = if-party (is_some (given xs r)) (returned r used) xs k refl
  names-item (Pin r) e k = if-party (is_some (given xs r)) (pinned_by r) xs k refl
  names-item (Replicate q c) e k = if-party (q == s.pool) (replicated c) xs k refl
  names-item (Unpin q c) e k = if-party (q == s.pool) (unpinned c) xs k refl
  names-item (Take r q c) e k =
      let pinned : is_pinned_here s q c ≡ true = not-false (is_pinned_here s q c) (three-pass (is_some (request_at s r)) (not (is_pinned_here s q c)) (is_held_at (connection_at s c)) RequestKnown Unpinned PinInUse e).1 in
      rw ((both-true (q == s.pool) (nat_lt 0 (pins_at (connection_at s c))) pinned).0) (or-swap (has_asked xs k) (r == k) (has_taken xs k))
  names-item (Open o) e k = refl
  names-item (Collect r) e k = refl
  names-item Claim e k = refl
  names-item (Error r error) e k = refl
  names-item (Hello a q came) e k = refl
  names-item (Beat a q) e k = refl
  names-item (Beaten a q n came) e k = refl
  names-item (Rtt a q n) e k = refl
  names-item (Hosts hosts) e k = refl
  names-item (ClusterTime time) e k = refl
  names-item (Want w) e k = refl
  names-item (Unwant w) e k = refl
  names-item Stop e k = refl
  names-item (Maintain a) e k = refl
  names-item (Expire a) e k = refl
  names-item (Ready q) e k = refl
  names-item (Clear q service error) e k = refl
  names-item (Close q) e k = refl

  -- and those that asked it
  pub asks-item : (act : Act) (k : ℕ) → has_asked (with_item s.pool m act xs) k ≡ was_asked act k || has_asked xs k
  asks-item (Request r a) k = rw (same-number s.pool) refl
  asks-item (Warm r a) k = rw (same-number s.pool) refl
  asks-item (GiveUp r) k = if-asked (has_asked xs r) (gave_up r) xs k refl
  asks-item (Established q c how) k = if-asked (q == s.pool) (established c how m) xs k refl
  asks-item (Failed q c Pre error) k = if-asked (q == s.pool) (failed c None) xs k refl
  asks-item (Failed q c (Post service) error) k = if-asked (q == s.pool) (failed c service) xs k refl
  asks-item (Return r used) k = if-asked (is_some (given xs r)) (returned r used) xs k refl
  asks-item (Pin r) k = if-asked (is_some (given xs r)) (pinned_by r) xs k refl
  asks-item (Replicate q c) k = if-asked (q == s.pool) (replicated c) xs k refl
  asks-item (Take r q c) k = if-asked (q == s.pool) (taken r c) xs k refl
  asks-item (Unpin q c) k = if-asked (q == s.pool) (unpinned c) xs k refl
  asks-item (Open o) k = refl
  asks-item (Collect r) k = refl
  asks-item Claim k = refl
  asks-item (Error r error) k = refl
  asks-item (Hello a q came) k = refl
  asks-item (Beat a q) k = refl
  asks-item (Beaten a q n came) k = refl
  asks-item (Rtt a q n) k = refl
  asks-item (Hosts hosts) k = refl
  asks-item (ClusterTime time) k = refl
  asks-item (Want w) k = refl
  asks-item (Unwant w) k = refl
  asks-item Stop k = refl
  asks-item (Maintain a) k = refl
  asks-item (Expire a) k = refl
  asks-item (Ready q) k = refl
  asks-item (Clear q service error) k = refl
  asks-item (Close q) k = refl

-- on a history of the pool's own it is what the history has with the act
module _ (s : PoolCore) (h : List Item) (z : StandsFor s h) (m : ℕ) where
  open-number : (r : ℕ) (a : ServerAddress) → first_row ((not (is_here s a), UnknownServer) ∷ (is_some (request_at s r), RequestKnown) ∷ []) ≡ None → is_number (open_pool h a) s.pool ≡ true
  open-number r a e = here-is s h z a ∙ not-false (is_here s a) (two-pass (not (is_here s a)) (is_some (request_at s r)) UnknownServer RequestKnown e).0

  pub item-is : (act : Act) → first_row (rows_now s act) ≡ None → after_act s.pool (open_pool h) m act (of_pool s.pool h) ≡ with_item s.pool m act (of_pool s.pool h)
  unfolding queries
  item-is (Request r a) e = rw (open-number r a e, same-number s.pool) refl
  item-is (Warm r a) e = rw (open-number r a e, same-number s.pool) refl
  item-is (GiveUp r) e = refl
  item-is (Established q c how) e = refl
  item-is (Failed q c Pre error) e = refl
  item-is (Failed q c (Post service) error) e = refl
  item-is (Return r used) e = refl
  item-is (Pin r) e = refl
  item-is (Replicate q c) e = refl
  item-is (Take r q c) e = refl
  item-is (Unpin q c) e = refl
  item-is (Open o) e = refl
  item-is (Collect r) e = refl
  item-is Claim e = refl
  item-is (Error r error) e = refl
  item-is (Hello a q came) e = refl
  item-is (Beat a q) e = refl
  item-is (Beaten a q n came) e = refl
  item-is (Rtt a q n) e = refl
  item-is (Hosts hosts) e = refl
  item-is (ClusterTime time) e = refl
  item-is (Want w) e = refl
  item-is (Unwant w) e = refl
  item-is Stop e = refl
  item-is (Maintain a) e = refl
  item-is (Expire a) e = refl
  item-is (Ready q) e = refl
  item-is (Clear q service error) e = refl
  item-is (Close q) e = refl
