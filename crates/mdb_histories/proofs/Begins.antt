-- An accepted step may come after a sound history.
use Rattle.std.proofs.Common.{ℕ, ◌≡◌, ◌<◌, ◌==◌, ◌&&◌, Bool, true, false, not, List, ◌∷◌, Option, Some, None, is_some, nat_lt, refl, sym, ap, subst, arith}
use Rattle.std.proofs.lemmas.Bool.Decides.{nat_tests}
use Rattle.std.proofs.lemmas.Bool.{not-true, not-false}
use Rattle.mdb_base.specs.declared.options.Options.{Options}
use Rattle.mdb_log.specs.declared.step.Act.{Act}
use Rattle.mdb_log.specs.declared.step.Act.TheVariants as Do
use Rattle.mdb_log.specs.declared.step.FailedAt.TheVariants.{Pre, Post}
use Rattle.mdb_log.specs.declared.reply.Refused.TheVariants.{UnknownServer, RequestKnown, UnknownRequest, NotPending, Unpinned, PinInUse, WrongMode}
use Rattle.mdb_log.specs.History.{Item, PoolItem, asked, warmed, gave_up, returned, pinned_by, established, failed, replicated, taken, unpinned, if_so, is_number, of_pool, open_pool, after_act, given, has_asked}
use Rattle.mdb_log.specs.Connections.{has, pending_list, holding, held, pins}
use Rattle.mdb_log.specs.Requests.{some_act, names_party, was_asked, leaves, told, is_open}
use Rattle.mdb_pool_rules.specs.Refusal.{first_row, wrong_service}
use Rattle.mdb_pool_rules.proofs.FirstRow.{one-passes, two-pass, three-pass}
use Rattle.mdb_log.proofs.Bools.{both-true}
use Rattle.mdb_sound.specs.Sound.{Sound, Holds, MayTake}
use Rattle.mdb_sound.proofs.Acts.{Done, requests as asks, warms, gives_up, establishes, fails, returns, pins_one, replicates, takes, unpins, maintains, expires, readies, clears, shuts, tells}
use Rattle.mdb_sound.proofs.Calm.{one-lives}
use Rattle.mdb_sound.proofs.Connections.{connection-laws}
use Rattle.mdb_sound.proofs.Leaving.{stays-act}
use Rattle.mdb_pool_rules.specs.Rested.{Rested}
use Rattle.mdb_sound.proofs.Steady.{held-given}
use Rattle.mdb_driver_rules.specs.Homes.{concerns}
use Rattle.mdb_driver_rules.specs.Refusal.{rows_of}
use Rattle.mdb_histories.specs.SoundHistory.{SoundHistory}
use Rattle.mdb_histories.proofs.Parties.{each-sound, new-party}
use Rattle.mdb_histories.proofs.Unshut.{open-unshut}

pub number-is : (x : Option ℕ) (p : ℕ) → is_number x p ≡ true → x ≡ Some p
number-is None p e = cc
number-is (Some n) p e = let w : n ≡ p = grind arith in ap Some w

above : (n : ℕ) → nat_lt 0 n ≡ true → 0 < n
above n e = grind (arith, nat_tests)

none-above : (n : ℕ) → nat_lt 0 n ≡ false → n ≡ 0
none-above n e = grind (arith, nat_tests)

some-is : (x : Option ℕ) → is_some x ≡ true → (c : ℕ) × (x ≡ Some c)
some-is None e = cc
some-is (Some c) e = (c, refl)

equal-is : (q p : ℕ) → (q == p) ≡ true → q ≡ p
equal-is q p e = grind arith

-- an act that may come leaves the items sound
pub done-sound : (m : ℕ) (xs : List PoolItem) (act : Act) (ys : List PoolItem) → Done m xs act ys → Sound xs → Sound ys
done-sound m xs act ys (asks r b w) s = (w, s)
done-sound m xs act ys (warms r b w) s = (w, s)
done-sound m xs act ys (gives_up r w) s = (w, s)
done-sound m xs act ys (establishes q c how w) s = (w, s)
done-sound m xs act ys (fails q c at error service w) s = (w, s)
done-sound m xs act ys (returns r used w) s = (w, s)
done-sound m xs act ys (pins_one r w) s = (w, s)
done-sound m xs act ys (replicates q c w) s = (w, s)
done-sound m xs act ys (takes r q c w) s = (w, s)
done-sound m xs act ys (unpins q c w) s = (w, s)
done-sound m xs act ys (maintains b) s = s
done-sound m xs act ys (expires b) s = s
done-sound m xs act ys (readies q) s = s
done-sound m xs act ys (clears q service error) s = s
done-sound m xs act ys (shuts q) s = s
done-sound m xs act ys (tells k quiet) s = s

module _ (o : Options) (h : List Item) (s : SoundHistory h) (rest : (p : ℕ) → Rested (of_pool p h)) (m : ℕ) where
  -- one item more where the test holds
  more : (act : Act) (p : ℕ) (b : Bool) (x : PoolItem) → b ≡ true → Done m (of_pool p h) act (x ∷ of_pool p h) → Done m (of_pool p h) act (if_so b x (of_pool p h))
  more act p b x e d = subst (λ k. Done m (of_pool p h) act (if_so k x (of_pool p h))) (sym e) d

  pub holds-at : (r p : ℕ) → is_some (holding (of_pool p h) r) ≡ true → Holds (of_pool p h) r
  holds-at r p e =
      let w : (c : ℕ) × (holding (of_pool p h) r ≡ Some c) = some-is (holding (of_pool p h) r) e in
      record { connection = w.0; holds = w.1; lives = one-lives (of_pool p h) w.0 ((rest p).lives r w.0 (held-given (of_pool p h) r w.0 w.1)) }

  pub given-at : (r p : ℕ) → is_some (holding (of_pool p h) r) ≡ true → is_some (given (of_pool p h) r) ≡ true
  given-at r p e =
      let w : (c : ℕ) × (holding (of_pool p h) r ≡ Some c) = some-is (holding (of_pool p h) r) e in
      ap is_some (held-given (of_pool p h) r w.0 w.1)

  pending-at : (q p c : ℕ) → q ≡ p → not (has c (pending_list (of_pool q h))) ≡ false → has c (pending_list (of_pool p h)) ≡ true
  pending-at q p c same e = subst (λ n. has c (pending_list (of_pool n h)) ≡ true) same (not-false (has c (pending_list (of_pool q h))) e)

  pins-at : (q p c : ℕ) → q ≡ p → not (nat_lt 0 (pins (of_pool q h) c)) ≡ false → 0 < pins (of_pool p h) c
  pins-at q p c same e = above (pins (of_pool p h) c) (subst (λ n. nat_lt 0 (pins (of_pool n h) c) ≡ true) same (not-false (nat_lt 0 (pins (of_pool q h) c)) e))

  takes-at : (r p c : ℕ) → some_act names_party h r ≡ false → 0 < pins (of_pool p h) c → held (of_pool p h) c ≡ 0 → MayTake (of_pool p h) r c
  takes-at r p c f l n =
      let pinned = (rest p).at_pin c l n in
      record { fresh = new-party p r h f; lives = one-lives (of_pool p h) c ((connection-laws (of_pool p h) (each-sound h s p) c).pinned_lives l); pinned = pinned; free = (rest p).pinned_free c pinned }

  -- in the pool that it concerns an act that no row refuses may come
  pub home-done : (act : Act) (p : ℕ) → concerns h act p ≡ true → first_row (rows_of o h act) ≡ None → Done m (of_pool p h) act (after_act p (open_pool h) m act (of_pool p h))
  home-done (Do.Request r a) p k e =
      let w : (not (is_some (open_pool h a)) ≡ false) × (some_act names_party h r ≡ false) = two-pass (not (is_some (open_pool h a))) (some_act names_party h r) UnknownServer RequestKnown e in
      more (Do.Request r a) p (is_number (open_pool h a) p) (asked r m) k (asks r a (record { fresh = new-party p r h w.1; unshut = open-unshut h s p a (number-is (open_pool h a) p k) }))
  home-done (Do.Warm r a) p k e =
      let w : (not (is_some (open_pool h a)) ≡ false) × (some_act names_party h r ≡ false) = two-pass (not (is_some (open_pool h a))) (some_act names_party h r) UnknownServer RequestKnown e in
      more (Do.Warm r a) p (is_number (open_pool h a) p) (warmed r m) k (warms r a (record { fresh = new-party p r h w.1; unshut = open-unshut h s p a (number-is (open_pool h a) p k) }))
  home-done (Do.GiveUp r) p k e =
      let open-one : is_open h r ≡ true = not-false (is_open h r) (one-passes (not (is_open h r)) UnknownRequest e) in
      let w : (told h r == 0) && not (some_act leaves h r) ≡ true = (both-true (some_act was_asked h r) ((told h r == 0) && not (some_act leaves h r)) open-one).1 in
      let stays : some_act leaves h r ≡ false = not-true (some_act leaves h r) (both-true (told h r == 0) (not (some_act leaves h r)) w).1 in
      more (Do.GiveUp r) p (has_asked (of_pool p h) r) (gave_up r) k (gives_up r (record { asked_for = k; stays = stays-act p h r stays }))
  home-done (Do.Established q c how) p k e =
      let w : (not (has c (pending_list (of_pool q h))) ≡ false) × (wrong_service o.load_balanced how.service_id ≡ false) = two-pass (not (has c (pending_list (of_pool q h)))) (wrong_service o.load_balanced how.service_id) NotPending WrongMode e in
      more (Do.Established q c how) p (q == p) (established c how m) k (establishes q c how (pending-at q p c (equal-is q p k) w.0))
  home-done (Do.Failed q c Pre error) p k e =
      let w : not (has c (pending_list (of_pool q h))) ≡ false = one-passes (not (has c (pending_list (of_pool q h)))) NotPending e in
      more (Do.Failed q c Pre error) p (q == p) (failed c None) k (fails q c Pre error None (pending-at q p c (equal-is q p k) w))
  home-done (Do.Failed q c (Post service) error) p k e =
      let w : (not (has c (pending_list (of_pool q h))) ≡ false) × (not o.load_balanced && is_some service ≡ false) = two-pass (not (has c (pending_list (of_pool q h)))) (not o.load_balanced && is_some service) NotPending WrongMode e in
      more (Do.Failed q c (Post service) error) p (q == p) (failed c service) k (fails q c (Post service) error service (pending-at q p c (equal-is q p k) w.0))
  home-done (Do.Return r used) p k e = more (Do.Return r used) p (is_some (given (of_pool p h) r)) (returned r used) (given-at r p k) (returns r used (holds-at r p k))
  home-done (Do.Pin r) p k e = more (Do.Pin r) p (is_some (given (of_pool p h) r)) (pinned_by r) (given-at r p k) (pins_one r (holds-at r p k))
  home-done (Do.Replicate q c) p k e =
      let w : not (nat_lt 0 (pins (of_pool q h) c)) ≡ false = one-passes (not (nat_lt 0 (pins (of_pool q h) c))) Unpinned e in
      more (Do.Replicate q c) p (q == p) (replicated c) k (replicates q c (pins-at q p c (equal-is q p k) w))
  home-done (Do.Take r q c) p k e =
      let w : (some_act names_party h r ≡ false) × (not (nat_lt 0 (pins (of_pool q h) c)) ≡ false) × (nat_lt 0 (held (of_pool q h) c) ≡ false) = three-pass (some_act names_party h r) (not (nat_lt 0 (pins (of_pool q h) c))) (nat_lt 0 (held (of_pool q h) c)) RequestKnown Unpinned PinInUse e in
      let free : held (of_pool p h) c ≡ 0 = none-above (held (of_pool p h) c) (subst (λ n. nat_lt 0 (held (of_pool n h) c) ≡ false) (equal-is q p k) w.2) in
      more (Do.Take r q c) p (q == p) (taken r c) k (takes r q c (takes-at r p c w.0 (pins-at q p c (equal-is q p k) w.1) free))
  home-done (Do.Unpin q c) p k e =
      let w : not (nat_lt 0 (pins (of_pool q h) c)) ≡ false = one-passes (not (nat_lt 0 (pins (of_pool q h) c))) Unpinned e in
      more (Do.Unpin q c) p (q == p) (unpinned c) k (unpins q c (pins-at q p c (equal-is q p k) w))
  home-done (Do.Maintain a) p k e = maintains a
  home-done (Do.Expire a) p k e = expires a
  home-done (Do.Collect r) p k e = tells (Do.Collect r) (λ p a o. refl)
  home-done Do.Claim p k e = tells Do.Claim (λ p a o. refl)
  home-done (Do.Error r error) p k e = tells (Do.Error r error) (λ p a o. refl)
  home-done _ p k e = cc
