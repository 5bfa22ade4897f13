-- A connection that is established keeps the items sound.
use Rattle.std.proofs.Common.{ℕ, ◌≡◌, ◌≤◌, ◌==◌, Bool, true, false, not, ◌&&◌, List, [], ◌∷◌, ◌++◌, length, Option, Some, None, is_some, refl, sym, ◌∙◌, ap, subst, arith, if◌then◌else◌}
use Rattle.std.specs.List.{list_any}
use Rattle.mdb_base.specs.declared.address.ServerAddress.{ServerAddress}
use Rattle.mdb_events.specs.declared.fact.Fact.TheVariants.{Ended}
use Rattle.mdb_events.specs.declared.end.End.TheVariants.{Filled}
use Rattle.mdb_log.specs.declared.options.PoolOptions.{PoolOptions}
use Rattle.mdb_log.specs.declared.step.Established.{Established}
use Rattle.mdb_log.specs.History.{PoolItem, established, closed, checked_in, after_facts, has_asked, given, without, is_number}
use Rattle.mdb_log.specs.Connections.{has, pending_list, available_list, parties, pins, granted_to}
use Rattle.mdb_log.specs.Requests.{is_warm, end_of}
use Rattle.mdb_pool_rules.specs.Facts.{check_in, hand_over}
use Rattle.mdb_log.proofs.Later.{after-append}
use Rattle.mdb_log.proofs.Numbers.{same-number}
use Rattle.mdb_sound.specs.Sound.{Sound}
use Rattle.mdb_sound.proofs.Steady.{available-then}
use Rattle.mdb_sound.proofs.Connections.{connection-laws}
use Rattle.mdb_sound.proofs.Parties.{one-connection, one-party}
use Rattle.mdb_pool_rules.specs.Rested.{Rested}
use Rattle.mdb_sound.proofs.Calm.{Calm, none-is, one-lives, calm-close, calm-end}
use Rattle.mdb_sound.proofs.Served.{Fine}
use Rattle.mdb_sound.proofs.Backs.{IsBack, Back, shut, kept, gone, back-of, back-fine, out, calm-gone, calm-left, shut-sound, kept-sound, gone-sound}

pub calm-rested : (xs : List PoolItem) → Rested xs → Calm xs
calm-rested xs z = record { free = z.free; loose = z.loose }

-- who has the connection is its only party
pub lone : (r : ℕ) (ps : List ℕ) → has r ps ≡ true → length ps ≤ 1 → ps ≡ r ∷ []
lone r [] e l = cc
lone r (q ∷ []) e l = let f : q ≡ r = grind arith in ap (λ k. k ∷ []) f
lone r (q ∷ k ∷ ps) e l = absurd (omega arith)

pub only-party : (xs : List PoolItem) → Sound xs → (r c : ℕ) → given xs r ≡ Some c → parties xs c ≡ r ∷ []
only-party xs s r c e = lone r (parties xs c) (one-connection xs s r c ∙ (ap (λ o. is_number o c) e ∙ same-number c)) (one-party xs s c)

pub without-only : (r : ℕ) (ps : List ℕ) → ps ≡ r ∷ [] → without r ps ≡ []
without-only r ps e = rw (e, same-number r) refl

module _ (p : ℕ) (a : ServerAddress) (o : PoolOptions) (m : ℕ) (xs : List PoolItem) (s : Sound xs) (z : Rested xs) (c : ℕ) (how : Established) (w : has c (pending_list xs) ≡ true) where
  abbrev ys : List PoolItem
  ys = established c how m ∷ xs

  calm : (is_some (granted_to xs c) ≡ false → parties xs c ≡ []) → Calm ys
  calm none = record { free = λ d e. free d (is_some (granted_to xs c)) (c == d) refl refl (sym (available-then (is_some (granted_to xs c)) d c (available_list xs)) ∙ e); loose = λ d e. loose d (is_some (granted_to xs c)) (c == d) refl refl (sym (available-then (is_some (granted_to xs c)) d c (available_list xs)) ∙ e) }
    where
      free : (d : ℕ) (g b : Bool) → is_some (granted_to xs c) ≡ g → (c == d) ≡ b → (if not (is_some (granted_to xs c)) && (c == d) then true else has d (available_list xs)) ≡ true → parties xs d ≡ []
      free d true b f h e = z.free d (subst (λ k. (if not k && (c == d) then true else has d (available_list xs)) ≡ true) f e)
      free d false true f h e = let i : c ≡ d = grind arith in subst (λ k. parties xs k ≡ []) i (none f)
      free d false false f h e = z.free d (let j : (if not false && false then true else has d (available_list xs)) ≡ true = subst (λ k. (if not false && k then true else has d (available_list xs)) ≡ true) h (subst (λ k. (if not k && (c == d) then true else has d (available_list xs)) ≡ true) f e) in j)

      loose : (d : ℕ) (g b : Bool) → is_some (granted_to xs c) ≡ g → (c == d) ≡ b → (if not (is_some (granted_to xs c)) && (c == d) then true else has d (available_list xs)) ≡ true → pins xs d ≡ 0
      loose d true b f h e = z.loose d (subst (λ k. (if not k && (c == d) then true else has d (available_list xs)) ≡ true) f e)
      loose d false true f h e = let i : c ≡ d = grind arith in subst (λ k. pins xs k ≡ 0) i (z.pending_loose c w)
      loose d false false f h e = z.loose d (let j : (if not false && false then true else has d (available_list xs)) ≡ true = subst (λ k. (if not false && k then true else has d (available_list xs)) ≡ true) h (subst (λ k. (if not k && (c == d) then true else has d (available_list xs)) ≡ true) f e) in j)

  calm-granted : (r : ℕ) → granted_to xs c ≡ Some r → Calm ys
  calm-granted r g = calm (λ e. absurd (let h : is_some (granted_to xs c) ≡ true = ap is_some g in let k : true ≡ false = sym h ∙ e in cc))

  is-back : (r : ℕ) → granted_to xs c ≡ Some r → list_any (λ k. not (is_warm xs k)) (parties xs c) ≡ false → IsBack ys c
  is-back r g idle = record { lives = one-lives xs c ((connection-laws xs s c).pending_lives w); idle = idle; loose = z.pending_loose c w; settled = out c (pending_list xs); away = rw g (z.apart c w) }

  -- its request is a warm one, and ends
  filled : (r : ℕ) → granted_to xs c ≡ Some r → end_of xs r ≡ None → is_warm xs r ≡ true → Fine (after_facts p m (check_in p a o ys c ++ Ended r Filled ∷ []) ys)
  filled r g e hot = subst Fine (sym (after-append p m (check_in p a o ys c) (Ended r Filled ∷ []) ys)) (on (back-of p a o m ys ys c (w, s)))
    where
      has-it : given xs r ≡ Some c
      has-it = z.waits c r w g e

      party : parties xs c ≡ r ∷ []
      party = only-party xs s r c has-it

      known : has_asked xs r ≡ true
      known = z.known c r w g

      back : IsBack ys c
      back = is-back r g (rw (party, hot) refl)

      on : Back p a o m ys ys c → Fine (after_facts p m (Ended r Filled ∷ []) (after_facts p m (check_in p a o ys c) ys))
      on (shut f) = rw (f, known) ((record { asked_for = known; unended = e; so = rw (has-it, out c (without c (pending_list xs)), hot) refl }, shut-sound p a o m ys c (w, s) back), calm-end (closed c ∷ ys) r Filled (calm-close ys c (calm-granted r g)))
      on (kept u f) = rw (f, known) ((record { asked_for = known; unended = e; so = rw (has-it, out c (pending_list xs), hot) refl }, kept-sound p a o m ys c (w, s) back u), calm-left ys c m r Filled (calm-granted r g) (without-only r (parties xs c) party) (z.pending_loose c w))
      on (gone u f) = rw (f, known) ((record { asked_for = known; unended = e; so = rw (has-it, out c (without c (pending_list xs)), hot) refl }, gone-sound p a o m ys c (w, s) back u), calm-end (closed c ∷ checked_in c m ∷ ys) r Filled (calm-gone ys c m (calm-granted r g)))

  pub established-fine : Fine (after_facts p m (hand_over p a o m ys c (granted_to xs c)) ys)
  established-fine = on (granted_to xs c) refl
    where
      at_warm : (r : ℕ) (b : Bool) → granted_to xs c ≡ Some r → is_some (end_of xs r) ≡ false → is_warm xs r ≡ b → Fine (after_facts p m (hand_over p a o m ys c (Some r)) ys)
      at_warm r true g e f = rw (e, f) (filled r g (none-is (end_of xs r) e) f)
      at_warm r false g e f = rw (e, f) ((w, s), calm-granted r g)

      at_end : (r : ℕ) (b : Bool) → granted_to xs c ≡ Some r → is_some (end_of xs r) ≡ b → Fine (after_facts p m (hand_over p a o m ys c (Some r)) ys)
      at_end r true g e = let none : parties xs c ≡ [] = z.left c r w g e in rw e (back-fine p a o m ys ys c (w, s) refl (w, s) (calm-granted r g) (is-back r g (rw none refl)) none)
      at_end r false g e = at_warm r (is_warm xs r) g e refl

      on : (k : Option ℕ) → granted_to xs c ≡ k → Fine (after_facts p m (hand_over p a o m ys c (granted_to xs c)) ys)
      on None g = rw g ((w, s), calm (λ e. z.background c w g))
      on (Some r) g = subst (λ k. Fine (after_facts p m (hand_over p a o m ys c k) ys)) (sym g) (at_end r (is_some (end_of xs r)) g refl)
