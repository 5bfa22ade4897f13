-- Seats are cut off and joined, and the rule is kept.
use Rattle.std.proofs.Common.{◌≡◌, ℕ, zero, suc, ◌+◌, ◌<◌, eqb, ◌≢◌, Bool, true, false, Option, Some, None, if◌then◌else◌, List, [], ◌∷◌, ◌++◌, length, set, slice_get, All, sym, refl, ap, ◌∙◌, subst, ◌⊎◌, inl, inr, ⊎_elim, arith, length-set, eq-eqb, ne_eqb}
use Rattle.std.proofs.lemmas.List.Elements.{All-from_get_or}
use Rattle.std.proofs.lemmas.Option.{get_or_from_slice_get}
use Rattle.std.proofs.lemmas.Bool.{cases_Bool}
use mathlib.Core.Logic.{dite}
use mathlib.Core.Option.{some, some-injective, some-ne-none}
use native.Mathlib.Decide.{ℕ_discrete}
use lib.ListN.{get_elem?}
use Rattle.atomic_table.specs.Seated.{TableId}
use Rattle.mdb_turns.specs.Stepping.{SeatView, seat_view, IsReady}
use Rattle.mdb_shared.specs.Seats.{fresh_seat}
use Rattle.atomic_table.specs.Table.{State, Me, Splits, Joins}
use Rattle.atomic_table.proofs.Lists.{set_else, at_longer, at_last}
use Rattle.mdb_log.specs.declared.log.Entry.{Entry}
use Rattle.mdb_turns.specs.declared.rule.SeatEntries.{SeatEntries}
use Rattle.mdb_turns.specs.declared.rule.View.{View}
use Rattle.mdb_log.specs.Driver.{StartsWith}
use Rattle.mdb_turns.specs.Turning.{own, seat_entries, Fits, Keeps, HasNumber, At, Slot, keeper_view, numbering, numbered, bumped, number_of, copied, absorbed, spent, either_next, no_longer}
use Rattle.mdb_turns.proofs.Keeping.{at_end, only_one, others_fit, elsewhere, true_not_false}
use Rattle.mdb_turns.proofs.Places.{here, stays, stays_before, other_joins, one_joins}

own_none : (n : ℕ) (xs : List Entry) → ((k : ℕ) (e : Entry) → get_elem? xs k ≡ some e → e.seat < n) → own n xs ≡ []
own_none n [] below = refl
own_none n (x ∷ xs) below = let low = below 0 x refl in ap (λ (b : Bool). if b then x ∷ own n xs else own n xs) (ne_eqb x.seat n (λ e. omega arith)) ∙ own_none n xs (λ k e at. below (suc k) e at)

at_append : {A : Type 0} (xs ys : List A) (k : ℕ) (p : A) → get_elem? (xs ++ ys) k ≡ some p → (get_elem? xs k ≡ some p) ⊎ ((i : ℕ) × (k ≡ length xs + i) × (get_elem? ys i ≡ some p))
at_append [] ys k p e = inr (k, omega arith, e)
at_append (x ∷ xs) ys zero p e = inl e
at_append {A} (x ∷ xs) ys (suc k) p e = ⊎_elim (λ (t : get_elem? xs k ≡ some p). inl t) (λ (t : (i : ℕ) × (k ≡ length xs + i) × (get_elem? ys i ≡ some p)). inr (t.0, (let h = t.1 in omega arith), t.2)) (at_append xs ys k p e)

starts_either : (log a c : List Entry) (b : Bool) → StartsWith log a → StartsWith log c → StartsWith log (if b then a else c)
starts_either log a c true p q = p
starts_either log a c false p q = q

either_cases : (a b : Option ℕ) (k : ℕ) → either_next a b ≡ Some k → (a ≡ Some k) ⊎ (b ≡ Some k)
either_cases (Some x) b k e = inl e
either_cases None b k e = inr e

either_right : (a b : Option ℕ) (n : ℕ) → b ≡ Some n → ((k : ℕ) → a ≡ Some k → k ≡ n) → either_next a b ≡ Some n
either_right (Some k) b n e same = ap Some (same k refl)
either_right None b n e same = e

at_after : {A : Type 0} (xs ys : List A) (i j : ℕ) (a : A) → j ≡ length xs + i → get_elem? ys i ≡ some a → get_elem? (xs ++ ys) j ≡ some a
at_after [] ys i j a is e = let same : i ≡ j = omega arith in subst (λ (k : ℕ). get_elem? ys k ≡ some a) same e
at_after (x ∷ xs) ys i zero a is e = absurd (omega arith)
at_after (x ∷ xs) ys i (suc j) a is e = at_after xs ys i j a (omega arith) e

front_no_longer : (xs rest : List Entry) → no_longer xs (xs ++ rest) ≡ true
front_no_longer [] rest = refl
front_no_longer (x ∷ xs) rest = front_no_longer xs rest

as_long : (xs rest : List Entry) → no_longer (xs ++ rest) xs ≡ true → xs ++ rest ≡ xs
as_long [] [] h = refl
as_long [] (r ∷ rest) h = absurd (cc)
as_long (x ∷ xs) rest h = ap (λ (l : List Entry). x ∷ l) (as_long xs rest h)

-- the longer of two is the log, where one is and the other is its front
longer_left : (log x y : List Entry) → x ≡ log → StartsWith log y → (if no_longer x y then y else x) ≡ log
longer_left log x y is front = elim (cases_Bool (no_longer x y)) [
  | inl shorter ↦ ap (λ (b : Bool). if b then y else x) shorter ∙ (sym (as_long y front.0 (ap (λ (l : List Entry). no_longer l y) (sym (is ∙ front.1)) ∙ shorter)) ∙ sym front.1)
  | inr longer ↦ ap (λ (b : Bool). if b then y else x) longer ∙ is
]

longer_right : (log x y : List Entry) → y ≡ log → StartsWith log x → (if no_longer x y then y else x) ≡ log
longer_right log x y is front = ap (λ (b : Bool). if b then y else x) (ap (no_longer x) (is ∙ front.1) ∙ front_no_longer x front.0) ∙ is

-- where it is `from`, it becomes `to`
abbrev moved : ℕ → ℕ → ℕ → ℕ
moved from to n = if eqb n from then to else n

moved_there : (from to n : ℕ) → n ≡ from → moved from to n ≡ to
moved_there from to n e = ap (λ (b : Bool). if b then to else n) (eq-eqb n from e)

moved_not : (from to n : ℕ) → n ≢ from → moved from to n ≡ n
moved_not from to n e = ap (λ (b : Bool). if b then to else n) (ne_eqb n from e)

-- one takes in the other, and places move with it
joins : (P : View → Type 0) (vs : List View) (id other : ℕ) (v w both spent : View) → get_elem? vs id ≡ some v → get_elem? vs other ≡ some w → other ≢ id → (P v → P both) → (P w → P both) → (j : ℕ) → At P vs j → At P (set (set vs id both) other spent) (moved other id j)
joins P vs id other v w both spent at at' apart one two j t = dite (ℕ_discrete j other)
    (λ same. subst (λ (k : ℕ). At P (set (set vs id both) other spent) k) (sym (moved_there other id j same)) (other_joins P vs id other v w both spent at at' apart two j same t))
    (λ not. subst (λ (k : ℕ). At P (set (set vs id both) other spent) k) (sym (moved_not other id j not)) (one_joins P vs id other v w both spent at at' apart one j not t))

-- the number `new` has the owner `to`
abbrev given : ℕ → ℕ → (ℕ → ℕ) → ℕ → ℕ
given new to owner n = if eqb n new then to else owner n

module _ {T : Type 0} (stands : T → List Entry → Type 0) (base : List Entry) (seats : ℕ) where
  abbrev St : Type 0
  St = State (Slot T) View

  abbrev Rule : St → Type 0
  Rule = Keeps stands base seats

  abbrev turn : St → ℕ
  turn s = Rattle.std.proofs.Common.get_or s.words 0 0

  -- a view of no number
  no_number : (past : List Entry) (t next keeper : ℕ) (owner : ℕ → ℕ) (id : ℕ) (seen : List Entry) → StartsWith (base ++ past) seen
      → Fits base past t next keeper owner id record { seen = seen; told = seen; own_numbers = []; next = None; turn = false; busy = [] }
  no_number past t next keeper owner id seen front = record {
    seen = front;
    told = front;
    own_numbers = λ k p there. absurd (some-ne-none p (sym there));
    apart = λ j k p q there _ _. absurd (some-ne-none p (sym there));
    holds_turn = λ on. absurd (true_not_false false on refl);
    keeps_next = λ k e. cc;
  }

  -- the view that has the turn is still there
  still_taken : (s : St) (id : ℕ) (v w : View) (more : List View) → get_elem? s.views id ≡ some v → w.turn ≡ v.turn → ((h : ℕ) × (u : View) × (get_elem? s.views h ≡ some u) × (u.turn ≡ true))
      → (h : ℕ) × (u : View) × (get_elem? (set s.views id w ++ more) h ≡ some u) × (u.turn ≡ true)
  still_taken s id v w more at same t = dite (ℕ_discrete t.0 id)
      (λ is. (id, w, at_longer (set s.views id w) more id w (here s.views id v w at), same ∙ (ap (λ (u : View). u.turn) (some-injective v t.1 (sym at ∙ (ap (λ (k : ℕ). get_elem? s.views k) (sym is) ∙ t.2))) ∙ t.3)))
      (λ apart. (t.0, t.1, at_longer (set s.views id w) more t.0 t.1 (set_else s.views id t.0 w apart ∙ t.2), t.3))

  -- kind 7, a copy
  pub copies : (id : ℕ) (v : View) → Splits Rule id v v (copied v)
  copies id v s r at = let x : ℕ = turn s in let f = r.fits id v at in let F : ℕ → View → Type 0 = Fits base r.past x r.next r.keeper r.owner in record {
    past = r.past;
    next = r.next;
    keeper = r.keeper;
    owner = r.owner;
    wide = r.wide;
    count = r.count;
    authors = r.authors;
    few = r.few;
    fits = λ j d there. ⊎_elim (λ (old : get_elem? (set s.views id v) j ≡ some d). others_fit F F s.views id v f (λ i u _ _ g. g) r.fits j d old)
        (λ (new : (j ≡ length (set s.views id v)) × (copied v ≡ d)). subst (F j) new.1 (no_number r.past x r.next r.keeper r.owner j v.seen f.seen)) (at_end (set s.views id v) (copied v) d j there);
    owned = λ m low. stays_before (HasNumber m) (set s.views id v) (copied v ∷ []) (r.owner m) (stays (HasNumber m) s.views id (r.owner m) v v at (λ h. h) (r.owned m low));
    kept = stays_before (λ u. u.next ≡ Some r.next) (set s.views id v) (copied v ∷ []) r.keeper (stays (λ u. u.next ≡ Some r.next) s.views id r.keeper v v at (λ h. h) r.kept);
    whole = (r.whole.0, stays_before (λ u. u.seen ≡ base ++ r.past) (set s.views id v) (copied v ∷ []) r.whole.0 (stays (λ u. u.seen ≡ base ++ r.past) s.views id r.whole.0 v v at (λ h. h) r.whole.1));
    taken = λ other. still_taken s id v v (copied v ∷ []) at refl (r.taken other);
    free = r.free;
  }

  -- kind 7, a new number
  pub numbers : (id k : ℕ) (v : View) → v.next ≡ Some k → k < seats → Splits Rule id v (numbering v) (numbered v)
  numbers id k v is room s r at =
      let x : ℕ = turn s in let f = r.fits id v at in let l : ℕ = length s.views in let next : ℕ = r.next in let w : View = numbering v in
      let kept = f.keeps_next k is in let k_is : k ≡ next = kept.1 in
      let owner : ℕ → ℕ = given next l r.owner in
      let F : ℕ → View → Type 0 = Fits base r.past x next r.keeper r.owner in let G : ℕ → View → Type 0 = Fits base r.past x (next + 1) r.keeper owner in
      let old_owner : (n : ℕ) → n < next → owner n ≡ r.owner n = λ n low. ap (λ (b : Bool). if b then l else r.owner n) (ne_eqb n next (λ e. omega arith)) in
      let new_owner : owner k ≡ l = ap (λ (b : Bool). if b then l else r.owner k) (eq-eqb k next k_is) in
      let parts_are : number_of v.next ≡ seat_entries k [] ∷ [] = ap number_of is in
      let only : (i : ℕ) (p : SeatEntries) → get_elem? (number_of v.next) i ≡ some p → (i ≡ 0) × (seat_entries k [] ≡ p) = λ i p there. only_one (seat_entries k []) p i (ap (λ (ps : List SeatEntries). get_elem? ps i) (sym parts_are) ∙ there) in
      let empty : own k r.past ≡ [] = own_none k r.past (λ i e there. subst (λ (n : ℕ). e.seat < n) (sym k_is) (r.authors i e there)) in
      let old_parts : (j : ℕ) (d : View) → F j d → (i : ℕ) (p : SeatEntries) → get_elem? d.own_numbers i ≡ some p → (owner p.number ≡ j) × (p.number < next + 1) × (own p.number r.past ≡ p.mine)
      = λ j d g i p there. let h = g.own_numbers i p there in let low = h.1 in (old_owner p.number low ∙ h.0, omega arith, h.2) in record {
        past = r.past;
        next = next + 1;
        keeper = r.keeper;
        owner = owner;
        wide = r.wide;
        count = r.count;
        authors = λ i e there. let low = r.authors i e there in omega arith;
        few = omega arith;
        fits = λ j d there. ⊎_elim
            (λ (old : get_elem? (set s.views id (numbering v)) j ≡ some d). others_fit F G s.views id (numbering v)
            record { seen = f.seen; told = f.told; own_numbers = old_parts id v f; apart = f.apart; holds_turn = f.holds_turn; keeps_next = λ i e. let bump : bumped v.next ≡ Some (k + 1) = ap bumped is in let e' : i ≡ k + 1 = cc in (kept.0, omega arith) }
            (λ i u apart _ g. record { seen = g.seen; told = g.told; own_numbers = old_parts i u g; apart = g.apart; holds_turn = g.holds_turn; keeps_next = λ n e. absurd (apart (sym (g.keeps_next n e).0 ∙ kept.0)) })
            r.fits j d old)
            (λ (new : (j ≡ length (set s.views id (numbering v))) × (numbered v ≡ d)). let table_seat : j ≡ l = new.0 ∙ length-set s.views id (numbering v) in subst (G j) new.1 record {
              seen = f.seen;
              told = f.seen;
              own_numbers = λ i p at_i. let o = only i p at_i in (
                subst (λ (y : SeatEntries). owner y.number ≡ j) o.1 (new_owner ∙ sym table_seat),
                subst (λ (y : SeatEntries). y.number < next + 1) o.1 (omega arith),
                subst (λ (y : SeatEntries). own y.number r.past ≡ y.mine) o.1 empty,
              );
              apart = λ a b p q at_a at_b _. (only a p at_a).0 ∙ sym (only b q at_b).0;
              holds_turn = λ on. absurd (true_not_false false on refl);
              keeps_next = λ n e. cc;
            })
            (at_end (set s.views id (numbering v)) (numbered v) d j there);
        owned = λ m low. dite (ℕ_discrete m next)
            (λ e. (numbered v, subst (λ (j : ℕ). get_elem? (set s.views id w ++ numbered v ∷ []) j ≡ some (numbered v)) (sym (ap (λ (b : Bool). if b then l else r.owner m) (eq-eqb m next e))) (at_last (set s.views id w) (numbered v) l (length-set s.views id w)), (0, seat_entries k [], ap (λ (ps : List SeatEntries). get_elem? ps 0) parts_are, k_is ∙ sym e)))
            (λ ne. let below : m < next = omega arith in subst (λ (j : ℕ). At (HasNumber m) (set s.views id w ++ numbered v ∷ []) j) (sym (old_owner m below)) (stays_before (HasNumber m) (set s.views id w) (numbered v ∷ []) (r.owner m) (stays (HasNumber m) s.views id (r.owner m) v w at (λ h. h) (r.owned m below))));
        kept = subst (λ (j : ℕ). At (λ u. u.next ≡ Some (next + 1)) (set s.views id w ++ numbered v ∷ []) j) (sym kept.0) (w, at_longer (set s.views id w) (numbered v ∷ []) id w (here s.views id v w at), ap bumped is ∙ ap (λ (n : ℕ). Some (n + 1)) k_is);
        whole = (r.whole.0, stays_before (λ u. u.seen ≡ base ++ r.past) (set s.views id w) (numbered v ∷ []) r.whole.0 (stays (λ u. u.seen ≡ base ++ r.past) s.views id r.whole.0 v w at (λ h. h) r.whole.1));
        taken = λ other. still_taken s id v (numbering v) (numbered v ∷ []) at refl (r.taken other);
        free = r.free;
      }

  -- kind 8
  pub absorbs : (id other : ℕ) (v w : View) → v.turn ≡ false → w.turn ≡ false → Joins Rule id v other w (absorbed v w) spent
  absorbs id other v w off off' s r at apart there =
      let x : ℕ = turn s in let f = r.fits id v at in let both : View = absorbed v w in
      let at' : get_elem? s.views other ≡ some w = sym (set_else s.views id other both apart) ∙ there in
      let f' = r.fits other w at' in let log : List Entry = base ++ r.past in
      let owner : ℕ → ℕ = λ n. moved other id (r.owner n) in let keeper : ℕ = moved other id r.keeper in
      let F : ℕ → View → Type 0 = Fits base r.past x r.next r.keeper r.owner in let G : ℕ → View → Type 0 = Fits base r.past x r.next keeper owner in
      let apart' : id ≢ other = λ e. apart (sym e) in
      let mine : (k : ℕ) (p : SeatEntries) → get_elem? v.own_numbers k ≡ some p → (owner p.number ≡ id) × (p.number < r.next) × (own p.number r.past ≡ p.mine)
      = λ k p at_k. let h = f.own_numbers k p at_k in (moved_not other id (r.owner p.number) (λ e. apart (sym e ∙ h.0)) ∙ h.0, h.1, h.2) in
      let theirs : (k : ℕ) (p : SeatEntries) → get_elem? w.own_numbers k ≡ some p → (owner p.number ≡ id) × (p.number < r.next) × (own p.number r.past ≡ p.mine)
      = λ k p at_k. let h = f'.own_numbers k p at_k in (moved_there other id (r.owner p.number) h.0, h.1, h.2) in
      let not_both : (j k : ℕ) (p q : SeatEntries) → get_elem? v.own_numbers j ≡ some p → get_elem? w.own_numbers k ≡ some q → p.number ≢ q.number
      = λ j k p q at_j at_k e. apart (sym (f'.own_numbers k q at_k).0 ∙ (ap r.owner (sym e) ∙ (f.own_numbers j p at_j).0)) in
      let joined : G id both = record {
        seen = starts_either log w.seen v.seen (no_longer v.seen w.seen) f'.seen f.seen;
        told = starts_either log v.seen w.seen (no_longer v.seen w.seen) f.seen f'.seen;
        own_numbers = λ k p at_k. ⊎_elim (λ (t : get_elem? v.own_numbers k ≡ some p). mine k p t) (λ (t : (i : ℕ) × (k ≡ length v.own_numbers + i) × (get_elem? w.own_numbers i ≡ some p)). theirs t.0 p t.2) (at_append v.own_numbers w.own_numbers k p at_k);
        apart = λ j k p q at_j at_k same. ⊎_elim
            (λ (a : get_elem? v.own_numbers j ≡ some p). ⊎_elim (λ (b : get_elem? v.own_numbers k ≡ some q). f.apart j k p q a b same)
            (λ (b : (i : ℕ) × (k ≡ length v.own_numbers + i) × (get_elem? w.own_numbers i ≡ some q)). absurd (not_both j b.0 p q a b.2 same)) (at_append v.own_numbers w.own_numbers k q at_k))
            (λ (a : (i : ℕ) × (j ≡ length v.own_numbers + i) × (get_elem? w.own_numbers i ≡ some p)). ⊎_elim (λ (b : get_elem? v.own_numbers k ≡ some q). absurd (not_both k a.0 q p b a.2 (sym same)))
            (λ (b : (i : ℕ) × (k ≡ length v.own_numbers + i) × (get_elem? w.own_numbers i ≡ some q)). a.1 ∙ (ap (λ (n : ℕ). length v.own_numbers + n) (f'.apart a.0 b.0 p q a.2 b.2 same) ∙ sym b.1)) (at_append v.own_numbers w.own_numbers k q at_k))
            (at_append v.own_numbers w.own_numbers j p at_j);
        holds_turn = λ on. absurd (true_not_false v.turn on off);
        keeps_next = λ k e. ⊎_elim (λ (a : v.next ≡ Some k). let h = f.keeps_next k a in (moved_not other id r.keeper (λ z. apart (sym z ∙ h.0)) ∙ h.0, h.1))
            (λ (b : w.next ≡ Some k). let h = f'.keeps_next k b in (moved_there other id r.keeper h.0, h.1)) (either_cases v.next w.next k e);
      } in record {
        past = r.past;
        next = r.next;
        keeper = keeper;
        owner = owner;
        wide = r.wide;
        count = r.count;
        authors = r.authors;
        few = r.few;
        fits = others_fit (λ j d. j ≢ other → G j d) G (set s.views id both) other spent (no_number r.past x r.next keeper owner other [] (log, refl)) (λ j d not_other _ g. g not_other)
            (others_fit F (λ j d. j ≢ other → G j d) s.views id both (λ _. joined)
            (λ j d not_id _ g not_other. record {
              seen = g.seen;
              told = g.told;
              own_numbers = λ k p at_k. let h = g.own_numbers k p at_k in (moved_not other id (r.owner p.number) (λ e. not_other (sym h.0 ∙ e)) ∙ h.0, h.1, h.2);
              apart = g.apart;
              holds_turn = g.holds_turn;
              keeps_next = λ k e. let h = g.keeps_next k e in (moved_not other id r.keeper (λ z. not_other (sym h.0 ∙ z)) ∙ h.0, h.1);
            }) r.fits);
        owned = λ m low. joins (HasNumber m) s.views id other v w both spent at at' apart (λ h. (h.0, h.1, at_longer v.own_numbers w.own_numbers h.0 h.1 h.2, h.3)) (λ h. (length v.own_numbers + h.0, h.1, at_after v.own_numbers w.own_numbers h.0 (length v.own_numbers + h.0) h.1 refl h.2, h.3)) (r.owner m) (r.owned m low);
        kept = joins (λ u. u.next ≡ Some r.next) s.views id other v w both spent at at' apart (λ h. ap (λ (o : Option ℕ). either_next o w.next) h) (λ h. either_right v.next w.next r.next h (λ k e. (f.keeps_next k e).1)) r.keeper r.kept;
        whole = (moved other id r.whole.0, joins (λ u. u.seen ≡ log) s.views id other v w both spent at at' apart (λ h. longer_left log v.seen w.seen h f'.seen) (λ h. longer_right log v.seen w.seen h f.seen) r.whole.0 r.whole.1);
        taken = λ taken. let t = r.taken taken in (
          t.0,
          t.1,
          set_else (set s.views id both) other t.0 spent (elsewhere w t.1 off' t.3 s.views other t.0 at' t.2) ∙ (set_else s.views id t.0 both (elsewhere v t.1 off t.3 s.views id t.0 at t.2) ∙ t.2),
          t.3,
        );
        free = r.free;
      }

-- ---- new, and meet

module _ {A : Type 0} where
  get_end : (xs : List A) (x : A) → slice_get (xs ++ x ∷ []) (length xs) ≡ Some x
  get_end [] x = refl
  get_end (y ∷ ys) x = get_end ys x

  get_front : (xs ys : List A) (i : ℕ) (x : A) → slice_get xs i ≡ Some x → slice_get (xs ++ ys) i ≡ Some x
  get_front [] ys i x e = cc
  get_front (y ∷ xs) ys zero x e = e
  get_front (y ∷ xs) ys (suc i) x e = get_front xs ys i x e

  pub get_push : (xs : List A) (x : A) (n : ℕ) (f : ℕ → A) → length xs ≡ n → ((i : ℕ) → i < n → slice_get xs i ≡ Some (f i)) → x ≡ f n → (i : ℕ) → i < n + 1 → slice_get (xs ++ x ∷ []) i ≡ Some (f i)
  get_push xs x n f long all is i low = dite (ℕ_discrete i n)
      (λ e. ap (λ (k : ℕ). slice_get (xs ++ x ∷ []) k) (e ∙ sym long) ∙ (get_end xs x ∙ (ap Some is ∙ ap (λ (k : ℕ). Some (f k)) (sym e))))
      (λ other. get_front xs (x ∷ []) i (f i) (all i (omega arith)))

both_fronts : (b : Bool) (log x y : List Entry) → StartsWith log (if b then y else x) → StartsWith log (if b then x else y) → StartsWith log x × StartsWith log y
both_fronts true log x y p q = (q, p)
both_fronts false log x y p q = (p, q)

-- one tells the other, which looks and tells one
pub met : (one other told saw last : View) → told ≡ absorbed other (copied one) → StartsWith saw.seen told.seen → StartsWith saw.seen told.told → last ≡ absorbed one (copied saw)
    → (last.seen ≡ saw.seen) × StartsWith saw.seen one.seen × StartsWith saw.seen other.seen
met one other told saw last is front front' done =
    let a : StartsWith saw.seen (if no_longer other.seen one.seen then one.seen else other.seen) = subst (λ (v : View). StartsWith saw.seen v.seen) is front in
    let b : StartsWith saw.seen (if no_longer other.seen one.seen then other.seen else one.seen) = subst (λ (v : View). StartsWith saw.seen v.told) is front' in
    let both = both_fronts (no_longer other.seen one.seen) saw.seen other.seen one.seen a b in
    let yes : no_longer one.seen saw.seen ≡ true = ap (no_longer one.seen) both.1.1 ∙ front_no_longer one.seen both.1.0 in
    (ap (λ (v : View). v.seen) done ∙ ap (λ (c : Bool). if c then saw.seen else one.seen) yes, both.1, both.0)

-- a seat that was cut off the keeper is new
pub is_fresh : {T : Type 0} (z y : TableId) (base : List Entry) (n : ℕ) (k m : Me (Slot T) View) → k ≡ (keeper_view base n, []) → m ≡ (numbered k.0, []) → z ≡ y → (seat_view z n m.0 ≡ fresh_seat y base n) × IsReady n m
is_fresh {T} z y base n k m is cut same =
    let e : m ≡ (numbered (keeper_view base n), []) = cut ∙ ap (λ (x : Me (Slot T) View). (numbered x.0, [])) is in
    (ap (λ (x : Me (Slot T) View). seat_view z n x.0) e ∙ ap (λ (x : TableId). fresh_seat x base n) same, subst (λ (x : Me (Slot T) View). IsReady n x) (sym e) (refl, refl, refl))

pub keeper_next : {T : Type 0} (base : List Entry) (n : ℕ) (k m : Me (Slot T) View) → k ≡ (keeper_view base n, []) → m ≡ (numbering k.0, k.1) → m ≡ (keeper_view base (n + 1), [])
keeper_next {T} base n k m is cut = cut ∙ ap (λ (x : Me (Slot T) View). (numbering x.0, x.1)) is

-- the seats of a new driver are its own
pub all_seats : (z : TableId) (base : List Entry) (n : ℕ) (xs : List SeatView) → length xs ≡ n → ((i : ℕ) → i < n → slice_get xs i ≡ Some (fresh_seat z base i)) → All (λ s. s.driver ≡ z) xs
all_seats z base n xs long all = All-from_get_or (λ (s : SeatView). s.driver ≡ z) xs (fresh_seat z base 0)
    (λ i low. ap (λ (s : SeatView). s.driver) (get_or_from_slice_get xs i (fresh_seat z base i) (fresh_seat z base 0) (all i (subst (λ (k : ℕ). i < k) long low))))
