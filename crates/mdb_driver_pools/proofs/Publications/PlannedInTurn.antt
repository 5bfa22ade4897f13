-- Parts that are planned one after another.
use Rattle.std.proofs.Common.{ℕ, ◌≡◌, ◌+◌, ◌&&◌, ◌||◌, Bool, true, false, not, is_some, List, [], ◌∷◌, ◌++◌, length, map, refl, sym, ◌∙◌, ap, arith, length-append}
use Rattle.std.proofs.lemmas.List.{append_assoc, length-map}
use Rattle.mdb_base.specs.Equality.{same_address}
use Rattle.mdb_base.specs.declared.address.ServerAddress.{ServerAddress}
use Rattle.mdb_base.specs.declared.options.Options.{Options}
use Rattle.mdb_describe.specs.Servers.{is_listed}
use Rattle.mdb_events.specs.declared.fact.Fact.{Fact}
use Rattle.mdb_log.specs.History.{Item, with_facts}
use Rattle.mdb_log.specs.Homes.{Home}
use Rattle.mdb_pool.specs.Core.{PoolCore}
use Rattle.mdb_driver_pools.specs.declared.pool_change.PoolChange.{PoolChange}
use Rattle.mdb_driver_pools.specs.Standing.{home, at_address}
use Rattle.mdb_driver_pools.specs.Planned.{LeadsAll, CanTake, IsPlanned, LeavesOpen, PlansMore, opened_by}
use Rattle.mdb_driver_pools.specs.Telling.{Comes}
use Rattle.mdb_driver_rules.specs.Turns.{in_turn}
use Rattle.mdb_driver_pools.proofs.OnePool.ChangesInOrder.{Between, leads-both, leads-split, opened-both, agrees-on}
use Rattle.mdb_driver_pools.proofs.PartsInTurn.{tells-more}
use Rattle.mdb_driver_rules.proofs.General.Truth.{fails}

map-both : (f : Home → ServerAddress) (us ws : List Home) → map f (us ++ ws) ≡ map f us ++ map f ws
map-both f [] ws = refl
map-both f (u ∷ us) ws = ap (λ xs. f u ∷ xs) (map-both f us ws)

pub listed-both : (xs ys : List ServerAddress) (a : ServerAddress) → is_listed (xs ++ ys) a ≡ is_listed xs a || is_listed ys a
listed-both [] ys a = refl
listed-both (x ∷ xs) ys a = on (same_address x a) refl (listed-both xs ys a)
  where
    on : (b : Bool) → same_address x a ≡ b → is_listed (xs ++ ys) a ≡ is_listed xs a || is_listed ys a → is_listed (x ∷ (xs ++ ys)) a ≡ is_listed (x ∷ xs) a || is_listed ys a
    on true e deeper = rw e refl
    on false e deeper = rw e deeper

-- what closes and opens, and then closes and opens more
joined : (x g o c a : Bool) → (o ≡ true → c ≡ false) → (((x && not g) || o) && not c) || a ≡ (x && not (g || c)) || (o || a)
joined x g true true a apart = let w : true ≡ false = apart refl in cc
joined true true true false a apart = refl
joined true false true false a apart = refl
joined false true true false a apart = refl
joined false false true false a apart = refl
joined true true false true a apart = refl
joined true false false true a apart = refl
joined false true false true a apart = refl
joined false false false true a apart = refl
joined true true false false a apart = refl
joined true false false false a apart = refl
joined false true false false a apart = refl
joined false false false false a apart = refl

module _ (o : Options) (m : ℕ) (planned : List PoolCore) where
  pub can-less : (n : ℕ) (touched more : ServerAddress → Bool) (now : List PoolCore) → ((a : ServerAddress) → touched a ≡ true → more a ≡ true) → CanTake m planned now n more → CanTake m planned now n touched
  can-less n touched more now within z = record { agrees = λ a e. z.agrees a (within a e); count = z.count; early = z.early }

  -- what is planned to touch some addresses touches no other
  pub planned-wider : (n : ℕ) (touched more : ServerAddress → Bool) (parts : List (List Item → List Fact)) (changes : List PoolChange) (before after : List Fact)
      → ((a : ServerAddress) → touched a ≡ true → more a ≡ true) → IsPlanned o m planned n touched parts changes before after → IsPlanned o m planned n more parts changes before after
  planned-wider n touched more parts changes before after within p =
      let can : (now : List PoolCore) → CanTake m planned now n more → CanTake m planned now n touched = λ now z. can-less n touched more now within z in
      record {
        leads = λ now z. p.leads now (can now z);
        tells = λ now later z l. p.tells now later (can now z) l;
        keeps = λ now later b z l e. p.keeps now later b (can now z) l (fails (touched b) (more b) (within b) e);
        early = λ now later z l. p.early now later (can now z) l;
        homes = λ now later z l. p.homes now later (can now z) l;
      }

  module _ (n k : ℕ) (first second touched : ServerAddress → Bool) (parts more : List (List Item → List Fact)) (xs ys : List PoolChange) (before between after : List Fact)
      (numbers : n + length (opened_by xs) ≡ k) (apart : (a : ServerAddress) → second a ≡ true → first a ≡ false)
      (in_first : (a : ServerAddress) → first a ≡ true → touched a ≡ true) (in_second : (a : ServerAddress) → second a ≡ true → touched a ≡ true)
      (p : IsPlanned o m planned n first parts xs before between) (q : IsPlanned o m planned k second more ys between after) where
    can-first : (now : List PoolCore) → CanTake m planned now n touched → CanTake m planned now n first
    can-first now z = can-less n first touched now in_first z

    counted : (now middle : List PoolCore) → length now ≡ n → map home middle ≡ map home now ++ opened_by xs → length middle ≡ k
    counted now middle c e =
        let e1 : length (map home middle) ≡ length middle = length-map middle home in
        let e2 : length (map home now) ≡ length now = length-map now home in
        let e3 : length (map home middle) ≡ length (map home now ++ opened_by xs) = ap length e in
        let e4 : length (map home now ++ opened_by xs) ≡ length (map home now) + length (opened_by xs) = length-append (map home now) (opened_by xs) in
        omega arith

    can-second : (now middle : List PoolCore) → CanTake m planned now n touched → LeadsAll xs now middle → CanTake m planned middle k second
    can-second now middle z l = record {
      agrees = λ a e. agrees-on planned now middle a (z.agrees a (in_second a e)) (p.keeps now middle a (can-first now z) l (apart a e));
      count = counted now middle z.count (p.homes now middle (can-first now z) l);
      early = p.early now middle (can-first now z) l;
    }

    both-leads : (now : List PoolCore) → CanTake m planned now n touched → (later : List PoolCore) × LeadsAll (xs ++ ys) now later
    both-leads now z =
        let a : (middle : List PoolCore) × LeadsAll xs now middle = p.leads now (can-first now z) in
        let b : (later : List PoolCore) × LeadsAll ys a.0 later = q.leads a.0 (can-second now a.0 z a.1) in
        (b.0, leads-both xs ys now a.0 b.0 a.1 b.1)

    both-homes : (now later : List PoolCore) → CanTake m planned now n touched → Between xs ys now later → map home later ≡ map home now ++ opened_by (xs ++ ys)
    both-homes now later z d =
        let e1 : map home later ≡ map home d.at ++ opened_by ys = q.homes d.at later (can-second now d.at z d.first) d.second in
        let e2 : map home d.at ≡ map home now ++ opened_by xs = p.homes now d.at (can-first now z) d.first in
        e1 ∙ (ap (λ hs. hs ++ opened_by ys) e2 ∙ (append_assoc (map home now) (opened_by xs) (opened_by ys) ∙ ap (λ hs. map home now ++ hs) (sym (opened-both xs ys))))

    -- one after the other
    pub planned-both : IsPlanned o m planned n touched (parts ++ more) (xs ++ ys) before after
    planned-both = record {
      leads = both-leads;
      tells = λ now later z l.
          let d : Between xs ys now later = leads-split xs ys now later l in
          tells-more o m parts more now d.at later before between after (p.tells now d.at (can-first now z) d.first) (q.tells d.at later (can-second now d.at z d.first) d.second);
      keeps = λ now later b z l e.
          let d : Between xs ys now later = leads-split xs ys now later l in
          agrees-on now d.at later b
          (p.keeps now d.at b (can-first now z) d.first (fails (first b) (touched b) (in_first b) e))
          (q.keeps d.at later b (can-second now d.at z d.first) d.second (fails (second b) (touched b) (in_second b) e));
      early = λ now later z l.
          let d : Between xs ys now later = leads-split xs ys now later l in
          q.early d.at later (can-second now d.at z d.first) d.second;
      homes = λ now later z l. both-homes now later z (leads-split xs ys now later l);
    }

    -- what is open afterwards
    pub leaves-both : (gone opened closed again : List ServerAddress) → ((a : ServerAddress) → is_listed opened a ≡ true → is_listed closed a ≡ false)
        → LeavesOpen o m planned n first xs gone opened → LeavesOpen o m planned k second ys closed again → LeavesOpen o m planned n touched (xs ++ ys) (gone ++ closed) (opened ++ again)
    leaves-both gone opened closed again unopened f g now later h a z l y =
        let d : Between xs ys now later = leads-split xs ys now later l in
        let told : Comes o m (in_turn m parts h) d.at before between h = p.tells now d.at (can-first now z) d.first h y in
        let e1 : is_some (at_address d.at a) ≡ (is_some (at_address now a) && not (is_listed gone a)) || is_listed opened a = f now d.at h a (can-first now z) d.first y in
        let e2 : is_some (at_address later a) ≡ (is_some (at_address d.at a) && not (is_listed closed a)) || is_listed again a =
        g d.at later (with_facts m (in_turn m parts h) h) a (can-second now d.at z d.first) d.second told.stand in
        e2 ∙ (ap (λ b. (b && not (is_listed closed a)) || is_listed again a) e1
        ∙ (joined (is_some (at_address now a)) (is_listed gone a) (is_listed opened a) (is_listed closed a) (is_listed again a) (unopened a)
        ∙ (ap (λ b. (is_some (at_address now a) && not b) || (is_listed opened a || is_listed again a)) (sym (listed-both gone closed a))
        ∙ ap (λ b. (is_some (at_address now a) && not (is_listed (gone ++ closed) a)) || b) (sym (listed-both opened again a)))))

  -- planned parts that stand behind others
  module _ (n k : ℕ) (first second touched : ServerAddress → Bool) (parts more : List (List Item → List Fact)) (gone opened closed again : List ServerAddress) (earlier middle changes : List PoolChange) (before between after : List Fact)
      (numbers : n + length opened ≡ k) (unopened : (a : ServerAddress) → is_listed opened a ≡ true → is_listed closed a ≡ false) (apart : (a : ServerAddress) → second a ≡ true → first a ≡ false)
      (in_first : (a : ServerAddress) → first a ≡ true → touched a ≡ true) (in_second : (a : ServerAddress) → second a ≡ true → touched a ≡ true)
      (p : PlansMore o m planned n first parts gone opened earlier middle before between) (q : PlansMore o m planned k second more closed again middle changes between after) where
    next : n + length (opened_by p.added) ≡ k
    next =
        let address : Home → ServerAddress = λ x. x.address in
        let count : length (opened_by p.added) ≡ length opened = sym (length-map (opened_by p.added) address) ∙ ap length p.opens in
        ap (λ c. n + c) count ∙ numbers

    opens-both : map (λ (x : Home). x.address) (opened_by (p.added ++ q.added)) ≡ opened ++ again
    opens-both =
        let address : Home → ServerAddress = λ x. x.address in
        ap (map address) (opened-both p.added q.added) ∙ (map-both address (opened_by p.added) (opened_by q.added)
        ∙ (ap (λ xs. xs ++ map address (opened_by q.added)) p.opens ∙ ap (λ xs. opened ++ xs) q.opens))

    pub plans-then : PlansMore o m planned n touched (parts ++ more) (gone ++ closed) (opened ++ again) earlier changes before after
    plans-then = record {
      added = p.added ++ q.added;
      behind = q.behind ∙ (ap (λ cs. cs ++ q.added) p.behind ∙ append_assoc earlier p.added q.added);
      opens = opens-both;
      leaves = leaves-both n k first second touched parts more p.added q.added before between after next apart in_first in_second p.planned_are q.planned_are gone opened closed again unopened p.leaves q.leaves;
      planned_are = planned-both n k first second touched parts more p.added q.added before between after next apart in_first in_second p.planned_are q.planned_are;
    }
