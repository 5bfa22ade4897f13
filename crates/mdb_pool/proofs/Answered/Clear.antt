-- What a clear does is the answer to its step.
use Rattle.std.proofs.Common.{ℕ, ◌≡◌, true, false, List, [], ◌∷◌, ◌++◌, Option, Some, None, is_some, refl, sym, ◌∙◌, ap, subst, append_assoc, append-nil}
use Rattle.mdb_base.specs.declared.object_id.ObjectId.{ObjectId}
use Rattle.mdb_base.specs.declared.error.Error.{Error}
use Rattle.mdb_events.specs.declared.fact.Fact.{Fact}
use Rattle.mdb_events.specs.declared.fact.Fact.TheVariants.{Raised}
use Rattle.mdb_events.specs.declared.end.End.TheVariants.{Cleared}
use Rattle.mdb_log.specs.declared.step.Act.TheVariants.{Clear as ClearAct}
use Rattle.mdb_log.specs.declared.reply.Reply.TheVariants.{Done}
use Rattle.mdb_pool.specs.declared.kept.status.Status.{Status}
use Rattle.mdb_pool.specs.declared.kept.status.Status.TheVariants.{New, Ready, Paused, Closed}
use Rattle.mdb_pool.specs.Core.{PoolCore}
use Rattle.mdb_log.specs.History.{PoolItem, raised, after_facts}
use Rattle.mdb_log.specs.Connections.{has}
use Rattle.mdb_log.specs.Requests.{queued}
use Rattle.mdb_log.specs.State.{state_of}
use Rattle.mdb_pool_rules.specs.Facts.{all_ends, clear_facts, cleared_fact}
use Rattle.mdb_pool_rules.specs.Refusal.{is_exhausted}
use Rattle.mdb_pool.specs.Kept.Values.{state_in, is_shut, is_ready_now}
use Rattle.mdb_pool.specs.Now.{exhausted_now, queries}
use Rattle.mdb_pool.specs.Acts.Changes.{raising}
use Rattle.mdb_pool.specs.Standing.{Fits, Accepts, SameHome}
use Rattle.mdb_pool.specs.Acts.Doing.{Serves, EndsQueue, Clears, SameNotes}
use Rattle.mdb_pool.proofs.Answered.Act.{accepts}
use Rattle.mdb_log.proofs.Numbers.{same-number}
use Rattle.mdb_pool.proofs.Follows.Fits.{later-fits, raise-fits}
use Rattle.mdb_pool.proofs.Follows.Stale.{ready-status, shut-status}
use Rattle.mdb_pool_rules.proofs.ClearFacts.{clear-all-own, clear-fair, clear-open, ends-raised}
use Rattle.mdb_pool.proofs.SameAnswers.StaysHome.{stays-home}

-- what a clear says
module _ (s : PoolCore) (xs : List PoolItem) (z : Fits s xs) (n : ℕ) (error : Error) where
  abbrev said : Option ObjectId → List Fact
  said service = clear_facts s.pool s.address s.options n xs service error

  says-service : (u : Status) (t : ObjectId) → state_of s.options xs ≡ state_in u → is_shut u ≡ false → said (Some t) ≡ Raised s.pool (Some t) error ∷ cleared_fact s.pool s.address (Some t) error ∷ []
  says-service New t e f = rw e refl
  says-service Ready t e f = rw e refl
  says-service (Paused why) t e f = rw e refl
  says-service Closed t e f = cc

  says-ready : s.kept.status ≡ Ready → said None ≡ Raised s.pool None error ∷ cleared_fact s.pool s.address None error ∷ all_ends s.pool s.address n xs (Cleared error) (queued xs)
  says-ready e = rw (z.matches.clearing.status, e) refl

  says-paused : (u : Status) → state_of s.options xs ≡ state_in u → is_shut u ≡ false → is_ready_now u ≡ false → said None ≡ Raised s.pool None error ∷ []
  says-paused New e f g = rw e refl
  says-paused Ready e f g = cc
  says-paused (Paused why) e f g = rw e refl
  says-paused Closed e f g = cc

  pub says-nothing : s.kept.status ≡ Closed → (service : Option ObjectId) → said service ≡ []
  says-nothing e service = rw (z.matches.clearing.status, e) refl

  pub clears-service : (s1 : PoolCore) (before f1 f2 : List Fact) (t : ObjectId) → is_shut s.kept.status ≡ false → s1 ≡ raising s n (Some t) error → f1 ≡ before ++ Raised s.pool (Some t) error ∷ [] → f2 ≡ f1 ++ cleared_fact s1.pool s1.address (Some t) error ∷ [] → Clears s s1 n (Some t) error before f2 xs
  unfolding queries
  clears-service s1 before f1 f2 t unshut s1_is f1_is f2_is =
      let told : said (Some t) ≡ Raised s.pool (Some t) error ∷ cleared_fact s.pool s.address (Some t) error ∷ [] = says-service s.kept.status t z.matches.clearing.status unshut in
      record {
        facts = f2_is ∙ (ap (λ k. f1 ++ cleared_fact k.pool k.address (Some t) error ∷ []) s1_is ∙ (ap (λ k. k ++ cleared_fact s.pool s.address (Some t) error ∷ []) f1_is ∙ (append_assoc before (Raised s.pool (Some t) error ∷ []) (cleared_fact s.pool s.address (Some t) error ∷ []) ∙ ap (λ k. before ++ k) (sym told))));
        fits = rw (told, s1_is, same-number s.pool) (raise-fits s xs z n (Some t) error);
        settled = ap (λ k. k.kept.settled) s1_is;
        claimed = ap (λ k. k.kept.claimed) s1_is;
        unshut = ap (λ k. is_shut k.kept.status) s1_is ∙ unshut;
      }

  pub clears-named : (s1 : PoolCore) (before f1 f2 : List Fact) (service : Option ObjectId) → is_some service ≡ true → is_shut s.kept.status ≡ false → s1 ≡ raising s n service error → f1 ≡ before ++ Raised s.pool service error ∷ [] → f2 ≡ f1 ++ cleared_fact s1.pool s1.address service error ∷ [] → Clears s s1 n service error before f2 xs
  clears-named s1 before f1 f2 None named unshut s1_is f1_is f2_is = cc
  clears-named s1 before f1 f2 (Some t) named unshut s1_is f1_is f2_is = clears-service s1 before f1 f2 t unshut s1_is f1_is f2_is

  pub clears-paused : (s1 : PoolCore) (before f1 : List Fact) → is_shut s.kept.status ≡ false → is_ready_now s.kept.status ≡ false → s1 ≡ raising s n None error → f1 ≡ before ++ Raised s.pool None error ∷ [] → Clears s s1 n None error before f1 xs
  unfolding queries
  clears-paused s1 before f1 unshut waits s1_is f1_is =
      let told : said None ≡ Raised s.pool None error ∷ [] = says-paused s.kept.status z.matches.clearing.status unshut waits in
      record {
        facts = f1_is ∙ ap (λ k. before ++ k) (sym told);
        fits = rw (told, s1_is, same-number s.pool) (raise-fits s xs z n None error);
        settled = ap (λ k. k.kept.settled) s1_is;
        claimed = ap (λ k. k.kept.claimed) s1_is;
        unshut = ap (λ k. is_shut k.kept.status) s1_is;
      }

  pub clears-ready : (s1 t : PoolCore) (before f1 f2 after : List Fact) → is_ready_now s.kept.status ≡ true → s1 ≡ raising s n None error → f1 ≡ before ++ Raised s.pool None error ∷ [] → f2 ≡ f1 ++ cleared_fact s1.pool s1.address None error ∷ [] → SameNotes s1 t
      → ((ys : List PoolItem) → Fits s1 ys → EndsQueue s1 t n (Cleared error) f2 after ys) → Clears s t n None error before after xs
  unfolding queries
  clears-ready s1 t before f1 f2 after unshut s1_is f1_is f2_is notes over =
      let ys : List PoolItem = raised None error ∷ xs in
      let v : EndsQueue s1 t n (Cleared error) f2 after ys = over ys (rw s1_is (raise-fits s xs z n None error)) in
      let all : all_ends s1.pool s1.address n ys (Cleared error) (queued ys) ≡ all_ends s.pool s.address n xs (Cleared error) (queued xs) = ap (λ k. all_ends k.pool k.address n ys (Cleared error) (queued xs)) s1_is ∙ ends-raised s.pool s.address n None error xs (Cleared error) (queued xs) in
      let told : said None ≡ Raised s.pool None error ∷ cleared_fact s.pool s.address None error ∷ all_ends s.pool s.address n xs (Cleared error) (queued xs) = says-ready (ready-status s.kept.status unshut) in
      let heard : after_facts s.pool n (Raised s.pool None error ∷ cleared_fact s.pool s.address None error ∷ []) xs ≡ ys = rw (same-number s.pool) refl in
      let two : f2 ≡ before ++ Raised s.pool None error ∷ cleared_fact s.pool s.address None error ∷ [] = f2_is ∙ (ap (λ k. f1 ++ cleared_fact k.pool k.address None error ∷ []) s1_is ∙ (ap (λ k. k ++ cleared_fact s.pool s.address None error ∷ []) f1_is ∙ append_assoc before (Raised s.pool None error ∷ []) (cleared_fact s.pool s.address None error ∷ []))) in
      record {
        facts = v.facts ∙ (ap (λ k. k ++ all_ends s1.pool s1.address n ys (Cleared error) (queued ys)) two ∙ (append_assoc before (Raised s.pool None error ∷ cleared_fact s.pool s.address None error ∷ []) (all_ends s1.pool s1.address n ys (Cleared error) (queued ys)) ∙ ap (λ k. before ++ k) (ap (λ k. Raised s.pool None error ∷ cleared_fact s.pool s.address None error ∷ k) all ∙ sym told)));
        fits = subst (λ k. Fits t (after_facts s.pool n k xs)) (sym told) (subst (λ k. Fits t (after_facts s.pool n (all_ends s.pool s.address n xs (Cleared error) (queued xs)) k)) (sym heard) (subst (λ k. Fits t (after_facts s.pool n k ys)) all (subst (λ p. Fits t (after_facts p n (all_ends s1.pool s1.address n ys (Cleared error) (queued ys)) ys)) (ap (λ k. k.pool) s1_is) v.fits)));
        settled = notes.settled ∙ ap (λ k. k.kept.settled) s1_is;
        claimed = notes.claimed ∙ ap (λ k. k.kept.claimed) s1_is;
        unshut = ap is_shut (notes.status ∙ ap (λ k. k.kept.status) s1_is);
      }

-- an accepted clear
pub clear-accepts : (s s1 t : PoolCore) (before f1 after : List Fact) (n q : ℕ) (service : Option ObjectId) (error : Error) (xs : List PoolItem) → Fits s xs → SameHome s s1 → is_shut s.kept.status ≡ false → Clears s s1 n service error before f1 xs → SameHome s1 t → SameNotes s1 t
    → ((k : List PoolItem) → Fits s1 k → Serves s1 t n f1 after k)
    → Accepts s t before after n (ClearAct q service error) Done xs xs
unfolding queries
clear-accepts s s1 t before f1 after n q service error xs z at_home unshut v home notes serves =
    accepts s s1 t t before f1 after n (ClearAct q service error) Done (clear_facts s.pool s.address s.options n xs service error) xs xs
    refl v.facts at_home v.fits serves
    (λ zs w. w)
    (λ claims own zs m. refl)
    tt
    (ap is_shut notes.status ∙ (v.unshut ∙ sym (rw (clear-open s.pool s.address s.options n xs error service (state_of s.options xs) refl, unshut) refl)))
    (λ r. ap (has r) (notes.settled ∙ v.settled))
    (λ c. ap (has c) (notes.claimed ∙ v.claimed))
    (clear-fair s.pool s.address s.options n xs error service (state_of s.options xs) refl)
    (clear-all-own s.pool s.address s.options n xs error service (state_of s.options xs) refl)

-- a clear of a closed pool, which says nothing
pub shut-accepts : (s s1 t : PoolCore) (before after : List Fact) (n q : ℕ) (service : Option ObjectId) (error : Error) (xs : List PoolItem) → Fits s xs → is_shut s.kept.status ≡ true → s1 ≡ record s { kept = record s.kept { last = n } } → SameHome s1 t → SameNotes s1 t
    → ((k : List PoolItem) → Fits s1 k → Serves s1 t n before after k)
    → Accepts s t before after n (ClearAct q service error) Done xs xs
shut-accepts s s1 t before after n q service error xs z shut s1_is home notes serves =
    accepts s s1 t t before before after n (ClearAct q service error) Done [] xs xs
    (says-nothing s xs z n error (shut-status s.kept.status shut) service)
    (sym (append-nil before)) (rw s1_is (stays-home refl refl refl refl)) (rw s1_is (later-fits s xs z n)) serves
    (λ zs w. w)
    (λ claims own zs m. refl)
    tt
    (ap is_shut (notes.status ∙ ap (λ k. k.kept.status) s1_is))
    (λ r. ap (has r) (notes.settled ∙ ap (λ k. k.kept.settled) s1_is))
    (λ c. ap (has c) (notes.claimed ∙ ap (λ k. k.kept.claimed) s1_is))
    tt
    tt

-- how a clear is refused: by its mode, or as its generation is at the limit
pub exhausted-is : (s : PoolCore) (xs : List PoolItem) → Fits s xs → (service : Option ObjectId) → is_exhausted s.options xs service ≡ exhausted_now s service
unfolding queries
exhausted-is s xs z service = on s.kept.status refl
  where
    on : (u : Status) → s.kept.status ≡ u → is_exhausted s.options xs service ≡ exhausted_now s service
    on New e = rw (z.matches.clearing.status, e, z.matches.clearing.clears service) refl
    on Ready e = rw (z.matches.clearing.status, e, z.matches.clearing.clears service) refl
    on (Paused why) e = rw (z.matches.clearing.status, e, z.matches.clearing.clears service) refl
    on Closed e = rw (z.matches.clearing.status, e) refl
