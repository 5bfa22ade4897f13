-- What a pool answers grants only fresh connections.
use Rattle.std.proofs.Common.{ℕ, ◌≡◌, ◌≤◌, Bool, true, false, not, ◌&&◌, ◌==◌, List, [], ◌∷◌, Option, Some, None, refl, sym, ◌∙◌, ap, arith}
use Rattle.std.specs.Prelude.{nat_lt}
use Rattle.std.proofs.lemmas.Bool.{and_parts, not-false}
use Rattle.mdb_events.specs.declared.fact.Fact.{Fact}
use Rattle.mdb_pool.specs.declared.kept.connection.Connection.{Connection}
use Rattle.mdb_pool.specs.Core.{PoolCore}
use Rattle.mdb_log.specs.declared.step.Step.{Step}
use Rattle.mdb_log.specs.declared.step.Act.{Act}
use Rattle.mdb_log.specs.declared.step.Act.TheVariants as act
use Rattle.mdb_log.specs.declared.reply.Refused.{Refused}
use Rattle.mdb_log.specs.declared.reply.Refused.TheVariants.{TimeBack, NotPending, Unpinned, WrongMode}
use Rattle.mdb_log.specs.History.{Item, PoolItem, after_facts, of_pool, open_pool, last_moment, given, with_act}
use Rattle.mdb_log.specs.Connections.{has, created_total, pending_list, holding, pins}
use Rattle.mdb_pool_rules.specs.Facts.{act_facts}
use Rattle.mdb_pool_rules.specs.Refusal.{refusal_of, first_row, rows_of, wrong_service}
use Rattle.mdb_pool_rules.specs.Answer.{all_facts, answer}
use Rattle.mdb_log.specs.Fresh.{AllGrantFresh}
use Rattle.mdb_pool.specs.Standing.{Fits, StandsFor}
use Rattle.mdb_pool.specs.Kept.Values.{connection_at, holder_at, pins_at}
use Rattle.mdb_pool.specs.Kept.Places.{is_pending, is_available}
use Rattle.mdb_pool_rules.proofs.Listed.Values.{has-where}
use Rattle.mdb_pool.proofs.Follows.Stale.{live-created}
use Rattle.mdb_pool_rules.proofs.FactsGrantNothing.{AreCalm, IsBound, act-calm}
use Rattle.mdb_pool_rules.proofs.FreshGrants.{AllCreated, act-grows, act-kept, calm-fresh, facts-kept, fresh-append, row-none, serve-fresh}

-- what the state of a pool says of its connections
module _ (s : PoolCore) (xs : List PoolItem) (z : Fits s xs) where
  all-created : AllCreated xs
  all-created = record {
    past = λ c l.
        let unused : connection_at s c ≡ None = z.matches.counts.unused c (omega (arith, l, z.matches.counts.created)) in
        rw z.matches.counts.available (has-where (λ (x : Connection). x.id) (λ x. is_available x.place) c s.kept.connections (z.matches.counts.single c) ∙ rw unused refl);
  }

  live-before : (c : ℕ) → (connection_at s c ≡ None → ⊥) → c ≤ created_total xs
  live-before c some = on (connection_at s c) refl
    where
      on : (k : Option Connection) → connection_at s c ≡ k → c ≤ created_total xs
      on None e = absurd (some e)
      on (Some x) e = let l : c ≤ s.kept.created = live-created s xs z.matches c x e in omega (arith, l, z.matches.counts.created)

  pub pending-created : (c : ℕ) → has c (pending_list xs) ≡ true → c ≤ created_total xs
  pending-created c h = live-before c (λ e.
      let f : has c (pending_list xs) ≡ false = rw z.matches.counts.pending (has-where (λ (x : Connection). x.id) (λ x. is_pending x.place) c s.kept.connections (z.matches.counts.single c) ∙ rw e refl) in
      cc)

  -- a pinned connection was created
  pub pinned-created : (c : ℕ) → nat_lt 0 (pins xs c) ≡ true → c ≤ created_total xs
  pinned-created c h = live-before c (λ e.
      let f : nat_lt 0 (pins xs c) ≡ false = ap (nat_lt 0) (z.matches.pinning.pins c ∙ ap pins_at e) in
      cc)

  given-created : (r c : ℕ) → given xs r ≡ Some c → c ≤ created_total xs
  given-created r c h =
      let g : holder_at (connection_at s c) ≡ Some r = z.matches.links.taken r c (sym (z.matches.requests.given r) ∙ h) in
      live-before c (λ e. let f : holder_at (connection_at s c) ≡ None = rw e refl in cc)

  pub holding-created : (r c : ℕ) → holding xs r ≡ Some c → c ≤ created_total xs
  holding-created r c h = on (given xs r) refl
    where
      held : (d : ℕ) (b : Bool) → has d (pending_list xs) ≡ b → given xs r ≡ Some d → c ≤ created_total xs
      held d true f e = let g : holding xs r ≡ None = rw (e, f) refl in absurd (cc)
      held d false f e = let g : holding xs r ≡ Some d = rw (e, f) refl in let w : d ≡ c = cc in given-created r c (e ∙ ap Some w)

      on : (k : Option ℕ) → given xs r ≡ k → c ≤ created_total xs
      on None e = let g : holding xs r ≡ None = rw e refl in absurd (cc)
      on (Some d) e = held d (has d (pending_list xs)) refl e

  -- an act that is accepted brings back only connections that were created
  accepted-bound : (h : List Item) (does : Act) → first_row (rows_of s.pool s.options h xs does) ≡ None → IsBound (created_total xs) xs does
  accepted-bound h (act.Established q c how) e = pending-created c (and_parts (q == s.pool) (has c (pending_list xs)) (not-false ((q == s.pool) && has c (pending_list xs)) (row-none (not ((q == s.pool) && has c (pending_list xs))) NotPending ((wrong_service s.options.load_balanced how.service_id, WrongMode) ∷ []) e).0)).1
  accepted-bound h (act.GiveUp r) e = holding-created r
  accepted-bound h (act.Return r used) e = holding-created r
  accepted-bound h (act.Unpin q c) e =
      let f : nat_lt 0 (pins xs c) ≡ true = (and_parts (q == s.pool) (nat_lt 0 (pins xs c)) (not-false ((q == s.pool) && nat_lt 0 (pins xs c)) (row-none (not ((q == s.pool) && nat_lt 0 (pins xs c))) Unpinned [] e).0)).1 in
      pinned-created c f
  accepted-bound h _ e = tt

-- the facts of an accepted act grant only fresh connections
pub accepted-fresh : (s : PoolCore) (h : List Item) (step : Step) → Fits s (of_pool s.pool h) → IsBound (created_total (of_pool s.pool h)) (of_pool s.pool h) step.act
    → AllGrantFresh s.pool s.options step.moment (with_act s.pool h step) (all_facts s.pool s.address s.options step.moment (of_pool s.pool h) (with_act s.pool h step) step.act)
accepted-fresh s h step z bound =
    let xs : List PoolItem = of_pool s.pool h in
    let ys : List PoolItem = with_act s.pool h step in
    let n : ℕ = created_total xs in
    let facts : List Fact = act_facts s.pool s.address s.options step.moment xs ys step.act in
    let calm : AreCalm n facts = act-calm n s.pool s.address s.options step.moment xs ys step.act bound in
    let grown : n ≤ created_total ys = act-grows s.pool step.moment (open_pool h) xs step.act in
    let there : AllCreated ys = act-kept s.pool step.moment (open_pool h) xs (all-created s xs z) step.act bound in
    let then_ : AllCreated (after_facts s.pool step.moment facts ys) = facts-kept s.pool step.moment n facts ys calm grown there in
    fresh-append s.pool s.options step.moment facts _ ys (calm-fresh n s.pool s.options step.moment facts ys calm) (serve-fresh s.pool s.address s.options step.moment _ (after_facts s.pool step.moment facts ys) then_)

-- what the pool answers to a step grants only fresh connections
pub answer-fresh : (s : PoolCore) (h : List Item) (step : Step) → StandsFor s h → AllGrantFresh s.pool s.options step.moment (with_act s.pool h step) (answer s.pool s.address s.options h step).facts
answer-fresh s h step v = on (refusal_of s.pool s.options h step) refl
  where
    on : (why : Option Refused) → refusal_of s.pool s.options h step ≡ why → AllGrantFresh s.pool s.options step.moment (with_act s.pool h step) (answer s.pool s.address s.options h step).facts
    on (Some why) e = rw e tt
    on None e =
        let rows : first_row (rows_of s.pool s.options h (of_pool s.pool h) step.act) ≡ None = (row-none (nat_lt step.moment (last_moment h)) (TimeBack (last_moment h)) (rows_of s.pool s.options h (of_pool s.pool h) step.act) e).1 in
        rw e (accepted-fresh s h step v.fits (accepted-bound s (of_pool s.pool h) v.fits h step.act rows))
