-- What an expiry does is the answer to its step.
use Rattle.std.proofs.Common.{ℕ, ◌≡◌, ◌||◌, List, ◌++◌, refl, sym, ◌∙◌, ap, subst}
use Rattle.mdb_events.specs.declared.fact.Fact.{Fact}
use Rattle.mdb_events.specs.declared.end.End.TheVariants.{TimedOut}
use Rattle.mdb_log.specs.declared.step.Act.TheVariants.{Expire as ExpireAct}
use Rattle.mdb_log.specs.declared.reply.Reply.TheVariants.{Done}
use Rattle.mdb_pool.specs.Core.{PoolCore}
use Rattle.mdb_log.specs.History.{PoolItem, after_facts}
use Rattle.mdb_log.specs.Connections.{has}
use Rattle.mdb_pool_rules.specs.Facts.{all_ends, overdue}
use Rattle.mdb_pool.specs.Kept.Values.{is_shut}
use Rattle.mdb_pool.specs.Standing.{Fits, Accepts, SameHome}
use Rattle.mdb_pool.specs.Acts.Doing.{Serves, Expires, SameNotes}
use Rattle.mdb_pool.proofs.Answered.Act.{accepts}
use Rattle.mdb_pool.proofs.Follows.Fits.{later-fits}
use Rattle.mdb_pool_rules.proofs.ClearFacts.{ends-fair, ends-own, ends-open}
use Rattle.mdb_pool.proofs.Turns.ExpireMany.{overdue-asked}
use Rattle.mdb_pool.proofs.SameAnswers.StaysHome.{stays-home}

pub expire-accepts : (s s0 s1 t : PoolCore) (before f1 after : List Fact) (n : ℕ) (xs : List PoolItem) → Fits s xs → s0 ≡ record s { kept = record s.kept { last = n } }
    → SameHome s0 s1 → SameNotes s0 s1 → ((k : List PoolItem) → Fits s0 k → Expires s0 s1 n before f1 k)
    → SameHome s1 t → SameNotes s1 t → ((k : List PoolItem) → Fits s1 k → Serves s1 t n f1 after k)
    → Accepts s t before after n (ExpireAct s.address) Done xs xs
expire-accepts s s0 s1 t before f1 after n xs z s0_is home1 notes1 expires home notes serves =
    let late : List ℕ = overdue s.options n xs in
    let gone : List Fact = all_ends s.pool s.address n xs TimedOut late in
    let v : Expires s0 s1 n before f1 xs = expires xs (rw s0_is (later-fits s xs z n)) in
    let at0 : SameHome s s0 = rw s0_is (stays-home refl refl refl refl) in
    let at1 : SameHome s s1 = record { pool = home1.pool ∙ at0.pool; address = home1.address ∙ at0.address; options = home1.options ∙ at0.options; alone = home1.alone ∙ at0.alone } in
    let gone_is : all_ends s0.pool s0.address n xs TimedOut (overdue s0.options n xs) ≡ gone = rw (at0.pool, at0.address, at0.options) refl in
    let fits1 : Fits s1 (after_facts s.pool n gone xs) = subst (λ q. Fits s1 (after_facts q n gone xs)) at0.pool (subst (λ fs. Fits s1 (after_facts s0.pool n fs xs)) gone_is v.fits) in
    accepts s s1 t t before f1 after n (ExpireAct s.address) Done gone xs xs
    refl (v.facts ∙ ap (λ k. before ++ k) gone_is) at1 fits1 serves
    (λ ks k. k)
    (λ claims own ks m. refl)
    tt
    (ap is_shut (notes.status ∙ (notes1.status ∙ ap (λ k. k.kept.status) s0_is)) ∙ ap (λ b. b || is_shut s.kept.status) (sym (ends-open s.pool s.address n TimedOut xs late)))
    (λ r. ap (has r) (notes.settled ∙ (notes1.settled ∙ ap (λ k. k.kept.settled) s0_is)))
    (λ c. ap (has c) (notes.claimed ∙ (notes1.claimed ∙ ap (λ k. k.kept.claimed) s0_is)))
    (ends-fair s.pool s.address n TimedOut xs xs late)
    (ends-own s.pool s.address n TimedOut xs xs late (overdue-asked s.options n xs))
