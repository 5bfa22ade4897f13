-- What a maintenance does is the answer to its step.
use Rattle.std.proofs.Common.{ℕ, ◌≡◌, false, ◌||◌, List, ◌++◌, refl, sym, ◌∙◌, ap, subst, append_assoc}
use Rattle.mdb_events.specs.declared.fact.Fact.{Fact}
use Rattle.mdb_log.specs.declared.step.Act.TheVariants.{Maintain as MaintainAct}
use Rattle.mdb_log.specs.declared.reply.Reply.TheVariants.{Done}
use Rattle.mdb_pool.specs.Core.{PoolCore}
use Rattle.mdb_log.specs.History.{PoolItem, after_facts}
use Rattle.mdb_log.specs.Connections.{has, available_list}
use Rattle.mdb_log.specs.State.{min_size}
use Rattle.mdb_pool_rules.specs.Facts.{sweep, fill}
use Rattle.mdb_log.specs.Own.{shuts}
use Rattle.mdb_pool.specs.Kept.Values.{is_shut}
use Rattle.mdb_pool.specs.Standing.{Fits, Accepts, SameHome}
use Rattle.mdb_pool.specs.Acts.Doing.{Serves, Sweeps, Fills, SameNotes}
use Rattle.mdb_pool.proofs.Answered.Act.{accepts}
use Rattle.mdb_log.proofs.Later.{after-append}
use Rattle.mdb_pool.proofs.Follows.Fits.{later-fits}
use Rattle.mdb_pool_rules.proofs.Fair.{fair-append, own-append, shut-append}
use Rattle.mdb_pool_rules.proofs.SweepAndFill.{sweep-fair, sweep-own, sweep-open, fill-fair, fill-own, fill-open}
use Rattle.mdb_pool.proofs.SameAnswers.StaysHome.{stays-home}

pub maintain-accepts : (s s0 s1 s2 t : PoolCore) (before f1 f2 after : List Fact) (n : ℕ) (xs : List PoolItem) → Fits s xs → s0 ≡ record s { kept = record s.kept { last = n } }
    → SameHome s0 s1 → SameNotes s0 s1 → ((k : List PoolItem) → Fits s0 k → Sweeps s0 s1 n before f1 k)
    → SameHome s1 s2 → SameNotes s1 s2 → ((k : List PoolItem) → Fits s1 k → Fills s1 s2 n f1 f2 k)
    → SameHome s2 t → SameNotes s2 t → ((k : List PoolItem) → Fits s2 k → Serves s2 t n f2 after k)
    → Accepts s t before after n (MaintainAct s.address) Done xs xs
maintain-accepts s s0 s1 s2 t before f1 f2 after n xs z s0_is home1 notes1 sweeps home2 notes2 fills home notes serves =
    let p : ℕ = s.pool in
    let gone : List Fact = sweep s.pool s.address s.options n xs (available_list xs) in
    let zs : List PoolItem = after_facts s.pool n gone xs in
    let come : List Fact = fill s.pool s.address s.options n (min_size s.options) zs in
    let v : Sweeps s0 s1 n before f1 xs = sweeps xs (rw s0_is (later-fits s xs z n)) in
    let at0 : SameHome s s0 = rw s0_is (stays-home refl refl refl refl) in
    let at1 : SameHome s s1 = record { pool = home1.pool ∙ at0.pool; address = home1.address ∙ at0.address; options = home1.options ∙ at0.options; alone = home1.alone ∙ at0.alone } in
    let at2 : SameHome s s2 = record { pool = home2.pool ∙ at1.pool; address = home2.address ∙ at1.address; options = home2.options ∙ at1.options; alone = home2.alone ∙ at1.alone } in
    let gone_is : sweep s0.pool s0.address s0.options n xs (available_list xs) ≡ gone = rw (at0.pool, at0.address, at0.options) refl in
    let fits1 : Fits s1 zs = subst (λ q. Fits s1 (after_facts q n gone xs)) at0.pool (subst (λ fs. Fits s1 (after_facts s0.pool n fs xs)) gone_is v.fits) in
    let w : Fills s1 s2 n f1 f2 zs = fills zs fits1 in
    let come_is : fill s1.pool s1.address s1.options n (min_size s1.options) zs ≡ come = rw (at1.pool, at1.address, at1.options) refl in
    let fits2 : Fits s2 (after_facts s.pool n come zs) = subst (λ q. Fits s2 (after_facts q n come zs)) at1.pool (subst (λ fs. Fits s2 (after_facts s1.pool n fs zs)) come_is w.fits) in
    let said : f2 ≡ before ++ (gone ++ come) = w.facts ∙ (ap (λ k. f1 ++ k) come_is ∙ (ap (λ k. k ++ come) (v.facts ∙ ap (λ k. before ++ k) gone_is) ∙ append_assoc before gone come)) in
    let unshut : shuts (gone ++ come) ≡ false = shut-append s.pool s.address s.options n gone come ∙ rw (sweep-open s.pool s.address s.options n xs (available_list xs), fill-open s.pool s.address s.options n (min_size s.options) zs) refl in
    accepts s s2 t t before f2 after n (MaintainAct s.address) Done (gone ++ come) xs xs
    refl said at2
    (subst (Fits s2) (sym (after-append s.pool n gone come xs)) fits2) serves
    (λ ks k. k)
    (λ claims own ks m. refl)
    tt
    (ap is_shut (notes.status ∙ (notes2.status ∙ (notes1.status ∙ ap (λ k. k.kept.status) s0_is))) ∙ ap (λ b. b || is_shut s.kept.status) (sym unshut))
    (λ r. ap (has r) (notes.settled ∙ (notes2.settled ∙ (notes1.settled ∙ ap (λ k. k.kept.settled) s0_is))))
    (λ c. ap (has c) (notes.claimed ∙ (notes2.claimed ∙ (notes1.claimed ∙ ap (λ k. k.kept.claimed) s0_is))))
    (fair-append s.pool s.address s.options n gone come xs (sweep-fair s.pool s.address s.options n xs xs (available_list xs)) (fill-fair s.pool s.address s.options n (min_size s.options) zs))
    (own-append s.pool s.address s.options n gone come xs (sweep-own s.pool s.address s.options n xs xs (available_list xs)) (fill-own s.pool s.address s.options n (min_size s.options) zs))
