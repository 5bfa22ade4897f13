use Rattle.std.proofs.Common.{ℕ, ◌≡◌, ◌&&◌, true, false, List, [], Option, Some, None, is_some, refl, sym, ◌∙◌, ap, subst}
use Rattle.std.specs.Prelude.{slice_get, unwrap_or}
use Rattle.std.proofs.lemmas.Result.{IfOk-weaker, on_err_weaker}
use Rattle.std.proofs.lemmas.Bool.{not-false, not-true}
use Rattle.mdb_log.specs.declared.reply.Refused.TheVariants.{NotHolder}
use Rattle.mdb_log.specs.declared.reply.Reply.TheVariants.{Changed}
use Rattle.mdb_pool.specs.Core.{PoolCore}
use Rattle.mdb_pool.specs.Now.{held_now, is_live_now}
use Rattle.mdb_log.proofs.Bools.{both-true}
use Rattle.mdb_pool.proofs.Told.OfQueries.{held-lives}
use Rattle.mdb_topology.specs.Complaining.{concerns_now, service_cleared}
use Rattle.mdb_driver_rules.specs.Current.{operating}
use Rattle.mdb_driver_rules.specs.Errors.{case_of, for_service}
use Rattle.mdb_driver_pools.specs.Finding.{holder}
use Rattle.mdb_topology.specs.Marking.{IsClearing}
use Rattle.mdb_topology.proofs.Marks.ClearsService.{balanced-clearing}
use Rattle.mdb_driver_pools.proofs.OnePool.FoundAt.{holder-lives}
use Rattle.mdb_driver_rules.proofs.General.OnePosition.{some-same}
use Rattle.mdb_topology.specs.Changing.{IsChanging}
use Rattle.mdb_driver_rules.specs.Refusal.{refusal}
use Rattle.mdb_topology.proofs.WholeSteps.Stops.{as-next}
use Rattle.mdb_topology.proofs.Marks.CurrentErrors.{Held, held-there, complaint-homeless}
use Rattle.mdb_topology.proofs.Marks.OfOperations.{complaint-here, row_trouble, complaint-resting}
use Rattle.mdb_topology.proofs.WholeSteps.QuietStep.{follows-quiet}
use Rattle.mdb_driver_rules.proofs.SameHistories.{IsPlain}
use Rattle.mdb_topology.proofs.topology.TopologyCore.operation_error.Goals as goal

pub returns-in_default-clause-becomes : goal.returns-in_default-clause-becomes
returns-in_default-clause-becomes c h z =
    let w = c.args.self.now in
    let m = c.args.step.now.moment in
    subst (λ a. refusal w.options h (record { moment = m; act = a }) ≡ Some NotHolder) (sym c.requires.act)
    (complaint-homeless w h z m c.requires.in_time c.args.party c.args.error.now (sym c.holder.ensures ∙ c.in_default.is))

-- the pool that is read is the one of which the party holds a connection
module _ (pools : List PoolCore) (r i : ℕ) (held : holder pools r ≡ Some i) where
  abbrev q : Held pools r i
  q = held-there pools r i held

  module _ (p : PoolCore) (value : slice_get pools i ≡ Some p) where
    same : q.pool ≡ p
    same = some-same q.pool p (slice_get pools i) q.there value

    id-is : (found : Option ℕ) → found ≡ held_now p r → Some q.connection ≡ found
    id-is found now = sym q.has ∙ (ap (λ u. held_now u r) same ∙ sym now)

    live : (id : ℕ) → q.connection ≡ id → is_live_now p id ≡ true
    live id e = subst (λ u. is_live_now u id ≡ true) same (held-lives q.pool r id (q.has ∙ ap Some e))

pub at-requires : goal.at-requires
at-requires c = holder-lives c.args.self.now.pools.cores.items c.args.party c.in-Some.index (sym c.holder.ensures ∙ c.in-Some.is)

pub at-requires-2 : goal.at-requires-2
at-requires-2 c = holder-lives c.args.self.now.pools.cores.items c.args.party c.in-Some.index (sym c.holder.ensures ∙ c.in-Some.is)

pub at-requires-then-self : goal.at-requires-then-self
at-requires-then-self c = holder-lives c.args.self.now.pools.cores.items c.args.party c.in-Some.index (sym c.holder.ensures ∙ c.in-Some.is)

pub clear_service-requires-clause-there : goal.clear_service-requires-clause-there
clear_service-requires-clause-there c = holder-lives c.args.self.now.pools.cores.items c.args.party c.in-Some.index (sym c.holder.ensures ∙ c.in-Some.is)

pub mark_complaint-requires-clause-there : goal.mark_complaint-requires-clause-there
mark_complaint-requires-clause-there c = holder-lives c.args.self.now.pools.cores.items c.args.party c.in-Some.index (sym c.holder.ensures ∙ c.in-Some.is)

pub returns-in_default-held_by-clause-becomes : goal.returns-in_default-held_by-clause-becomes
returns-in_default-held_by-clause-becomes c h z =
    let none : ◌≡◌ {A = Option ℕ} (Some (held-there c.args.self.now.pools.cores.items c.args.party c.in-Some.index (sym c.holder.ensures ∙ c.in-Some.is)).connection) None =
    id-is c.args.self.now.pools.cores.items c.args.party c.in-Some.index (sym c.holder.ensures ∙ c.in-Some.is) c.at.result.now c.at.ensures c.held_by.result c.held_by.ensures ∙ c.in_default-held_by.is in
    cc

pub returns-then-leaves_complaint-clause-becomes : goal.returns-then-leaves_complaint-clause-becomes
returns-then-leaves_complaint-clause-becomes c h z =
    let w = c.args.self.now in
    let m = c.args.step.now.moment in
    let r = c.args.party in
    let x = c.args.error.now in
    let i = c.in-Some.index in
    let e = c.of_reply.ensures in
    let pools = w.pools.cores.items in
    let held = sym c.holder.ensures ∙ c.in-Some.is in
    let there = held-there pools r i held in
    let id = ap (λ y. unwrap_or y 0) (id-is pools r i held c.at.result.now c.at.ensures c.held_by.result c.held_by.ensures ∙ c.in-Some-held_by.is) in
    let left = not-true _ (sym (c.leaves_complaint.ensures (live pools r i held c.at-2.result.now c.at-2.ensures c.in-Some-held_by.id id)) ∙ c.if-leaves_complaint.true) in
    let none = subst (λ u. concerns_now w u c.in-Some-held_by.id x && is_some (case_of operating x) ≡ false) (sym (same pools r i held c.at-2.result.now c.at-2.ensures)) left in
    let rests = subst (λ a. IsChanging w.options h w.description None (record { moment = m; act = a }) (Changed false) false []) (sym c.requires.act)
    (complaint-resting w h z m c.requires.in_time r x i there.pool c.in-Some-held_by.id held there.there (there.has ∙ ap Some id) none) in
    follows-quiet w h z c.args.step.now c.requires.in_time c.of_reply.result e.changes e.facts e.monitors e.monitoring (subst IsPlain (sym e.reply) tt) (rw e.description refl) (as-next rests e.description e.reply e.stops)

pub mark_complaint-requires-clause-complains : goal.mark_complaint-requires-clause-complains
mark_complaint-requires-clause-complains c =
    let w = c.args.self.now in
    let r = c.args.party in
    let x = c.args.error.now in
    let i = c.in-Some.index in
    let pools = w.pools.cores.items in
    let held = sym c.holder.ensures ∙ c.in-Some.is in
    let there = held-there pools r i held in
    let id = ap (λ y. unwrap_or y 0) (id-is pools r i held c.at.result.now c.at.ensures c.held_by.result c.held_by.ensures ∙ c.in-Some-held_by.is) in
    let left = not-false _ (sym (c.leaves_complaint.ensures (live pools r i held c.at-2.result.now c.at-2.ensures c.in-Some-held_by.id id)) ∙ c.if-leaves_complaint.false) in
    let both = both-true _ _ (subst (λ u. concerns_now w u c.in-Some-held_by.id x && is_some (case_of operating x) ≡ true) (sym (same pools r i held c.at-2.result.now c.at-2.ensures)) left) in
    record { pool = there.pool; held = held; there = there.there; has = there.has ∙ ap Some id; current = both.0; row = both.1 }

pub returns-then-self-clause-becomes : goal.returns-then-self-clause-becomes
returns-then-self-clause-becomes c =
    let w = c.args.self.now in
    let m = c.args.step.now.moment in
    let r = c.args.party in
    let x = c.args.error.now in
    let i = c.in-Some.index in
    let l = c.requires.in_time in
    let pools = w.pools.cores.items in
    let held = sym c.holder.ensures ∙ c.in-Some.is in
    let there = held-there pools r i held in
    let id = ap (λ y. unwrap_or y 0) (id-is pools r i held c.at.result.now c.at.ensures c.held_by.result c.held_by.ensures ∙ c.in-Some-held_by.is) in
    let left = not-false _ (sym (c.leaves_complaint.ensures (live pools r i held c.at-2.result.now c.at-2.ensures c.in-Some-held_by.id id)) ∙ c.if-leaves_complaint.false) in
    let both = both-true _ _ (subst (λ u. concerns_now w u c.in-Some-held_by.id x && is_some (case_of operating x) ≡ true) (sym (same pools r i held c.at-2.result.now c.at-2.ensures)) left) in
    let balanced = c.if-self.true in
    let mode = ap (λ (u : PoolCore). u.options.load_balanced) (sym (same pools r i held c.at-then-self.result.now c.at-then-self.ensures)) ∙ (ap (λ p. p.load_balanced) (c.requires.stands.1.pools.fit.each i there.pool there.there).options ∙ balanced) in
    let service = c.service_cleared-service.ensures mode (live pools r i held c.at-then-self.result.now c.at-then-self.ensures c.in-Some-held_by.id id) ∙ ap (λ u. service_cleared u c.in-Some-held_by.id x) (sym (same pools r i held c.at-then-self.result.now c.at-then-self.ensures)) in
    IfOk-weaker c.clear_service.result _ _ (λ stepped f h z.
    let b = balanced-clearing w h z m l r x i there.pool c.in-Some-held_by.id held there.there (there.has ∙ ap Some id) both.0 balanced both.1 in
    let t = row_trouble w h z m l r x i there.pool c.in-Some-held_by.id held there.there (there.has ∙ ap Some id) both.0 b.row in
    f h there.pool t z there.there (complaint-here w h z m l r x i there.pool c.in-Some-held_by.id held there.there (there.has ∙ ap Some id) both.0) refl refl refl
    (subst (λ y. IsClearing w h c.args.step.now t (for_service y)) (sym service)
    (subst (λ a. IsClearing w h (record { moment = m; act = a }) t (for_service (service_cleared there.pool c.in-Some-held_by.id x))) (sym c.requires.act) b.clears_it))) c.clear_service.ensures.becomes

pub returns-then-self-clause-wants : goal.returns-then-self-clause-wants
returns-then-self-clause-wants c =
    let w = c.args.self.now in
    let m = c.args.step.now.moment in
    let r = c.args.party in
    let x = c.args.error.now in
    let i = c.in-Some.index in
    let l = c.requires.in_time in
    let pools = w.pools.cores.items in
    let held = sym c.holder.ensures ∙ c.in-Some.is in
    let there = held-there pools r i held in
    let id = ap (λ y. unwrap_or y 0) (id-is pools r i held c.at.result.now c.at.ensures c.held_by.result c.held_by.ensures ∙ c.in-Some-held_by.is) in
    let left = not-false _ (sym (c.leaves_complaint.ensures (live pools r i held c.at-2.result.now c.at-2.ensures c.in-Some-held_by.id id)) ∙ c.if-leaves_complaint.false) in
    let both = both-true _ _ (subst (λ u. concerns_now w u c.in-Some-held_by.id x && is_some (case_of operating x) ≡ true) (sym (same pools r i held c.at-2.result.now c.at-2.ensures)) left) in
    let balanced = c.if-self.true in
    let mode = ap (λ (u : PoolCore). u.options.load_balanced) (sym (same pools r i held c.at-then-self.result.now c.at-then-self.ensures)) ∙ (ap (λ p. p.load_balanced) (c.requires.stands.1.pools.fit.each i there.pool there.there).options ∙ balanced) in
    let service = c.service_cleared-service.ensures mode (live pools r i held c.at-then-self.result.now c.at-then-self.ensures c.in-Some-held_by.id id) ∙ ap (λ u. service_cleared u c.in-Some-held_by.id x) (sym (same pools r i held c.at-then-self.result.now c.at-then-self.ensures)) in
    on_err_weaker c.clear_service.result (λ f h z.
    let b = balanced-clearing w h z m l r x i there.pool c.in-Some-held_by.id held there.there (there.has ∙ ap Some id) both.0 balanced both.1 in
    let t = row_trouble w h z m l r x i there.pool c.in-Some-held_by.id held there.there (there.has ∙ ap Some id) both.0 b.row in
    f h there.pool t z there.there (complaint-here w h z m l r x i there.pool c.in-Some-held_by.id held there.there (there.has ∙ ap Some id) both.0) refl refl refl
    (subst (λ y. IsClearing w h c.args.step.now t (for_service y)) (sym service)
    (subst (λ a. IsClearing w h (record { moment = m; act = a }) t (for_service (service_cleared there.pool c.in-Some-held_by.id x))) (sym c.requires.act) b.clears_it))) c.clear_service.ensures.wants
