use Rattle.std.proofs.Common.{ℕ, ◌≡◌, true, false, List, [], ◌∷◌, length, map, refl, sym, ◌∙◌, ap, subst}
use Rattle.mdb_base.specs.OptionRules.{all_different}
use Rattle.mdb_base.specs.declared.address.ServerAddress.{ServerAddress}
use Rattle.mdb_describe.specs.Servers.{is_listed}
use Rattle.mdb_driver_pools.specs.declared.pool_change.PoolChange.{PoolChange}
use Rattle.mdb_driver_pools.specs.declared.pools.Pools.{Pools}
use Rattle.mdb_driver_pools.specs.Planned.{PlansMore}
use Rattle.mdb_driver_rules.specs.Publishing.{server_changed, server_closed, topology_changed, server_opened, publication}
use Rattle.mdb_driver_pools.specs.Standing.{are_absent}
use Rattle.mdb_driver_rules.specs.Touching.{readies, touches}
use Rattle.mdb_driver_pools.proofs.Publications.PlannedWhole.{added-absent, added-new, plans-all}
use Rattle.mdb_driver_pools.proofs.Publications.PlannedOfServer.{plans-told}
use Rattle.mdb_driver_rules.proofs.General.AddressesDiffer.{ordered-different}
use Rattle.mdb_driver_pools.proofs.pools.Pools.plan_publication.Goals as goal

pub plan_all_changed-requires-clause-different : goal.plan_all_changed-requires-clause-different
plan_all_changed-requires-clause-different c = subst (λ xs. all_different xs ≡ true) (sym c.as_slice-changed.ensures) (ordered-different c.args.diff.now.changed c.requires.ordered.changed)

pub plan_all_closed-requires-clause-different : goal.plan_all_closed-requires-clause-different
plan_all_closed-requires-clause-different c = subst (λ xs. all_different xs ≡ true) (sym c.as_slice-removed.ensures) (ordered-different c.args.diff.now.removed c.requires.ordered.removed)

pub plan_all_opened-requires-clause-different : goal.plan_all_opened-requires-clause-different
plan_all_opened-requires-clause-different c = subst (λ xs. all_different xs ≡ true) (sym c.as_slice-added.ensures) (ordered-different c.args.diff.now.added c.requires.ordered.added)

pub returns-clause-planned : goal.returns-clause-planned
returns-clause-planned c =
    let o = c.args.change.now.options.now in
    let m = c.args.change.now.moment in
    let pools = c.args.self.now.cores.items in
    let n = length pools in
    let t = c.args.change.now.earlier.now in
    let u = c.args.change.now.later.now in
    let d = c.args.diff.now in
    let c0 = c.new-changes.result.items in
    let c1 = c.plan_all_changed.new.changes.items in
    let c2 = c.plan_all_closed.new.changes.items in
    let c3 = c.plan_all_opened.new.changes.items in
    let f0 = c.args.facts.now.items in
    let f1 = c.plan_all_changed.new.facts.items in
    let f2 = c.plan_all_closed.new.facts.items in
    let f3 = c.tell_topology.new.facts.items in
    let f4 = c.plan_all_opened.new.facts.items in
    let first : c.plan_all_changed.new.self ≡ c.args.self.now = c.in_ok-plan_all_changed.ensures.same in
    let both : c.plan_all_closed.new.self ≡ c.args.self.now = c.in_ok-plan_all_closed.ensures.same ∙ first in
    let gone = c.as_slice-removed.result.now in
    let come = c.as_slice-added.result.now in
    let count : c.len-count.result ≡ n = c.len-count.ensures ∙ ap (λ (w : Pools). length w.cores.items) both in
    let absent : are_absent pools come ≡ true = subst (λ xs. are_absent pools xs ≡ true) (sym c.as_slice-added.ensures) (added-absent pools t.servers d.added c.requires.open_for (added-new t u d c.requires.difference)) in
    let p : PlansMore o m pools n (readies u d.changed) (map (server_changed o m t u) d.changed) [] [] c0 c1 f0 f1 =
    subst (λ (xs : List ServerAddress). PlansMore o m pools n (readies u xs) (map (server_changed o m t u) xs) [] [] c0 c1 f0 f1) c.as_slice-changed.ensures c.in_ok-plan_all_changed.ensures.planned in
    let q : PlansMore o m pools n (is_listed d.removed) (map (server_closed o m) d.removed) d.removed [] c1 c2 f1 f2 =
    subst (λ (xs : List ServerAddress). PlansMore o m pools n (is_listed xs) (map (server_closed o m) xs) xs [] c1 c2 f1 f2) c.as_slice-removed.ensures
    (subst (λ (w : Pools). PlansMore o m w.cores.items (length w.cores.items) (is_listed gone) (map (server_closed o m) gone) gone [] c1 c2 f1 f2) first c.in_ok-plan_all_closed.ensures.planned) in
    let r : PlansMore o m pools n (λ b. false) (topology_changed o t u ∷ []) [] [] c2 c2 f2 f3 = plans-told o m pools n c2 c2 t u f2 f3 refl c.in_ok-tell_topology.ensures in
    let s : PlansMore o m pools n (is_listed d.added) (map (server_opened o) d.added) [] d.added c2 c3 f3 f4 =
    subst (λ (xs : List ServerAddress). PlansMore o m pools n (is_listed xs) (map (server_opened o) xs) [] xs c2 c3 f3 f4) c.as_slice-added.ensures
    (subst (λ (k : ℕ). PlansMore o m pools k (is_listed come) (map (server_opened o) come) [] come c2 c3 f3 f4) count (c.in_ok-plan_all_opened.ensures m pools absent)) in
    subst (λ (cs : List PoolChange). PlansMore o m pools n (touches u d) (publication o m t u) d.removed d.added cs c3 f0 f4) c.new-changes.ensures.items
    (plans-all t u d c.requires.difference c.requires.in_both o m pools n c0 c1 c2 c3 f0 f1 f2 f3 f4 p q r s)
