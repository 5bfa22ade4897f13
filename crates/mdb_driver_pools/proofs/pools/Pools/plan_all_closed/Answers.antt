use Rattle.std.proofs.Common.{◌≡◌, ◌+◌, List, [], ◌∷◌, ◌++◌, length, map, take, false, Some, refl, sym, ◌∙◌, ap, subst, arith}
use Rattle.std.specs.Prelude.{slice_get}
use Rattle.std.proofs.lemmas.Grind.{common_steps}
use Rattle.mdb_base.specs.declared.address.ServerAddress.{ServerAddress}
use Rattle.mdb_base.specs.Equality.{same_address}
use Rattle.mdb_describe.specs.Servers.{is_listed}
use Rattle.mdb_pool.specs.Core.{PoolCore}
use Rattle.mdb_driver_pools.specs.declared.pools.Pools.{Pools}
use Rattle.mdb_driver_pools.specs.Planned.{PlansMore}
use Rattle.mdb_driver_rules.specs.Publishing.{server_closed}
use Rattle.mdb_driver_rules.proofs.General.OneElement.{at-index}
use Rattle.mdb_driver_pools.proofs.Publications.PlannedOfMany.{different-take, closed-more}
use Rattle.mdb_driver_pools.proofs.Publications.PlannedOfServer.{plans-none}
use Rattle.mdb_driver_pools.proofs.pools.Pools.plan_all_closed.Goals as goal

pub loop-address-init : goal.loop-address-init
loop-address-init c =
    let pools = c.args.self.now.cores.items in
    record { same = refl; planned = plans-none c.args.options.now c.args.moment pools (length pools) (is_listed []) c.args.changes.now.items c.args.facts.now.items }

pub loop-address-preserved : goal.loop-address-preserved
loop-address-preserved c =
    let l = c.loop-address in
    let o = c.args.options.now in
    let m = c.args.moment in
    let pools = c.args.self.now.cores.items in
    let xs = c.args.addresses.now in
    let x = c.address-item.result in
    let done = take l.address-index xs in
    let call = c.plan_closed.new in
    let at : slice_get xs l.address-index ≡ Some x = at-index xs l.address-index x x c.loop-address-test.true c.address-item.is refl in
    let more : take (l.address-index + 1) xs ≡ done ++ x ∷ [] = grind (arith, common_steps) in
    let new : is_listed done x ≡ false = different-take xs l.address-index x c.requires.different at in
    let one : PlansMore o m pools (length pools) (same_address x) (server_closed o m x ∷ []) (x ∷ []) [] l.changes.items call.changes.items l.facts.items call.facts.items =
    subst (λ (w : List PoolCore). PlansMore o m w (length w) (same_address x) (server_closed o m x ∷ []) (x ∷ []) [] l.changes.items call.changes.items l.facts.items call.facts.items)
    (ap (λ (p : Pools). p.cores.items) l.invariant.same) c.in_ok-plan_closed.ensures.planned in
    record {
      same = c.in_ok-plan_closed.ensures.same ∙ l.invariant.same;
      planned =
          subst (λ (list : List ServerAddress). PlansMore o m pools (length pools) (is_listed list) (map (server_closed o m) list) list [] c.args.changes.now.items call.changes.items c.args.facts.now.items call.facts.items) (sym more)
          (closed-more o m pools (length pools) done x new c.args.changes.now.items l.changes.items call.changes.items c.args.facts.now.items l.facts.items call.facts.items l.invariant.planned one);
    }
