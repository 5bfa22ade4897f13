use Rattle.std.proofs.Common.{◌≡◌, ◌+◌, List, [], ◌∷◌, ◌++◌, length, map, take, false, Some, refl, sym, subst, arith}
use Rattle.std.specs.Prelude.{slice_get}
use Rattle.std.proofs.lemmas.Grind.{common_steps}
use Rattle.std.proofs.lemmas.List.{length-take-le, take_all}
use Rattle.mdb_base.specs.declared.address.ServerAddress.{ServerAddress}
use Rattle.mdb_describe.specs.Servers.{is_listed}
use Rattle.mdb_driver_pools.specs.Planned.{PlansMore}
use Rattle.mdb_driver_rules.specs.Publishing.{server_opened}
use Rattle.mdb_driver_rules.proofs.General.OneElement.{at-index}
use Rattle.mdb_driver_pools.proofs.Publications.PlannedOfMany.{different-take, absent-at, opened-more}
use Rattle.mdb_driver_pools.proofs.Publications.PlannedOfServer.{plans-none}
use Rattle.mdb_driver_pools.proofs.opening_server.plan_all_opened.Goals as goal

pub loop-address-init : goal.loop-address-init
loop-address-init c = record {
  number_is = omega arith;
  planned = λ m pools absent. plans-none c.args.options.now m pools c.args.count (is_listed []) c.args.changes.now.items c.args.facts.now.items;
}

pub loop-address-preserved : goal.loop-address-preserved
loop-address-preserved c =
    let l = c.loop-address in
    let o = c.args.options.now in
    let xs = c.args.addresses.now in
    let x = c.address-item.result in
    let done = take l.address-index xs in
    let at : slice_get xs l.address-index ≡ Some x = at-index xs l.address-index x x c.loop-address-test.true c.address-item.is refl in
    let more : take (l.address-index + 1) xs ≡ done ++ x ∷ [] = grind (arith, common_steps) in
    let new : is_listed done x ≡ false = different-take xs l.address-index x c.requires.different at in
    let count : length done ≡ l.address-index = length-take-le l.address-index xs (omega arith) in
    let numbers : c.args.count + length done ≡ l.number = omega (arith, count, l.invariant.number_is) in
    record {
      number_is = omega (arith, l.invariant.number_is);
      planned = λ m pools absent.
          subst (λ (list : List ServerAddress). PlansMore o m pools c.args.count (is_listed list) (map (server_opened o) list) [] list c.args.changes.now.items c.plan_opened.new.changes.items c.args.facts.now.items c.plan_opened.new.facts.items) (sym more)
          (opened-more o m pools c.args.count done x new c.args.changes.now.items l.changes.items c.plan_opened.new.changes.items c.args.facts.now.items l.facts.items c.plan_opened.new.facts.items l.number numbers (l.invariant.planned m pools absent)
          (c.in_ok-plan_opened.ensures m pools (absent-at pools xs l.address-index x absent at)));
    }

pub returns : goal.returns
returns c =
    let l = c.loop-address in
    let o = c.args.options.now in
    let xs = c.args.addresses.now in
    λ m pools absent.
    subst (λ (list : List ServerAddress). PlansMore o m pools c.args.count (is_listed list) (map (server_opened o) list) [] list c.args.changes.now.items l.changes.items c.args.facts.now.items l.facts.items)
    (take_all l.address-index xs c.loop-address-test.false) (l.invariant.planned m pools absent)
