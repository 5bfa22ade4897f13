use Rattle.std.proofs.Common.{◌≡◌, List, true, sym, subst, arith}
use Rattle.mdb_describe.specs.declared.description.ServerDescription.{ServerDescription}
use Rattle.mdb_describe.specs.Servers.{in_order}
use Rattle.mdb_describe.proofs.InOrder.{changed_in_order}
use Rattle.mdb_describe.proofs.Kept.{carried}
use Rattle.mdb_describe.proofs.carrying.carry_out.Goals as goal

pub add-requires : goal.add-requires
add-requires c = omega (arith, c.requires.room, c.put_in.ensures.len, c.put_in.ensures.room, c.demote.ensures.len, c.demote.ensures.room)

pub returns-clause-carried : goal.returns-clause-carried
returns-clause-carried c = carried c.args.change.now c.args.server c.args.address.now c.args.listed.now c.args.unknowns.items c.args.servers.now.items c.put_in.new.servers.items c.demote.new.servers.items c.add.new.servers.items c.keep.new.servers.items c.end.new.servers.items c.requires.own c.requires.unknowns c.put_in.ensures.items c.demote.ensures.items c.add.ensures c.keep.ensures c.end.ensures

pub returns-clause-ordered : goal.returns-clause-ordered
returns-clause-ordered c = λ h. subst (λ (ys : List ServerDescription). in_order ys ≡ true) (sym (carried c.args.change.now c.args.server c.args.address.now c.args.listed.now c.args.unknowns.items c.args.servers.now.items c.put_in.new.servers.items c.demote.new.servers.items c.add.new.servers.items c.keep.new.servers.items c.end.new.servers.items c.requires.own c.requires.unknowns c.put_in.ensures.items c.demote.ensures.items c.add.ensures c.keep.ensures c.end.ensures)) (changed_in_order c.args.change.now c.args.server c.args.listed.now c.args.servers.now.items h)
