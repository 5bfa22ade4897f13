use Rattle.std.proofs.Common.{◌≡◌, List, true, sym, subst}
use Rattle.mdb_describe.specs.declared.description.ServerDescription.{ServerDescription}
use Rattle.mdb_describe.specs.Servers.{in_order}
use Rattle.mdb_describe.proofs.InOrder.{synced_in_order}
use Rattle.mdb_describe.proofs.Kept.{followed}
use Rattle.mdb_describe.proofs.carrying.follow.Goals as goal

pub returns-clause-followed : goal.returns-clause-followed
returns-clause-followed c = followed c.args.hosts.now c.args.unknowns.items c.args.servers.now.items c.join_all.new.servers.items c.keep_listed.new.servers.items c.requires.unknowns c.join_all.ensures c.keep_listed.ensures

pub returns-clause-ordered : goal.returns-clause-ordered
returns-clause-ordered c = λ h. subst (λ (ys : List ServerDescription). in_order ys ≡ true) (sym (followed c.args.hosts.now c.args.unknowns.items c.args.servers.now.items c.join_all.new.servers.items c.keep_listed.new.servers.items c.requires.unknowns c.join_all.ensures c.keep_listed.ensures)) (synced_in_order c.args.hosts.now c.args.servers.now.items h)
