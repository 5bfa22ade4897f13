use Rattle.std.proofs.Common.{◌≡◌, [], true, false, nat_lt, sym, ◌∙◌, arith}
use Rattle.std.proofs.lemmas.Bool.Decides.{nat_tests}
use Rattle.mdb_driver_rules.specs.Naming.{new_hosts}
use Rattle.mdb_topology.proofs.Publications.HostsPastLimits.{past-none, past-pools, past-servers}
use Rattle.mdb_topology.proofs.topology.TopologyCore.exhausted_by.Goals as goal

pub returns-then-count_new-gt-MAX_SERVERS : goal.returns-then-count_new-gt-MAX_SERVERS
returns-then-count_new-gt-MAX_SERVERS c =
    let many : nat_lt 128 (new_hosts [] c.args.hosts.now) ≡ true = grind (arith, nat_tests, c.count_new.ensures.count, c.if-count_new-gt-MAX_SERVERS.true) in
    past-servers c.args.self.now c.args.hosts.now c.requires.polled c.requires.stands.1.described.ordered many

pub returns-then-names_past : goal.returns-then-names_past
returns-then-names_past c =
    let few : nat_lt 128 (new_hosts [] c.args.hosts.now) ≡ false = grind (arith, nat_tests, c.count_new.ensures.count, c.if-count_new-gt-MAX_SERVERS.false) in
    past-pools c.args.self.now c.args.hosts.now c.requires.polled c.requires.stands.1.described.ordered few (sym c.names_past.ensures ∙ c.if-names_past.true)

pub returns : goal.returns
returns c =
    let few : nat_lt 128 (new_hosts [] c.args.hosts.now) ≡ false = grind (arith, nat_tests, c.count_new.ensures.count, c.if-count_new-gt-MAX_SERVERS.false) in
    past-none c.args.self.now c.args.hosts.now c.requires.polled c.requires.stands.1.described.ordered few (sym c.names_past.ensures ∙ c.if-names_past.false)
