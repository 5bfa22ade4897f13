use Rattle.std.proofs.Common.{◌≡◌, ◌∙◌, ◌≤◌, length, nat_lt, if◌then◌else◌, true, false, Some, None, sym, ap, refl, arith}
use Rattle.std.proofs.lemmas.Bool.Decides.{nat_tests}
use Rattle.mdb_describe.specs.Differences.{difference}
use Rattle.mdb_log.specs.declared.reply.Reply.TheVariants.{Changed}
use Rattle.mdb_log.specs.declared.reply.What.TheVariants.{Servers, Pool}
use Rattle.mdb_topology.specs.Changing.{passes_limit}
use Rattle.mdb_topology.proofs.topology.TopologyCore.change_by.Goals as goal

pub returns-then-passes_limit-clause-changes : goal.returns-then-passes_limit-clause-changes
returns-then-passes_limit-clause-changes c =
    let w = c.args.self.now in
    let few : nat_lt 128 (length c.args.later.servers) ≡ false = (let e : length c.args.later.servers ≤ 128 = c.requires.few in grind (arith, nat_tests)) in
    let past : passes_limit w c.args.diff ≡ true = sym c.passes_limit.ensures.passes ∙ c.if-passes_limit.true in
    (Pool, refl, ap (λ b. if b then Some Servers else if passes_limit w (difference w.description.servers c.args.later.servers) then Some Pool else None) few ∙ (ap (λ d. if passes_limit w d then Some Pool else None) c.requires.diff ∙ ap (λ b. if b then Some Pool else None) past))

pub returns-in-Ok-clause-changes : goal.returns-in-Ok-clause-changes
returns-in-Ok-clause-changes c =
    let w = c.args.self.now in
    let made = c.into_next.ensures in
    let told = c.in-Ok.ensures in
    let few : nat_lt 128 (length c.args.later.servers) ≡ false = (let e : length c.args.later.servers ≤ 128 = c.requires.few in grind (arith, nat_tests)) in
    let spare : passes_limit w c.args.diff ≡ false = sym c.passes_limit.ensures.passes ∙ c.if-passes_limit.false in
    record {
      past = ap (λ b. if b then Some Servers else if passes_limit w (difference w.description.servers c.args.later.servers) then Some Pool else None) few ∙ (ap (λ d. if passes_limit w d then Some Pool else None) c.requires.diff ∙ ap (λ b. if b then Some Pool else None) spare);
      ordered = c.requires.ordered;
      reply = made.reply ∙ (ap Changed c.is_some-changed.ensures ∙ rw c.requires.diff refl);
      known = made.description;
      goes_on = made.stops;
      nothing = made.monitoring;
      told = rw (made.changes, made.facts, c.requires.diff) told.told;
      settings = rw (made.monitors, made.changes) told.settings;
      new = rw made.monitors told.stand;
    }
