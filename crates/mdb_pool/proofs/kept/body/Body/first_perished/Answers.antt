use Rattle.std.proofs.Common.{is_some, filter, find, sym, ◌∙◌, ap}
use Rattle.std.specs.Prelude.{option_copied}
use Rattle.mdb_pool.specs.Kept.Body.{now_of}
use Rattle.mdb_pool.specs.Kept.Places.{is_available}
use Rattle.mdb_pool.specs.Kept.Values.{perished_now}
use Rattle.mdb_slots.specs.Keyed.{rest_of}
use Rattle.mdb_pool.specs.declared.kept.connection.Connection.{Connection}
use Rattle.mdb_pool.proofs.Listed.Beside.{find_among}
use Rattle.mdb_pool.proofs.KeptInLittle.ConnectionsThatLive.{member_lives, walked}
use Rattle.mdb_pool_rules.proofs.Listed.Values.{find-member}
use Rattle.mdb_pool.proofs.Listed.WalksForth.{walk-shorter, walk-miss, walk-hit, walk-none}
use Rattle.mdb_pool.proofs.kept.body.Body.first_perished.Goals as goal

pub loop-next-init : goal.loop-next-init
loop-next-init c = ((λ x e. (find-member (λ (y : Connection). is_available y.place) x c.args.self.now.connections.now (sym c.first_left-next.ensures.value ∙ e)).0), ap (find (λ x. is_some (perished_now (now_of c.args.self.now) c.args.moment x))) c.first_left-next.ensures.rest)

pub perished-requires : goal.perished-requires
perished-requires c = member_lives c.in-Some.x.now c.args.self.now.connections.now (c.loop-next.invariant.0 c.in-Some.x.now (ap option_copied c.in-Some.is))

pub loop-next-smaller : goal.loop-next-smaller
loop-next-smaller c = walk-shorter (λ x. x.id) (filter (λ x. is_available x.place) c.args.self.now.connections.now) c.in-Some.x.now (option_copied c.loop-next.next) _ (ap option_copied c.in-Some.is) c.next_left-next.ensures

pub loop-next-preserved : goal.loop-next-preserved
loop-next-preserved c = ((λ x e. walked (λ y. is_available y.place) c.in-Some.x.now.id x c.args.self.now.connections.now (ap (λ o. rest_of (λ (y : Connection). y.id) o (filter (λ y. is_available y.place) c.args.self.now.connections.now)) (sym e) ∙ c.next_left-next.ensures)), walk-miss (λ x. x.id) (λ x. is_some (perished_now (now_of c.args.self.now) c.args.moment x)) (filter (λ x. is_available x.place) c.args.self.now.connections.now) c.in-Some.x.now (option_copied c.loop-next.next) _ (ap option_copied c.in-Some.is) c.next_left-next.ensures (sym (c.is_some.ensures ∙ ap is_some c.perished.ensures) ∙ c.if-is_some.false) c.loop-next.invariant.1)

pub returns-then-is_some : goal.returns-then-is_some
returns-then-is_some c = walk-hit (λ x. x.id) (λ x. is_some (perished_now (now_of c.args.self.now) c.args.moment x)) (filter (λ x. is_available x.place) c.args.self.now.connections.now) c.in-Some.x.now (option_copied c.loop-next.next) (ap option_copied c.in-Some.is) (sym (c.is_some.ensures ∙ ap is_some c.perished.ensures) ∙ c.if-is_some.true) c.loop-next.invariant.1 ∙ sym (find_among (λ x. is_available x.place) (λ x. is_some (perished_now (now_of c.args.self.now) c.args.moment x)) c.args.self.now.connections.now)

pub returns : goal.returns
returns c = walk-none (λ x. x.id) (λ x. is_some (perished_now (now_of c.args.self.now) c.args.moment x)) (filter (λ x. is_available x.place) c.args.self.now.connections.now) (option_copied c.loop-next.next) (ap option_copied c.in_default.is) c.loop-next.invariant.1 ∙ sym (find_among (λ x. is_available x.place) (λ x. is_some (perished_now (now_of c.args.self.now) c.args.moment x)) c.args.self.now.connections.now)
