use Rattle.std.proofs.Common.{refl}
use Rattle.mdb_judging.proofs.Touches.{adds_place}
use Rattle.mdb_judging.proofs.touched.Touched.touch.Goals as goal

pub returns : goal.returns
returns c = adds_place c.args.self.now (record { places = c.push.new.self; pools = c.push-2.new.self }) (record { pool = c.args.pool; id = c.args.id }) c.args.pool c.args.id refl c.in_ok-push.ensures.items c.in_ok-push-2.ensures.items
