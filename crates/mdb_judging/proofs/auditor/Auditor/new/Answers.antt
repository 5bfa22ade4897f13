use Rattle.mdb_pins.proofs.KeepingsStood.{keepings-none}
use Rattle.mdb_judging.proofs.auditor.Auditor.new.Goals as goal

pub returns : goal.returns
returns c = record {
  options = tt;
  kept = λ o m. record { tables = c.new.ensures o; pins = c.new-2.ensures.stands; keepings = keepings-none o c.new.result c.new-2.result c.new-3.result (c.new.ensures o) c.new-2.ensures.doings c.new-3.ensures; queues = c.new-4.ensures; homes = c.new-5.ensures };
  places = c.new-6.ensures.places;
  pools = c.new-6.ensures.pools;
}
