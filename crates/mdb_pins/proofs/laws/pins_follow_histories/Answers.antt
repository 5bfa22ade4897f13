use Rattle.mdb_pins.proofs.Stood.{stood-fact}
use Rattle.mdb_pins.proofs.StoodSteps.{stood-step}
use Rattle.mdb_pins.proofs.laws.pins_follow_histories.Goals as goal

pub returns : goal.returns
returns c = record { facts = stood-fact; steps = stood-step }
