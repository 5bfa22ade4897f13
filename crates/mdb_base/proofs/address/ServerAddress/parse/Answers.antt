use Rattle.std.proofs.Common.{◌≡◌, refl}
use Rattle.mdb_base.specs.AddressText.{lowered}
use Rattle.mdb_base.proofs.AddressStands.{stands, written, found_as, memory_as, only_as}
use Rattle.mdb_base.proofs.address.ServerAddress.parse.Goals as goal

pub returns-in-Some-clause-found : goal.returns-in-Some-clause-found
returns-in-Some-clause-found c =
    let host = c.in-Some.host.now in
    found_as c.args.text.now (lowered host c.in-Some.port) c.lowered.result (stands c.args.text.now host c.in-Some.port c.in-Some.ensures.found) c.lowered.ensures

pub returns-in-Some-clause-only : goal.returns-in-Some-clause-only
returns-in-Some-clause-only c = λ a h.
    let w = written c.args.text.now a h in
    let both = c.in-Some.ensures.only w.0 a.port w.1 in
    let same : lowered c.in-Some.host.now c.in-Some.port ≡ a = rw (both.0, both.1, w.2) refl in
    only_as (lowered c.in-Some.host.now c.in-Some.port) a c.lowered.result same c.lowered.ensures

pub returns-in-Some-clause-memory : goal.returns-in-Some-clause-memory
returns-in-Some-clause-memory c =
    let host = c.in-Some.host.now in
    memory_as c.args.text.now (lowered host c.in-Some.port) c.lowered.result (stands c.args.text.now host c.in-Some.port c.in-Some.ensures.found)

pub returns-in-None-clause-only : goal.returns-in-None-clause-only
returns-in-None-clause-only c = λ a h.
    let w = written c.args.text.now a h in
    absurd (c.in-None.ensures.only w.0 a.port w.1)
