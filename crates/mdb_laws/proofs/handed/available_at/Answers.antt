use Rattle.std.proofs.Common.{◌≡◌, true, false, Option, Some, None, refl, subst}
use Rattle.mdb_slots.specs.Items.{records_of}
use Rattle.mdb_slots.specs.Slots.{OpenSlots, listing}
use Rattle.mdb_slots.specs.declared.records.Record.{Record}
use Rattle.mdb_log.specs.History.{of_pool}
use Rattle.mdb_pool_rules.specs.Available.{available_records}
use Rattle.mdb_laws.proofs.handed.available_at.Goals as goal

pub returns-in-Some-clause-opened : goal.returns-in-Some-clause-opened
returns-in-Some-clause-opened c = λ h z e. c.in-Some.ensures.opened h z refl

pub returns-in-Some-clause-told : goal.returns-in-Some-clause-told
returns-in-Some-clause-told c = λ h table z e.
    let d = c.in-Some.ensures.fits h c.in-Some.known.now z refl in
    let xs = of_pool c.args.pool h in
    let given : Some c.available.result.now ≡ Some table = e in
    let same : c.available.result.now ≡ table = cc in
    subst (λ (t : OpenSlots Record). records_of (listing t).items ≡ available_records xs) same (c.available.ensures xs d.fits)

pub returns-in-Some-clause-missing : goal.returns-in-Some-clause-missing
returns-in-Some-clause-missing c = λ h z e. let none : ◌≡◌ {A = Option (OpenSlots Record)} (Some c.available.result.now) None = e in cc

pub returns-in-None-clause-opened : goal.returns-in-None-clause-opened
returns-in-None-clause-opened c = λ h z e. let off : false ≡ true = e in cc

pub returns-in-None-clause-missing : goal.returns-in-None-clause-missing
returns-in-None-clause-missing c = λ h z e. c.in-None.ensures.missing h z refl

pub returns-in-None-clause-told : goal.returns-in-None-clause-told
returns-in-None-clause-told c = λ h table z e.
    let none : ◌≡◌ {A = Option (OpenSlots Record)} None (Some table) = e in
    cc
