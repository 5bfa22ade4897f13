use Rattle.std.proofs.Common.{◌∙◌, ap, codes, decimal}
use Rattle.mdb_base.specs.AddressReading.{after}
use Rattle.mdb_entries.proofs.PieceLemmas.{name_there, name_left}
use Rattle.mdb_entries.proofs.ReplyLemmas.{no_time}
use Rattle.mdb_entries.proofs.refusals.laden_refusal.Goals as goal

pub returns-in-Some-clause-time : goal.returns-in-Some-clause-time
returns-in-Some-clause-time c = λ m fits same.
    c.time_back.ensures m fits (name_left (codes "TimeBack ") c.args.word.now c.in-Some.digits.now (decimal m) c.in-Some.ensures same)

pub returns-in-Some-clause-number : goal.returns-in-Some-clause-number
returns-in-Some-clause-number c = λ w same.
    let f = c.in-Some.ensures ∙ ap (after (codes "TimeBack ")) same ∙ no_time w in absurd (cc)

pub returns-in-None-clause-time : goal.returns-in-None-clause-time
returns-in-None-clause-time c = λ m fits same.
    absurd (name_there (codes "TimeBack ") c.args.word.now (decimal m) c.in-None.ensures same)
