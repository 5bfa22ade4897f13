use Rattle.std.proofs.Common.{◌≡◌, subst}
use Rattle.mdb_histories.specs.SoundHistory.{SoundHistory}
use Rattle.mdb_laws.specs.LogHeadline.{LogHeadline}
use Rattle.mdb_log.specs.History.{history_of}
use Rattle.mdb_session_laws.proofs.laws.slots_keep_the_headline.Goals as goal

-- the log that the session has is the slot's
pub returns-clause-sound : goal.returns-clause-sound
returns-clause-sound c = λ log at.
    let taken = c.in-Some.ensures.some in
    let read = c.deref.ensures in
    let d = c.logs_are_legal.ensures.driver in
    let same : c.deref.result.now ≡ log = cc in
    subst (λ l. SoundHistory (history_of l)) same (c.driver_logs_are_sound.ensures d.0 c.deref.result.now d.1)

pub returns-clause-headline : goal.returns-clause-headline
returns-clause-headline c = λ log at.
    let taken = c.in-Some.ensures.some in
    let read = c.deref.ensures in
    let d = c.logs_are_legal.ensures.driver in
    let same : c.deref.result.now ≡ log = cc in
    subst LogHeadline same (c.logs_keep_the_headline.ensures d.0 c.deref.result.now d.1)
