use Rattle.std.proofs.Common.{refl}
use Rattle.mdb_recording_runs.proofs.Taken.{event-taken}
use Rattle.mdb_recording_runs.proofs.reader.Reader.take_event.Goals as goal

pub returns : goal.returns
returns c = λ standard s text keeps.
    event-taken standard s text c.args.self.now _ c.args.number c.in_ok-pool.pool c.in_ok-found.found c.args.address.now c.args.event c.look-known.result keeps
    (c.in_ok-pool.ensures s.known keeps.names)
    (λ h stands. c.look-known.ensures h stands)
    (λ h known. c.in_ok-found.ensures h known)
    (λ h stands known. c.in_ok-note.ensures h stands known)
    refl refl refl c.in_ok-self.ensures c.in_ok-self-2.ensures refl refl
