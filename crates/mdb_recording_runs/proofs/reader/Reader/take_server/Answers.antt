use Rattle.std.proofs.Common.{◌++◌, Some, refl, subst}
use Rattle.mdb_recording_runs.specs.Keeping.{Keeps}
use Rattle.mdb_recording_runs.specs.Report.{after_seen, naming, seen_on, server_findings_text}
use Rattle.mdb_recording_runs.proofs.Taken.{server-is, server-named}
use Rattle.mdb_recording_runs.proofs.reader.Reader.take_server.Goals as goal

pub returns : goal.returns
returns c = λ standard s text keeps.
    let a = c.args.address.now in
    let named = c.in_ok-server.ensures s.servers keeps.servers in
    subst (λ e. Keeps standard (after_seen (naming a s) (seen_on c.args.number e)) (text ++ server_findings_text s.server_history (Some a) (seen_on c.args.number e)) c.take_seen.new.self)
    (server-is s a c.in_ok-server.server c.args.told _ named)
    (c.in_ok-take_seen.ensures standard (naming a s) text (server-named standard s text c.args.self.now _ c.in_ok-server.server a keeps named refl refl refl refl refl refl refl refl refl))
