use Rattle.std.proofs.Common.{◌++◌, ℕ, List, OnOk, subst, sym}
use Rattle.mdb_recordings.specs.declared.standard.Standard.{Standard}
use Rattle.mdb_recording_lines.specs.LineForms.{line_view}
use Rattle.mdb_recording_runs.specs.Keeping.{Keeps}
use Rattle.mdb_recording_runs.specs.Report.{Read, after_said, said_text}
use Rattle.mdb_recording_runs.proofs.reader.Reader.take_line.Goals as goal

pub returns-in-Malformed : goal.returns-in-Malformed
returns-in-Malformed c = subst (λ x. OnOk c.take_malformed.result ((standard : Standard) (s : Read) (text : List ℕ) → Keeps standard s text c.args.self.now → Keeps standard (after_said standard c.args.number s (line_view x)) (text ++ said_text standard c.args.number s (line_view x)) c.take_malformed.new.self)) (sym c.in-Malformed.is) c.take_malformed.ensures

pub returns-in-Passed : goal.returns-in-Passed
returns-in-Passed c = subst (λ x. OnOk c.pass_over.result ((standard : Standard) (s : Read) (text : List ℕ) → Keeps standard s text c.args.self.now → Keeps standard (after_said standard c.args.number s (line_view x)) (text ++ said_text standard c.args.number s (line_view x)) c.pass_over.new.self)) (sym c.in-Passed.is) c.pass_over.ensures

pub returns-in-Told : goal.returns-in-Told
returns-in-Told c = subst (λ x. OnOk c.take_event.result ((standard : Standard) (s : Read) (text : List ℕ) → Keeps standard s text c.args.self.now → Keeps standard (after_said standard c.args.number s (line_view x)) (text ++ said_text standard c.args.number s (line_view x)) c.take_event.new.self)) (sym c.in-Told.is) c.take_event.ensures

pub returns-in-OfServer : goal.returns-in-OfServer
returns-in-OfServer c = subst (λ x. OnOk c.take_server.result ((standard : Standard) (s : Read) (text : List ℕ) → Keeps standard s text c.args.self.now → Keeps standard (after_said standard c.args.number s (line_view x)) (text ++ said_text standard c.args.number s (line_view x)) c.take_server.new.self)) (sym c.in-OfServer.is) c.take_server.ensures

pub returns-in-OfTopology : goal.returns-in-OfTopology
returns-in-OfTopology c = subst (λ x. OnOk c.take_seen.result ((standard : Standard) (s : Read) (text : List ℕ) → Keeps standard s text c.args.self.now → Keeps standard (after_said standard c.args.number s (line_view x)) (text ++ said_text standard c.args.number s (line_view x)) c.take_seen.new.self)) (sym c.in-OfTopology.is) c.take_seen.ensures
