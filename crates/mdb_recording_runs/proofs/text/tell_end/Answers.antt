use Rattle.std.proofs.Common.{rules, ◌≡◌, ◌++◌, map, refl, ap, ◌∙◌, string_bytes}
use Rattle.mdb_recording_runs.specs.Report.{pools_text}
use Rattle.mdb_recording_runs.proofs.Ended.{end-told}
use Rattle.mdb_recording_runs.proofs.text.tell_end.Goals as goal

pub returns : goal.returns
returns c = λ standard s text keeps.
    let slice : c.as_slice.result.now ≡ c.args.reader.now.names.list.items = search rules in
    let gains : string_bytes c.push_str.new.self ≡ string_bytes c.tell_pools.new.out ++ string_bytes c.in_ok-line.line = search rules in
    end-told standard s text (string_bytes c.tell_pools.new.out) (string_bytes c.in_ok-line.line) c.args.reader.now _ keeps
    (λ h stands. c.in_ok-tell_pools.ensures h stands ∙ ap (λ names. string_bytes c.args.reader.now.out ++ pools_text h 0 (map string_bytes names)) slice)
    c.in_ok-line.ensures gains refl refl refl
