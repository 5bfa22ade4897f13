use Rattle.std.proofs.Common.{◌≡◌, ◌++◌, length, drop, sym, ap, ◌∙◌}
use Rattle.std.specs.Cmp.{unsigned_Decides}
use Rattle.std.proofs.lemmas.Slice.Eq.{starts_is}
use Rattle.mdb_recorders.proofs.Fronts.{wrote_all, wrote_front}
use Rattle.mdb_recorders.proofs.log_writer.LogWriterEntryHandler.handle_entries.Goals as goal

pub returns-then-count-whole-clause-err : goal.returns-then-count-whole-clause-err
returns-then-count-whole-clause-err g c =
    let text = c.in_ok-text.text.items in
    let torn = c.args.self.now.torn.items in
    let rest = c.split_at.result.1.now in
    let starts : text ≡ torn ++ drop (length torn) text = (starts_is unsigned_Decides text torn c.starts_with.result (rw (← c.as_slice.ensures.value, ← c.as_slice-2.ensures.value) c.starts_with.ensures.value)).0 c.if-not-starts_with.false in
    let before : c.len-before.result ≡ length torn = c.len-before.ensures ∙ c.args.self.now.torn.ok.0 in
    let left : rest ≡ drop (length torn) text = rw (← c.as_slice-3.ensures.value, ← before) c.split_at.ensures.back in
    let begins : text ≡ torn ++ rest = starts ∙ ap (λ l. torn ++ l) (sym left) in
    let held = g.K.Sink.held in
    wrote_front (held c.args.self.now.sink) (held c.write_on-count.new.sink) text torn rest c.write_on-count.result begins c.write_on-count.ensures.took c.truncate.new.self.items (rw (← before) c.truncate.ensures.items)

pub returns-clause-ok : goal.returns-clause-ok
returns-clause-ok g c =
    let text = c.in_ok-text.text.items in
    let torn = c.args.self.now.torn.items in
    let rest = c.split_at.result.1.now in
    let starts : text ≡ torn ++ drop (length torn) text = (starts_is unsigned_Decides text torn c.starts_with.result (rw (← c.as_slice.ensures.value, ← c.as_slice-2.ensures.value) c.starts_with.ensures.value)).0 c.if-not-starts_with.false in
    let before : c.len-before.result ≡ length torn = c.len-before.ensures ∙ c.args.self.now.torn.ok.0 in
    let left : rest ≡ drop (length torn) text = rw (← c.as_slice-3.ensures.value, ← before) c.split_at.ensures.back in
    let begins : text ≡ torn ++ rest = starts ∙ ap (λ l. torn ++ l) (sym left) in
    let held = g.K.Sink.held in
    rw (c.new.ensures.items) (wrote_all (held c.args.self.now.sink) (held c.write_on-count.new.sink) text torn rest c.write_on-count.result begins c.write_on-count.ensures.took c.args.entries.now c.in_ok-text.ensures c.if-count-whole.false)
