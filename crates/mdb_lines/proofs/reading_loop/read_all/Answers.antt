use Rattle.std.proofs.Common.{take}
use Rattle.mdb_lines.proofs.Loops.{reads_few}
use Rattle.mdb_lines.proofs.reading_loop.read_all.Goals as goal

pub returns-in_err-extend_from_slice-in-Ok-clause-few : goal.returns-in_err-extend_from_slice-in-Ok-clause-few
returns-in_err-extend_from_slice-in-Ok-clause-few g c =
    let turn = c.loop-turn.invariant in
    reads_few c.args.limit (g.S.Source.left c.args.source.now) (g.S.Source.left c.loop-turn.source) (g.S.Source.left c.read.new.self) (g.S.Source.calls c.args.source.now) (g.S.Source.calls c.loop-turn.source) (g.S.Source.calls c.read.new.self)
    c.loop-turn._turn c.loop-turn.input.items (take c.in-Ok.count c.read.new.into) turn.consumed c.in-Ok.ensures.bytes.0 turn.counted c.read.ensures.counts turn.long turn.short
