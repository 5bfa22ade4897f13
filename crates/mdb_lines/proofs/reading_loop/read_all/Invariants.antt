use Rattle.std.proofs.Common.{◌≡◌, ◌≤◌, length}
use Rattle.std.specs.Io.KnownBytes.{Consumes}
use Rattle.mdb_lines.specs.Loops.{CalledWithin}
use Rattle.mdb_lines.proofs.reading_loop.read_all.Given as goal

abbrev pub invariant-loop-turn : goal.invariant-loop-turn
invariant-loop-turn g l = record {
  consumed : Consumes (g.S.Source.left l.initial.source) (g.S.Source.left l.source) l.input.items;
  long : l._turn ≤ length l.input.items;
  short : length l.input.items ≤ l.limit;
  counted : CalledWithin (g.S.Source.calls l.initial.source) (g.S.Source.calls l.source) l._turn;
  faults : g.S.Source.faults l.source ≡ g.S.Source.faults l.initial.source;
}
