use Rattle.std.proofs.Common.{inr, decimal, codes, ◌++◌, ◌∙◌, ◌≡◌}
use Rattle.mdb_lines.proofs.Tell.{front_whole, front_after, rose_after}
use Rattle.mdb_lines.proofs.status.tell_line.Goals as goal

pub returns-in-Err : goal.returns-in-Err
returns-in-Err g c = inr (front_whole (g.E.Sink.held c.args.errors.now) (g.E.Sink.held c.write_all.new.sink) (codes "line ") (decimal c.args.number ++ codes " is malformed\n") c.in-Err.ensures.bytes, c.in-Err.ensures.cause)

pub returns-in-Err-write_all : goal.returns-in-Err-write_all
returns-in-Err-write_all g c =
    let held = g.E.Sink.held in
    let text : c.as_bytes.result.now ≡ decimal c.args.number = c.as_bytes.ensures.value ∙ c.format.ensures.text in
    let end = codes " is malformed\n" in
    let second = front_whole (held c.write_all.new.sink) (held c.write_all-in-Ok.new.sink) (decimal c.args.number) end (rw text at c.in-Err-write_all.ensures.bytes) in
    inr (
      front_after (held c.args.errors.now) (held c.write_all.new.sink) (held c.write_all-in-Ok.new.sink) (codes "line ") (decimal c.args.number ++ end) c.in-Ok.ensures.bytes second,
      rose_after _ _ _ c.in-Ok.ensures.cause c.in-Err-write_all.ensures.cause,
    )

pub returns-in-Err-write_all-2 : goal.returns-in-Err-write_all-2
returns-in-Err-write_all-2 g c =
    let held = g.E.Sink.held in
    let text : c.as_bytes.result.now ≡ decimal c.args.number = c.as_bytes.ensures.value ∙ c.format.ensures.text in
    let third = front_after (held c.write_all.new.sink) (held c.write_all-in-Ok.new.sink) (held c.write_all-in-Ok-write_all.new.sink) (decimal c.args.number) (codes " is malformed\n") (rw text at c.in-Ok-write_all.ensures.bytes) c.in-Err-write_all-2.ensures.bytes in
    inr (
      front_after (held c.args.errors.now) (held c.write_all.new.sink) (held c.write_all-in-Ok-write_all.new.sink) (codes "line ") (decimal c.args.number ++ codes " is malformed\n") c.in-Ok.ensures.bytes third,
      rose_after _ _ _ c.in-Ok.ensures.cause (rose_after _ _ _ c.in-Ok-write_all.ensures.cause c.in-Err-write_all-2.ensures.cause),
    )
