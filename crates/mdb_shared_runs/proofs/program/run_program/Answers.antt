use Rattle.std.proofs.Common.{◌≡◌, List, [], map, inl, inr}
use Rattle.mdb_lines.specs.Status.{Told}
use Rattle.mdb_generator.specs.declared.words.ToolCommand.TheVariants.{Share}
use Rattle.mdb_runs.specs.Runs.{Seen}
use Rattle.mdb_shared_runs.proofs.Headlines.{shares-headline}
use Rattle.mdb_shared_runs.proofs.Programs.{tool_ends, asks_none, map_none}
use Rattle.mdb_shared_runs.proofs.program.run_program.Goals as goal

pub returns-in-Some-clause-headline : goal.returns-in-Some-clause-headline
returns-in-Some-clause-headline g c =
    let old : Seen = record { left = g.S.Source.left c.args.source.now; reads = g.S.Source.faults c.args.source.now; calls = g.S.Source.calls c.args.source.now; held = g.K.Sink.held c.args.sink.now; writes = g.K.Sink.faults c.args.sink.now } in
    let new : Seen = record { left = g.S.Source.left c.share.new.source; reads = g.S.Source.faults c.share.new.source; calls = g.S.Source.calls c.share.new.source; held = g.K.Sink.held c.share.new.sink; writes = g.K.Sink.faults c.share.new.sink } in
    let told : Told = record { held = g.E.Sink.held c.args.errors.now; faults = g.E.Sink.faults c.args.errors.now } in
    let new_told : Told = record { held = g.E.Sink.held c.share.new.errors; faults = g.E.Sink.faults c.share.new.errors } in
    λ asks good. inr (c.in-Some.k, c.in-Some.ensures.players, shares-headline c.in-Some.k old new told new_told c.share.result c.share.ensures.ends good)

pub returns-in-None-clause-headline : goal.returns-in-None-clause-headline
returns-in-None-clause-headline g c =
    λ asks good. let none : map (λ w. w.now) c.args.words.now ≡ [] = asks_none _ asks c.in-None.ensures.none in inl (none, c.run_tool.ensures.headline (map_none (λ w. w.now) c.args.words.now none) good)

pub returns-in-Some-clause-ends : goal.returns-in-Some-clause-ends
returns-in-Some-clause-ends g c = (Share c.in-Some.k, c.in-Some.ensures.players, c.share.ensures.ends)

pub returns-in-Some-clause-malformed : goal.returns-in-Some-clause-malformed
returns-in-Some-clause-malformed g c =
    λ input number asks left short found read write. c.share.ensures.malformed input number left short found read write

pub returns-in-None-clause-ends : goal.returns-in-None-clause-ends
returns-in-None-clause-ends g c =
    let old : Seen = record { left = g.S.Source.left c.args.source.now; reads = g.S.Source.faults c.args.source.now; calls = g.S.Source.calls c.args.source.now; held = g.K.Sink.held c.args.sink.now; writes = g.K.Sink.faults c.args.sink.now } in
    let new : Seen = record { left = g.S.Source.left c.run_tool.new.source; reads = g.S.Source.faults c.run_tool.new.source; calls = g.S.Source.calls c.run_tool.new.source; held = g.K.Sink.held c.run_tool.new.sink; writes = g.K.Sink.faults c.run_tool.new.sink } in
    let told : Told = record { held = g.E.Sink.held c.args.errors.now; faults = g.E.Sink.faults c.args.errors.now } in
    let new_told : Told = record { held = g.E.Sink.held c.run_tool.new.errors; faults = g.E.Sink.faults c.run_tool.new.errors } in
    tool_ends (map (λ w. w.now) c.args.words.now) old new told new_told c.run_tool.result c.in-None.ensures.none c.run_tool.ensures.ends

pub returns-in-None-clause-complete : goal.returns-in-None-clause-complete
returns-in-None-clause-complete g c =
    λ input steps asks left short script read write. c.run_tool.ensures.complete input steps (map_none (λ w. w.now) c.args.words.now (asks_none _ asks c.in-None.ensures.none)) left short script read write

pub returns-in-None-clause-malformed : goal.returns-in-None-clause-malformed
returns-in-None-clause-malformed g c =
    λ input number asks left short found read write. c.run_tool.ensures.malformed input number (map_none (λ w. w.now) c.args.words.now (asks_none _ asks c.in-None.ensures.none)) left short found read write

pub returns-in-None-clause-too_long : goal.returns-in-None-clause-too_long
returns-in-None-clause-too_long g c =
    λ input asks left long read. c.run_tool.ensures.too_long input (map_none (λ w. w.now) c.args.words.now (asks_none _ asks c.in-None.ensures.none)) left long read
