use Rattle.std.proofs.Common.{map}
use Rattle.mdb_shared_runs.proofs.Programs.{no_share}
use Rattle.mdb_shared_runs.proofs.program.player_count.Goals as goal

pub returns-in-Script : goal.returns-in-Script
returns-in-Script c =
    let words = map (λ w. w.now) c.args.words.now in
    record { players = tt; none = λ k h. no_share words c.read_words.result c.read_words.ensures c.in-Script.is k h }
