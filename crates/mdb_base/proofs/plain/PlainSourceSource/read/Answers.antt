use Rattle.std.proofs.Common.{arith, length}
use Rattle.std.proofs.lemmas.Grind.{common_steps}
use Rattle.mdb_base.proofs.Pieces.{piece_consumes, rest_ends}
use Rattle.mdb_base.proofs.plain.PlainSourceSource.read.Goals as goal

pub returns-clause-bytes : goal.returns-clause-bytes
returns-clause-bytes c =
    let held = c.args.self.now.held.items in
    let n = c.min-count.result in (
      piece_consumes held _ c.args.self.now.at n (grind (arith, common_steps)),
      λ none wide. rest_ends held c.args.self.now.at n (length c.copy_front.new.into) (grind (arith, common_steps)) none wide,
    )
