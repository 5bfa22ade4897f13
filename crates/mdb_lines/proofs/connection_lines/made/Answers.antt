use Rattle.std.proofs.Common.{[], drop, refl}
use Rattle.std.specs.Int.{w32}
use Rattle.std.proofs.lemmas.Int.{to_z-of_z}
use Rattle.mdb_parts.specs.Parts.{parts_text}
use Rattle.mdb_lines.specs.Spelling.{established_parts}
use Rattle.mdb_parts.proofs.PartLemmas.{parts_follow}
use Rattle.mdb_lines.proofs.connection_lines.made.Goals as goal

pub returns : goal.returns
returns c = λ e types server text.
    let wire = c.in_ok-wire.ensures e.wire (parts_text (established_parts e)) types.wire (parts_follow (established_parts e) refl) text in
    let service = c.id_part-service_id.ensures e.service_id (drop 1 (established_parts e)) types.service refl wire.1 in
    let number = c.i64_part-server_id.ensures e.server_id [] server refl service.1 in
    rw (wire.0, service.0, number.0, to_z-of_z w32 e.wire types.wire) refl
