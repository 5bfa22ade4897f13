use Rattle.std.proofs.Common.{◌≡◌, length, string_bytes, refl, Ok, arith}
use Rattle.std.proofs.lemmas.Result.{IfOk-weaker}
use Rattle.hex.specs.Hex.{IsBytes, decode_sized, encode_lower}
use Rattle.hex.proofs.HexLemmas.{decode_sized-encode_lower}
use Rattle.mdb_base.proofs.object_id.digits.Goals as goal

pub returns-clause-again : goal.returns-clause-again
returns-clause-again c =
    let bytes = c.args.bytes.now in
    let fits : IsBytes bytes = λ i. let f = c.type_inv.bytes i in omega arith in
    IfOk-weaker c.encode.result (λ text. string_bytes text ≡ encode_lower bytes) (λ text. decode_sized (string_bytes text) (length bytes) ≡ Ok bytes)
    (λ text e. rw e (decode_sized-encode_lower bytes (length bytes) refl fits)) c.encode.ensures
