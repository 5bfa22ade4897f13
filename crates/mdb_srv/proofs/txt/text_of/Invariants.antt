use Rattle.std.proofs.Common.{◌≡◌, string_bytes, encode_utf8_all, take}
use Rattle.std.specs.List.{flat_map}
use Rattle.bstr.specs.Utf8.{lossy_chars}
use Rattle.mdb_srv.proofs.txt.text_of.Given as goal

abbrev pub invariant-loop-piece : goal.invariant-loop-piece
invariant-loop-piece l = string_bytes l.text ≡ flat_map (λ piece. encode_utf8_all (lossy_chars piece)) (take l.piece-index l.piece-items)
