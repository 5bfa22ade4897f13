-- The bytes that words lack.
use Rattle.std.proofs.Common.{◌≡◌, ℕ, ◌&&◌, true, false, leb, List, length, Option, Some, None, IfSome, refl}
use Rattle.std.specs.List.{list_all}
use Rattle.std.proofs.lemmas.Bool.{and_parts}
use Rattle.mdb_base.proofs.AddressAgain.{lacks_by}
use Rattle.mdb_parts.specs.WordRule.{is_word_byte, is_word, keeps}
use Rattle.mdb_parts.specs.Reading.{lacks}

pub word_lacks : (c : ℕ) → is_word_byte c ≡ false → (word : List ℕ) → is_word word ≡ true → lacks c word ≡ true
unfolding is_word
word_lacks c other word h =
    let p = and_parts (leb 1 (length word)) (leb (length word) 64 && list_all is_word_byte word) h in
    lacks_by is_word_byte c other word (and_parts (leb (length word) 64) (list_all is_word_byte word) p.1).1

pub words_lack-word : (o : Option (List ℕ)) → keeps is_word o ≡ true → IfSome o (λ w. lacks 32 w ≡ true)
words_lack-word None h = tt
words_lack-word (Some word) h = word_lacks 32 refl word h
