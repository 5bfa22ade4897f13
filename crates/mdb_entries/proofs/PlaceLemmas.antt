-- A pool and a connection with a dot between: what stands round the dot.
use Rattle.std.proofs.Common.{◌≡◌, ℕ, ◌<◌, ◌^◌, List, ◌++◌, ap, ◌∙◌, arith, decimal, codes}
use Rattle.mdb_base.specs.AddressReading.{until, beyond}
use Rattle.mdb_base.proofs.AddressAgain.{rest_cons, word_cut}
use Rattle.mdb_parts.proofs.TextLemmas.{decimal_lacks}
use Rattle.mdb_lines.specs.LogText.{connection_text}

place_cut : (p c : ℕ) → p < 2 ^ 32 → (until 46 (connection_text p c) ≡ decimal p) × (beyond 46 (connection_text p c) ≡ codes "." ++ decimal c)
place_cut p c lp = word_cut 46 (decimal p) (codes "." ++ decimal c) (decimal_lacks 46 p (omega arith) (omega arith)) (rest_cons 46 (decimal c))

pub place_front : (word front : List ℕ) (p c : ℕ) → p < 2 ^ 32 → front ≡ until 46 word → word ≡ connection_text p c → front ≡ decimal p
place_front word front p c lp f e = f ∙ ap (until 46) e ∙ (place_cut p c lp).0

pub place_back : (word back : List ℕ) (p c : ℕ) → p < 2 ^ 32 → back ≡ beyond 46 word → word ≡ connection_text p c → back ≡ codes "." ++ decimal c
place_back word back p c lp b e = b ∙ ap (beyond 46) e ∙ (place_cut p c lp).1
