use Rattle.std.proofs.Common.{◌≡◌, arith, codes, sym, inl, inr, List, ℕ}
use Rattle.std.proofs.lemmas.Slice.Eq.{bytes_eq-Decides}
use Rattle.mdb_generator.proofs.Commands.{unnamed}
use Rattle.mdb_generator.proofs.words.command.Goals as goal

other : (word : List ℕ) → word ≡ codes "make" → word ≡ codes "share" → ⊥
other word e f = cc

pub returns-then-number-gt2000 : goal.returns-then-number-gt2000
returns-then-number-gt2000 c =
    let make : c.args.word.now ≡ codes "make" = (bytes_eq-Decides c.args.word.now (codes "make")).0 (sym c.if-eq.ensures) in
    unnamed c.args.word.now c.args.number (omega arith) (λ w a b. elim c.if-number-gt2000.either [ inl l ↦ omega arith | inr r ↦ omega (arith, r.1) ]) (λ w a b. other c.args.word.now make w)

pub returns-then-number-gt8 : goal.returns-then-number-gt8
returns-then-number-gt8 c =
    let share : c.args.word.now ≡ codes "share" = (bytes_eq-Decides c.args.word.now (codes "share")).0 (sym c.if-eq-2.ensures) in
    unnamed c.args.word.now c.args.number (omega arith) (λ w a b. other c.args.word.now w share) (λ w a b. elim c.if-number-gt8.either [ inl l ↦ omega arith | inr r ↦ omega (arith, r.1) ])
