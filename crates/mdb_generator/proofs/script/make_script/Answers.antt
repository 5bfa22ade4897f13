use Rattle.std.proofs.Common.{◌≡◌, ℕ, suc, ◌+◌, ◌++◌, List, sym, ap, subst, ◌∙◌, append_assoc, arith, codes}
use Rattle.std.specs.List.{flat_map}
use Rattle.std.proofs.lemmas.Grind.{flat_map-append}
use Rattle.mdb_lines.specs.Script.{line_of}
use Rattle.mdb_generator.specs.Generated.{round, rounds, script}
use Rattle.mdb_generator.proofs.Scripts.{opened_text}
use Rattle.mdb_generator.proofs.script.make_script.Goals as goal

one_round : (first before after : List ℕ) (i : ℕ) → before ≡ first ++ flat_map line_of (rounds i) → after ≡ before ++ flat_map line_of (round (suc i)) → after ≡ first ++ flat_map line_of (rounds (suc i))
one_round first before after i e more =
    more ∙ (ap (λ (l : List ℕ). l ++ flat_map line_of (round (suc i))) e
    ∙ (append_assoc first (flat_map line_of (rounds i)) (flat_map line_of (round (suc i)))
    ∙ ap (λ (l : List ℕ). first ++ l) (sym (flat_map-append line_of (rounds i) (round (suc i))))))

next_round : (first before after : List ℕ) (i j : ℕ) → suc i ≡ j → before ≡ first ++ flat_map line_of (rounds i) → after ≡ before ++ flat_map line_of (round j) → after ≡ first ++ flat_map line_of (rounds j)
next_round first before after i j next e = subst (λ k. after ≡ before ++ flat_map line_of (round k) → after ≡ first ++ flat_map line_of (rounds k)) next (one_round first before after i e)

whole : (first out : List ℕ) (n : ℕ) → first ≡ codes "open seeds=a:1 lb max=3 connecting=2\n" → out ≡ first ++ flat_map line_of (rounds n) → out ≡ script n
whole first out n opens e = e ∙ ap (λ (l : List ℕ). l ++ flat_map line_of (rounds n)) (opens ∙ sym opened_text)

pub loop-i-preserved : goal.loop-i-preserved
loop-i-preserved c = next_round c.in_ok-out.out.items c.loop-i.out.items c.append_round.new.out.items c.loop-i.i (c.loop-i.i + 1) (omega arith) c.loop-i.invariant c.in_ok-append_round.ensures

pub returns : goal.returns
returns c =
    let done : c.loop-i.i ≡ c.args.n = omega (arith, c.loop-i-test.false, c.loop-i.auto.i-end) in
    let opening = c.in_ok-out.ensures.items ∙ c.as_bytes.ensures.value in
    subst (λ k. c.loop-i.out.items ≡ script k) done (whole c.in_ok-out.out.items c.loop-i.out.items c.loop-i.i opening c.loop-i.invariant)
