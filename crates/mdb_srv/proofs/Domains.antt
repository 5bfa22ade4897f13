-- Domains of host names.
use Rattle.std.proofs.Common.{◌≡◌, ℕ, ◌-◌, ◌==◌, nat_le, nat_eq, true, List, [], ◌∷◌, length, drop, map, Option, Some, None, is_some, Bor, refl, sym, arith}
use Rattle.std.specs.Option.{option_map_or}
use Rattle.std.specs.List.{ends_with}
use Rattle.std.specs.Cmp.Lexicographic.{pointwise}
use Rattle.std.specs.Cmp.Derive.Mapped.{pointwise-map}
use Rattle.std.proofs.lemmas.Bool.Decides.{nat_tests}
use Rattle.std.proofs.lemmas.List.{drop-map, length-map}
use Rattle.std.proofs.lemmas.List.Splits.{length-slice_split}
use Rattle.mdb_srv.specs.Hosts.{labels, domain}

-- after the first of three or more labels stands the domain
pub domain_is_rest : (host rest a b : List ℕ) (more : Option (Bor (List ℕ))) → labels host ≡ a ∷ labels rest
    → labels rest ≡ b ∷ option_map_or (λ t. labels t.now) more [] → is_some more ≡ true → labels rest ≡ domain host
domain_is_rest host rest a b None first second some = absurd (cc some)
domain_is_rest host rest a b (Some t) first second some =
    let count = length-slice_split (λ x. x == 46) t.now in
    let three : nat_le 3 (length (a ∷ b ∷ labels t.now)) ≡ true = grind (arith, nat_tests) in
    rw (first, second, three) refl

-- texts that are lent compare as the texts
pub ends_with_texts : (xs ys : List (Bor (List ℕ)))
    → ends_with (λ a b. pointwise nat_eq a.now b.now) (drop 1 xs) ys
    ≡ ends_with (pointwise nat_eq) (drop 1 (map (λ x. x.now) xs)) (map (λ x. x.now) ys)
ends_with_texts xs ys =
    rw (drop-map (λ x. x.now) 1 xs, length-map ys (λ x. x.now), length-map (drop 1 xs) (λ x. x.now))
    (rw (drop-map (λ x. x.now) (length (drop 1 xs) - length ys) (drop 1 xs))
    (sym (pointwise-map (λ x. x.now) (pointwise nat_eq) ys (drop (length (drop 1 xs) - length ys) (drop 1 xs)))))
