-- The parts of the seats don't meet.
use Rattle.std.proofs.Common.{◌≡◌, ℕ, ◌+◌, ◌*◌, ◌/◌, ◌^◌, ◌<◌, ◌≤◌, arith, mul-le-mul_right, div-mul-le_self}
use Rattle.mdb_handles.specs.Numbers.{IsNumberOf, end_of}

pub part_fits : (seat seats : ℕ) → seat < seats → end_of seats seat ≤ 2 ^ 32
part_fits seat seats low = let next : seat + 1 ≤ seats = omega arith in omega (arith, mul-le-mul_right (2 ^ 32 / seats) next, div-mul-le_self (2 ^ 32) seats)

apart : (i j each n : ℕ) → i < j → j * each ≤ n → n < (i + 1) * each → ⊥
apart i j each n low from to = let next : i + 1 ≤ j = omega arith in omega (arith, mul-le-mul_right each next, from, to)

pub one_seat : (seats i j n : ℕ) → IsNumberOf seats i n → IsNumberOf seats j n → i ≡ j
one_seat seats i j n f g =
    let each = 2 ^ 32 / seats in
    let up : i < j → ⊥ = λ low. apart i j each n low g.0 f.1 in
    let down : j < i → ⊥ = λ low. apart j i each n low f.0 g.1 in
    omega (arith, up, down)
