use Rattle.std.proofs.Common.{ℕ, ◌≡◌, ◌≤◌, ◌+◌, ◌-◌, Bool, true, false, nat_lt, refl, sym, arith}
use Rattle.std.proofs.lemmas.Bool.Decides.{nat_tests}
use Rattle.mdb_topology.proofs.known.naming.is_below_sum.Goals as goal

left-of : (limit opened more : ℕ) → opened ≤ limit → nat_lt (limit - opened) more ≡ nat_lt limit (opened + more)
left-of limit opened more le = on (nat_lt (limit - opened) more) refl
  where
    on : (b : Bool) → nat_lt (limit - opened) more ≡ b → b ≡ nat_lt limit (opened + more)
    on true e = let k : nat_lt limit (opened + more) ≡ true = grind (arith, nat_tests) in sym k
    on false e = let k : nat_lt limit (opened + more) ≡ false = grind (arith, nat_tests) in sym k

pub returns-then-limit-opened : goal.returns-then-limit-opened
returns-then-limit-opened c =
    let k : nat_lt c.args.limit (c.args.opened + c.args.more) ≡ true = grind (arith, nat_tests, c.if-limit-opened.true) in
    sym k

pub returns : goal.returns
returns c = left-of c.args.limit c.args.opened c.args.more c.if-limit-opened.false
