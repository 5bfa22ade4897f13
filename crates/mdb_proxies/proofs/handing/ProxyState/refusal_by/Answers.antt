use Rattle.std.proofs.Common.{◌≡◌, true, false, is_some, nat_eq, nat_le, length, refl, sym, ap, ◌∙◌, arith}
use Rattle.std.specs.HashMap.{get}
use Rattle.std.proofs.lemmas.Bool.Decides.{nat_tests}
use Rattle.std.proofs.lemmas.Bool.{not-true}
use Rattle.mdb_proxies.specs.Tables.{is_fresh}
use Rattle.mdb_proxies.proofs.Charges.{fresh-by, place-none}
use Rattle.mdb_proxies.proofs.handing.ProxyState.refusal_by.Goals as goal

pub returns-then-contains_key : goal.returns-then-contains_key
returns-then-contains_key g c =
    let r = c.in-Ask.request in
    let b = c.args.self.now.books in
    let some : is_some (get nat_eq b.known r) ≡ true = sym c.contains_key.ensures ∙ c.if-contains_key.true in
    let known : is_fresh r b.asks.items ≡ false = not-true (is_fresh r b.asks.items) (sym (place-none r b.asks.items) ∙ ap is_some (sym (c.requires.sound.keeps.placed r)) ∙ some) in
    let there : nat_le (length c.args.self.now.shares.items) c.in-Ask.tenant ≡ false = grind (arith, nat_tests, c.if-tenant-len.false, c.len.ensures) in
    rw (c.in-Ask.is, there, known) refl

pub returns-else-contains_key : goal.returns-else-contains_key
returns-else-contains_key g c =
    let r = c.in-Ask.request in
    let b = c.args.self.now.books in
    let fresh : is_fresh r b.asks.items ≡ true = fresh-by r b.asks.items (get nat_eq b.known r) (c.requires.sound.keeps.placed r) (sym c.contains_key.ensures ∙ c.if-contains_key.false) in
    let there : nat_le (length c.args.self.now.shares.items) c.in-Ask.tenant ≡ false = grind (arith, nat_tests, c.if-tenant-len.false, c.len.ensures) in
    rw (c.in-Ask.is, there, fresh) refl
