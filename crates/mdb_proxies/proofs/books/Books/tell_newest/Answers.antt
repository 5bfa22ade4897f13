use Rattle.std.proofs.Common.{◌≡◌, ℕ, Bool, ◌-◌, [], ◌∷◌, ◌++◌, length, length-append, arith, sym, ap, ◌∙◌}
use Rattle.mdb_proxies.specs.Telling.{told_if}
use Rattle.mdb_proxies.specs.Recording.{told_at}
use Rattle.mdb_proxies.proofs.Places.{told-last}
use Rattle.mdb_proxies.proofs.books.Books.tell_newest.Goals as goal

pub returns-clause-asks : goal.returns-clause-asks
returns-clause-asks c = λ xs x h.
    let at : c.len-count.result - 1 ≡ length xs = omega (arith, c.len-count.ensures, ap length h, length-append xs (x ∷ [])) in
    c.tell.ensures.asks ∙ ap (told_at (c.len-count.result - 1)) h ∙ ap (λ (k : ℕ). told_at k (xs ++ x ∷ [])) at ∙ told-last xs x ∙ ap (λ (b : Bool). xs ++ told_if b x ∷ []) (sym c.if-not-told.false)
