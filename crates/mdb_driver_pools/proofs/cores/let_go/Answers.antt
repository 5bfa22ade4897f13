use Rattle.std.proofs.Common.{◌≡◌, length, Some, refl, sym, ◌∙◌}
use Rattle.std.specs.Prelude.{slice_get}
use Rattle.std.proofs.lemmas.Option.{slice_get_read}
use Rattle.mdb_driver_pools.proofs.InMemory.ChangedPools.{left-kept, left-spent}
use Rattle.mdb_driver_pools.proofs.cores.let_go.Goals as goal

pub returns-then-not-is_spent-clause-items : goal.returns-then-not-is_spent-clause-items
returns-then-not-is_spent-clause-items c =
    let xs = c.args.living.now.items in
    let x = c.index.result.now in
    let at : slice_get xs c.args.index ≡ Some x = slice_get_read xs (length xs) c.args.index x refl c.requires c.index.ensures in
    sym (left-kept xs c.args.index x at (sym c.is_spent.ensures ∙ c.if-not-is_spent.true))

pub returns-clause-items : goal.returns-clause-items
returns-clause-items c =
    let xs = c.args.living.now.items in
    let x = c.index.result.now in
    let at : slice_get xs c.args.index ≡ Some x = slice_get_read xs (length xs) c.args.index x refl c.requires c.index.ensures in
    c.remove-gone.ensures.items ∙ sym (left-spent xs c.args.index x at (sym c.is_spent.ensures ∙ c.if-not-is_spent.false))
