use Rattle.mdb_slots.proofs.Chained.{chain-none, chain-some, chain-numbers}
use Rattle.mdb_slots.proofs.bucket.Buckets.chain_slot.Goals as goal

pub returns-in-Some-clause-index : goal.returns-in-Some-clause-index
returns-in-Some-clause-index c =
    let e = rw (c.entry_of.ensures, c.as_slice.ensures) at c.in-Some.is in
    rw (c.put_first.ensures.heads, c.put_first.ensures.entries) (chain-some _ _ c.args.slot c.requires.single c.requires.index c.requires.within c.in-Some.number c.requires.width e)

pub returns-in-Some-clause-numbers : goal.returns-in-Some-clause-numbers
returns-in-Some-clause-numbers c =
    let e = rw (c.entry_of.ensures, c.as_slice.ensures) at c.in-Some.is in
    rw c.put_first.ensures.entries (chain-numbers _ _ c.args.slot c.requires.single c.requires.index c.requires.within c.in-Some.number _ e)

pub returns-in-None-clause-index : goal.returns-in-None-clause-index
returns-in-None-clause-index c =
    let e = rw (c.entry_of.ensures, c.as_slice.ensures) at c.in-None.is in
    chain-none _ _ c.args.slot c.requires.single c.requires.index c.requires.within e
