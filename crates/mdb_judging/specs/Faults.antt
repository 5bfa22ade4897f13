-- What is wrong with an entry after legal ones: the first cause that applies.
use Rattle.std.specs.Prelude.{◌≡◌, false, true, List, [], ◌∷◌, ◌++◌, ⊤}
use Rattle.mdb_log.specs.declared.log.Entry.{Entry}
use Rattle.mdb_log.specs.declared.step.Act.{Act}
use Rattle.mdb_log.specs.declared.step.Act.TheVariants.{Open}
use Rattle.mdb_log.specs.declared.options.PoolOptions.{PoolOptions}
use Rattle.mdb_log.specs.History.{Item}
use Rattle.mdb_log.specs.Opening.{is_opening, pool_options}
use Rattle.mdb_log.specs.PlainLegal.{with_entry, opens_seeds, is_refused, IsFairAnswer, OnePlace, NoneLeftWaiting}
use Rattle.mdb_judging.specs.declared.why.Why.{Why}
use Rattle.mdb_judging.specs.declared.why.Why.TheVariants.{Spelling, Opening, Grant, Place, Waiting}

-- the history of entries, the last of them newest
abbrev pub after_entries : List Item → List Entry → List Item
after_entries h [] = h
after_entries h (e ∷ entries) = after_entries (with_entry h e) entries

-- The first entry is accepted, and opens exactly the seeds.
abbrev pub OpensWell : Act → Entry → Type 0
OpensWell (Open o) e = (is_refused e.reply ≡ false) × (opens_seeds o (with_entry [] e) ≡ true)
OpensWell _ e = ⊥

-- an entry after these: the first of all opens well
abbrev pub OpensRight : List Entry → Entry → Type 0
OpensRight [] e = OpensWell e.step.act e
OpensRight _ e = ⊤

-- an entry after these: only the first of all opens
abbrev pub OpensOnce : List Entry → Entry → Type 0
OpensOnce [] e = ⊤
OpensOnce _ e = is_opening e.step.act ≡ false

-- the options that the act opens with
abbrev pub OpensWith : Act → PoolOptions → Type 0
OpensWith (Open options) o = o ≡ pool_options options
OpensWith _ o = ⊥

-- the options that the first of these entries opens with
abbrev pub HasOptions : List Entry → PoolOptions → Type 0
HasOptions [] o = ⊥
HasOptions (e ∷ entries) o = OpensWith e.step.act o

-- some grant of it is not to who comes first
pub record IsGrantFault (before : List Entry) (e : Entry) : Type 0 where
  pub opens : OpensRight before e
  pub unfair : IsFairAnswer (after_entries [] before) e.step e.reply e.facts → ⊥

-- a connection has not its one place after it
pub record IsPlaceFault (before : List Entry) (e : Entry) : Type 0 where
  pub opens : OpensRight before e
  pub fair : IsFairAnswer (after_entries [] before) e.step e.reply e.facts
  pub misplaced : OnePlace (with_entry (after_entries [] before) e) → ⊥

-- somebody waits after it who could be granted a connection
pub record IsWaitingFault (before : List Entry) (e : Entry) : Type 0 where
  pub opens : OpensRight before e
  pub fair : IsFairAnswer (after_entries [] before) e.step e.reply e.facts
  pub placed : OnePlace (with_entry (after_entries [] before) e)
  pub options : PoolOptions
  pub own : HasOptions (before ++ e ∷ []) options
  pub left : NoneLeftWaiting options (with_entry (after_entries [] before) e) → ⊥

-- The entry is at fault after these entries, for this cause.
abbrev pub IsEntryFault : Why → List Entry → Entry → Type 0
IsEntryFault Spelling before e = ⊥
IsEntryFault Opening before e = OpensRight before e → ⊥
IsEntryFault Grant before e = IsGrantFault before e
IsEntryFault Place before e = IsPlaceFault before e
IsEntryFault Waiting before e = IsWaitingFault before e
