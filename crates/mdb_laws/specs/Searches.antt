-- What the search for a caller's connection finds in the pools of a driver.
use Rattle.std.specs.Prelude.{ℕ, List, [], ◌∷◌, ⊤}
use Rattle.mdb_base.specs.declared.options.Options.{Options}
use Rattle.mdb_events.specs.declared.fact.Fact.{Fact}
use Rattle.mdb_events.specs.declared.fact.Fact.TheVariants.{Granted}
use Rattle.mdb_log.specs.declared.step.Step.{Step}
use Rattle.mdb_log.specs.Answer.{Answer}
use Rattle.mdb_log.specs.History.{Item, did, made, of_pool}
use Rattle.mdb_pool_laws.specs.Searches.{GetsLast}

-- the party of a grant gets the available connection of the pool that came back last, or another one where none is available there
abbrev pub LastGrant : List Item → Fact → Type 0
LastGrant h (Granted r p c) = GetsLast (of_pool p h) r c
LastGrant h _ = ⊤

-- each of the facts, where those before it have come
abbrev pub AllLastGrants : ℕ → List Item → List Fact → Type 0
AllLastGrants m h [] = ⊤
AllLastGrants m h (fact ∷ facts) = LastGrant h fact × AllLastGrants m (made m fact ∷ h) facts

-- so does each grant of an answer
abbrev pub AnswerGrantsLast : Options → List Item → Step → Answer → Type 0
AnswerGrantsLast o h step a = AllLastGrants step.moment (did step a.reply ∷ h) a.facts
