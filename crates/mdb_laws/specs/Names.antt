-- Which connections are named by the two events that are no items of a pool: ready, and checked out. The items of a pool are newest first.
use Rattle.std.specs.Prelude.{ℕ, ◌≡◌, Bool, true, false, ◌==◌, List, [], ◌∷◌, ⊤}
use Rattle.mdb_events.specs.declared.cmap.CmapEvent.TheVariants.{ConnectionReady, ConnectionCheckedOut}
use Rattle.mdb_events.specs.declared.fact.Fact.{Fact}
use Rattle.mdb_events.specs.declared.fact.Fact.TheVariants.{Pool}
use Rattle.mdb_log.specs.declared.log.Entry.{Entry}
use Rattle.mdb_log.specs.declared.step.Act.{Act}
use Rattle.mdb_log.specs.declared.step.Act.TheVariants.{Established}
use Rattle.mdb_log.specs.declared.step.Established.{Established as Establishment}
use Rattle.mdb_log.specs.declared.step.Step.{Step}
use Rattle.mdb_log.specs.History.{Item, PoolItem, established, granted, after_fact, with_act, with_answer}
use Rattle.mdb_log.specs.Connections.{is_live}

-- the last item grants or establishes the connection
abbrev pub just_given : List PoolItem → ℕ → Bool
just_given (granted r d ∷ xs) c = d == c
just_given (established d how m ∷ xs) c = d == c
just_given _ c = false

-- the act establishes the connection of the pool p, and no fact of its answer came before
pub record IsReadyNow (p : ℕ) (act : Act) (first : Bool) (c : ℕ) : Type 0 where
  pub at_first : first ≡ true
  pub how : Establishment
  pub establishes : act ≡ Established p c how

-- the connection was granted or established right before, and lives
pub record IsOutNow (xs : List PoolItem) (c : ℕ) : Type 0 where
  pub given : just_given xs c ≡ true
  pub lives : is_live xs c ≡ true

module _ (p m : ℕ) (act : Act) where
  -- what a fact names of the pool p, in the answer to the act at the moment m: xs are the pool's items before it, and first tells that it is the first fact
  abbrev pub NamesSo : Bool → List PoolItem → Fact → Type 0
  NamesSo first xs (Pool q (ConnectionReady e)) = q ≡ p → IsReadyNow p act first e.connection_id
  NamesSo first xs (Pool q (ConnectionCheckedOut e)) = q ≡ p → IsOutNow xs e.connection_id
  NamesSo first xs _ = ⊤

  -- each of the facts, where those before it have come
  abbrev pub AllNameSo : Bool → List PoolItem → List Fact → Type 0
  AllNameSo first xs [] = ⊤
  AllNameSo first xs (f ∷ fs) = NamesSo first xs f × AllNameSo false (after_fact p m f xs) fs

-- so do the facts of each pool in the answer to a step after the history
abbrev pub AnswerNames : List Item → Step → List Fact → Type 0
AnswerNames h step facts = (p : ℕ) → AllNameSo p step.moment step.act true (with_act p h step) facts

-- and in each of the entries, one after another
abbrev pub EntriesName : List Item → List Entry → Type 0
EntriesName h [] = ⊤
EntriesName h (entry ∷ entries) = AnswerNames h entry.step entry.facts × EntriesName (with_answer entry.step entry.reply entry.facts h) entries
