-- What an auditor is between two facts of an entry.
use Rattle.std.specs.Prelude.{ℕ, ◌≡◌, Bool, true, false, List}
use Rattle.mdb_log.specs.declared.options.PoolOptions.{PoolOptions}
use Rattle.mdb_log.specs.History.{Item, with_facts}
use Rattle.mdb_log.specs.PlainLegal.{AllFirstCome}
use Rattle.mdb_entries.specs.declared.shown.ShownFact.{ShownFact}
use Rattle.mdb_judging.specs.declared.auditor.Auditor.{Auditor}
use Rattle.mdb_judging.specs.Shown.{facts_of}
use Rattle.mdb_judging.specs.Taking.{Start, Reaches}

-- all is fair where the rest is, unless something was unfair before
abbrev pub Fares : Bool → Type 0 → Type 0 → Type 0
Fares true All Rest = (All → Rest) × (Rest → All)
Fares false All Rest = All → ⊥

-- the auditor stands for a history to which the rest of the facts adds what all of them add to h
pub record Between (are_fair : Bool) (o : PoolOptions) (m : ℕ) (h : List Item) (start : Start) (facts rest : List ShownFact) (now : Auditor) : Type 0 where
  pub history : List Item
  pub reaches : Reaches o history start now
  pub ends : with_facts m (facts_of facts) h ≡ with_facts m (facts_of rest) history
  pub fair : Fares are_fair (AllFirstCome m h (facts_of facts)) (AllFirstCome m history (facts_of rest))

-- the auditor took the facts before the rest
pub record TookSoFar (balanced are_fair : Bool) (facts rest : List ShownFact) (old now : Auditor) : Type 0 where
  pub options : now.options ≡ old.options
  pub between : (o : PoolOptions) (m : ℕ) (h : List Item) (start : Start) → o.load_balanced ≡ balanced → Reaches o h start old → Between are_fair o m h start facts rest now
