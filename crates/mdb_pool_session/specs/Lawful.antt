-- What each entry of a pool that stands alone keeps.
use Rattle.std.specs.Prelude.{ℕ, ◌≡◌, List, [], ◌∷◌, ⊤}
use Rattle.mdb_base.specs.declared.address.ServerAddress.{ServerAddress}
use Rattle.mdb_log.specs.declared.log.Entry.{Entry}
use Rattle.mdb_log.specs.declared.options.PoolOptions.{PoolOptions}
use Rattle.mdb_log.specs.Fresh.{AllGrantFresh}
use Rattle.mdb_log.specs.History.{Item, of_pool, open_pool, opening, with_act, with_answer}
use Rattle.mdb_log.specs.Legal.{IsFairAnswer, NoneLeftWaiting, OnePlace}
use Rattle.mdb_log.specs.Limits.{WithinLimits}
use Rattle.mdb_pool_laws.specs.CloseCauses.{AllCaused}
use Rattle.mdb_pool_laws.specs.Dues.{PoolDue}
use Rattle.mdb_pool_laws.specs.Searches.{AllGrantLast}
use Rattle.mdb_pool_rules.specs.Answer.{entry_for}
use Rattle.mdb_sound.specs.Sound.{Sound}
use Rattle.mdb_pool_session.specs.PoolLogs.{PoolLog, items}

-- An entry of the pool p at the address a after the history h: its reply and its facts are the answer to its step; who comes first is granted a connection first, the one that came back last, and never
-- a stale or an idle one; each close has a cause, and what has to be closed is; and after it every connection has one place, and nobody waits who could be granted one.
pub record IsLawful (p : ℕ) (a : ServerAddress) (o : PoolOptions) (h : List Item) (e : Entry) : Type 0 where
  pub answer : e ≡ entry_for p a o e.seat h e.step
  pub fair : IsFairAnswer p h e.step e.reply e.facts
  pub newest : AllGrantLast p e.step.moment (with_act p h e.step) e.facts
  pub fresh : AllGrantFresh p o e.step.moment (with_act p h e.step) e.facts
  pub caused : AllCaused p o (open_pool h) e.step.moment e.step.act (with_act p h e.step) e.facts
  pub due : PoolDue p o h e.step e.reply e.facts
  pub one_place : OnePlace (of_pool p (with_answer e.step e.reply e.facts h))
  pub none_left : NoneLeftWaiting o (of_pool p (with_answer e.step e.reply e.facts h))

-- so is each of the entries, one after another
abbrev pub AreLawful : ℕ → ServerAddress → PoolOptions → List Item → List Entry → Type 0
AreLawful p a o h [] = ⊤
AreLawful p a o h (e ∷ entries) = IsLawful p a o h e × AreLawful p a o (with_answer e.step e.reply e.facts h) entries

-- The log of a pool is lawful: so is each of its entries from the making of the pool on, nobody is left waiting after it, the pool was within its limits at every moment, and its history is sound.
pub record IsLawfulLog (l : PoolLog) : Type 0 where
  pub entries : AreLawful l.number l.address l.options (opening l.number l.address l.options) l.entries
  pub none_left : NoneLeftWaiting l.options (items l)
  pub within : WithinLimits l.options (items l)
  pub sound : Sound (items l)
