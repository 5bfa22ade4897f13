-- The log of a driver of which the oldest entries were handed out.
use Rattle.std.specs.Prelude.{◌≡◌, ◌≤◌, ℕ, suc, zero, Bool, true, false, IsTrue, ◌&&◌, if◌then◌else◌, List, [], ◌∷◌, drop, Some, slice_get}
use Rattle.mdb_log.specs.declared.log.Entry.{Entry}
use Rattle.mdb_log.specs.declared.step.Act.{Act}
use Rattle.mdb_log.specs.declared.step.Act.TheVariants.{Stop}
use Rattle.mdb_log.specs.declared.reply.Reply.TheVariants.{Done}
use Rattle.mdb_log.specs.Driver.{is_done}
use Rattle.mdb_journal.specs.News.{is_news}

-- all entries, oldest first, and how many of them were handed out
pub record Entries : Type 0 where
  pub all : List Entry
  pub gone : ℕ

-- The entries that were not handed out.
abbrev pub kept : Entries → List Entry
kept j = drop j.gone j.all

abbrev pub stops_by : Act → Bool
stops_by Stop = true
stops_by _ = false

-- An entry stops the driver where its step was a stop that was done.
abbrev pub stops : Entry → Bool
stops e = stops_by e.step.act && is_done e.reply

-- one more, where the later entries go up to the last news at this count, or else where the entry itself is news
abbrev pub news_with : Bool → ℕ → ℕ
news_with is zero = if is then 1 else 0
news_with is (suc n) = suc (suc n)

-- How many entries there are up to the last one that is news, 0 where none is.
abbrev pub news_end : List Entry → ℕ
news_end [] = 0
news_end (e ∷ es) = news_with (is_news e) (news_end es)

-- How many entries there are up to the last one that is news, where this entry is the last of so many and before it there were these.
abbrev pub news_then : Entry → ℕ → ℕ → ℕ
news_then e count before = if is_news e then count else before

-- An entry of the log, no earlier than this one, is news.
abbrev pub HasNews : ℕ → List Entry → Type 0
HasNews from log = (k : ℕ) × (e : Entry) × (from ≤ k) × (slice_get log k ≡ Some e) × IsTrue (is_news e)

-- An entry of the log stops the driver.
abbrev pub HasStopped : List Entry → Type 0
HasStopped log = (k : ℕ) × (e : Entry) × (slice_get log k ≡ Some e) × (e.step.act ≡ Stop) × (e.reply ≡ Done)
