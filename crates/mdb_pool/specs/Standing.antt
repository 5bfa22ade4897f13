-- When the state of a pool stands for a history.
use Rattle.std.specs.Prelude.{ℕ, ◌≡◌, Bool, true, if◌then◌else◌, ◌==◌, List, [], ◌∷◌, ◌++◌, Some, None, is_some, not, ◌&&◌, ◌||◌, take}
use Rattle.mdb_base.specs.declared.address.ServerAddress.{ServerAddress}
use Rattle.mdb_events.specs.declared.fact.Fact.{Fact}
use Rattle.mdb_log.specs.declared.step.Step.{Step}
use Rattle.mdb_log.specs.declared.log.Entry.{Entry}
use Rattle.mdb_log.specs.declared.step.Act.{Act}
use Rattle.mdb_log.specs.declared.reply.Reply.{Reply}
use Rattle.mdb_pool.specs.Core.{PoolCore}
use Rattle.mdb_log.specs.History.{Item, PoolItem, open_pool, last_moment, has_party, of_pool, after_facts, with_answer, with_entries, has_asked}
use Rattle.mdb_log.specs.Requests.{names_party, some_act, told, was_asked, leaves, is_open, is_claimed, requests, settles, is_job}
use Rattle.mdb_pool_rules.specs.Serving.{IsServed}
use Rattle.mdb_pool_rules.specs.Answer.{reply_of, all_facts, answer, entries_for}
use Rattle.mdb_log.specs.Legal.{NoneLeftWaiting, AllFirstCome, IsFairAnswer, IsLegal}
use Rattle.mdb_log.specs.Own.{AllOwn, shuts, IsAccepted}
use Rattle.mdb_log.specs.Limits.{WithinLimits}
use Rattle.mdb_log.specs.Fresh.{EntriesGrantFresh}
use Rattle.mdb_pool.specs.Kept.Matching.{Matches}
use Rattle.mdb_pool.specs.Kept.Values.{numbers_asked, request_at}
use Rattle.mdb_pool.specs.Now.{alone_now, claimed_now, is_closed_now, last_now, settled_now}
use Rattle.mdb_base.specs.Equality.{same_address}

-- The state of a pool is that of the pool's items.
pub record Fits (s : PoolCore) (xs : List PoolItem) : Type 0 where
  pub matches : Matches s xs
  pub asked : (r : ℕ) → has_party xs r ≡ is_some (request_at s r)
  pub order : requests xs ≡ numbers_asked s.kept.requests

-- The state of a pool stands for a history of its own.
pub record StandsFor (s : PoolCore) (h : List Item) : Type 0 where
  pub fits : Fits s (of_pool s.pool h)
  pub last_is : last_moment h ≡ last_now s
  pub open_here : (a : ServerAddress) → open_pool h a ≡ if same_address s.address a && not (is_closed_now s) then Some s.pool else None
  pub asked_once : (r : ℕ) → some_act names_party h r ≡ has_party (of_pool s.pool h) r
  pub requested : (r : ℕ) → some_act was_asked h r ≡ has_asked (of_pool s.pool h) r
  pub opens : (r : ℕ) → (told h r == 0) && not (some_act leaves h r) ≡ not (settled_now s r)
  pub claims : (c : ℕ) → is_claimed h s.pool c ≡ claimed_now s c

-- The state of a pool stands for some history of its own, as that of each pool does.
abbrev pub StandsForSome : PoolCore → Type 0
StandsForSome s = (h : List Item) × StandsFor s h

-- The state of a pool stands in a history, which may be a driver's and tell of other pools too: the state is that of the pool's items, and keeps of the pool's own requests which are open, and of its
-- connections which were claimed.
pub record StandsIn (s : PoolCore) (h : List Item) : Type 0 where
  pub fits : Fits s (of_pool s.pool h)
  pub opens : (r : ℕ) → has_asked (of_pool s.pool h) r ≡ true → is_open h r ≡ not (settled_now s r)
  pub claims : (c : ℕ) → is_claimed h s.pool c ≡ claimed_now s c

-- the number, the address and the options stay, and whether it stands alone
pub record SameHome (s t : PoolCore) : Type 0 where
  pub pool : t.pool ≡ s.pool
  pub address : t.address ≡ s.address
  pub options : t.options ≡ s.options
  pub alone : alone_now t ≡ alone_now s

-- an accepted act: xs is what the pool knew, and ys what it knows with the act; the reply and the facts are those of the definitions, and the state then fits them
pub record Accepts (s t : PoolCore) (before after : List Fact) (m : ℕ) (act : Act) (reply : Reply) (xs ys : List PoolItem) : Type 0 where
  pub facts_are : after ≡ before ++ all_facts s.pool s.address s.options m xs ys act
  pub reply_is : (claimed : ℕ → Bool) → ((c : ℕ) → claimed c ≡ claimed_now s c) → reply ≡ reply_of s.pool claimed xs (after_facts s.pool m (all_facts s.pool s.address s.options m xs ys act) ys) act
  pub accepted : IsAccepted reply
  pub settled : (r : ℕ) → settled_now t r ≡ settles act reply r || settled_now s r
  pub claimed : (c : ℕ) → claimed_now t c ≡ is_job s.pool reply c || claimed_now s c
  pub shut : is_closed_now t ≡ shuts (all_facts s.pool s.address s.options m xs ys act) || is_closed_now s
  pub fits : Fits t (after_facts s.pool m (all_facts s.pool s.address s.options m xs ys act) ys)
  pub fair : AllFirstCome s.pool m ys (all_facts s.pool s.address s.options m xs ys act)
  pub own : AllOwn s.pool m ys (all_facts s.pool s.address s.options m xs ys act)
  pub served : IsServed s.options (after_facts s.pool m (all_facts s.pool s.address s.options m xs ys act) ys)

-- the reply and the facts after the old ones are the answer, and the state then stands for the longer history
pub record Answers (s t : PoolCore) (before after : List Fact) (step : Step) (reply : Reply) (h : List Item) : Type 0 where
  pub reply_is : reply ≡ (answer s.pool s.address s.options h step).reply
  pub facts_are : after ≡ before ++ (answer s.pool s.address s.options h step).facts
  pub stands : StandsFor t (with_answer step (answer s.pool s.address s.options h step).reply (answer s.pool s.address s.options h step).facts h)
  pub fair : IsFairAnswer s.pool h step (answer s.pool s.address s.options h step).reply (answer s.pool s.address s.options h step).facts
  pub none_left : NoneLeftWaiting s.options (of_pool s.pool h) → NoneLeftWaiting s.options (of_pool s.pool (with_answer step (answer s.pool s.address s.options h step).reply (answer s.pool s.address s.options h step).facts h))

-- the log has one entry more, with the answer to the step, and the state stands for the longer history
pub record Logs (s t : PoolCore) (before after : List Entry) (seat : ℕ) (step : Step) (h : List Item) : Type 0 where
  pub entry : after ≡ before ++ record { seat = seat; step = step; reply = (answer s.pool s.address s.options h step).reply; facts = (answer s.pool s.address s.options h step).facts } ∷ []
  pub stands : StandsFor t (with_answer step (answer s.pool s.address s.options h step).reply (answer s.pool s.address s.options h step).facts h)
  pub fair : IsFairAnswer s.pool h step (answer s.pool s.address s.options h step).reply (answer s.pool s.address s.options h step).facts
  pub none_left : NoneLeftWaiting s.options (of_pool s.pool h) → NoneLeftWaiting s.options (of_pool s.pool (with_answer step (answer s.pool s.address s.options h step).reply (answer s.pool s.address s.options h step).facts h))

-- the log has the answer to each step more, in order and by the seat; these entries are legal, grant only fresh connections and keep the limits, and the state stands for them
pub record Runs (s t : PoolCore) (before after : List Entry) (seat : ℕ) (steps : List Step) (h : List Item) : Type 0 where
  pub entries : List Entry
  pub answers : entries ≡ entries_for s.pool s.address s.options seat h steps
  pub logged : after ≡ before ++ entries
  pub legal : IsLegal s.pool s.options h entries
  pub fresh : EntriesGrantFresh s.pool s.options h entries
  pub stands : StandsFor t (with_entries entries h)
  pub none_left : NoneLeftWaiting t.options (of_pool t.pool (with_entries entries h))
  pub within : WithinLimits s.options (of_pool s.pool h) → WithinLimits s.options (of_pool s.pool (with_entries entries h))

-- the first steps ran, and no more
abbrev pub RunsFront : PoolCore → PoolCore → List Entry → List Entry → ℕ → List Step → List Item → Type 0
RunsFront s t before after seat steps h = (n : ℕ) × Runs s t before after seat (take n steps) h
