-- Which item may come after which history of a driver: what every log keeps, by cases. The items are newest first.
use Rattle.std.specs.Prelude.{ℕ, ◌≡◌, Bool, true, false, ◌==◌, is_some, List, [], ◌∷◌, length, ⊤}
use Rattle.std.specs.List.{list_any}
use Rattle.mdb_base.specs.declared.address.ServerAddress.{ServerAddress}
use Rattle.mdb_events.specs.declared.fact.Fact.{Fact}
use Rattle.mdb_events.specs.declared.fact.Fact.TheVariants.{Opened, Pool, Granted, Ended, Raised}
use Rattle.mdb_log.specs.declared.step.Act.{Act}
use Rattle.mdb_log.specs.declared.step.Act.TheVariants.{Request, Warm, GiveUp, Established, Failed, Return, Pin, Replicate, Take, Unpin}
use Rattle.mdb_log.specs.History.{Item, did, made, of_pool, open_pool, given, has_asked}
use Rattle.mdb_log.specs.Homes.{homes}
use Rattle.mdb_log.specs.Requests.{some_act, names_party}
use Rattle.mdb_sound.specs.Sound.{Sound}

-- an Opened fact named the pool
abbrev pub was_opened : List Item → ℕ → Bool
was_opened h p = list_any (λ x. x.number == p) (homes h)

-- an accepted step made the party: it asked, or took a pinned connection
abbrev pub is_party : List Item → ℕ → Bool
is_party h r = some_act names_party h r

-- A request, a warm one too, is made by a new party, at an address where a pool is open.
pub record AsksAnew (h : List Item) (r : ℕ) (a : ServerAddress) : Type 0 where
  pub fresh : is_party h r ≡ false
  pub there : is_some (open_pool h a) ≡ true

-- A new party takes a connection of a pool that was opened.
pub record TakesAnew (h : List Item) (r p : ℕ) : Type 0 where
  pub fresh : is_party h r ≡ false
  pub there : was_opened h p ≡ true

-- The request asked some pool.
pub record IsRequest (h : List Item) (r : ℕ) : Type 0 where
  pub pool : ℕ
  pub asked : has_asked (of_pool pool h) r ≡ true

-- The party has a connection of some pool.
pub record HasOne (h : List Item) (r : ℕ) : Type 0 where
  pub pool : ℕ
  pub has : is_some (given (of_pool pool h) r) ≡ true

-- whom and what an accepted step names
abbrev pub StepNames : List Item → Act → Type 0
StepNames h (Request r a) = AsksAnew h r a
StepNames h (Warm r a) = AsksAnew h r a
StepNames h (Take r p c) = TakesAnew h r p
StepNames h (GiveUp r) = IsRequest h r
StepNames h (Return r used) = HasOne h r
StepNames h (Pin r) = HasOne h r
StepNames h (Established p c how) = was_opened h p ≡ true
StepNames h (Failed p c at error) = was_opened h p ≡ true
StepNames h (Replicate p c) = was_opened h p ≡ true
StepNames h (Unpin p c) = was_opened h p ≡ true
StepNames h _ = ⊤

-- whom and what a fact names; a pool is opened with the next number
abbrev pub FactNames : List Item → Fact → Type 0
FactNames h (Opened p a) = p ≡ length (homes h)
FactNames h (Pool p event) = was_opened h p ≡ true
FactNames h (Granted r p c) = was_opened h p ≡ true
FactNames h (Raised p service error) = was_opened h p ≡ true
FactNames h (Ended r end) = IsRequest h r
FactNames h _ = ⊤

abbrev pub Names : List Item → Item → Type 0
Names h (did step reply) = StepNames h step.act
Names h (made m fact) = FactNames h fact

-- The item may come after the history: in each pool it may come after what concerns that pool, and it names parties and pools that are there, or new ones.
pub record MayCome (h : List Item) (x : Item) : Type 0 where
  pub in_each : (p : ℕ) → Sound (of_pool p (x ∷ h))
  pub names : Names h x

-- Sound: each item may come after those before it.
abbrev pub SoundHistory : List Item → Type 0
SoundHistory [] = ⊤
SoundHistory (x ∷ h) = MayCome h x × SoundHistory h
