-- Which of the pools that a history opened an act of a driver concerns.
use Rattle.std.specs.Prelude.{ℕ, Bool, ◌==◌, is_some, List, ◌∷◌, find, Option}
use Rattle.mdb_base.specs.declared.address.ServerAddress.{ServerAddress}
use Rattle.mdb_log.specs.declared.step.Step.{Step}
use Rattle.mdb_log.specs.declared.step.Act.{Act}
use Rattle.mdb_log.specs.declared.step.Act.TheVariants.{Failed, Error}
use Rattle.mdb_log.specs.declared.reply.Reply.TheVariants.{Done}
use Rattle.mdb_log.specs.History.{Item, did, of_pool, open_pool, is_number}
use Rattle.mdb_log.specs.Connections.{holding}
use Rattle.mdb_log.specs.Homes.{Home, homes, concerns as concerns_by}

-- the pool with the number
abbrev pub home_at : List Item → ℕ → Option Home
home_at h p = find (λ x. x.number == p) (homes h)

-- the pool is the one that is open at the address
abbrev pub is_here : List Item → ServerAddress → ℕ → Bool
is_here h a p = is_number (open_pool h a) p

-- The history with an accepted step, before its facts. Its reply is known after them, and none of them reads it.
abbrev pub begun : List Item → Step → List Item
begun h step = did step Done ∷ h

-- A failed connection names its pool, and an error is of the pool of which the party holds a connection; other acts concern a pool as they say.
abbrev pub concerns : List Item → Act → ℕ → Bool
concerns h (Failed q c at error) p = q == p
concerns h (Error r error) p = is_some (holding (of_pool p h) r)
concerns h act p = concerns_by h act p

-- the first pool, by number, that the act concerns
abbrev pub home_of : List Item → Act → Option Home
home_of h act = find (λ x. concerns h act x.number) (homes h)
