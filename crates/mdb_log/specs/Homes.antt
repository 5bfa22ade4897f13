-- The pools that a history opened, and which of them an act concerns.
use Rattle.std.specs.Prelude.{ℕ, Bool, false, not, ◌==◌, is_some, List, [], ◌∷◌, ◌++◌}
use Rattle.std.specs.List.{list_any}
use Rattle.mdb_base.specs.declared.address.ServerAddress.{ServerAddress}
use Rattle.mdb_events.specs.declared.fact.Fact.TheVariants.{Opened}
use Rattle.mdb_log.specs.declared.step.Act.{Act}
use Rattle.mdb_log.specs.declared.step.Act.TheVariants.{Request, Warm, Maintain, Expire, Collect, Claim, GiveUp, Established, Return, Pin, Replicate, Take, Unpin}
use Rattle.mdb_log.specs.History.{Item, made, of_pool, open_pool, is_number, has_asked}
use Rattle.mdb_log.specs.Connections.{pending_list, holding}
use Rattle.mdb_log.specs.Requests.{is_claimed}

-- the number and the address of a pool
pub record Home : Type 0 where
  pub number : ℕ
  pub address : ServerAddress

-- the pools that were opened, in order
abbrev pub homes : List Item → List Home
homes [] = []
homes (made m (Opened p a) ∷ h) = homes h ++ record { number = p; address = a } ∷ []
homes (_ ∷ h) = homes h

-- no claim was told of some pending connection of the pool
abbrev pub has_job : List Item → ℕ → Bool
has_job h p = list_any (λ c. not (is_claimed h p c)) (pending_list (of_pool p h))

-- The act concerns the pool: it is open at the address, was asked by the request, has a job, is named, or the party holds a connection of it.
abbrev pub concerns : List Item → Act → ℕ → Bool
concerns h (Request r a) p = is_number (open_pool h a) p
concerns h (Warm r a) p = is_number (open_pool h a) p
concerns h (Maintain a) p = is_number (open_pool h a) p
concerns h (Expire a) p = is_number (open_pool h a) p
concerns h (Collect r) p = has_asked (of_pool p h) r
concerns h (GiveUp r) p = has_asked (of_pool p h) r
concerns h Claim p = has_job h p
concerns h (Established q c how) p = q == p
concerns h (Return r used) p = is_some (holding (of_pool p h) r)
concerns h (Pin r) p = is_some (holding (of_pool p h) r)
concerns h (Replicate q c) p = q == p
concerns h (Take r q c) p = q == p
concerns h (Unpin q c) p = q == p
concerns h _ p = false
