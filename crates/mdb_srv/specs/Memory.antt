-- What a resolver in memory holds and answers.
use Rattle.std.specs.Prelude.{◌≡◌, ℕ, ◌+◌, ◌-◌, ◌^◌, ◌==◌, min, nat_eq, List, [], ◌∷◌, Bool, true, false, Result, Ok, Err, if◌then◌else◌}
use Rattle.std.specs.List.{list_any}
use Rattle.std.specs.Cmp.Lexicographic.{pointwise}
use Rattle.mdb_srv.specs.declared.resolver.LookupError.{LookupError}
use Rattle.mdb_srv.specs.declared.resolver.LookupError.TheVariants.{Failed, OutOfMemory as no_memory}
use Rattle.mdb_srv.specs.declared.resolver.SrvRecord.{SrvRecord}
use Rattle.mdb_srv.specs.declared.resolver.TxtRecord.{TxtRecord}
use Rattle.mdb_srv.specs.declared.memory_resolver.MemRecords.{MemRecords}
use Rattle.mdb_srv.specs.declared.memory_resolver.MemResolver.{MemResolver}

-- the SRV records of the first entry with this name
abbrev pub srv_in : List MemRecords → List ℕ → List SrvRecord
srv_in [] query = []
srv_in (held ∷ more) query = if pointwise nat_eq held.query query then held.srv else srv_in more query

-- the TXT records of the first entry with this name
abbrev pub txt_in : List MemRecords → List ℕ → List TxtRecord
txt_in [] query = []
txt_in (held ∷ more) query = if pointwise nat_eq held.query query then held.txt else txt_in more query

abbrev pub srv_held : MemResolver → List ℕ → List SrvRecord
srv_held r query = srv_in r.answers.items query

abbrev pub txt_held : MemResolver → List ℕ → List TxtRecord
txt_held r query = txt_in r.answers.items query

-- how often it failed
abbrev pub resolver_faults : MemResolver → ℕ
resolver_faults r = r.faults

-- the numbers of the lookups that fail
abbrev pub listed_lookups : MemResolver → List ℕ
listed_lookups r = r.fails.items

-- how many lookups were made
abbrev pub lookup_count : MemResolver → ℕ
lookup_count r = r.calls

-- the number of the next lookup, which ends at the greatest number of 64 bits
abbrev pub next_lookup : MemResolver → ℕ
next_lookup r = min (lookup_count r + 1) (2 ^ 64 - 1)

-- the next lookup fails: its number is listed
abbrev pub fails_next : MemResolver → Bool
fails_next r = list_any (λ number. number == next_lookup r) (listed_lookups r)

-- the resolver after one more lookup
abbrev pub counted : MemResolver → MemResolver
counted r = record r { calls = next_lookup r }

-- the resolver after one more lookup, which failed
abbrev pub failed : MemResolver → MemResolver
failed r = record r { calls = next_lookup r; faults = min (r.faults + 1) (2 ^ 64 - 1) }

-- A lookup whose number is listed fails, and any other gives what is held. Running out of memory changes nothing.
abbrev pub Moves : {T : Type 0} → T → MemResolver → Result T LookupError → MemResolver → Type 0
Moves held old (Ok found) new = (new ≡ counted old) × (fails_next old ≡ false) × (found ≡ held)
Moves held old (Err Failed) new = (new ≡ failed old) × (fails_next old ≡ true)
Moves held old (Err no_memory) new = new ≡ old
