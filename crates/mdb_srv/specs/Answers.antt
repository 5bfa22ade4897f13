-- What an answer is beside the definition of what it should be: a value, or the text of a refusal.
use Rattle.std.specs.Prelude.{◌≡◌, ℕ, List, Result, Ok, Err}
use Rattle.mdb_base.specs.Outside.{Rose}
use Rattle.mdb_srv.specs.declared.error.SrvError.{SrvError}
use Rattle.mdb_srv.specs.declared.error.SrvError.TheVariants.{DnsResolve, ResolverFault, OutOfMemory}
use Rattle.mdb_srv.specs.declared.resolver.LookupError.{LookupError}
use Rattle.mdb_srv.specs.declared.resolver.LookupError.TheVariants.{Failed, OutOfMemory as no_memory}

-- a refusal with this text, or out of memory
abbrev pub Says : List ℕ → SrvError → Type 0
Says text (DnsResolve said) = said ≡ text
Says text ResolverFault = ⊥
Says text OutOfMemory = Unit {0}

-- a refusal with the text that the definition gives, or out of memory
abbrev pub Refuses : {T : Type 0} → Result T (List ℕ) → SrvError → Type 0
Refuses defined (DnsResolve said) = defined ≡ Err said
Refuses defined ResolverFault = ⊥
Refuses defined OutOfMemory = Unit {0}

-- a refusal with the text that the definition gives, out of memory, or a fault of the resolver
abbrev pub RefusesOrFails : {T : Type 0} → Result T (List ℕ) → SrvError → Type 0
RefusesOrFails defined (DnsResolve said) = defined ≡ Err said
RefusesOrFails defined ResolverFault = Unit {0}
RefusesOrFails defined OutOfMemory = Unit {0}

-- a lookup fails only where the count of faults rose, and any other answer leaves the count as it was
abbrev pub LookupCause : {T : Type 0} → ℕ → ℕ → Result T LookupError → Type 0
LookupCause before now (Ok found) = now ≡ before
LookupCause before now (Err Failed) = Rose before now
LookupCause before now (Err no_memory) = now ≡ before

-- a resolver fault comes only where the count of faults rose, and any other answer leaves the count as it was
abbrev pub FaultCause : {T : Type 0} → ℕ → ℕ → Result T SrvError → Type 0
FaultCause before now (Ok value) = now ≡ before
FaultCause before now (Err (DnsResolve said)) = now ≡ before
FaultCause before now (Err ResolverFault) = Rose before now
FaultCause before now (Err OutOfMemory) = now ≡ before

-- what a failed lookup comes to
abbrev pub fault_of : LookupError → SrvError
fault_of Failed = ResolverFault
fault_of no_memory = OutOfMemory

-- a fact that holds where the records are refused
abbrev pub OnRefusal : Type 0 → SrvError → Type 0
OnRefusal fact (DnsResolve said) = fact
OnRefusal fact ResolverFault = Unit {0}
OnRefusal fact OutOfMemory = Unit {0}
