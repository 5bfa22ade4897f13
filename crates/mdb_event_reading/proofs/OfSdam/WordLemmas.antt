-- Words of events: the bytes that they lack, and what stands round the slash of a topology's type.
use Rattle.std.proofs.Common.{◌≡◌, ℕ, ℤ, ◌<◌, ◌^◌, true, false, Bool, List, ◌++◌, Option, Some, None, IfSome, pos, negsuc, int_le, FitsSigned, refl, sym, ap, ◌∙◌, arith, decimal, codes}
use Rattle.std.specs.Prelude.{bytes_eq}
use Rattle.std.specs.Int.{w64}
use Rattle.std.specs.Fmt.{signed_decimal}
use Rattle.std.proofs.lemmas.Slice.Eq.{bytes_eq-Decides}
use Rattle.mdb_base.specs.AddressReading.{until, beyond}
use Rattle.mdb_base.proofs.AddressAgain.{rest_cons, word_cut}
use Rattle.mdb_describe.specs.InfoText.{type_name}
use Rattle.mdb_events.specs.Words.{signed_or_dash, truth}
use Rattle.mdb_hello.specs.declared.server_type.ServerType.{ServerType}
use Rattle.mdb_hello.specs.declared.server_type.ServerType.TheVariants as server
use Rattle.mdb_srv.specs.Polling.{topology_name}
use Rattle.mdb_srv.specs.declared.topology_type.TopologyType.{TopologyType}
use Rattle.mdb_srv.specs.declared.topology_type.TopologyType.TheVariants as topology
use Rattle.mdb_parts.specs.Reading.{lacks}
use Rattle.mdb_parts.proofs.CommaLemmas.{lacks_append}
use Rattle.mdb_parts.proofs.TextLemmas.{decimal_lacks, signed_lacks}
use Rattle.mdb_event_reading.specs.SdamTexts.{kind_text, IsServerId}

pub type_lacks : (kind : ServerType) → lacks 32 (type_name kind) ≡ true
type_lacks server.Standalone = refl
type_lacks server.Mongos = refl
type_lacks server.RsPrimary = refl
type_lacks server.RsSecondary = refl
type_lacks server.RsArbiter = refl
type_lacks server.RsOther = refl
type_lacks server.RsGhost = refl
type_lacks server.LoadBalancer = refl
type_lacks server.Unknown = refl

pub truth_lacks : (b : Bool) → lacks 32 (truth b) ≡ true
truth_lacks true = refl
truth_lacks false = refl

pub server_lacks : (o : Option ℤ) → IfSome o IsServerId → lacks 32 (signed_or_dash o) ≡ true
server_lacks None h = refl
server_lacks (Some z) h = signed_lacks 32 z (omega arith) h.0

pub ruleset words_lack = (truth_lacks, server_lacks)

-- topologies

pub kind_lacks : (kind : TopologyType) (n : ℕ) → n < 2 ^ 64 → lacks 32 (kind_text kind n) ≡ true
kind_lacks kind n lt = lacks_append 32 (topology_name kind) (codes "/" ++ decimal n) (own kind) (decimal_lacks 32 n (omega arith) lt)
  where
    own : (k : TopologyType) → lacks 32 (topology_name k) ≡ true
    own topology.Unknown = refl
    own topology.Single = refl
    own topology.Sharded = refl
    own topology.ReplicaSetNoPrimary = refl
    own topology.ReplicaSetWithPrimary = refl
    own topology.LoadBalanced = refl

kind_cut : (kind : TopologyType) (n : ℕ) → (until 47 (kind_text kind n) ≡ topology_name kind) × (beyond 47 (kind_text kind n) ≡ codes "/" ++ decimal n)
kind_cut kind n = word_cut 47 (topology_name kind) (codes "/" ++ decimal n) (own kind) (rest_cons 47 (decimal n))
  where
    own : (k : TopologyType) → lacks 47 (topology_name k) ≡ true
    own topology.Unknown = refl
    own topology.Single = refl
    own topology.Sharded = refl
    own topology.ReplicaSetNoPrimary = refl
    own topology.ReplicaSetWithPrimary = refl
    own topology.LoadBalanced = refl

pub kind_front : (word front : List ℕ) (kind : TopologyType) (n : ℕ) → front ≡ until 47 word → word ≡ kind_text kind n → front ≡ topology_name kind
kind_front word front kind n f e = f ∙ ap (until 47) e ∙ (kind_cut kind n).0

pub kind_back : (word back : List ℕ) (kind : TopologyType) (n : ℕ) → back ≡ beyond 47 word → word ≡ kind_text kind n → back ≡ codes "/" ++ decimal n
kind_back word back kind n b e = b ∙ ap (beyond 47) e ∙ (kind_cut kind n).1

-- a dash is no number

signed_no_dash : (z : ℤ) → IsServerId z → signed_decimal z ≡ codes "-" → ⊥
signed_no_dash z h e = no_dash z h.1 h.0 e
  where
    no_dash : (z : ℤ) → int_le (pos 0) z ≡ true → FitsSigned w64 z → signed_decimal z ≡ codes "-" → ⊥
    no_dash (pos n) above fits e = let h = sym (decimal_lacks 45 n (omega arith) (omega (arith, fits))) ∙ ap (lacks 45) e in cc
    no_dash (negsuc n) above fits e = absurd (cc)

pub signed_dash : (o : Option ℤ) (word : List ℕ) → IfSome o IsServerId → word ≡ signed_or_dash o → true ≡ bytes_eq word (codes "-") → None ≡ o
signed_dash None word h e d = refl
signed_dash (Some z) word h e d = absurd (signed_no_dash z h (sym e ∙ (bytes_eq-Decides word (codes "-")).0 (sym d)))
