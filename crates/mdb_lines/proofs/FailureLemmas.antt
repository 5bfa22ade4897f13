-- The end of a line that tells why a connection failed.
use Rattle.std.proofs.Common.{◌≡◌, ℕ, true, List, ◌∷◌, ◌++◌, Option, Some, None, option_map, IfSome, refl, sym, ap, ◌∙◌, codes}
use Rattle.std.proofs.lemmas.List.{append_cancel_left}
use Rattle.mdb_base.specs.AddressReading.{until, beyond, after}
use Rattle.mdb_base.specs.ErrorText.{kind_text, labels_text, version_part, error_text}
use Rattle.mdb_base.specs.Spelling.{object_id}
use Rattle.mdb_base.specs.declared.error.Error.{Error}
use Rattle.mdb_base.specs.declared.error.ErrorKind.{ErrorKind}
use Rattle.mdb_base.specs.declared.error.ErrorKind.TheVariants as kind
use Rattle.mdb_base.specs.declared.object_id.ObjectId.{ObjectId}
use Rattle.mdb_base.proofs.Words.{after_here}
use Rattle.mdb_base.proofs.AddressAgain.{rest_cons, word_cut}
use Rattle.mdb_log.specs.declared.step.FailedAt.{FailedAt}
use Rattle.mdb_log.specs.declared.step.FailedAt.TheVariants as at
use Rattle.mdb_parts.specs.ErrorParts.{is_error, IsErrorOfTypes}
use Rattle.mdb_parts.specs.Parts.{part_text}
use Rattle.mdb_parts.specs.Reading.{Follows}
use Rattle.mdb_parts.specs.Types.{IsIdOfTypes}
use Rattle.mdb_parts.proofs.AddressLemmas.{id_lacks}
use Rattle.mdb_parts.proofs.Same.{word_same, id_same}
use Rattle.mdb_parts.proofs.SameErrors.{error_same}
use Rattle.mdb_lines.specs.Spelling.{failed_at_text}
use Rattle.mdb_lines.specs.Types.{IsFailedAtOfTypes}

some_same : {A : Type 0} (a b : A) → Some a ≡ Some b → a ≡ b
some_same a b h = cc

-- an error behind its space
abbrev pub tail : Error → List ℕ
tail e = codes " " ++ error_text e

-- a service, if it is known, and an error
abbrev pub served : Option ObjectId → Error → List ℕ
served o e = part_text (codes " sid=") (option_map object_id o) ++ tail e

pub failure_follows : (at : FailedAt) (rest : List ℕ) → Follows (failed_at_text at ++ rest)
failure_follows at.Pre rest = refl
failure_follows (at.Post o) rest = refl

no_service-word : (k : ErrorKind) (rest : List ℕ) → after (codes " sid=") (32 ∷ (kind_text k ++ rest)) ≡ None
unfolding after
no_service-word kind.Network rest = refl
no_service-word kind.NetworkTimeout rest = refl
no_service-word kind.Auth rest = refl
no_service-word kind.IncompatibleServer rest = refl
no_service-word (kind.Command code) rest = refl
no_service-word kind.Other rest = refl

no_service : (e : Error) → after (codes " sid=") (tail e) ≡ None
no_service e = no_service-word e.kind (labels_text e.labels ++ (version_part e.topology_version ++ (codes " msg=" ++ e.message)))

a_service : (id : ObjectId) (e : Error) → after (codes " sid=") (served (Some id) e) ≡ Some (object_id id ++ tail e)
a_service id e = after_here (codes " sid=") (object_id id ++ tail e)

pub service_missing : (o : Option ObjectId) (e : Error) (text : List ℕ) → None ≡ after (codes " sid=") text → text ≡ served o e → (None ≡ o) × (text ≡ tail e)
service_missing None e text none same = (refl, same)
service_missing (Some id) e text none same = let f = none ∙ ap (after (codes " sid=")) same ∙ a_service id e in absurd (cc)

-- what is read of a service that stands before an error
pub record Served (o : Option ObjectId) (e : Error) (front back : List ℕ) : Type 0 where
  pub id : ObjectId
  pub is : o ≡ Some id
  pub types : IsIdOfTypes id
  pub before : front ≡ object_id id
  pub behind : back ≡ tail e

pub service_found : (o : Option ObjectId) (e : Error) (text rest front back : List ℕ) → IfSome o IsIdOfTypes → Some rest ≡ after (codes " sid=") text → front ≡ until 32 rest → back ≡ beyond 32 rest → text ≡ served o e → Served o e front back
service_found None e text rest front back types found f b same = let g = found ∙ ap (after (codes " sid=")) same ∙ no_service e in absurd (cc)
service_found (Some id) e text rest front back types found f b same =
    let inner : rest ≡ object_id id ++ tail e = some_same rest (object_id id ++ tail e) (found ∙ ap (after (codes " sid=")) same ∙ a_service id e) in
    let p = word_cut 32 (object_id id) (tail e) (id_lacks id) (rest_cons 32 (error_text e)) in
    record { id = id; is = refl; types = types; before = f ∙ ap (until 32) inner ∙ p.0; behind = b ∙ ap (beyond 32) inner ∙ p.1 }

-- before the hello, or after it

late_not : (o : Option ObjectId) (e : Error) → after (codes " pre") (failed_at_text (at.Post o) ++ tail e) ≡ None
unfolding after
late_not o e = refl

early : (e : Error) → after (codes " pre") (failed_at_text at.Pre ++ tail e) ≡ Some (tail e)
early e = after_here (codes " pre") (tail e)

pub early_found : (stage : FailedAt) (e : Error) (text rest : List ℕ) → Some rest ≡ after (codes " pre") text → text ≡ failed_at_text stage ++ tail e → (stage ≡ at.Pre) × (rest ≡ tail e)
early_found at.Pre e text rest found same = (refl, some_same rest (tail e) (found ∙ ap (after (codes " pre")) same ∙ early e))
early_found (at.Post o) e text rest found same = let f = found ∙ ap (after (codes " pre")) same ∙ late_not o e in absurd (cc)

pub record IsLate (stage : FailedAt) (e : Error) (text : List ℕ) : Type 0 where
  pub service : Option ObjectId
  pub is : stage ≡ at.Post service
  pub types : IfSome service IsIdOfTypes
  pub text_is : text ≡ codes " post" ++ served service e

pub late_found : (stage : FailedAt) (e : Error) (text : List ℕ) → IsFailedAtOfTypes stage → None ≡ after (codes " pre") text → text ≡ failed_at_text stage ++ tail e → IsLate stage e text
late_found at.Pre e text types none same = let f = none ∙ ap (after (codes " pre")) same ∙ early e in absurd (cc)
late_found (at.Post o) e text types none same = record { service = o; is = refl; types = types; text_is = same }

-- what is spelled alike is the same

served_same : (o p : Option ObjectId) (d e : Error) → IfSome o IsIdOfTypes → IfSome p IsIdOfTypes → served o d ≡ served p e → (o ≡ p) × (tail d ≡ tail e)
served_same None None d e to tp same = (refl, same)
served_same None (Some y) d e to tp same = let f = sym (no_service d) ∙ ap (after (codes " sid=")) same ∙ a_service y e in absurd (cc)
served_same (Some x) None d e to tp same = let f = sym (no_service e) ∙ ap (after (codes " sid=")) (sym same) ∙ a_service x d in absurd (cc)
served_same (Some x) (Some y) d e to tp same =
    let inner = append_cancel_left (codes " sid=") (object_id x ++ tail d) (object_id y ++ tail e) same in
    let p = word_same (object_id x) (object_id y) (tail d) (tail e) (id_lacks x) (id_lacks y) refl refl inner in
    (ap Some (id_same x y to tp p.0), p.1)

times_same : (a b : FailedAt) (d e : Error) → IsFailedAtOfTypes a → IsFailedAtOfTypes b → failed_at_text a ++ tail d ≡ failed_at_text b ++ tail e → (a ≡ b) × (tail d ≡ tail e)
times_same at.Pre at.Pre d e ta tb same = (refl, append_cancel_left (codes " pre") (tail d) (tail e) same)
times_same at.Pre (at.Post p) d e ta tb same = let f = sym (early d) ∙ ap (after (codes " pre")) same ∙ late_not p e in absurd (cc)
times_same (at.Post o) at.Pre d e ta tb same = let f = sym (early e) ∙ ap (after (codes " pre")) (sym same) ∙ late_not o d in absurd (cc)
times_same (at.Post o) (at.Post p) d e ta tb same =
    let q = served_same o p d e ta tb (append_cancel_left (codes " post") (served o d) (served p e) same) in
    (ap at.Post q.0, q.1)

pub failures_same : (a b : FailedAt) (d e : Error) → IsFailedAtOfTypes a → IsFailedAtOfTypes b → IsErrorOfTypes d → IsErrorOfTypes e → is_error d ≡ true → is_error e ≡ true
    → failed_at_text a ++ tail d ≡ failed_at_text b ++ tail e → (a ≡ b) × (d ≡ e)
failures_same a b d e ta tb td te hd he same =
    let p = times_same a b d e ta tb same in
    (p.0, error_same d e td te hd he (append_cancel_left (codes " ") (error_text d) (error_text e) p.1))
