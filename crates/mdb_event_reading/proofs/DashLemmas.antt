-- Words that are a dash where there is no value: they lack spaces, and no value's word is a dash.
use Rattle.std.proofs.Common.{◌≡◌, ℕ, ◌<◌, ◌^◌, true, List, Option, Some, None, IfSome, refl, sym, ap, ◌∙◌, arith, decimal, codes}
use Rattle.std.specs.Prelude.{bytes_eq}
use Rattle.std.proofs.lemmas.Slice.Eq.{bytes_eq-Decides}
use Rattle.mdb_base.specs.declared.object_id.ObjectId.{ObjectId}
use Rattle.mdb_base.specs.Spelling.{object_id}
use Rattle.mdb_events.specs.Words.{number_or_dash, service_or_dash, closed_word, failed_word}
use Rattle.mdb_events.specs.declared.reasons.ConnectionClosedReason.{ConnectionClosedReason}
use Rattle.mdb_events.specs.declared.reasons.ConnectionClosedReason.TheVariants as closed
use Rattle.mdb_events.specs.declared.reasons.ConnectionCheckoutFailedReason.{ConnectionCheckoutFailedReason}
use Rattle.mdb_events.specs.declared.reasons.ConnectionCheckoutFailedReason.TheVariants as failed
use Rattle.mdb_parts.specs.Reading.{lacks}
use Rattle.mdb_parts.proofs.TextLemmas.{decimal_lacks}
use Rattle.mdb_parts.proofs.AddressLemmas.{id_lacks, id_lacks_byte}

pub narrow_lacks : (o : Option ℕ) → IfSome o (λ n. n < 2 ^ 32) → lacks 32 (number_or_dash o) ≡ true
narrow_lacks None h = refl
narrow_lacks (Some n) h = decimal_lacks 32 n (omega arith) (omega arith)

pub service_lacks : (o : Option ObjectId) → lacks 32 (service_or_dash o) ≡ true
service_lacks None = refl
service_lacks (Some id) = id_lacks id

pub closed_lacks : (r : ConnectionClosedReason) → lacks 32 (closed_word r) ≡ true
closed_lacks closed.Stale = refl
closed_lacks closed.Idle = refl
closed_lacks closed.Error = refl
closed_lacks closed.Dropped = refl
closed_lacks closed.PoolClosed = refl

pub failed_lacks : (r : ConnectionCheckoutFailedReason) → lacks 32 (failed_word r) ≡ true
failed_lacks failed.Timeout = refl
failed_lacks failed.ConnectionError = refl

pub ruleset dashes_lack = (narrow_lacks, service_lacks)

pub ruleset words_lack = (closed_lacks, failed_lacks)

-- a dash is no number and no id

pub number_no_dash : (n : ℕ) → n < 2 ^ 64 → decimal n ≡ codes "-" → ⊥
number_no_dash n lt e = let h = sym (decimal_lacks 45 n (omega arith) lt) ∙ ap (lacks 45) e in cc

pub id_no_dash : (id : ObjectId) → object_id id ≡ codes "-" → ⊥
id_no_dash id e = let h = sym (id_lacks_byte 45 refl (omega arith) id) ∙ ap (lacks 45) e in cc

pub narrow_dash : (o : Option ℕ) (word : List ℕ) → IfSome o (λ n. n < 2 ^ 32) → word ≡ number_or_dash o → word ≡ codes "-" → None ≡ o
narrow_dash None word h e d = refl
narrow_dash (Some n) word h e d = absurd (number_no_dash n (omega arith) (sym e ∙ d))

pub wide_dash : (o : Option ℕ) (word : List ℕ) → IfSome o (λ n. n < 2 ^ 64) → word ≡ number_or_dash o → word ≡ codes "-" → None ≡ o
wide_dash None word h e d = refl
wide_dash (Some n) word h e d = absurd (number_no_dash n h (sym e ∙ d))

pub service_dash : (o : Option ObjectId) (word : List ℕ) → word ≡ service_or_dash o → word ≡ codes "-" → None ≡ o
service_dash None word e d = refl
service_dash (Some id) word e d = absurd (id_no_dash id (sym e ∙ d))

pub is_dash : (word : List ℕ) → true ≡ bytes_eq word (codes "-") → word ≡ codes "-"
is_dash word h = (bytes_eq-Decides word (codes "-")).0 (sym h)
