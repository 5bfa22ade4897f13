-- Replies that are spelled alike are the same.
use Rattle.std.proofs.Common.{◌≡◌, ℕ, ◌<◌, ◌^◌, Bool, true, false, eqb, if◌then◌else◌, get_or, List, ◌++◌, Ok, refl, sym, ap, subst, ◌∙◌, arith, decimal, codes}
use Rattle.std.proofs.lemmas.List.{append_cancel_left}
use Rattle.std.proofs.lemmas.Fmt.{decimal_injective}
use Rattle.mdb_base.specs.AddressReading.{until, beyond}
use Rattle.mdb_base.proofs.AddressAgain.{rest_cons}
use Rattle.mdb_events.specs.FactText.{end_text}
use Rattle.mdb_events.specs.declared.end.End.{End}
use Rattle.mdb_event_reading.specs.EndForms.{is_end, IsEndOfTypes}
use Rattle.mdb_event_reading.proofs.EndLemmas.{end_same}
use Rattle.mdb_event_reading.proofs.SameWords.{narrow_same}
use Rattle.mdb_log.specs.declared.reply.What.{What}
use Rattle.mdb_log.specs.declared.reply.What.TheVariants as what
use Rattle.mdb_log.specs.declared.reply.Refused.{Refused}
use Rattle.mdb_log.specs.declared.reply.Refused.TheVariants as refused
use Rattle.mdb_log.specs.declared.reply.Reply.{Reply}
use Rattle.mdb_log.specs.declared.reply.Reply.TheVariants as reply
use Rattle.mdb_lines.specs.LogText.{what_text, refused_text, bool_text, connection_text, reply_text}
use Rattle.mdb_parts.proofs.Same.{cut_same}
use Rattle.mdb_parts.proofs.TextLemmas.{decimal_lacks}
use Rattle.mdb_entries.specs.Replies.{IsRefusedOfTypes, IsReply, early_refusal, late_refusal, plain_refusal, ReadsRefusal, request_kind, other_kind, reply_kind, ReadsPlace, ReadsEnded, ReadsChanged, ReadsCount, ReadsRefused, ReadsNamed}
use Rattle.mdb_entries.proofs.ReplyLemmas.{refusal_read, reply_read}

pub place_same : (p c q d : ℕ) → p < 2 ^ 32 → c < 2 ^ 32 → q < 2 ^ 32 → d < 2 ^ 32 → connection_text p c ≡ connection_text q d → (p ≡ q) × (c ≡ d)
place_same p c q d lp lc lq ld e =
    let s = cut_same 46 (decimal p) (decimal q) (codes "." ++ decimal c) (codes "." ++ decimal d) (decimal_lacks 46 p (omega arith) (omega arith)) (decimal_lacks 46 q (omega arith) (omega arith)) (rest_cons 46 (decimal c)) (rest_cons 46 (decimal d)) e in
    (narrow_same p q lp lq s.0, narrow_same c d lc ld (append_cancel_left (codes ".") (decimal c) (decimal d) s.1))

-- what ran out, by the first byte of its word

what_from : List ℕ → What
what_from word =
    let first = get_or word 0 0 in
    if eqb first 112 then what.Pool
    else if eqb first 103 then what.Generation
    else if eqb first 109 then what.Monitor
    else what.Servers

what_back : (w : What) → what_from (what_text w) ≡ w
unfolding what_from
what_back what.Pool = refl
what_back what.Generation = refl
what_back what.Monitor = refl
what_back what.Servers = refl

whats_same : (w v : What) → what_text w ≡ what_text v → w ≡ v
whats_same w v e = sym (what_back w) ∙ ap what_from e ∙ what_back v

-- refusals

apart : (m : ℕ) (w : What) → codes "TimeBack " ++ decimal m ≡ codes "Exhausted " ++ what_text w → ⊥
apart m w e = let first : ◌≡◌ {A = ℕ} 84 69 = ap (λ (text : List ℕ). get_or text 0 0) e in omega (arith, first)

refusal_gives : (why : Refused) → IsRefusedOfTypes why → ReadsRefusal (refused_text why) (Ok why)
unfolding plain_refusal early_refusal late_refusal
refusal_gives (refused.TimeBack m) types = record {
  time = λ n ln e. ap refused.TimeBack (decimal_injective m n types ln (append_cancel_left (codes "TimeBack ") (decimal m) (decimal n) e));
  number = λ w e. absurd (apart m w e);
}
refusal_gives refused.UnknownServer types = refl
refusal_gives refused.RequestKnown types = refl
refusal_gives refused.UnknownRequest types = refl
refusal_gives refused.NotHolder types = refl
refusal_gives refused.NotPending types = refl
refusal_gives refused.Unpinned types = refl
refusal_gives refused.PinInUse types = refl
refusal_gives refused.PinState types = refl
refusal_gives refused.CheckRunning types = refl
refusal_gives refused.NotChecking types = refl
refusal_gives refused.WrongMode types = refl
refusal_gives (refused.Exhausted w) types = record {
  time = λ n ln e. absurd (apart n w (sym e));
  number = λ v e. ap refused.Exhausted (whats_same w v (append_cancel_left (codes "Exhausted ") (what_text w) (what_text v) e));
}

refusal_same : (d e : Refused) → IsRefusedOfTypes d → IsRefusedOfTypes e → refused_text d ≡ refused_text e → d ≡ e
refusal_same d e td te same = refusal_read e (Ok d) te (subst (λ (t : List ℕ). ReadsRefusal t (Ok d)) same (refusal_gives d td))

-- replies

place_gives : (does : ℕ → ℕ → Reply) (p c : ℕ) → p < 2 ^ 32 → c < 2 ^ 32 → ReadsPlace does (codes " " ++ connection_text p c) (Ok (does p c))
place_gives does p c lp lc q d lq ld e =
    let s = place_same p c q d lp lc lq ld (append_cancel_left (codes " ") (connection_text p c) (connection_text q d) e) in
    rw (s.0, s.1) refl

ended_gives : (d : End) → IsEndOfTypes d → is_end d ≡ true → ReadsEnded (codes " " ++ end_text d) (Ok (reply.Ended d))
ended_gives d td hd e te he same = ap reply.Ended (end_same d e td te hd he (append_cancel_left (codes " ") (end_text d) (end_text e) same))

bools_same : (b c : Bool) → bool_text b ≡ bool_text c → b ≡ c
bools_same true true e = refl
bools_same true false e = absurd (cc)
bools_same false true e = absurd (cc)
bools_same false false e = refl

changed_gives : (b : Bool) → ReadsChanged (codes " " ++ bool_text b) (Ok (reply.Changed b))
changed_gives b c e = ap reply.Changed (bools_same b c (append_cancel_left (codes " ") (bool_text b) (bool_text c) e))

count_gives : (n : ℕ) → n < 2 ^ 64 → ReadsCount (codes " " ++ decimal n) (Ok (reply.Count n))
count_gives n ln k lk e = ap reply.Count (decimal_injective n k ln lk (append_cancel_left (codes " ") (decimal n) (decimal k) e))

refused_gives : (why : Refused) → IsRefusedOfTypes why → ReadsRefused (codes " " ++ refused_text why) (Ok (reply.Refused why))
refused_gives why types other others e = ap reply.Refused (refusal_same why other types others (append_cancel_left (codes " ") (refused_text why) (refused_text other) e))

reply_gives : (x : Reply) → IsReply x → ReadsNamed (reply_text x) (Ok x)
unfolding until beyond reply_kind request_kind other_kind
reply_gives (reply.Pooled p c) h = place_gives (λ q d. reply.Pooled q d) p c h.types.0 h.types.1
reply_gives (reply.Establishing p c) h = place_gives (λ q d. reply.Establishing q d) p c h.types.0 h.types.1
reply_gives reply.Waiting h = refl
reply_gives (reply.Ended e) h = ended_gives e h.types h.rules
reply_gives (reply.Job p c) h = place_gives (λ q d. reply.Job q d) p c h.types.0 h.types.1
reply_gives reply.NoJob h = refl
reply_gives (reply.Changed b) h = changed_gives b
reply_gives (reply.Count n) h = count_gives n h.types
reply_gives reply.Done h = refl
reply_gives (reply.Refused why) h = refused_gives why h.types

pub reply_same : (d e : Reply) → IsReply d → IsReply e → reply_text d ≡ reply_text e → d ≡ e
reply_same d e hd he same = reply_read e (Ok d) he (subst (λ (t : List ℕ). ReadsNamed t (Ok d)) same (reply_gives d hd))
