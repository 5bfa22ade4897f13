-- The text of an end is read as that end, and is the text of no other.
use Rattle.std.proofs.Common.{◌≡◌, ℕ, List, ◌++◌, true, Result, Ok, refl, ap, subst, codes}
use Rattle.std.proofs.lemmas.List.{append_cancel_left}
use Rattle.mdb_base.specs.AddressReading.{until, beyond}
use Rattle.mdb_base.specs.ErrorText.{error_text}
use Rattle.mdb_base.specs.declared.error.Error.{Error}
use Rattle.mdb_events.specs.FactText.{end_text}
use Rattle.mdb_events.specs.declared.end.End.{End}
use Rattle.mdb_events.specs.declared.end.End.TheVariants as end
use Rattle.mdb_parts.specs.declared.line_error.LineError.{LineError}
use Rattle.mdb_parts.specs.ErrorParts.{is_error, IsErrorOfTypes}
use Rattle.mdb_parts.specs.Reading.{Gives}
use Rattle.mdb_parts.proofs.SameErrors.{error_same}
use Rattle.mdb_event_reading.specs.EndForms.{is_end, IsEndOfTypes, end_kind, ReadsCause, ReadsEndNamed}

pub end_read : (e : End) (r : Result End LineError) → IsEndOfTypes e → is_end e ≡ true → ReadsEndNamed (end_text e) r → Gives e r
unfolding until beyond end_kind
end_read (end.Cleared e) r types rules reads = reads e types rules refl
end_read (end.Failed e) r types rules reads = reads e types rules refl
end_read end.Closed r types rules reads = reads
end_read end.Warmed r types rules reads = reads
end_read end.Filled r types rules reads = reads
end_read end.GaveUp r types rules reads = reads
end_read end.TimedOut r types rules reads = reads

-- two ends that are spelled alike are the same

cause_gives : (does : Error → End) (d : Error) → IsErrorOfTypes d → is_error d ≡ true → ReadsCause does (codes " " ++ error_text d) (Ok (does d))
cause_gives does d td hd e te he same = ap does (error_same d e td te hd he (append_cancel_left (codes " ") (error_text d) (error_text e) same))

end_gives : (e : End) → IsEndOfTypes e → is_end e ≡ true → ReadsEndNamed (end_text e) (Ok e)
unfolding until beyond end_kind
end_gives (end.Cleared e) types rules = cause_gives (λ x. end.Cleared x) e types rules
end_gives (end.Failed e) types rules = cause_gives (λ x. end.Failed x) e types rules
end_gives end.Closed types rules = refl
end_gives end.Warmed types rules = refl
end_gives end.Filled types rules = refl
end_gives end.GaveUp types rules = refl
end_gives end.TimedOut types rules = refl

pub end_same : (d e : End) → IsEndOfTypes d → IsEndOfTypes e → is_end d ≡ true → is_end e ≡ true → end_text d ≡ end_text e → d ≡ e
end_same d e td te hd he same = end_read e (Ok d) te he (subst (λ (t : List ℕ). ReadsEndNamed t (Ok d)) same (end_gives d td hd))
