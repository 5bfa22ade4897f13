-- Which replies an entry shows, and what reading gives for each.
use Rattle.std.specs.Prelude.{◌≡◌, ℕ, ◌<◌, ◌^◌, List, ◌++◌, codes, decimal, Option, Some, None, Result, Bool, true, if◌then◌else◌, bytes_eq, MatchOption}
use Rattle.std.specs.Option.{option_or}
use Rattle.mdb_base.specs.AddressReading.{until, beyond}
use Rattle.mdb_events.specs.FactText.{end_text}
use Rattle.mdb_events.specs.declared.end.End.{End}
use Rattle.mdb_event_reading.specs.EndForms.{is_end, IsEndOfTypes}
use Rattle.mdb_log.specs.declared.reply.What.{What}
use Rattle.mdb_log.specs.declared.reply.Refused.{Refused}
use Rattle.mdb_log.specs.declared.reply.Refused.TheVariants as refused
use Rattle.mdb_log.specs.declared.reply.Reply.{Reply}
use Rattle.mdb_log.specs.declared.reply.Reply.TheVariants as reply
use Rattle.mdb_lines.specs.LogText.{what_text, refused_text, bool_text, connection_text}
use Rattle.mdb_entries.specs.declared.reply_kind.ReplyKind.{ReplyKind}
use Rattle.mdb_entries.specs.declared.reply_kind.ReplyKind.TheVariants as kind
use Rattle.mdb_parts.specs.declared.line_error.LineError.{LineError}
use Rattle.mdb_parts.specs.Reading.{Gives}

abbrev pub is_reply : Reply → Bool
is_reply (reply.Ended e) = is_end e
is_reply _ = true

abbrev pub IsRefusedOfTypes : Refused → Type 0
IsRefusedOfTypes (refused.TimeBack m) = m < 2 ^ 64
IsRefusedOfTypes _ = Unit {0}

abbrev pub IsReplyOfTypes : Reply → Type 0
IsReplyOfTypes (reply.Pooled p c) = (p < 2 ^ 32) × (c < 2 ^ 32)
IsReplyOfTypes (reply.Establishing p c) = (p < 2 ^ 32) × (c < 2 ^ 32)
IsReplyOfTypes (reply.Job p c) = (p < 2 ^ 32) × (c < 2 ^ 32)
IsReplyOfTypes (reply.Ended e) = IsEndOfTypes e
IsReplyOfTypes (reply.Count n) = n < 2 ^ 64
IsReplyOfTypes (reply.Refused why) = IsRefusedOfTypes why
IsReplyOfTypes _ = Unit {0}

-- A reply that an entry shows: an error of it keeps the rules of errors, and each number is one of its type.
pub record IsReply (r : Reply) : Type 0 where
  pub types : IsReplyOfTypes r
  pub rules : is_reply r ≡ true

-- refusals that carry nothing

unfoldable pub early_refusal : List ℕ → Option Refused
early_refusal word =
    if bytes_eq word (codes "UnknownServer") then Some refused.UnknownServer
    else if bytes_eq word (codes "RequestKnown") then Some refused.RequestKnown
    else if bytes_eq word (codes "UnknownRequest") then Some refused.UnknownRequest
    else if bytes_eq word (codes "NotHolder") then Some refused.NotHolder
    else if bytes_eq word (codes "NotPending") then Some refused.NotPending
    else None

unfoldable pub late_refusal : List ℕ → Option Refused
late_refusal word =
    if bytes_eq word (codes "Unpinned") then Some refused.Unpinned
    else if bytes_eq word (codes "PinInUse") then Some refused.PinInUse
    else if bytes_eq word (codes "PinState") then Some refused.PinState
    else if bytes_eq word (codes "CheckRunning") then Some refused.CheckRunning
    else if bytes_eq word (codes "NotChecking") then Some refused.NotChecking
    else if bytes_eq word (codes "WrongMode") then Some refused.WrongMode
    else None

unfoldable pub plain_refusal : List ℕ → Option Refused
plain_refusal word = option_or (early_refusal word) (late_refusal word)

-- refusals that carry a moment, or what ran out
pub record ReadsLaden (word : List ℕ) (r : Result Refused LineError) : Type 0 where
  pub time : (m : ℕ) → m < 2 ^ 64 → word ≡ codes "TimeBack " ++ decimal m → Gives (refused.TimeBack m) r
  pub number : (w : What) → word ≡ codes "Exhausted " ++ what_text w → Gives (refused.Exhausted w) r

abbrev pub ReadsRefusal : List ℕ → Result Refused LineError → Type 0
ReadsRefusal word r = MatchOption (plain_refusal word) (ReadsLaden word r) (λ why. Gives why r)

-- the reply of this name

unfoldable pub request_kind : List ℕ → Option ReplyKind
request_kind word =
    if bytes_eq word (codes "Pooled") then Some kind.Pooled
    else if bytes_eq word (codes "Establishing") then Some kind.Establishing
    else if bytes_eq word (codes "Waiting") then Some kind.Waiting
    else if bytes_eq word (codes "Ended") then Some kind.Ended
    else None

unfoldable pub other_kind : List ℕ → Option ReplyKind
other_kind word =
    if bytes_eq word (codes "Job") then Some kind.Job
    else if bytes_eq word (codes "NoJob") then Some kind.NoJob
    else if bytes_eq word (codes "Changed") then Some kind.Changed
    else if bytes_eq word (codes "Count") then Some kind.Count
    else if bytes_eq word (codes "Done") then Some kind.Done
    else if bytes_eq word (codes "Refused") then Some kind.Refused
    else None

unfoldable pub reply_kind : List ℕ → Option ReplyKind
reply_kind word = option_or (request_kind word) (other_kind word)

-- what stands behind the name

abbrev pub ReadsPlace : (ℕ → ℕ → Reply) → List ℕ → Result Reply LineError → Type 0
ReadsPlace does text r = (p c : ℕ) → p < 2 ^ 32 → c < 2 ^ 32 → text ≡ codes " " ++ connection_text p c → Gives (does p c) r

abbrev pub ReadsEnded : List ℕ → Result Reply LineError → Type 0
ReadsEnded text r = (e : End) → IsEndOfTypes e → is_end e ≡ true → text ≡ codes " " ++ end_text e → Gives (reply.Ended e) r

abbrev pub ReadsChanged : List ℕ → Result Reply LineError → Type 0
ReadsChanged text r = (b : Bool) → text ≡ codes " " ++ bool_text b → Gives (reply.Changed b) r

abbrev pub ReadsCount : List ℕ → Result Reply LineError → Type 0
ReadsCount text r = (n : ℕ) → n < 2 ^ 64 → text ≡ codes " " ++ decimal n → Gives (reply.Count n) r

abbrev pub ReadsRefused : List ℕ → Result Reply LineError → Type 0
ReadsRefused text r = (why : Refused) → IsRefusedOfTypes why → text ≡ codes " " ++ refused_text why → Gives (reply.Refused why) r

abbrev pub ReadsReply : ReplyKind → List ℕ → Result Reply LineError → Type 0
ReadsReply kind.Pooled text r = ReadsPlace (λ p c. reply.Pooled p c) text r
ReadsReply kind.Establishing text r = ReadsPlace (λ p c. reply.Establishing p c) text r
ReadsReply kind.Waiting text r = Gives reply.Waiting r
ReadsReply kind.Ended text r = ReadsEnded text r
ReadsReply kind.Job text r = ReadsPlace (λ p c. reply.Job p c) text r
ReadsReply kind.NoJob text r = Gives reply.NoJob r
ReadsReply kind.Changed text r = ReadsChanged text r
ReadsReply kind.Count text r = ReadsCount text r
ReadsReply kind.Done text r = Gives reply.Done r
ReadsReply kind.Refused text r = ReadsRefused text r

-- A reply is read by its name. One of no name gives nothing.
abbrev pub ReadsNamed : List ℕ → Result Reply LineError → Type 0
ReadsNamed text r = MatchOption (reply_kind (until 32 text)) (Unit {0}) (λ kind. ReadsReply kind (beyond 32 text) r)
