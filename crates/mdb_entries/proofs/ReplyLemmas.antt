-- The text of a reply is read as that reply, and has no bar.
use Rattle.std.proofs.Common.{◌≡◌, ℕ, ◌<◌, ◌^◌, true, false, ◌++◌, None, Result, refl, decimal, codes}
use Rattle.mdb_base.specs.AddressReading.{until, beyond, after}
use Rattle.mdb_log.specs.declared.reply.What.{What}
use Rattle.mdb_log.specs.declared.reply.What.TheVariants as what
use Rattle.mdb_log.specs.declared.reply.Refused.{Refused}
use Rattle.mdb_log.specs.declared.reply.Refused.TheVariants as refused
use Rattle.mdb_log.specs.declared.reply.Reply.{Reply}
use Rattle.mdb_log.specs.declared.reply.Reply.TheVariants as reply
use Rattle.mdb_lines.specs.LogText.{what_text, refused_text, connection_text, reply_text}
use Rattle.mdb_event_reading.proofs.BarLemmas.{decimal_no_bar, narrow_no_bar, end_no_bar}
use Rattle.mdb_parts.specs.declared.line_error.LineError.{LineError}
use Rattle.mdb_parts.specs.Reading.{lacks, Gives}
use Rattle.mdb_parts.proofs.CommaLemmas.{lacks_append}
use Rattle.mdb_entries.specs.Replies.{IsRefusedOfTypes, IsReply, early_refusal, late_refusal, plain_refusal, ReadsRefusal, request_kind, other_kind, reply_kind, ReadsNamed}

pub refusal_read : (why : Refused) (r : Result Refused LineError) → IsRefusedOfTypes why → ReadsRefusal (refused_text why) r → Gives why r
unfolding plain_refusal early_refusal late_refusal
refusal_read (refused.TimeBack m) r types reads = reads.time m types refl
refusal_read refused.UnknownServer r types reads = reads
refusal_read refused.RequestKnown r types reads = reads
refusal_read refused.UnknownRequest r types reads = reads
refusal_read refused.NotHolder r types reads = reads
refusal_read refused.NotPending r types reads = reads
refusal_read refused.Unpinned r types reads = reads
refusal_read refused.PinInUse r types reads = reads
refusal_read refused.PinState r types reads = reads
refusal_read refused.CheckRunning r types reads = reads
refusal_read refused.NotChecking r types reads = reads
refusal_read refused.WrongMode r types reads = reads
refusal_read (refused.Exhausted w) r types reads = reads.number w refl

pub reply_read : (x : Reply) (r : Result Reply LineError) → IsReply x → ReadsNamed (reply_text x) r → Gives x r
unfolding until beyond reply_kind request_kind other_kind
reply_read (reply.Pooled p c) r h reads = reads p c h.types.0 h.types.1 refl
reply_read (reply.Establishing p c) r h reads = reads p c h.types.0 h.types.1 refl
reply_read reply.Waiting r h reads = reads
reply_read (reply.Ended e) r h reads = reads e h.types h.rules refl
reply_read (reply.Job p c) r h reads = reads p c h.types.0 h.types.1 refl
reply_read reply.NoJob r h reads = reads
reply_read (reply.Changed b) r h reads = reads b refl
reply_read (reply.Count n) r h reads = reads n h.types refl
reply_read reply.Done r h reads = reads
reply_read (reply.Refused why) r h reads = reads why h.types refl

-- bars

pub place_no_bar : (p c : ℕ) → p < 2 ^ 32 → c < 2 ^ 32 → lacks 124 (connection_text p c) ≡ true
place_no_bar p c lp lc = lacks_append 124 (decimal p) (codes "." ++ decimal c) (narrow_no_bar p lp) (narrow_no_bar c lc)

refusal_no_bar : (why : Refused) → IsRefusedOfTypes why → lacks 124 (refused_text why) ≡ true
refusal_no_bar (refused.TimeBack m) types = decimal_no_bar m types
refusal_no_bar refused.UnknownServer types = refl
refusal_no_bar refused.RequestKnown types = refl
refusal_no_bar refused.UnknownRequest types = refl
refusal_no_bar refused.NotHolder types = refl
refusal_no_bar refused.NotPending types = refl
refusal_no_bar refused.Unpinned types = refl
refusal_no_bar refused.PinInUse types = refl
refusal_no_bar refused.PinState types = refl
refusal_no_bar refused.CheckRunning types = refl
refusal_no_bar refused.NotChecking types = refl
refusal_no_bar refused.WrongMode types = refl
refusal_no_bar (refused.Exhausted what.Pool) types = refl
refusal_no_bar (refused.Exhausted what.Generation) types = refl
refusal_no_bar (refused.Exhausted what.Monitor) types = refl
refusal_no_bar (refused.Exhausted what.Servers) types = refl

pub reply_no_bar : (x : Reply) → IsReply x → lacks 124 (reply_text x) ≡ true
reply_no_bar (reply.Pooled p c) h = place_no_bar p c h.types.0 h.types.1
reply_no_bar (reply.Establishing p c) h = place_no_bar p c h.types.0 h.types.1
reply_no_bar reply.Waiting h = refl
reply_no_bar (reply.Ended e) h = end_no_bar e h.types h.rules
reply_no_bar (reply.Job p c) h = place_no_bar p c h.types.0 h.types.1
reply_no_bar reply.NoJob h = refl
reply_no_bar (reply.Changed true) h = refl
reply_no_bar (reply.Changed false) h = refl
reply_no_bar (reply.Count n) h = decimal_no_bar n h.types
reply_no_bar reply.Done h = refl
reply_no_bar (reply.Refused why) h = refusal_no_bar why h.types

-- what ran out is no moment
pub no_time : (w : What) → after (codes "TimeBack ") (codes "Exhausted " ++ what_text w) ≡ None
unfolding after
no_time w = refl
