-- What messages, their receivers and acknowledgments hold, and what an acknowledgment comes to at a receiver.
use Rattle.std.specs.Prelude.{ℕ, ◌==◌, if◌then◌else◌, Result, Ok, Err}
use Rattle.mdb_base.specs.declared.acknowledgment.AcknowledgedMessage.{AcknowledgedMessage}
use Rattle.mdb_base.specs.declared.acknowledgment.AcknowledgmentSender.{AcknowledgmentSender}
use Rattle.mdb_base.specs.declared.acknowledgment.AcknowledgmentReceiver.{AcknowledgmentReceiver}
use Rattle.mdb_base.specs.declared.acknowledgment.Acknowledgment.{Acknowledgment}

-- the message that was packaged
abbrev pub message : {M R : Type 0} → AcknowledgedMessage M R → M
message m = m.message

-- what acknowledges it
abbrev pub sender : {M R : Type 0} → AcknowledgedMessage M R → AcknowledgmentSender R
sender m = m.sender

-- the tickets of what acknowledges, of a receiver and of an acknowledgment
abbrev pub sender_ticket : {R : Type 0} → AcknowledgmentSender R → ℕ
sender_ticket s = s.ticket

abbrev pub receiver_ticket : {R : Type 0} → AcknowledgmentReceiver R → ℕ
receiver_ticket r = r.ticket

abbrev pub ticket : {R : Type 0} → Acknowledgment R → ℕ
ticket a = a.ticket

-- the value with which a message was acknowledged
abbrev pub value : {R : Type 0} → Acknowledgment R → R
value a = a.value

-- the value under the receiver's own ticket, and otherwise both come back
abbrev pub resolution : {R : Type 0} → AcknowledgmentReceiver R → Acknowledgment R → Result R (AcknowledgmentReceiver R × Acknowledgment R)
resolution receiver acknowledgment =
    if receiver_ticket receiver == ticket acknowledgment then Ok (value acknowledgment) else Err (receiver, acknowledgment)
