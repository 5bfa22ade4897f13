use Rattle.std.proofs.Common.{◌≡◌, ◌∙◌, sym, subst}
use Rattle.mdb_recorders.specs.Recording.{Recording, Follows}
use Rattle.mdb_recorders.proofs.Recorded.{handed, between, next, kept-on, over}
use Rattle.mdb_recorders.proofs.recorder.Recorder.record.Goals as goal

pub returns-then-taken-self-clause-follows : goal.returns-then-taken-self-clause-follows
returns-then-taken-self-clause-follows g c =
    between c.args.self.now c.hand_on.new.self c.args.seat.now.seen c.take-taken.new.seat.seen c.requires.follows c.take-taken.ensures.saw.0 c.in-Ok.ensures.ok.1

pub returns-in-Ok-hand_on-clause-follows : goal.returns-in-Ok-hand_on-clause-follows
returns-in-Ok-hand_on-clause-follows g c =
    let r = c.args.self.now in let seen = c.args.seat.now.seen in let later = c.take-taken.new.seat.seen in let more = c.take-taken.ensures.saw.0 in
    let one : Recording = record { done = c.self.inside.done; held = c.self.inside.held } in
    let first : one ≡ handed r = c.self.view_is ∙ c.in-Ok.ensures.ok.1 in
    let is = next r one seen later c.requires.follows more first c.take-taken.result.from c.take-taken.result.entries c.if-taken-self.false c.take-taken.ensures.entries in
    (over r one seen later c.requires.follows more first c.take-taken.result.entries c.hand_on-2.new.self is c.in-Ok-hand_on.ensures.ok.1).0

pub returns-in-Err-hand_on-clause-follows : goal.returns-in-Err-hand_on-clause-follows
returns-in-Err-hand_on-clause-follows g c =
    let r = c.args.self.now in let seen = c.args.seat.now.seen in let later = c.take-taken.new.seat.seen in let more = c.take-taken.ensures.saw.0 in
    let one : Recording = record { done = c.self.inside.done; held = c.self.inside.held } in
    let first : one ≡ handed r = c.self.view_is ∙ c.in-Ok.ensures.ok.1 in
    let is = next r one seen later c.requires.follows more first c.take-taken.result.from c.take-taken.result.entries c.if-taken-self.false c.take-taken.ensures.entries in
    subst (λ (x : Recording). Follows x later) (sym c.in-Err-hand_on.ensures.err.1) (kept-on r one seen later c.requires.follows more first c.take-taken.result.entries is)
