use Rattle.std.proofs.Common.{◌≡◌, List, ◌∷◌, Some, None, sym, ◌∙◌, ap, subst, true, false, true≢false}
use Rattle.mdb_pool.proofs.Listed.FirstOrLast.{pending-at}
use Rattle.mdb_pool.specs.declared.kept.request.Request.{Request}
use Rattle.mdb_log.specs.declared.step.Act.TheVariants.{GiveUp}
use Rattle.mdb_log.specs.Connections.{has}
use Rattle.mdb_log.specs.History.{PoolItem, gave_up}
use Rattle.mdb_pool.specs.Kept.Values.{held_connection, kept_request, request_at, is_ended_at, is_asked_at}
use Rattle.mdb_pool.specs.Standing.{Fits, Accepts}
use Rattle.mdb_pool.proofs.KeptInLittle.AskedOfThoseThatStay.{kept-is, kept-there, kept-came, open-asked, open_unsettled, unsettled_kept}
use Rattle.mdb_pool_rules.proofs.Listed.Values.{entry_at-key}
use Rattle.mdb_pool.proofs.Answered.GiveUp.{leave-of, quit-of}
use Rattle.mdb_pool.proofs.kept.draft.Draft.accept_give_up.Goals as goal

pub returns-clause-accepts : goal.returns-clause-accepts
returns-clause-accepts c = λ xs z. quit-of c.args.self.now c.quit.new.self c.serve-2.new.self c.args.facts.now.items c.quit.new.facts.items c.serve-2.new.facts.items c.args.moment c.args.request c.in_ok-asker.asker xs z (kept-is c.args.self.now c.args.request c.in_ok-asker.asker (sym c.in-Some.ensures ∙ ap Some (sym c.in_ok-asker.ensures))) (open-asked c.args.self.now c.args.request c.requires) (sym c.is_ended.ensures ∙ c.if-is_ended.false) (sym c.in_default-held_connection.ensures) (sym c.in_default-pending_connection.ensures) c.in_ok-quit.ensures.core c.in_ok-quit.ensures.facts c.in_ok-serve-2.ensures.home c.in_ok-serve-2.ensures.notes c.in_ok-serve-2.ensures.serves

pub returns-in-Some-held_connection-clause-accepts : goal.returns-in-Some-held_connection-clause-accepts
returns-in-Some-held_connection-clause-accepts c =
    let e : c.in_ok-asker.asker.number ≡ c.args.request = entry_at-key (λ (k : Request). k.number) c.args.request c.in_ok-asker.asker c.args.self.now.kept.requests (kept-is c.args.self.now c.args.request c.in_ok-asker.asker (sym c.in-Some.ensures ∙ ap Some (sym c.in_ok-asker.ensures))) in
    subst (λ d. (xs : List PoolItem) → Fits c.args.self.now xs → Accepts c.args.self.now c.give_up_held.new.self c.args.facts.now.items c.give_up_held.new.facts.items c.args.moment (GiveUp d) c.in_ok-reply-2.reply xs (gave_up d ∷ xs)) e c.in_ok-reply-2.ensures.accepts

pub returns-in-Some-pending_connection-clause-accepts : goal.returns-in-Some-pending_connection-clause-accepts
returns-in-Some-pending_connection-clause-accepts c = λ xs z. leave-of c.args.self.now c.leave.new.self c.serve.new.self c.args.facts.now.items c.leave.new.facts.items c.serve.new.facts.items c.args.moment c.args.request c.in-Some-pending_connection.connection c.in_ok-asker.asker xs z (kept-is c.args.self.now c.args.request c.in_ok-asker.asker (sym c.in-Some.ensures ∙ ap Some (sym c.in_ok-asker.ensures))) (open-asked c.args.self.now c.args.request c.requires) (sym c.is_ended.ensures ∙ c.if-is_ended.false) (sym c.in-Some-pending_connection.ensures) c.in_ok-leave.ensures.core c.in_ok-leave.ensures.facts c.in_ok-serve.ensures.home c.in_ok-serve.ensures.notes c.in_ok-serve.ensures.serves

pub give_up_held-requires-clause-held : goal.give_up_held-requires-clause-held
give_up_held-requires-clause-held c = subst (λ d. held_connection c.args.self.now d ≡ Some c.in-Some-held_connection.connection) (sym (entry_at-key (λ (k : Request). k.number) c.args.request c.in_ok-asker.asker c.args.self.now.kept.requests (kept-is c.args.self.now c.args.request c.in_ok-asker.asker (sym c.in-Some.ensures ∙ ap Some (sym c.in_ok-asker.ensures))))) (sym c.in-Some-held_connection.ensures)

pub give_up_held-requires-clause-asker : goal.give_up_held-requires-clause-asker
give_up_held-requires-clause-asker c = subst (λ d. request_at c.args.self.now d ≡ Some c.in_ok-asker.asker) (sym (entry_at-key (λ (k : Request). k.number) c.args.request c.in_ok-asker.asker c.args.self.now.kept.requests (kept-is c.args.self.now c.args.request c.in_ok-asker.asker (sym c.in-Some.ensures ∙ ap Some (sym c.in_ok-asker.ensures))))) (kept-is c.args.self.now c.args.request c.in_ok-asker.asker (sym c.in-Some.ensures ∙ ap Some (sym c.in_ok-asker.ensures)))

pub give_up_held-requires-clause-open : goal.give_up_held-requires-clause-open
give_up_held-requires-clause-open c = subst (λ d. is_ended_at (request_at c.args.self.now d) ≡ false) (sym (entry_at-key (λ (k : Request). k.number) c.args.request c.in_ok-asker.asker c.args.self.now.kept.requests (kept-is c.args.self.now c.args.request c.in_ok-asker.asker (sym c.in-Some.ensures ∙ ap Some (sym c.in_ok-asker.ensures))))) (sym c.is_ended.ensures ∙ c.if-is_ended.false)

pub give_up_held-requires-clause-asked : goal.give_up_held-requires-clause-asked
give_up_held-requires-clause-asked c = subst (λ d. is_asked_at (request_at c.args.self.now d) ≡ true) (sym (entry_at-key (λ (k : Request). k.number) c.args.request c.in_ok-asker.asker c.args.self.now.kept.requests (kept-is c.args.self.now c.args.request c.in_ok-asker.asker (sym c.in-Some.ensures ∙ ap Some (sym c.in_ok-asker.ensures))))) (open-asked c.args.self.now c.args.request c.requires)

pub leave-requires-clause-live : goal.leave-requires-clause-live
leave-requires-clause-live c = pending-at c.args.self.now c.args.request c.in-Some-pending_connection.connection (sym c.in-Some-pending_connection.ensures)

pub is_ended-requires : goal.is_ended-requires
is_ended-requires c = open_unsettled c.args.self.now c.args.request c.requires

pub give_up_late-requires-clause-open : goal.give_up_late-requires-clause-open
give_up_late-requires-clause-open c = open_unsettled c.args.self.now c.args.request c.requires

pub leave-requires-clause-there : goal.leave-requires-clause-there
leave-requires-clause-there c = kept-there c.args.self.now c.args.request c.in_ok-asker.asker (sym c.in-Some.ensures ∙ ap Some (sym c.in_ok-asker.ensures))

pub leave-requires-clause-came : goal.leave-requires-clause-came
leave-requires-clause-came c = kept-came c.args.self.now c.args.request c.in_ok-asker.asker (sym c.in-Some.ensures ∙ ap Some (sym c.in_ok-asker.ensures))

pub quit-requires-clause-there : goal.quit-requires-clause-there
quit-requires-clause-there c = kept-there c.args.self.now c.args.request c.in_ok-asker.asker (sym c.in-Some.ensures ∙ ap Some (sym c.in_ok-asker.ensures))

pub quit-requires-clause-came : goal.quit-requires-clause-came
quit-requires-clause-came c = kept-came c.args.self.now c.args.request c.in_ok-asker.asker (sym c.in-Some.ensures ∙ ap Some (sym c.in_ok-asker.ensures))

pub give_up_held-requires-clause-unsettled : goal.give_up_held-requires-clause-unsettled
give_up_held-requires-clause-unsettled c = subst (λ d. has d c.args.self.now.kept.settled ≡ false) (sym (entry_at-key (λ (k : Request). k.number) c.args.request c.in_ok-asker.asker c.args.self.now.kept.requests (kept-is c.args.self.now c.args.request c.in_ok-asker.asker (sym c.in-Some.ensures ∙ ap Some (sym c.in_ok-asker.ensures))))) (open_unsettled c.args.self.now c.args.request c.requires)

-- it is open: it is there
pub unreachable-requires : goal.unreachable-requires
unreachable-requires c =
    let s = c.args.self.now in
    let none : kept_request s c.args.request ≡ None = sym c.in_default.ensures in
    let gone : request_at s c.args.request ≡ None = sym (unsettled_kept s.kept.settled s.kept.requests c.args.request (open_unsettled s c.args.request c.requires)) ∙ none in
    true≢false (sym (open-asked s c.args.request c.requires) ∙ ap is_asked_at gone)
