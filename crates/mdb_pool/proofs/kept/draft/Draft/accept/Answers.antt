use Rattle.std.proofs.Common.{refl, sym, ◌∙◌, ap}
use Rattle.mdb_log.specs.declared.step.Act.TheVariants.{Clear}
use Rattle.mdb_pool.proofs.Answered.Accepted.{as-failed, bare-does, request-does, give-up-does, established-does, failed-does, return-does, pin-does, replicate-does, take-does, unpin-does, warm-does, maintain-does, expire-does}
use Rattle.mdb_pool.proofs.kept.draft.Draft.accept.Goals as goal

pub returns-in-Request-clause-does : goal.returns-in-Request-clause-does
returns-in-Request-clause-does c = request-does c.args.self.now c.accept_request.new.self c.args.facts.now.items c.accept_request.new.facts.items c.accept_request.result c.args.step.now c.requires.passes c.in-Request.is c.accept_request.ensures.accepts

pub returns-in-GiveUp-clause-does : goal.returns-in-GiveUp-clause-does
returns-in-GiveUp-clause-does c = give-up-does c.args.self.now c.accept_give_up.new.self c.args.facts.now.items c.accept_give_up.new.facts.items c.accept_give_up.result c.args.step.now c.requires.passes c.in-GiveUp.is c.accept_give_up.ensures.accepts

pub returns-in-Established-clause-does : goal.returns-in-Established-clause-does
returns-in-Established-clause-does c = established-does c.args.self.now c.accept_established.new.self c.args.facts.now.items c.accept_established.new.facts.items c.accept_established.result c.args.step.now c.requires.passes c.in-Established.is c.accept_established.ensures.accepts

pub returns-in-Failed-clause-does : goal.returns-in-Failed-clause-does
returns-in-Failed-clause-does c = failed-does c.args.self.now c.accept_failed.new.self c.args.facts.now.items c.accept_failed.new.facts.items c.accept_failed.result c.args.step.now c.requires.passes (as-failed c.in-Failed.is c.get.ensures) c.accept_failed.ensures.accepts

pub returns-in-Return-clause-does : goal.returns-in-Return-clause-does
returns-in-Return-clause-does c = return-does c.args.self.now c.accept_return.new.self c.args.facts.now.items c.accept_return.new.facts.items c.accept_return.result c.args.step.now c.requires.passes c.in-Return.is c.accept_return.ensures.accepts

pub returns-in-Pin-clause-does : goal.returns-in-Pin-clause-does
returns-in-Pin-clause-does c = pin-does c.args.self.now c.accept_pin.new.self c.args.facts.now.items c.accept_pin.new.facts.items c.accept_pin.result c.args.step.now c.requires.passes c.in-Pin.is c.accept_pin.ensures.accepts

pub returns-in-Replicate-clause-does : goal.returns-in-Replicate-clause-does
returns-in-Replicate-clause-does c = replicate-does c.args.self.now c.accept_replicate.new.self c.args.facts.now.items c.accept_replicate.new.facts.items c.accept_replicate.result c.args.step.now c.requires.passes c.in-Replicate.is c.accept_replicate.ensures.accepts

pub returns-in-Take-clause-does : goal.returns-in-Take-clause-does
returns-in-Take-clause-does c = take-does c.args.self.now c.accept_take.new.self c.args.facts.now.items c.accept_take.new.facts.items c.accept_take.result c.args.step.now c.requires.passes c.in-Take.is c.accept_take.ensures.accepts

pub returns-in-Unpin-clause-does : goal.returns-in-Unpin-clause-does
returns-in-Unpin-clause-does c = unpin-does c.args.self.now c.accept_unpin.new.self c.args.facts.now.items c.accept_unpin.new.facts.items c.accept_unpin.result c.args.step.now c.requires.passes c.in-Unpin.is c.accept_unpin.ensures.accepts

pub returns-in-Warm-clause-does : goal.returns-in-Warm-clause-does
returns-in-Warm-clause-does c = warm-does c.args.self.now c.accept_warm.new.self c.args.facts.now.items c.accept_warm.new.facts.items c.accept_warm.result c.args.step.now c.requires.passes c.in-Warm.is c.accept_warm.ensures.accepts

pub returns-in-Maintain-clause-does : goal.returns-in-Maintain-clause-does
returns-in-Maintain-clause-does c = maintain-does c.args.self.now c.accept_maintain.new.self c.args.facts.now.items c.accept_maintain.new.facts.items c.accept_maintain.result c.args.step.now c.requires.passes c.in-Maintain.is c.accept_maintain.ensures.accepts

pub returns-in-Collect-clause-does : goal.returns-in-Collect-clause-does
returns-in-Collect-clause-does c = bare-does c.args.self.now c.accept_collect.new.self c.args.facts.now.items c.accept_collect.new.facts.items c.accept_collect.result c.args.step.now c.in-Collect.is (λ xs. refl) c.accept_collect.ensures.accepts

pub returns-in-Claim-clause-does : goal.returns-in-Claim-clause-does
returns-in-Claim-clause-does c = bare-does c.args.self.now c.accept_claim.new.self c.args.facts.now.items c.accept_claim.new.facts.items c.accept_claim.result c.args.step.now c.in-Claim.is (λ xs. refl) c.accept_claim.ensures.accepts

pub returns-in-Ready-clause-does : goal.returns-in-Ready-clause-does
returns-in-Ready-clause-does c = bare-does c.args.self.now c.accept_ready.new.self c.args.facts.now.items c.accept_ready.new.facts.items c.accept_ready.result c.args.step.now c.in-Ready.is (λ xs. refl) c.accept_ready.ensures.accepts

pub returns-in-Clear-clause-does : goal.returns-in-Clear-clause-does
returns-in-Clear-clause-does c = bare-does c.args.self.now c.accept_clear.new.self c.args.facts.now.items c.accept_clear.new.facts.items c.accept_clear.result c.args.step.now (c.in-Clear.is ∙ ap (Clear c.in-Clear.pool c.in-Clear.service) (sym c.get-in-Clear.ensures)) (λ xs. refl) c.accept_clear.ensures.accepts

pub returns-in-Close-clause-does : goal.returns-in-Close-clause-does
returns-in-Close-clause-does c = bare-does c.args.self.now c.accept_close.new.self c.args.facts.now.items c.accept_close.new.facts.items c.accept_close.result c.args.step.now c.in-Close.is (λ xs. refl) c.accept_close.ensures.accepts

pub returns-in-Expire-clause-does : goal.returns-in-Expire-clause-does
returns-in-Expire-clause-does c = expire-does c.args.self.now c.accept_expire.new.self c.args.facts.now.items c.accept_expire.new.facts.items c.accept_expire.result c.args.step.now c.requires.passes c.in-Expire.is c.accept_expire.ensures.accepts
