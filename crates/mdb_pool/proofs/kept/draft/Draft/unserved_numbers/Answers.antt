use Rattle.std.proofs.Common.{◌≡◌, ℕ, ◌<◌, List, filter, length, map, reverse, sym, ◌∙◌, ap, subst, arith}
use Rattle.std.specs.Prelude.{option_copied}
use Rattle.mdb_pool.specs.Kept.Values.{kept_requests, unserved_in}
use Rattle.mdb_pool.proofs.KeptInLittle.AskedOfThoseThatStay.{kept-apart, unserved-kept}
use Rattle.mdb_pool.proofs.Listed.WalkBack.{Back, back-starts, back-less, back-finds, back-passes, back-over, back-enough}
use Rattle.mdb_pool.proofs.kept.draft.Draft.unserved_numbers.Goals.{then-is_unserved+in_ok-push, else-is_unserved, in-Some+then-missing-eq0, in_default}
use Rattle.mdb_pool.proofs.kept.draft.Draft.unserved_numbers.Goals as goal

pub loop-next-init : goal.loop-next-init
loop-next-init c =
    let s = c.args.self.now in let n = c.unserved_count-missing.result in
    subst (λ (ks : List ℕ). Back (λ q. q.number) (λ q. unserved_in s q.phase) (kept_requests s) n n ks (option_copied c.last_request-next.result)) (sym c.new-numbers.ensures.items)
    (back-starts (λ q. q.number) (λ q. unserved_in s q.phase) (kept_requests s) n (option_copied c.last_request-next.result) c.last_request-next.ensures)

pub loop-next-smaller : goal.loop-next-smaller
loop-next-smaller c =
    let s = c.args.self.now in let l = c.loop-next in
    back-less (λ q. q.number) (λ q. unserved_in s q.phase) (kept_requests s) c.unserved_count-missing.result l.missing l.numbers.items (option_copied l.next) l.invariant (kept-apart s.kept.settled s.kept.requests c.asked-requests.ensures.apart) c.in-Some.q.now (ap option_copied c.in-Some.is)
    (option_copied c.previous_request-next.result) c.previous_request-next.ensures

pub loop-next-preserved : goal.loop-next-preserved
loop-next-preserved c =
    let s = c.args.self.now in let l = c.loop-next in let n = c.unserved_count-missing.result in let next = option_copied c.previous_request-next.result in
    let some : 0 < l.missing = omega (arith, c.if-missing-eq0.false) in
    elim c.if-is_unserved.branch [
      | then-is_unserved+in_ok-push w ↦ rw (w.missing-is, w.numbers-is, w.in_ok-push.ensures.items)
          (back-finds (λ q. q.number) (λ q. unserved_in s q.phase) (kept_requests s) n l.missing l.numbers.items (option_copied l.next) l.invariant (kept-apart s.kept.settled s.kept.requests c.asked-requests.ensures.apart) c.in-Some.q.now (ap option_copied c.in-Some.is) next c.previous_request-next.ensures
          (sym c.is_unserved.ensures ∙ w.if-is_unserved.true) some)
      | else-is_unserved w ↦ rw (w.missing-is, w.numbers-is)
          (back-passes (λ q. q.number) (λ q. unserved_in s q.phase) (kept_requests s) n l.missing l.numbers.items (option_copied l.next) l.invariant (kept-apart s.kept.settled s.kept.requests c.asked-requests.ensures.apart) c.in-Some.q.now (ap option_copied c.in-Some.is) next c.previous_request-next.ensures
          (sym c.is_unserved.ensures ∙ w.if-is_unserved.false))
    ]

pub returns : goal.returns
returns c = λ xs z.
    let s = c.args.self.now in let l = c.loop-next in let n = c.unserved_count-missing.result in
    let found : reverse l.numbers.items ≡ map (λ q. q.number) (filter (λ q. unserved_in s q.phase) (kept_requests s)) = elim c.match-next.branch [
      | in-Some+then-missing-eq0 w ↦ back-enough (λ q. q.number) (λ q. unserved_in s q.phase) (kept_requests s) n l.missing l.numbers.items (option_copied l.next) l.invariant w.if-missing-eq0.true (c.unserved_count-missing.ensures xs z ∙ sym (ap length (unserved-kept s)))
      | in_default w ↦ back-over (λ q. q.number) (λ q. unserved_in s q.phase) (kept_requests s) n l.missing l.numbers.items (option_copied l.next) l.invariant (ap option_copied w.in_default.is)
    ] in
    c.reverse.ensures.items ∙ (found ∙ ap (map (λ q. q.number)) (unserved-kept s))
