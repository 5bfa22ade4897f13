use Rattle.std.proofs.Common.{◌≡◌, ℕ, ◌+◌, ◌<◌, ◌^◌, [], ◌∷◌, ◌++◌, length, ap, sym, subst, ◌∙◌, append-nil, length-append, arith}
use Rattle.mdb_journal.specs.Entries.{Entries, news_then}
use Rattle.mdb_journal.proofs.Latest.{all-same, all-more, kept-on}
use Rattle.mdb_journal.proofs.journal.Journal.step.Goals as goal

pub returns-in_err-reply-clause-stands : goal.returns-in_err-reply-clause-stands
returns-in_err-reply-clause-stands g c =
    let past = c.self.inside.past.value in let old = c.self.inside.recent in
    let stood : g.C.Core.stands c.args.core.now (past ++ old) = subst (λ (v : Entries). g.C.Core.stands c.args.core.now v.all) (sym c.self.view_is) c.requires.stands in
    all-same (g.C.Core.stands c.step.new.self) past old c.step.new.log c.in_err-reply.ensures.err_log
    (c.step.ensures.stands (past ++ old) [] stood (c.in_err-reply.ensures.err_log ∙ sym (append-nil old)))

pub returns-clause-stands : goal.returns-clause-stands
returns-clause-stands g c =
    let past = c.self.inside.past.value in let old = c.self.inside.recent in let e = c.in_ok-reply.ensures.entry in
    let stood : g.C.Core.stands c.args.core.now (past ++ old) = subst (λ (v : Entries). g.C.Core.stands c.args.core.now v.all) (sym c.self.view_is) c.requires.stands in
    all-more (g.C.Core.stands c.step.new.self) past old c.step.new.log e.0 e.2 (c.step.ensures.stands (past ++ old) (e.0 ∷ []) stood e.2)

pub invariant_of-self-2 : goal.invariant_of-self-2
invariant_of-self-2 g c =
    let past = c.self.inside.past.value in let old = c.self.inside.recent in let new = c.step.new.log in let e = c.in_ok-reply.ensures.entry in
    let more : length new ≡ length old + 1 = ap length e.2 ∙ length-append old (e.0 ∷ []) in
    let count : length c.args.self.now.all ≡ length past + length old = sym (ap (λ (v : Entries). length v.all) c.self.view_is) ∙ length-append past old in
    let kept = kept-on past old new e.0 c.newest-entry.result.now c.self.inside.gone c.self.inside.news c.self.inside.stopped e.2 c.newest-entry.ensures c.self.invariant.0 c.self.invariant.2 c.self.invariant.3 in (
      c.self.invariant.0,
      omega (arith, more, count, c.self.invariant.0, c.len.ensures, c.if-len.false),
      c.news_then-news.ensures ∙ (ap (λ (n : ℕ). news_then c.newest-entry.result.now (c.self.inside.gone + n) c.self.inside.news) c.len-2.ensures ∙ kept.0),
      c.stops_then-stopped.ensures ∙ kept.1,
    )
