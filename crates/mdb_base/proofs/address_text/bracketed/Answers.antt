use Rattle.std.proofs.Common.{◌≡◌, true, false, sym, ap, ◌∙◌}
use Rattle.std.proofs.lemmas.Option.{same_Some, none-some}
use Rattle.mdb_base.specs.AddressRule.{is_v6_host}
use Rattle.mdb_base.proofs.AddressText.{low, cut_whole, bracket_cut}
use Rattle.mdb_base.proofs.address_text.bracketed.Goals as goal

pub returns-then-not-is_v6-clause-only : goal.returns-then-not-is_v6-clause-only
returns-then-not-is_v6-clause-only c = λ h p w.
    let front : c.cut.result.0.now ≡ h = c.cut.ensures.front ∙ (bracket_cut c.args.text.now h p w).0 in
    let bad : false ≡ true = c.if-not-is_v6.ensures ∙ ap (λ x. is_v6_host (low x)) front ∙ w.name in
    cc

pub returns-in-Some-clause-found : goal.returns-in-Some-clause-found
returns-in-Some-clause-found c = record {
  rest = c.cut.result.1.now;
  parts = rw (c.cut.ensures.front, c.cut.ensures.rest) (sym (cut_whole 93 c.args.text.now));
  name = sym c.if-not-is_v6.ensures;
  ends = c.in-Some.ensures.found;
}

pub returns-in-Some-clause-only : goal.returns-in-Some-clause-only
returns-in-Some-clause-only c = λ h p w.
    let parts = bracket_cut c.args.text.now h p w in
    let behind : c.cut.result.1.now ≡ w.rest = c.cut.ensures.rest ∙ parts.1 in
    (c.cut.ensures.front ∙ parts.0, same_Some _ _ (c.in-Some.ensures.only p (rw behind w.ends)))

pub returns-in-None-clause-only : goal.returns-in-None-clause-only
returns-in-None-clause-only c = λ h p w.
    let behind : c.cut.result.1.now ≡ w.rest = c.cut.ensures.rest ∙ (bracket_cut c.args.text.now h p w).1 in
    none-some p (c.in-None.ensures.only p (rw behind w.ends))
