use Rattle.std.proofs.Common.{◌∙◌, map, rules}
use Rattle.mdb_parts.proofs.Wanting.{handed_on}
use Rattle.mdb_entries.specs.Facts.{shown_fact}
use Rattle.mdb_entries.proofs.FactLemmas.{fact_no_bar}
use Rattle.mdb_entries.proofs.PieceLemmas.{is_full, is_gone}
use Rattle.mdb_entries.proofs.ShowLemmas.{leaves_one, leaves_next, leaves_none, all_more}
use Rattle.mdb_entries.proofs.entry_reading.read_facts.Goals as goal

pub returns-in_err-word-clause-only : goal.returns-in_err-word-clause-only
returns-in_err-word-clause-only c = λ facts own e.
    let l = c.loop-rest in
    let t = leaves_one facts l.found.items l.rest.now (l.invariant.2 facts own e) (is_full l.rest.now c.is_empty.result c.is_empty.ensures c.loop-rest-test.true) in
    handed_on facts c.from_residual.result c.in_err-word.field-0.0 (c.in_err-word.ensures.only (shown_fact t.taken) (map shown_fact t.later) (fact_no_bar t.taken t.fact) t.text) c.from_residual.ensures.1

pub returns-in_err-fact-clause-only : goal.returns-in_err-fact-clause-only
returns-in_err-fact-clause-only c = λ facts own e.
    let l = c.loop-rest in
    let t = leaves_one facts l.found.items l.rest.now (l.invariant.2 facts own e) (is_full l.rest.now c.is_empty.result c.is_empty.ensures c.loop-rest-test.true) in
    let word = c.in_ok-word.ensures.only (shown_fact t.taken) (map shown_fact t.later) (fact_no_bar t.taken t.fact) t.text in
    handed_on facts c.from_residual-in_err-fact.result c.in_err-fact.field-0.0 (c.in_err-fact.ensures.only t.taken t.fact word.0) c.from_residual-in_err-fact.ensures.1

pub loop-rest-preserved : goal.loop-rest-preserved
loop-rest-preserved c =
    let l = c.loop-rest in (
      search rules,
      rw c.in_ok-push.ensures.items (all_more l.found.items c.in_ok-fact.fact l.invariant.1 c.in_ok-fact.ensures.found),
      λ facts own e.
          let t = leaves_one facts l.found.items l.rest.now (l.invariant.2 facts own e) (is_full l.rest.now c.is_empty.result c.is_empty.ensures c.loop-rest-test.true) in
          let word = c.in_ok-word.ensures.only (shown_fact t.taken) (map shown_fact t.later) (fact_no_bar t.taken t.fact) t.text in
          let same = c.in_ok-fact.ensures.only t.taken t.fact word.0 in
          rw (c.in_ok-push.ensures.items, same) (leaves_next facts l.found.items l.rest.now c.in_ok-word.more.now t word.1),
    )

pub returns-clause-only : goal.returns-clause-only
returns-clause-only c = λ facts own e.
    let l = c.loop-rest in
    c.new.ensures ∙ leaves_none facts l.found.items l.rest.now (l.invariant.2 facts own e) (is_gone l.rest.now c.is_empty.result c.is_empty.ensures c.loop-rest-test.false)
