use Rattle.std.proofs.Common.{map}
use Rattle.std.proofs.lemmas.Result.{err_from_is_err_and}
use Rattle.mdb_base.specs.Document.{named_content}
use Rattle.mdb_bson.specs.Reading.{document, elements, found}
use Rattle.mdb_bson.proofs.Loop.{goes_on, stops, ends, empty, no_end}
use Rattle.mdb_bson.proofs.document.+document.Goals as goal

pub elements-returns-in_default : goal.elements-returns-in_default
elements-returns-in_default t c =
    empty (document c.args.depth) c.args.end c.loop.index c.args.bytes.now c.loop.rest.now (map named_content c.loop.fields.items) (elements (document c.args.depth) c.args.end c.args.bytes.now c.args.bytes.now) c.loop-test.true c.in_default.ensures c.loop.invariant

pub elements-returns-then-number-eq0 : goal.elements-returns-then-number-eq0
elements-returns-then-number-eq0 t c =
    rw (ends (document c.args.depth) c.args.end c.loop.index c.in-Some.number c.args.bytes.now c.loop.rest.now c.in-Some.after.now (map named_content c.loop.fields.items) (elements (document c.args.depth) c.args.end c.args.bytes.now c.args.bytes.now) c.loop-test.true c.if-number-eq0.true c.in-Some.ensures c.loop.invariant)
    c.last.ensures

pub elements-returns-in_err-field : goal.elements-returns-in_err-field
elements-returns-in_err-field t c =
    let p = err_from_is_err_and c.from_residual.result c.from_residual.ensures.1 in
    rw (p.1, p.2)
    (stops c.in_err-field.field-0.0 (document c.args.depth) c.args.end c.loop.index c.in-Some.number c.args.bytes.now c.loop.rest.now c.in-Some.after.now (map named_content c.loop.fields.items) (elements (document c.args.depth) c.args.end c.args.bytes.now c.args.bytes.now) c.loop-test.true c.if-number-eq0.false c.in-Some.ensures c.in_err-field.ensures c.loop.invariant)

pub elements-loop-preserved : goal.elements-loop-preserved
elements-loop-preserved t c =
    rw c.in_ok-push_found.ensures
    (goes_on (document c.args.depth) c.args.end c.loop.index c.in-Some.number c.args.bytes.now c.loop.rest.now c.in-Some.after.now c.in_ok-field.after.now (map named_content c.loop.fields.items) (found c.in_ok-field.field) (elements (document c.args.depth) c.args.end c.args.bytes.now c.args.bytes.now) c.loop-test.true c.if-number-eq0.false c.in-Some.ensures c.in_ok-field.ensures c.loop.invariant)

pub elements-returns : goal.elements-returns
elements-returns t c =
    no_end (document c.args.depth) c.args.end c.loop.index c.args.bytes.now c.loop.rest.now (map named_content c.loop.fields.items) (elements (document c.args.depth) c.args.end c.args.bytes.now c.args.bytes.now) c.loop-test.false c.loop.invariant
