use Rattle.std.proofs.Common.{◌<◌, false, length, arith}
use Rattle.mdb_proxies.proofs.AfterEntryLoop.{turn-stays, turn-charged, turn-gone, set-within, remove-within}
use Rattle.mdb_proxies.proofs.Freeing.{charge-set, charge-remove}
use Rattle.mdb_proxies.proofs.standings.take_entry.Goals as goal

pub loop-at-preserved-in-Stays : goal.loop-at-preserved-in-Stays
loop-at-preserved-in-Stays c =
    let l = c.loop-at in
    let os = l.standing.items in
    let here : l.at < length os = omega (arith, c.loop-at-test.true, c.len.ensures, l.standing.ok.0) in
    record {
      within = omega (arith, here);
      after_entry = turn-stays c.args.entry.now os c.args.standing.now.items l.at c.index.result.now here c.index.ensures c.in-Stays.ensures l.invariant.after_entry;
      counted = l.invariant.counted;
      kept = l.invariant.kept;
    }

pub loop-at-preserved-in-Charged : goal.loop-at-preserved-in-Charged
loop-at-preserved-in-Charged c =
    let l = c.loop-at in
    let os = l.standing.items in
    let here : l.at < length os = omega (arith, c.loop-at-test.true, c.len.ensures, l.standing.ok.0) in
    let o = c.index.result.now in
    let marked = c.mark.ensures.marked o c.index.ensures in
    record {
      within = rw marked (set-within os l.at (record o { held = false }) here);
      after_entry = rw marked (turn-charged c.args.entry.now os c.args.standing.now.items l.at o here c.index.ensures c.in-Charged.ensures l.invariant.after_entry);
      counted = c.mark.ensures.counted;
      kept = λ t a f. rw marked (omega (arith, l.invariant.kept t a f, charge-set os l.at o t a here c.index.ensures));
    }

pub loop-at-preserved : goal.loop-at-preserved
loop-at-preserved c =
    let l = c.loop-at in
    let os = l.standing.items in
    let here : l.at < length os = omega (arith, c.loop-at-test.true, c.len.ensures, l.standing.ok.0) in
    let out = c.take_out-gone in
    record {
      within = remove-within os out.new.standing.items l.at here out.ensures.items;
      after_entry = rw out.ensures.items (turn-gone c.args.entry.now os c.args.standing.now.items l.at c.index.result.now here c.index.ensures c.in-Gone.ensures l.invariant.after_entry);
      counted = out.ensures.counted;
      kept = λ t a f. let g = c.and_gone-freed.ensures t a f in rw out.ensures.items (omega (arith, l.invariant.kept t a g.0, charge-remove os l.at out.result t a here out.ensures.value g.1));
    }
