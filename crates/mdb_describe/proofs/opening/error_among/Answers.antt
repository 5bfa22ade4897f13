use Rattle.std.proofs.Common.{◌∙◌, sym, arith}
use Rattle.mdb_describe.proofs.Kept.{listed_kept_from, listed_later, listed_here, listed_nowhere, synced_error}
use Rattle.mdb_describe.proofs.opening.error_among.Goals as goal

pub loop-server-init : goal.loop-server-init
loop-server-init c = listed_kept_from c.args.listed.now c.args.servers.now

pub loop-server-preserved : goal.loop-server-preserved
loop-server-preserved c = listed_later c.args.listed.now c.args.servers.now c.loop-server.server-index c.server-item.result (omega arith) c.server-item.is c.loop-server.invariant c.is_listed-kept.result _ c.is_listed-kept.ensures c.in_ok-error.ensures c.in-None.is

pub returns-in-Some : goal.returns-in-Some
returns-in-Some c =
    listed_here c.args.listed.now c.args.servers.now c.loop-server.server-index c.server-item.result c.in-Some.text (omega arith) c.server-item.is c.loop-server.invariant c.is_listed-kept.result _ c.is_listed-kept.ensures c.in_ok-error.ensures c.in-Some.is
    ∙ sym (synced_error c.args.listed.now c.args.servers.now)

pub returns : goal.returns
returns c =
    listed_nowhere c.args.listed.now c.args.servers.now c.loop-server.server-index (omega arith) c.loop-server.invariant
    ∙ sym (synced_error c.args.listed.now c.args.servers.now)
