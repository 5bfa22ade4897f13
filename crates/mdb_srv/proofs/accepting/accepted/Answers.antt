use Rattle.std.proofs.Common.{◌∙◌, refl, sym}
use Rattle.mdb_srv.proofs.Strangers.{refuses, none_strange, one_strange}
use Rattle.mdb_srv.proofs.accepting.accepted.Goals as goal

pub returns-in-Some-clause-refused : goal.returns-in-Some-clause-refused
returns-in-Some-clause-refused c =
    let own = c.in_ok-last_labels.ensures ∙ c.domain_of-domain.ensures in
    let found = rw (c.in-Some.is, c.deref.ensures.value, c.deref-in-Error.ensures.value) at c.in_ok-stranger-in-Error.ensures in
    refuses _ _ c.mismatch.result c.mismatch.ensures
    (rw (c.in-Error.is, c.host.ensures)
    (one_strange c.args.original.now c.domain_of-domain.result.now _ c.args.found.items c.in-Some.stranger.now own c.domain_of-domain.ensures (sym found)))

pub returns-in-None-clause-kept : goal.returns-in-None-clause-kept
returns-in-None-clause-kept c =
    let own = c.in_ok-last_labels.ensures ∙ c.domain_of-domain.ensures in
    let found = rw (c.in-None.is, c.deref.ensures.value, c.deref-in-Error.ensures.value) at c.in_ok-stranger-in-Error.ensures in
    rw c.in-Error.is (none_strange c.args.original.now _ c.args.found.items own (sym found))

pub returns-in_ok-all_within-in-Skip-clause-kept : goal.returns-in_ok-all_within-in-Skip-clause-kept
returns-in_ok-all_within-in-Skip-clause-kept c =
    let own = c.in_ok-last_labels.ensures ∙ c.domain_of-domain.ensures in
    rw (c.in-Skip.is, c.in_ok-all_within-in-Skip.ensures, c.deref-in-Skip.ensures.value, own) refl
