use denote.Param.Send.{sendable}
use Rattle.std.proofs.Crossing.{crosses}
use Rattle.mdb_topology.proofs.Crossing.{driver_crosses}
use Rattle.std.proofs.Common.{List, ◌-◌, length, take, drop, All, subst}
use Rattle.mdb_log.specs.declared.log.Entry.{Entry}
use Rattle.mdb_lines.specs.Spelling.{HasSpelling}
use Rattle.mdb_lines.specs.Script.{AreAllowed}
use Rattle.mdb_runs.specs.Runs.{IsWithin}
use Rattle.mdb_shared_runs.specs.Scripts.{Shared}
use Rattle.mdb_shared_runs.proofs.Opened.{begins_with, first_opens, later_acts, shares_all, both_first, both_second}
use Rattle.mdb_shared_runs.proofs.shared.share_steps.Goals as goal

pub open-requires : goal.open-requires
open-requires g c =
    let first = c.first-item.result in
    let steps = c.args.steps.now in
    let is = begins_with steps first c.in-len1-up.len_at_least c.first-item.is in
    record { opens = first_opens first (take (length steps - 1) (drop 1 steps)) (subst (AreAllowed 1) is c.requires.allowed) (subst IsWithin is c.requires.within) }

pub share-requires-clause-acts : goal.share-requires-clause-acts
share-requires-clause-acts g c =
    let first = c.first-item.result in
    let steps = c.args.steps.now in
    let is = begins_with steps first c.in-len1-up.len_at_least c.first-item.is in
    λ κs h. later_acts first (take (length steps - 1) (drop 1 steps)) (subst IsWithin is c.requires.within)

pub returns-in_ok-core-in-len1-up-clause-shared : goal.returns-in_ok-core-in-len1-up-clause-shared
returns-in_ok-core-in-len1-up-clause-shared g c =
    let first = c.first-item.result in
    let steps = c.args.steps.now in
    let is = begins_with steps first c.in-len1-up.len_at_least c.first-item.is in
    let opens = first_opens first (take (length steps - 1) (drop 1 steps)) (subst (AreAllowed 1) is c.requires.allowed) (subst IsWithin is c.requires.within) in
    let both = shares_all c.args.k steps first c.in_ok-core-in-len1-up.log c.share.result c.in-len1-up.len_at_least c.first-item.is opens c.in_ok-core-in-len1-up.ensures.entry c.share.ensures in
    both_first (Shared c.args.k steps) (λ (log : List Entry). All (λ (e : Entry). HasSpelling e.step) log) c.share.result both

pub returns-in_ok-core-in-len1-up-clause-spelled : goal.returns-in_ok-core-in-len1-up-clause-spelled
returns-in_ok-core-in-len1-up-clause-spelled g c =
    let first = c.first-item.result in
    let steps = c.args.steps.now in
    let is = begins_with steps first c.in-len1-up.len_at_least c.first-item.is in
    let opens = first_opens first (take (length steps - 1) (drop 1 steps)) (subst (AreAllowed 1) is c.requires.allowed) (subst IsWithin is c.requires.within) in
    let both = shares_all c.args.k steps first c.in_ok-core-in-len1-up.log c.share.result c.in-len1-up.len_at_least c.first-item.is opens c.in_ok-core-in-len1-up.ensures.entry c.share.ensures in
    both_second (Shared c.args.k steps) (λ (log : List Entry). All (λ (e : Entry). HasSpelling e.step) log) c.share.result both

pub share-requires-send-C : goal.share-requires-send-C
share-requires-send-C g c κs within = search (driver_crosses, crosses, sendable) depth 20
