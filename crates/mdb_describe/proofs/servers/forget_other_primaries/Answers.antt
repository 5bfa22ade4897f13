use Rattle.std.proofs.Common.{◌&&◌, ◌∙◌, Bool, ap, get_or, not, if◌then◌else◌, arith}
use Rattle.mdb_base.specs.Equality.{same_address}
use Rattle.mdb_describe.specs.declared.description.ServerDescription.{ServerDescription}
use Rattle.mdb_describe.specs.Descriptions.{unknown}
use Rattle.mdb_describe.specs.Servers.{is_primary_type}
use Rattle.mdb_describe.proofs.Walks.{mapped_on, mapped_all}
use Rattle.mdb_describe.proofs.servers.forget_other_primaries.Goals as goal

pub loop-server-preserved : goal.loop-server-preserved
loop-server-preserved c =
    let ys = c.loop-server.servers in
    let i = c.loop-server.server-index in
    let x : ServerDescription = get_or ys i c.server-item.result in
    mapped_on (λ (s : ServerDescription). if is_primary_type s.server_type && not (same_address s.address c.args.address.now) then unknown s.address else s) c.args.servers.now ys i x c.forget_if.new.self (omega arith) c.loop-server.invariant (ap (λ (d : ServerDescription). get_or ys i d) c.server-item.is)
    (c.forget_if.ensures ∙ ap (λ (b : Bool). if b then unknown x.address else x) c.is_other_primary-forgets.ensures)

pub returns : goal.returns
returns c = c.loop-server.invariant ∙ mapped_all (λ (s : ServerDescription). if is_primary_type s.server_type && not (same_address s.address c.args.address.now) then unknown s.address else s) c.args.servers.now c.loop-server.server-index (omega arith)
