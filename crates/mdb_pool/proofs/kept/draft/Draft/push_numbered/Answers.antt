use Rattle.std.proofs.Common.{◌≡◌, ◌++◌, filter, sym, subst, append-nil}
use Rattle.std.specs.Prelude.{OnOk}
use Rattle.mdb_pool.specs.Kept.Values.{unserved_in}
use Rattle.mdb_pool.specs.Acts.Changes.{off_facts}
use Rattle.mdb_pool.proofs.KeptInLittle.AskedOfThoseThatStay.{kept-is, none-off}
use Rattle.mdb_pool.proofs.Turns.EndUnserved.{found-one}
use Rattle.mdb_pool.proofs.kept.draft.Draft.push_numbered.Goals as goal

pub returns-in-Some : goal.returns-in-Some
returns-in-Some c =
    let s = c.args.self.now in
    subst (λ qs. OnOk c.push_off.result (c.push_off.new.facts.items ≡ c.args.facts.now.items ++ off_facts s c.args.moment (filter (λ q. unserved_in s q.phase) qs)))
    (sym (found-one s c.args.number c.in-Some.request.now (kept-is s c.args.number c.in-Some.request.now (sym c.in-Some.ensures)))) c.push_off.ensures

pub returns-in-None : goal.returns-in-None
returns-in-None c =
    let s = c.args.self.now in
    subst (λ qs. c.args.facts.now.items ≡ c.args.facts.now.items ++ off_facts s c.args.moment qs)
    (sym (none-off s c.args.number (sym c.in-None.ensures))) (sym (append-nil c.args.facts.now.items))
