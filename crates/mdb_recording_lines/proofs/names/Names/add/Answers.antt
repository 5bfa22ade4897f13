use Rattle.std.proofs.Common.{◌≡◌, ℕ, List, length, Some, cond, ap, ◌∙◌, arith}
use Rattle.std.specs.BTreeMap.{get_by_text}
use Rattle.std.specs.Str.{bytes_eq}
use Rattle.std.proofs.lemmas.Map.Text.{btree_map_updates_text}
use Rattle.mdb_recording_lines.proofs.Naming.{named-new, counted, texts-append}
use Rattle.mdb_recording_lines.proofs.names.Names.add.Goals as goal

pub returns-in_ok-insert-in-Ok : goal.returns-in_ok-insert-in-Ok
returns-in_ok-insert-in-Ok c = λ known holds fresh.
    let old = c.args.self.now in
    let own : c.in-Ok.number ≡ length old.list.items = omega arith in
    let found : (q : List ℕ) → get_by_text c.insert.new.self q ≡ cond (bytes_eq c.args.address.now q) (Some c.in-Ok.number) (get_by_text old.map q) =
    λ q. btree_map_updates_text _ old.map c.insert.new.self (Some c.in-Ok.number) c.in_ok-insert-in-Ok.ensures.updates q
    ∙ ap (λ w. cond (bytes_eq w q) (Some c.in-Ok.number) (get_by_text old.map q)) c.in_ok-key-in-Ok.ensures.ok in
    named-new c.args.address.now known c.in-Ok.number old _ holds fresh
    (own ∙ counted old.list.items known holds.list)
    (texts-append old.list.items c.push.new.self.items _ c.args.address.now known holds.list c.in_ok-push-in-Ok.ensures.items c.in_ok-name-in-Ok.ensures.ok)
    found
