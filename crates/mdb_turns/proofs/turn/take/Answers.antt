use Rattle.std.proofs.Common.{rules, ap, sym, ◌∙◌, ◌∷◌, Some}
use Rattle.atomic_table.specs.Table.{rest}
use Rattle.mdb_turns.proofs.Keeping.{claims}
use Rattle.mdb_turns.proofs.turn.take.Goals as goal

pub compare_exchange-found-requires : goal.compare_exchange-found-requires
compare_exchange-found-requires g c = (search rules, search rules, claims g.C.Core.stands _ _ _ _ _ _ _ c.requires.ready.1 c.requires.ready.2)

pub exchange-requires : goal.exchange-requires
exchange-requires g c = let t = c.compare_exchange-found.ensures.2.0 c.if-found-ne0.false in
    (search rules, (Some (t.0, t.1), ap (λ m. m.1) t.2 ∙ ap (λ l. (0, Some (t.0, t.1)) ∷ l) (sym (ap (λ m. rest m.1) t.2))))
