-- The records of a table, as the listing of its slots has them.
use Rattle.std.proofs.Common.{◌≡◌, ℕ, Option, Some, None, List, [], ◌∷◌, refl, ap}
use Rattle.mdb_slots.specs.declared.records.Record.{Record}
use Rattle.mdb_slots.specs.Open.{or_else}
use Rattle.mdb_slots.specs.Items.{empty_record, items_at, records_of}
use Rattle.mdb_slots.specs.Cells.{cell_at, after_cell, values, Pointed, Points, IsIndexed}

records-points : (key : Record → ℕ) (cs : List (Option Record)) (m : ℕ → Option ℕ) (us : List ℕ) → Points key cs m us → records_of (items_at cs us) ≡ values cs us
records-points key cs m [] p = refl
records-points key cs m (x ∷ xs) p = on (cell_at cs x) p.0 (records-points key cs m xs p.1)
  where
    on : (c : Option Record) → Pointed key m c x → records_of (items_at cs xs) ≡ values cs xs → or_else c empty_record ∷ records_of (items_at cs xs) ≡ after_cell c (values cs xs)
    on None q e = absurd q
    on (Some r) q e = ap (λ rs. r ∷ rs) e

pub records-values : {key : Record → ℕ} {cs : List (Option Record)} {m : ℕ → Option ℕ} {us : List ℕ} → IsIndexed key cs m us → records_of (items_at cs us) ≡ values cs us
records-values {key = key} {cs = cs} {m = m} {us = us} i = records-points key cs m us i.points
