use Rattle.std.proofs.Common.{drop, refl}
use Rattle.mdb_lines.specs.OpenLine.{open_parts}
use Rattle.mdb_lines.proofs.open_line.limit_options.Goals as goal

pub returns : goal.returns
returns c = λ o types text.
    let id = c.u32_part-id.ensures o.limit_id (drop 12 (open_parts o)) types.limit_id refl text in
    let generation = c.u64_part-generation.ensures o.limit_generation (drop 13 (open_parts o)) types.limit_generation refl id.1 in
    let pool = c.u32_part-pool.ensures o.limit_pool (drop 14 (open_parts o)) types.limit_pool refl generation.1 in
    let monitor = c.u32_part-monitor.ensures o.limit_monitor (drop 15 (open_parts o)) types.limit_monitor refl pool.1 in
    rw (id.0, generation.0, pool.0, monitor.0) refl
