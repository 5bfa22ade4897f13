use Rattle.std.proofs.Common.{drop, refl}
use Rattle.mdb_lines.specs.OpenLine.{open_parts}
use Rattle.mdb_lines.proofs.open_line.pool_sizes.Goals as goal

pub returns : goal.returns
returns c = λ o types text.
    let max = c.u32_part-max.ensures o.max_pool_size (drop 4 (open_parts o)) types.max refl text in
    let min = c.u32_part-min.ensures o.min_pool_size (drop 5 (open_parts o)) types.min refl max.1 in
    let connecting = c.u32_part-connecting.ensures o.max_connecting (drop 6 (open_parts o)) types.connecting refl min.1 in
    let idle = c.u64_part-idle.ensures o.max_idle_time (drop 7 (open_parts o)) types.idle refl connecting.1 in
    let wait = c.u64_part-wait.ensures o.max_wait (drop 8 (open_parts o)) types.wait refl idle.1 in
    (rw (max.0, min.0, connecting.0, idle.0, wait.0) refl, wait.1)
