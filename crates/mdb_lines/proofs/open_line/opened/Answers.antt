use Rattle.std.proofs.Common.{refl}
use Rattle.mdb_parts.specs.Parts.{parts_text, addresses}
use Rattle.mdb_lines.specs.OpenLine.{open_parts}
use Rattle.mdb_parts.proofs.PartLemmas.{parts_follow}
use Rattle.mdb_parts.proofs.Wanting.{handed_on}
use Rattle.mdb_lines.proofs.OpenLemmas.{open_rules}
use Rattle.mdb_parts.proofs.AddressLemmas.{addresses_lack}
use Rattle.mdb_lines.proofs.open_line.opened.Goals as goal

pub returns-in_err-word : goal.returns-in_err-word
returns-in_err-word c = λ o types rules e.
    let r = open_rules o rules in
    let word = c.in_err-word.ensures (addresses o.seeds) (parts_text (open_parts o)) (addresses_lack o.seeds r.seeds) (parts_follow (open_parts o) refl) e in
    handed_on _ c.from_residual.result c.in_err-word.field-0.0 word c.from_residual.ensures.1

pub returns-in_err-seeds : goal.returns-in_err-seeds
returns-in_err-seeds c = λ o types rules e.
    let r = open_rules o rules in
    let word = c.in_ok-word.ensures (addresses o.seeds) (parts_text (open_parts o)) (addresses_lack o.seeds r.seeds) (parts_follow (open_parts o) refl) e in
    let seeds = c.in_err-seeds.ensures o.seeds r.some r.seeds word.0 in
    handed_on _ c.from_residual-in_err-seeds.result c.in_err-seeds.field-0.0 seeds c.from_residual-in_err-seeds.ensures.1

pub returns-in_err-kind : goal.returns-in_err-kind
returns-in_err-kind c = λ o types rules e.
    let r = open_rules o rules in
    let word = c.in_ok-word.ensures (addresses o.seeds) (parts_text (open_parts o)) (addresses_lack o.seeds r.seeds) (parts_follow (open_parts o) refl) e in
    let kind = c.in_err-kind.ensures o r.name word.1 in
    handed_on _ c.from_residual-in_err-kind.result c.in_err-kind.field-0.0 kind c.from_residual-in_err-kind.ensures.1

pub returns : goal.returns
returns c = λ o types rules e.
    let r = open_rules o rules in
    let word = c.in_ok-word.ensures (addresses o.seeds) (parts_text (open_parts o)) (addresses_lack o.seeds r.seeds) (parts_follow (open_parts o) refl) e in
    let seeds = c.in_ok-seeds.ensures o.seeds r.some r.seeds word.0 in
    let kind = c.in_ok-kind.ensures o r.name word.1 in
    let sizes = c.pool_sizes.ensures o types kind.1 in
    let checks = c.check_options.ensures o types sizes.1 in
    let limits = c.limit_options-limits.ensures o types checks.1 in
    rw (c.in_ok-new.ensures, c.options_of-options.ensures o r.id seeds kind.0 sizes.0 checks.0 limits) refl
