-- The parts of a first line, and its rules, as reading needs them.
use Rattle.std.proofs.Common.{◌≡◌, ◌<◌, ◌≤◌, ◌&&◌, Bool, true, false, leb, length, is_none, Option, Some, None, option_map, IfSome, refl, arith, inl, inr}
use Rattle.std.specs.List.{list_all}
use Rattle.std.proofs.lemmas.Bool.{cases_Bool, leb-true, and_parts}
use Rattle.mdb_base.specs.AddressRule.{is_address}
use Rattle.mdb_base.specs.OptionRules.{are_seeds, all_different, broken_rule}
use Rattle.mdb_base.specs.declared.options.Options.{Options}
use Rattle.mdb_lines.specs.OpenLine.{mode_text}
use Rattle.mdb_lines.specs.Grammar.{are_options, is_zero_id}
use Rattle.mdb_parts.specs.WordRule.{is_word, keeps}
use Rattle.mdb_parts.specs.Reading.{lacks}
use Rattle.mdb_parts.proofs.WordLemmas.{words_lack-word}

pub mode_lacks : (o : Option Bool) → IfSome (option_map mode_text o) (λ w. lacks 32 w ≡ true)
mode_lacks None = tt
mode_lacks (Some true) = refl
mode_lacks (Some false) = refl

-- what the rules of a first line's options say
pub record OpenRules (o : Options) : Type 0 where
  pub some : 0 < length o.seeds
  pub seeds : list_all is_address o.seeds ≡ true
  pub name : IfSome o.set_name (λ w. lacks 32 w ≡ true)
  pub id : is_zero_id o.topology_id ≡ true

seeds_kept : (o : Options) → is_none (broken_rule o) ≡ true → are_seeds o.seeds ≡ true
seeds_kept o h = elim (cases_Bool (are_seeds o.seeds)) [
  | inl kept ↦ kept
  | inr broken ↦ absurd (let e : false ≡ true = rw broken at h in cc)
]

pub open_rules : (o : Options) → are_options o ≡ true → OpenRules o
unfolding are_options
open_rules o h =
    let r3 = keeps is_word o.set_name && is_zero_id o.topology_id in
    let p1 = and_parts (is_none (broken_rule o)) (list_all is_address o.seeds && r3) h in
    let p2 = and_parts (list_all is_address o.seeds) r3 p1.1 in
    let p3 = and_parts (keeps is_word o.set_name) (is_zero_id o.topology_id) p2.1 in
    let q = and_parts (leb 1 (length o.seeds) && leb (length o.seeds) 128) (all_different o.seeds) (seeds_kept o p1.0) in
    let one : 1 ≤ length o.seeds = leb-true 1 (length o.seeds) (and_parts (leb 1 (length o.seeds)) (leb (length o.seeds) 128) q.0).0 in
    record {
      some = omega arith;
      seeds = p2.0;
      name = words_lack-word o.set_name p3.0;
      id = p3.1;
    }
