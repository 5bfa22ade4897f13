use Rattle.std.proofs.Common.{◌∙◌, ◌++◌, ap, codes, drop, refl, List, ℕ}
use Rattle.mdb_base.specs.ErrorText.{kind_text}
use Rattle.mdb_parts.specs.Parts.{parts_text}
use Rattle.mdb_parts.specs.ErrorParts.{labels_word, error_parts}
use Rattle.mdb_parts.proofs.PartLemmas.{parts_follow}
use Rattle.mdb_parts.proofs.Wanting.{handed_on}
use Rattle.mdb_parts.proofs.ErrorLemmas.{error_rules, error_as, message_as, kind_lacks, labels_lack}
use Rattle.mdb_parts.proofs.error_reading.error.Goals as goal

pub returns-in_err-word : goal.returns-in_err-word
returns-in_err-word c = λ e types rules text.
    let r = error_rules e rules in
    let ps = error_parts e in
    let at = text ∙ ap (λ (t : List ℕ). codes " " ++ t) (error_as e) in
    let word = c.in_err-word.ensures (kind_text e.kind) (parts_text ps) (kind_lacks e.kind types.own) (parts_follow ps refl) at in
    handed_on _ c.from_residual.result c.in_err-word.field-0.0 word c.from_residual.ensures.1

pub returns-in_err-kind : goal.returns-in_err-kind
returns-in_err-kind c = λ e types rules text.
    let r = error_rules e rules in
    let ps = error_parts e in
    let at = text ∙ ap (λ (t : List ℕ). codes " " ++ t) (error_as e) in
    let word = c.in_ok-word.ensures (kind_text e.kind) (parts_text ps) (kind_lacks e.kind types.own) (parts_follow ps refl) at in
    let kind = c.in_err-kind.ensures e.kind types.own word.0 in
    handed_on _ c.from_residual-in_err-kind.result c.in_err-kind.field-0.0 kind c.from_residual-in_err-kind.ensures.1

pub returns-in_err-message : goal.returns-in_err-message
returns-in_err-message c = λ e types rules text.
    let r = error_rules e rules in
    let ps = error_parts e in
    let at = text ∙ ap (λ (t : List ℕ). codes " " ++ t) (error_as e) in
    let word = c.in_ok-word.ensures (kind_text e.kind) (parts_text ps) (kind_lacks e.kind types.own) (parts_follow ps refl) at in
    let kind = c.in_ok-kind.ensures e.kind types.own word.0 in
    let labels_at = c.part.ensures (labels_word e.labels) (drop 1 ps) (labels_lack e.labels r.labels) refl word.1 in
    let version = c.version_part-topology_version.ensures e.topology_version (drop 2 ps) types.version r.version refl labels_at.1 in
    let message = c.in_err-message.ensures e.message (version.1 ∙ message_as e.message) in
    handed_on _ c.from_residual-in_err-message.result c.in_err-message.field-0.0 message c.from_residual-in_err-message.ensures.1

pub returns-in_err-labels : goal.returns-in_err-labels
returns-in_err-labels c = λ e types rules text.
    let r = error_rules e rules in
    let ps = error_parts e in
    let at = text ∙ ap (λ (t : List ℕ). codes " " ++ t) (error_as e) in
    let word = c.in_ok-word.ensures (kind_text e.kind) (parts_text ps) (kind_lacks e.kind types.own) (parts_follow ps refl) at in
    let kind = c.in_ok-kind.ensures e.kind types.own word.0 in
    let labels_at = c.part.ensures (labels_word e.labels) (drop 1 ps) (labels_lack e.labels r.labels) refl word.1 in
    let version = c.version_part-topology_version.ensures e.topology_version (drop 2 ps) types.version r.version refl labels_at.1 in
    let message = c.in_ok-message.ensures e.message (version.1 ∙ message_as e.message) in
    let labels = c.in_err-labels.ensures e.labels r.labels labels_at.0 in
    handed_on _ c.from_residual-in_err-labels.result c.in_err-labels.field-0.0 labels c.from_residual-in_err-labels.ensures.1

pub returns : goal.returns
returns c = λ e types rules text.
    let r = error_rules e rules in
    let ps = error_parts e in
    let at = text ∙ ap (λ (t : List ℕ). codes " " ++ t) (error_as e) in
    let word = c.in_ok-word.ensures (kind_text e.kind) (parts_text ps) (kind_lacks e.kind types.own) (parts_follow ps refl) at in
    let kind = c.in_ok-kind.ensures e.kind types.own word.0 in
    let labels_at = c.part.ensures (labels_word e.labels) (drop 1 ps) (labels_lack e.labels r.labels) refl word.1 in
    let version = c.version_part-topology_version.ensures e.topology_version (drop 2 ps) types.version r.version refl labels_at.1 in
    let message = c.in_ok-message.ensures e.message (version.1 ∙ message_as e.message) in
    let labels = c.in_ok-labels.ensures e.labels r.labels labels_at.0 in
    rw (kind, labels, version.0, c.in_ok-message-2.ensures, message) refl
