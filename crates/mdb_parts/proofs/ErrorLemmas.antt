-- The parts of an error, and the bytes that its words lack.
use Rattle.std.proofs.Common.{◌≡◌, ℕ, ◌&&◌, true, leb, List, [], ◌∷◌, ◌++◌, length, Option, Some, None, option_map, IfSome, Result, ◌<◌, refl, ap, ◌∙◌, arith, append-nil, codes}
use Rattle.std.specs.List.{list_all}
use Rattle.std.specs.Fmt.{signed_decimal}
use Rattle.std.proofs.lemmas.Bool.{and_parts, and_from}
use Rattle.mdb_base.specs.Spelling.{object_id}
use Rattle.mdb_base.specs.AddressReading.{until, beyond, after}
use Rattle.mdb_base.specs.declared.object_id.ObjectId.{ObjectId}
use Rattle.mdb_base.proofs.Words.{after_here}
use Rattle.mdb_base.proofs.AddressAgain.{rest_cons, word_cut}
use Rattle.mdb_base.specs.ErrorText.{version_text, version_part, labels_text, kind_text, error_text}
use Rattle.mdb_base.specs.declared.error.Error.{Error}
use Rattle.mdb_base.specs.declared.error.ErrorKind.{ErrorKind}
use Rattle.mdb_base.specs.declared.error.ErrorKind.TheVariants as kind
use Rattle.mdb_base.specs.declared.topology_version.TopologyVersion.{TopologyVersion}
use Rattle.mdb_parts.specs.Parts.{Part, parts_text, texts}
use Rattle.mdb_parts.specs.ErrorParts.{labels_word, message_part, error_parts, is_version, is_kind, are_labels, is_message, is_error, IsVersionOfTypes, IsKindOfTypes}
use Rattle.mdb_parts.specs.Reading.{lacks, Gives}
use Rattle.mdb_parts.specs.declared.line_error.LineError.{LineError}
use Rattle.mdb_parts.specs.WordRule.{is_word, keeps}
use Rattle.mdb_parts.proofs.TextLemmas.{signed_lacks}
use Rattle.mdb_parts.proofs.AddressLemmas.{id_lacks, id_lacks_byte}
use Rattle.mdb_parts.proofs.CommaLemmas.{lacks_append, commas_lack}
use Rattle.mdb_parts.proofs.WordLemmas.{word_lacks}

pub version_lacks : (v : TopologyVersion) → IsVersionOfTypes v → lacks 32 (version_text v) ≡ true
version_lacks v types = lacks_append 32 (object_id v.process_id) (46 ∷ signed_decimal v.counter) (id_lacks v.process_id) (signed_lacks 32 v.counter (omega arith) types.counter)

pub words_lack_version : (o : Option TopologyVersion) → IfSome o IsVersionOfTypes → IfSome (option_map version_text o) (λ w. lacks 32 w ≡ true)
words_lack_version None h = tt
words_lack_version (Some v) h = version_lacks v h

some_same : (a b : List ℕ) → Some a ≡ Some b → a ≡ b
some_same a b h = cc

pub id_no_dot : (id : ObjectId) → lacks 46 (object_id id) ≡ true
id_no_dot id = id_lacks_byte 46 refl (omega arith) id

-- what stands round the first dot of a version
pub version_cut : (v : TopologyVersion) (word : List ℕ) → word ≡ version_text v → (until 46 word ≡ object_id v.process_id) × (after (codes ".") (beyond 46 word) ≡ Some (signed_decimal v.counter))
version_cut v word e =
    let p = word_cut 46 (object_id v.process_id) (46 ∷ signed_decimal v.counter) (id_no_dot v.process_id) (rest_cons 46 (signed_decimal v.counter)) in
    (ap (until 46) e ∙ p.0, ap (λ (w : List ℕ). after (codes ".") (beyond 46 w)) e ∙ ap (after (codes ".")) p.1 ∙ after_here (codes ".") (signed_decimal v.counter))

pub version_digits : (v : TopologyVersion) (word digits rest : List ℕ) → word ≡ version_text v → rest ≡ beyond 46 word → Some digits ≡ after (codes ".") rest → digits ≡ signed_decimal v.counter
version_digits v word digits rest e cut found = some_same digits (signed_decimal v.counter) (found ∙ ap (after (codes ".")) cut ∙ (version_cut v word e).1)

pub version_dot : (v : TopologyVersion) (word rest : List ℕ) → word ≡ version_text v → rest ≡ beyond 46 word → None ≡ after (codes ".") rest → ⊥
version_dot v word rest e cut none = let f = none ∙ ap (after (codes ".")) cut ∙ (version_cut v word e).1 in cc

pub label_rule : (labels : List (List ℕ)) → are_labels labels ≡ true → list_all is_word labels ≡ true
unfolding are_labels
label_rule labels h = (and_parts (leb (length labels) 8) (list_all is_word labels) h).1

words_no_comma : (ws : List (List ℕ)) → list_all is_word ws ≡ true → list_all (lacks 44) ws ≡ true
words_no_comma [] h = refl
words_no_comma (w ∷ ws) h = let p = and_parts _ _ h in and_from _ _ (word_lacks 44 refl w p.0) (words_no_comma ws p.1)

pub labels_no_comma : (labels : List (List ℕ)) → are_labels labels ≡ true → list_all (lacks 44) labels ≡ true
labels_no_comma labels h = words_no_comma labels (label_rule labels h)

pub labels_lack : (labels : List (List ℕ)) → are_labels labels ≡ true → IfSome (labels_word labels) (λ w. lacks 32 w ≡ true)
labels_lack [] h = tt
labels_lack (l ∷ ls) h = commas_lack (λ t. t) is_word (λ w k. word_lacks 32 refl w k) (l ∷ ls) (label_rule (l ∷ ls) h)

pub kind_lacks : (k : ErrorKind) → IsKindOfTypes k → lacks 32 (kind_text k) ≡ true
kind_lacks kind.Network h = refl
kind_lacks kind.NetworkTimeout h = refl
kind_lacks kind.Auth h = refl
kind_lacks kind.IncompatibleServer h = refl
kind_lacks (kind.Command code) h = signed_lacks 32 code (omega arith) (record { sfits = omega (arith, h.sfits) })
kind_lacks kind.Other h = refl

-- labels that are there are read by their word
pub labels_given : (labels : List (List ℕ)) (word : List ℕ) (r : Result (List (List ℕ)) LineError) → are_labels labels ≡ true → Some word ≡ labels_word labels
    → ((all : List (List ℕ)) → 0 < length all → list_all (lacks 44) all ≡ true → word ≡ texts all → Gives all r) → Gives labels r
labels_given [] word r h e reads = absurd (cc)
labels_given (l ∷ ls) word r h e reads = reads (l ∷ ls) (omega arith) (labels_no_comma (l ∷ ls) h) (some_same word (texts (l ∷ ls)) e)

-- what the rules of an error say
pub record ErrorRules (e : Error) : Type 0 where
  pub own : is_kind e.kind ≡ true
  pub labels : are_labels e.labels ≡ true
  pub version : keeps is_version e.topology_version ≡ true

pub error_rules : (e : Error) → is_error e ≡ true → ErrorRules e
unfolding is_error
error_rules e h =
    let r2 = keeps is_version e.topology_version && is_message e.message in
    let p1 = and_parts (is_kind e.kind) (are_labels e.labels && r2) h in
    let p2 = and_parts (are_labels e.labels) r2 p1.1 in
    let p3 = and_parts (keeps is_version e.topology_version) (is_message e.message) p2.1 in
    record { own = p1.0; labels = p2.0; version = p3.0 }

-- the text of an error is its kind and its parts

labels_as : (labels : List (List ℕ)) (ps : List Part) → labels_text labels ++ parts_text ps ≡ parts_text ((codes " labels=", labels_word labels) ∷ ps)
unfolding parts_text
labels_as [] ps = refl
labels_as (l ∷ ls) ps = refl

version_as : (v : Option TopologyVersion) (ps : List Part) → version_part v ++ parts_text ps ≡ parts_text ((codes " tv=", option_map version_text v) ∷ ps)
unfolding parts_text
version_as None ps = refl
version_as (Some v) ps = refl

pub message_as : (message : List ℕ) → parts_text (message_part message) ≡ codes " msg=" ++ message
unfolding parts_text
message_as message = append-nil (codes " msg=" ++ message)

pub error_as : (e : Error) → error_text e ≡ kind_text e.kind ++ parts_text (error_parts e)
error_as e =
    let rest = message_part e.message in
    let m = message_as e.message in
    let v = version_as e.topology_version rest in
    let l = labels_as e.labels ((codes " tv=", option_map version_text e.topology_version) ∷ rest) in
    rw (← l, ← v, m) refl
