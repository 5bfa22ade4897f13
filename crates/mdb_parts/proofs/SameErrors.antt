-- Errors that are spelled alike are the same.
use Rattle.std.proofs.Common.{◌≡◌, ℕ, ℤ, ◌<◌, true, eqb, if◌then◌else◌, get_or, List, [], ◌∷◌, length, drop, Option, Some, None, option_map, IfSome, FitsSigned, refl, sym, ap, ◌∙◌, arith, codes}
use Rattle.std.specs.Int.{w32}
use Rattle.std.specs.List.{list_all}
use Rattle.std.specs.Fmt.{signed_decimal}
use Rattle.std.proofs.lemmas.List.{append_cancel_left}
use Rattle.std.proofs.lemmas.Fmt.{signed_decimal_injective}
use Rattle.mdb_base.specs.Spelling.{object_id}
use Rattle.mdb_base.specs.ErrorText.{version_text, kind_text, error_text}
use Rattle.mdb_base.specs.declared.error.Error.{Error}
use Rattle.mdb_base.specs.declared.error.ErrorKind.{ErrorKind}
use Rattle.mdb_base.specs.declared.error.ErrorKind.TheVariants as kind
use Rattle.mdb_base.specs.declared.topology_version.TopologyVersion.{TopologyVersion}
use Rattle.mdb_base.proofs.AddressAgain.{rest_cons}
use Rattle.mdb_parts.specs.Parts.{parts_text, texts}
use Rattle.mdb_parts.specs.ErrorParts.{labels_word, error_parts, is_version, are_labels, is_error, IsVersionOfTypes, IsKindOfTypes, IsErrorOfTypes}
use Rattle.mdb_parts.specs.Reading.{lacks}
use Rattle.mdb_parts.specs.WordRule.{keeps}
use Rattle.mdb_parts.proofs.TextLemmas.{short_32, short_64}
use Rattle.mdb_parts.proofs.PartLemmas.{parts_follow}
use Rattle.mdb_parts.proofs.ErrorLemmas.{error_rules, error_as, message_as, kind_lacks, labels_lack, labels_no_comma, words_lack_version, id_no_dot}
use Rattle.mdb_parts.proofs.Same.{cut_same, word_same, part_same, commas_same, id_same}

some_same : {A : Type 0} (a b : A) → Some a ≡ Some b → a ≡ b
some_same a b h = cc

-- a kind without a code, by the first byte of its word
plain_from : List ℕ → Option ErrorKind
plain_from word =
    let first = get_or word 0 0 in
    if eqb first 110 then Some kind.Network
    else if eqb first 116 then Some kind.NetworkTimeout
    else if eqb first 97 then Some kind.Auth
    else if eqb first 105 then Some kind.IncompatibleServer
    else if eqb first 111 then Some kind.Other
    else None

plain : ErrorKind → Option ErrorKind
plain k = plain_from (kind_text k)

plain_some : (k x : ErrorKind) → plain k ≡ Some x → k ≡ x
unfolding plain plain_from
plain_some kind.Network x h = cc
plain_some kind.NetworkTimeout x h = cc
plain_some kind.Auth x h = cc
plain_some kind.IncompatibleServer x h = cc
plain_some (kind.Command code) x h = absurd (cc)
plain_some kind.Other x h = cc

plain_none : (k : ErrorKind) → plain k ≡ None → IsKindOfTypes k → (code : ℤ) × (k ≡ kind.Command code) × FitsSigned w32 code
unfolding plain plain_from
plain_none kind.Network h types = absurd (cc)
plain_none kind.NetworkTimeout h types = absurd (cc)
plain_none kind.Auth h types = absurd (cc)
plain_none kind.IncompatibleServer h types = absurd (cc)
plain_none (kind.Command code) h types = (code, refl, types)
plain_none kind.Other h types = absurd (cc)

kinds_same : (k l : ErrorKind) → IsKindOfTypes k → IsKindOfTypes l → kind_text k ≡ kind_text l → k ≡ l
unfolding plain
kinds_same k l tk tl e = by (plain k) refl
  where
    by : (o : Option ErrorKind) → plain k ≡ o → k ≡ l
    by (Some x) h = plain_some k x h ∙ sym (plain_some l x (ap plain_from (sym e) ∙ h))
    by None h =
        let p = plain_none k h tk in
        let q = plain_none l (ap plain_from (sym e) ∙ h) tl in
        let words : kind_text (kind.Command p.0) ≡ kind_text (kind.Command q.0) = ap kind_text (sym p.1) ∙ e ∙ ap kind_text q.1 in
        let digits = append_cancel_left (codes "command.") (signed_decimal p.0) (signed_decimal q.0) words in
        let code = signed_decimal_injective p.0 q.0 (short_32 p.0 p.2) (short_32 q.0 q.2) digits in
        p.1 ∙ ap kind.Command code ∙ sym q.1

pub versions_alike : (v w : TopologyVersion) → IsVersionOfTypes v → IsVersionOfTypes w → is_version v ≡ true → is_version w ≡ true → version_text v ≡ version_text w → v ≡ w
versions_alike v w tv tw hv hw e =
    let p = cut_same 46 (object_id v.process_id) (object_id w.process_id) (46 ∷ signed_decimal v.counter) (46 ∷ signed_decimal w.counter) (id_no_dot v.process_id) (id_no_dot w.process_id) (rest_cons 46 _) (rest_cons 46 _) e in
    let id = id_same v.process_id w.process_id tv.process tw.process p.0 in
    let digits = append_cancel_left (codes ".") (signed_decimal v.counter) (signed_decimal w.counter) p.1 in
    let counter = signed_decimal_injective v.counter w.counter (short_64 v.counter tv.counter hv) (short_64 w.counter tw.counter hw) digits in
    let all : ◌≡◌ {A = TopologyVersion} (record { process_id = v.process_id; counter = v.counter }) w = rw (id, counter) refl in
    all

pub versions_same : (o p : Option TopologyVersion) → IfSome o IsVersionOfTypes → IfSome p IsVersionOfTypes → keeps is_version o ≡ true → keeps is_version p ≡ true → option_map version_text o ≡ option_map version_text p → o ≡ p
versions_same None None to tp ho hp e = refl
versions_same None (Some w) to tp ho hp e = absurd (cc)
versions_same (Some v) None to tp ho hp e = absurd (cc)
versions_same (Some v) (Some w) to tp ho hp e = ap Some (versions_alike v w to tp ho hp (some_same (version_text v) (version_text w) e))

pub texts_same : (xs ys : List (List ℕ)) → 0 < length xs → 0 < length ys → list_all (lacks 44) xs ≡ true → list_all (lacks 44) ys ≡ true → texts xs ≡ texts ys → xs ≡ ys
texts_same = commas_same (λ t. t) (lacks 44) (λ x h. h) (λ x y hx hy e. e)

labels_same : (xs ys : List (List ℕ)) → are_labels xs ≡ true → are_labels ys ≡ true → labels_word xs ≡ labels_word ys → xs ≡ ys
labels_same [] [] hx hy e = refl
labels_same [] (y ∷ ys) hx hy e = absurd (cc)
labels_same (x ∷ xs) [] hx hy e = absurd (cc)
labels_same (x ∷ xs) (y ∷ ys) hx hy e =
    texts_same (x ∷ xs) (y ∷ ys) (omega arith) (omega arith) (labels_no_comma (x ∷ xs) hx) (labels_no_comma (y ∷ ys) hy) (some_same (texts (x ∷ xs)) (texts (y ∷ ys)) e)

pub error_same : (d e : Error) → IsErrorOfTypes d → IsErrorOfTypes e → is_error d ≡ true → is_error e ≡ true → error_text d ≡ error_text e → d ≡ e
error_same d e td te hd he same =
    let r = error_rules d hd in
    let s = error_rules e he in
    let ps = error_parts d in
    let qs = error_parts e in
    let e0 = word_same (kind_text d.kind) (kind_text e.kind) (parts_text ps) (parts_text qs) (kind_lacks d.kind td.own) (kind_lacks e.kind te.own) (parts_follow ps refl) (parts_follow qs refl) (sym (error_as d) ∙ same ∙ error_as e) in
    let e1 = part_same (codes " labels=") (labels_word d.labels) (labels_word e.labels) (drop 1 ps) (drop 1 qs) (labels_lack d.labels r.labels) (labels_lack e.labels s.labels) refl refl e0.1 in
    let e2 = part_same (codes " tv=") (option_map version_text d.topology_version) (option_map version_text e.topology_version) (drop 2 ps) (drop 2 qs) (words_lack_version d.topology_version td.version) (words_lack_version e.topology_version te.version) refl refl e1.1 in
    let e3 = append_cancel_left (codes " msg=") d.message e.message (sym (message_as d.message) ∙ e2.1 ∙ message_as e.message) in
    let own = kinds_same d.kind e.kind td.own te.own e0.0 in
    let labels = labels_same d.labels e.labels r.labels s.labels e1.0 in
    let version = versions_same d.topology_version e.topology_version td.version te.version r.version s.version e2.0 in
    let all : ◌≡◌ {A = Error} (record { kind = d.kind; labels = d.labels; topology_version = d.topology_version; message = d.message }) e = rw (own, labels, version, e3) refl in
    all
