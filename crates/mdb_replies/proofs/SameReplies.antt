-- Replies that are spelled alike are the same.
use Rattle.std.proofs.Common.{◌≡◌, ℕ, ℤ, zero, suc, Bool, true, false, List, [], ◌∷◌, Option, Some, None, option_map, IfSome, FitsSigned, pos, decimal, refl, sym, ap, ◌∙◌, codes}
use Rattle.std.specs.Int.{w32}
use Rattle.std.specs.Fmt.{signed_decimal}
use Rattle.std.proofs.lemmas.Bool.{and_parts}
use Rattle.std.proofs.lemmas.List.{append_cancel_left}
use Rattle.std.proofs.lemmas.Fmt.{signed_decimal_injective}
use Rattle.mdb_base.specs.ErrorText.{version_text}
use Rattle.mdb_base.specs.Spelling.{object_id}
use Rattle.mdb_base.specs.Tags.{Tag}
use Rattle.mdb_base.proofs.AddressAgain.{rest_cons}
use Rattle.mdb_hello.specs.declared.response.HelloCommandResponse.{HelloCommandResponse}
use Rattle.mdb_parts.specs.Parts.{Part, parts_text, flag, texts}
use Rattle.mdb_parts.specs.WordRule.{is_word, keeps}
use Rattle.mdb_parts.proofs.TextLemmas.{short_32}
use Rattle.mdb_parts.proofs.PartLemmas.{words_lack-64, words_lack-signed, words_lack-id, words_lack-flag}
use Rattle.mdb_parts.proofs.WordLemmas.{word_lacks, words_lack-word}
use Rattle.mdb_parts.proofs.ErrorLemmas.{words_lack_version}
use Rattle.mdb_parts.proofs.Same.{AllLack, parts_same, cut_same, commas_same, values_same, numbers_same-64, numbers_same-signed, ids_same}
use Rattle.mdb_parts.proofs.SameErrors.{texts_same, versions_same}
use Rattle.mdb_replies.specs.Values.{bool_word, tag_text, tags_text, is_tag, are_tags, are_hosts}
use Rattle.mdb_replies.specs.ReplyParts.{reply_parts, fields_text, is_reply, IsReplyOfTypes}
use Rattle.mdb_replies.proofs.ValueLemmas.{words_lack_bool, words_lack_signed32, words_lack-hosts, words_lack-address, words_lack-tags, tag_no_comma, tag_rules, host_rules}
use Rattle.mdb_replies.proofs.ReplyLemmas.{ReplyRules, reply_rules, reply_numbers, others, none_else}

some_same : {A : Type 0} (a b : A) → Some a ≡ Some b → a ≡ b
some_same a b h = cc

bools_same : (o p : Option Bool) → option_map bool_word o ≡ option_map bool_word p → o ≡ p
bools_same None None e = refl
bools_same None (Some c) e = absurd (cc)
bools_same (Some b) None e = absurd (cc)
bools_same (Some true) (Some true) e = refl
bools_same (Some true) (Some false) e = absurd (cc)
bools_same (Some false) (Some true) e = absurd (cc)
bools_same (Some false) (Some false) e = refl

narrow_same : (o p : Option ℤ) → IfSome o (FitsSigned w32) → IfSome p (FitsSigned w32) → option_map signed_decimal o ≡ option_map signed_decimal p → o ≡ p
narrow_same o p ho hp e = values_same signed_decimal (FitsSigned w32) (λ y z hy hz same. signed_decimal_injective y z (short_32 y hy) (short_32 z hz) same) o p ho hp e

hosts_same : (o p : Option (List (List ℕ))) → keeps are_hosts o ≡ true → keeps are_hosts p ≡ true → option_map texts o ≡ option_map texts p → o ≡ p
hosts_same None None ho hp e = refl
hosts_same None (Some ys) ho hp e = absurd (cc)
hosts_same (Some xs) None ho hp e = absurd (cc)
hosts_same (Some xs) (Some ys) ho hp e =
    let r = host_rules xs ho in
    let s = host_rules ys hp in
    ap Some (texts_same xs ys r.some s.some r.commas s.commas (some_same (texts xs) (texts ys) e))

tag_same : (x y : Tag) → is_tag x ≡ true → is_tag y ≡ true → tag_text x ≡ tag_text y → x ≡ y
tag_same (n, v) (m, w) hx hy e =
    let p = and_parts (is_word n) (is_word v) hx in
    let q = and_parts (is_word m) (is_word w) hy in
    let c = cut_same 58 n m (58 ∷ v) (58 ∷ w) (word_lacks 58 refl n p.0) (word_lacks 58 refl m q.0) (rest_cons 58 v) (rest_cons 58 w) e in
    let value = append_cancel_left (codes ":") v w c.1 in
    rw (c.0, value) refl

tags_same : (o p : Option (List Tag)) → keeps are_tags o ≡ true → keeps are_tags p ≡ true → option_map tags_text o ≡ option_map tags_text p → o ≡ p
tags_same None None ho hp e = refl
tags_same None (Some ys) ho hp e = absurd (cc)
tags_same (Some xs) None ho hp e = absurd (cc)
tags_same (Some xs) (Some ys) ho hp e =
    let r = tag_rules xs ho in
    let s = tag_rules ys hp in
    ap Some (commas_same tag_text is_tag tag_no_comma tag_same xs ys r.some s.some r.own s.own (some_same (tags_text xs) (tags_text ys) e))

flags_same : (b c : Bool) → flag b ≡ flag c → b ≡ c
flags_same true true e = refl
flags_same true false e = absurd (cc)
flags_same false true e = absurd (cc)
flags_same false false e = refl

reply_lacks : (r : HelloCommandResponse) (more : Bool) → IsReplyOfTypes r → ReplyRules r → AllLack (reply_parts r more)
reply_lacks r more t k =
    (words_lack_bool r.is_writable_primary, (words_lack_bool r.is_master, (words_lack_bool r.hello_ok, (words_lack-hosts r.hosts k.hosts, (words_lack-hosts r.passives k.passives, (words_lack-hosts r.arbiters k.arbiters, (words_lack-word r.msg k.msg, (words_lack-address r.me k.me, (words_lack_signed32 r.set_version t.set_version, (words_lack-word r.set_name k.set_name, (words_lack_bool r.hidden, (words_lack_bool r.secondary, (words_lack_bool r.arbiter_only, (words_lack_bool r.is_replica_set, (words_lack-64 r.logical_session_timeout_minutes t.timeout, (words_lack_signed32 r.min_wire_version t.min_wire, (words_lack_signed32 r.max_wire_version t.max_wire, (words_lack-tags r.tags k.tags, (words_lack-id r.election_id, (words_lack-address r.primary k.primary, (words_lack_version r.topology_version t.version, (words_lack-signed r.connection_id (reply_numbers r t k), (words_lack-flag more, tt)))))))))))))))))))))))

abbrev value_at : ℕ → List Part → Option (List ℕ)
value_at n [] = None
value_at zero (p ∷ ps) = p.1
value_at (suc n) (p ∷ ps) = value_at n ps

replies_alike : (r q : HelloCommandResponse) (more last : Bool) → IsReplyOfTypes r → IsReplyOfTypes q → ReplyRules r → ReplyRules q → reply_parts r more ≡ reply_parts q last
    → ◌≡◌ {A = HelloCommandResponse} (record { is_writable_primary = r.is_writable_primary; is_master = r.is_master; hello_ok = r.hello_ok; hosts = r.hosts; passives = r.passives; arbiters = r.arbiters; msg = r.msg; me = r.me; compressors = None; set_version = r.set_version; set_name = r.set_name; hidden = r.hidden; secondary = r.secondary; arbiter_only = r.arbiter_only; is_replica_set = r.is_replica_set; logical_session_timeout_minutes = r.logical_session_timeout_minutes; last_write = None; min_wire_version = r.min_wire_version; max_wire_version = r.max_wire_version; tags = r.tags; election_id = r.election_id; primary = r.primary; sasl_supported_mechs = None; speculative_authenticate = None; max_bson_object_size = pos 0; max_write_batch_size = None; service_id = None; topology_version = r.topology_version; max_message_size_bytes = pos 0; connection_id = r.connection_id }) (record { is_writable_primary = q.is_writable_primary; is_master = q.is_master; hello_ok = q.hello_ok; hosts = q.hosts; passives = q.passives; arbiters = q.arbiters; msg = q.msg; me = q.me; compressors = None; set_version = q.set_version; set_name = q.set_name; hidden = q.hidden; secondary = q.secondary; arbiter_only = q.arbiter_only; is_replica_set = q.is_replica_set; logical_session_timeout_minutes = q.logical_session_timeout_minutes; last_write = None; min_wire_version = q.min_wire_version; max_wire_version = q.max_wire_version; tags = q.tags; election_id = q.election_id; primary = q.primary; sasl_supported_mechs = None; speculative_authenticate = None; max_bson_object_size = pos 0; max_write_batch_size = None; service_id = None; topology_version = q.topology_version; max_message_size_bytes = pos 0; connection_id = q.connection_id })
replies_alike r q more last t u k l all =
    let v0 : option_map bool_word r.is_writable_primary ≡ option_map bool_word q.is_writable_primary = ap (value_at 0) all in
    let e0 = bools_same r.is_writable_primary q.is_writable_primary v0 in
    let v1 : option_map bool_word r.is_master ≡ option_map bool_word q.is_master = ap (value_at 1) all in
    let e1 = bools_same r.is_master q.is_master v1 in
    let v2 : option_map bool_word r.hello_ok ≡ option_map bool_word q.hello_ok = ap (value_at 2) all in
    let e2 = bools_same r.hello_ok q.hello_ok v2 in
    let v3 : option_map texts r.hosts ≡ option_map texts q.hosts = ap (value_at 3) all in
    let e3 = hosts_same r.hosts q.hosts k.hosts l.hosts v3 in
    let v4 : option_map texts r.passives ≡ option_map texts q.passives = ap (value_at 4) all in
    let e4 = hosts_same r.passives q.passives k.passives l.passives v4 in
    let v5 : option_map texts r.arbiters ≡ option_map texts q.arbiters = ap (value_at 5) all in
    let e5 = hosts_same r.arbiters q.arbiters k.arbiters l.arbiters v5 in
    let v6 : r.msg ≡ q.msg = ap (value_at 6) all in
    let v7 : r.me ≡ q.me = ap (value_at 7) all in
    let v8 : option_map signed_decimal r.set_version ≡ option_map signed_decimal q.set_version = ap (value_at 8) all in
    let e8 = narrow_same r.set_version q.set_version t.set_version u.set_version v8 in
    let v9 : r.set_name ≡ q.set_name = ap (value_at 9) all in
    let v10 : option_map bool_word r.hidden ≡ option_map bool_word q.hidden = ap (value_at 10) all in
    let e10 = bools_same r.hidden q.hidden v10 in
    let v11 : option_map bool_word r.secondary ≡ option_map bool_word q.secondary = ap (value_at 11) all in
    let e11 = bools_same r.secondary q.secondary v11 in
    let v12 : option_map bool_word r.arbiter_only ≡ option_map bool_word q.arbiter_only = ap (value_at 12) all in
    let e12 = bools_same r.arbiter_only q.arbiter_only v12 in
    let v13 : option_map bool_word r.is_replica_set ≡ option_map bool_word q.is_replica_set = ap (value_at 13) all in
    let e13 = bools_same r.is_replica_set q.is_replica_set v13 in
    let v14 : option_map decimal r.logical_session_timeout_minutes ≡ option_map decimal q.logical_session_timeout_minutes = ap (value_at 14) all in
    let e14 = numbers_same-64 r.logical_session_timeout_minutes q.logical_session_timeout_minutes t.timeout u.timeout v14 in
    let v15 : option_map signed_decimal r.min_wire_version ≡ option_map signed_decimal q.min_wire_version = ap (value_at 15) all in
    let e15 = narrow_same r.min_wire_version q.min_wire_version t.min_wire u.min_wire v15 in
    let v16 : option_map signed_decimal r.max_wire_version ≡ option_map signed_decimal q.max_wire_version = ap (value_at 16) all in
    let e16 = narrow_same r.max_wire_version q.max_wire_version t.max_wire u.max_wire v16 in
    let v17 : option_map tags_text r.tags ≡ option_map tags_text q.tags = ap (value_at 17) all in
    let e17 = tags_same r.tags q.tags k.tags l.tags v17 in
    let v18 : option_map object_id r.election_id ≡ option_map object_id q.election_id = ap (value_at 18) all in
    let e18 = ids_same r.election_id q.election_id t.election u.election v18 in
    let v19 : r.primary ≡ q.primary = ap (value_at 19) all in
    let v20 : option_map version_text r.topology_version ≡ option_map version_text q.topology_version = ap (value_at 20) all in
    let e20 = versions_same r.topology_version q.topology_version t.version u.version k.version l.version v20 in
    let v21 : option_map signed_decimal r.connection_id ≡ option_map signed_decimal q.connection_id = ap (value_at 21) all in
    let e21 = numbers_same-signed r.connection_id q.connection_id (reply_numbers r t k) (reply_numbers q u l) v21 in
    rw (e0, e1, e2, e3, e4, e5, v6, v7, e8, v9, e10, e11, e12, e13, e14, e15, e16, e17, e18, v19, e20, e21) refl

pub reply_same : (r q : HelloCommandResponse) (more last : Bool) → IsReplyOfTypes r → IsReplyOfTypes q → is_reply r ≡ true → is_reply q ≡ true → fields_text r more ≡ fields_text q last → (r ≡ q) × (more ≡ last)
unfolding fields_text
reply_same r q more last t u h g e =
    let k = reply_rules r h in
    let l = reply_rules q g in
    let all = parts_same (reply_parts r more) (reply_parts q last) refl refl refl (reply_lacks r more t k) (reply_lacks q last u l) e in
    let more_is : flag more ≡ flag last = ap (value_at 22) all in
    (sym (none_else r (others r k.named k.sizes)) ∙ replies_alike r q more last t u k l all ∙ none_else q (others q l.named l.sizes), flags_same more last more_is)
