-- The fields of a reply as the parts of a line, and which replies a line spells.
use Rattle.std.specs.Prelude.{ℕ, ◌<◌, ◌^◌, ◌&&◌, List, [], ◌∷◌, decimal, Bool, option_map, IfSome, is_none, codes, pos, FitsSigned}
use Rattle.std.specs.Int.{w32, w64}
use Rattle.std.specs.Fmt.{signed_decimal}
use Rattle.std.specs.Ordering.{int_eq}
use Rattle.mdb_base.specs.ErrorText.{version_text}
use Rattle.mdb_base.specs.Spelling.{object_id}
use Rattle.mdb_hello.specs.declared.response.HelloCommandResponse.{HelloCommandResponse}
use Rattle.mdb_parts.specs.ErrorParts.{is_version, IsVersionOfTypes}
use Rattle.mdb_parts.specs.Parts.{Part, flag, texts, parts_text}
use Rattle.mdb_parts.specs.Types.{IsIdOfTypes}
use Rattle.mdb_parts.specs.WordRule.{is_word, keeps}
use Rattle.mdb_replies.specs.Values.{bool_word, tags_text, are_tags, is_address_text, are_hosts, is_natural}

-- the fields in their order, and whether more replies are to come
abbrev pub reply_parts : HelloCommandResponse → Bool → List Part
reply_parts r more =
    (codes " isWritablePrimary=", option_map bool_word r.is_writable_primary)
    ∷ (codes " ismaster=", option_map bool_word r.is_master)
    ∷ (codes " helloOk=", option_map bool_word r.hello_ok)
    ∷ (codes " hosts=", option_map texts r.hosts)
    ∷ (codes " passives=", option_map texts r.passives)
    ∷ (codes " arbiters=", option_map texts r.arbiters)
    ∷ (codes " msg=", r.msg)
    ∷ (codes " me=", r.me)
    ∷ (codes " setVersion=", option_map signed_decimal r.set_version)
    ∷ (codes " setName=", r.set_name)
    ∷ (codes " hidden=", option_map bool_word r.hidden)
    ∷ (codes " secondary=", option_map bool_word r.secondary)
    ∷ (codes " arbiterOnly=", option_map bool_word r.arbiter_only)
    ∷ (codes " isreplicaset=", option_map bool_word r.is_replica_set)
    ∷ (codes " logicalSessionTimeoutMinutes=", option_map decimal r.logical_session_timeout_minutes)
    ∷ (codes " minWireVersion=", option_map signed_decimal r.min_wire_version)
    ∷ (codes " maxWireVersion=", option_map signed_decimal r.max_wire_version)
    ∷ (codes " tags=", option_map tags_text r.tags)
    ∷ (codes " electionId=", option_map object_id r.election_id)
    ∷ (codes " primary=", r.primary)
    ∷ (codes " topologyVersion=", option_map version_text r.topology_version)
    ∷ (codes " connectionId=", option_map signed_decimal r.connection_id)
    ∷ (codes " more", flag more)
    ∷ []

-- the fields that are there, and then whether more replies are to come
unfoldable pub fields_text : HelloCommandResponse → Bool → List ℕ
fields_text r more = parts_text (reply_parts r more)

unfoldable pub are_members : HelloCommandResponse → Bool
are_members r = keeps are_hosts r.hosts && (keeps are_hosts r.passives && keeps are_hosts r.arbiters)

unfoldable pub are_names : HelloCommandResponse → Bool
are_names r = keeps is_word r.msg && (keeps is_address_text r.me && (keeps is_word r.set_name && keeps is_address_text r.primary))

unfoldable pub are_versions : HelloCommandResponse → Bool
are_versions r = keeps is_natural r.set_version && (keeps is_natural r.min_wire_version && keeps is_natural r.max_wire_version)

unfoldable pub are_marks : HelloCommandResponse → Bool
are_marks r = keeps are_tags r.tags && (keeps is_version r.topology_version && keeps is_natural r.connection_id)

-- no field that no line names is there, and the sizes are 0
unfoldable pub names_all : HelloCommandResponse → Bool
names_all r = is_none r.compressors && (is_none r.last_write && (is_none r.sasl_supported_mechs && (is_none r.speculative_authenticate && is_none r.service_id)))

unfoldable pub sizes_none : HelloCommandResponse → Bool
sizes_none r = int_eq r.max_bson_object_size (pos 0) && (is_none r.max_write_batch_size && int_eq r.max_message_size_bytes (pos 0))

unfoldable pub is_reply : HelloCommandResponse → Bool
is_reply r = are_members r && (are_names r && (are_versions r && (are_marks r && (names_all r && sizes_none r))))

-- each number is one of its type
pub record IsReplyOfTypes (r : HelloCommandResponse) : Type 0 where
  pub set_version : IfSome r.set_version (FitsSigned w32)
  pub timeout : IfSome r.logical_session_timeout_minutes (λ n. n < 2 ^ 64)
  pub min_wire : IfSome r.min_wire_version (FitsSigned w32)
  pub max_wire : IfSome r.max_wire_version (FitsSigned w32)
  pub election : IfSome r.election_id IsIdOfTypes
  pub version : IfSome r.topology_version IsVersionOfTypes
  pub connection : IfSome r.connection_id (FitsSigned w64)
