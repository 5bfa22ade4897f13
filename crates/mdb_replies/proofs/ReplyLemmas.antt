-- What the rules of a reply say.
use Rattle.std.proofs.Common.{◌≡◌, ℕ, ℤ, ◌&&◌, Bool, true, List, Option, Some, None, IfSome, FitsSigned, is_none, pos, int_le, refl, sym}
use Rattle.std.specs.Int.{w64}
use Rattle.std.specs.Ordering.{int_eq}
use Rattle.std.proofs.lemmas.Bool.{and_parts}
use Rattle.std.proofs.lemmas.Bool.Decides.{Decides-int_eq}
use Rattle.mdb_base.specs.Document.{Field}
use Rattle.mdb_base.specs.declared.object_id.ObjectId.{ObjectId}
use Rattle.mdb_hello.specs.declared.response.HelloCommandResponse.{HelloCommandResponse}
use Rattle.mdb_hello.specs.declared.response.LastWrite.{LastWrite}
use Rattle.mdb_parts.specs.ErrorParts.{is_version}
use Rattle.mdb_parts.specs.Reading.{Follows}
use Rattle.mdb_parts.proofs.PartLemmas.{parts_follow}
use Rattle.mdb_parts.specs.WordRule.{is_word, keeps}
use Rattle.mdb_replies.specs.Values.{are_tags, is_address_text, are_hosts, is_natural}
use Rattle.mdb_replies.specs.ReplyParts.{reply_parts, fields_text, are_members, are_names, are_versions, are_marks, names_all, sizes_none, is_reply, IsReplyOfTypes}

pub record ReplyRules (r : HelloCommandResponse) : Type 0 where
  pub hosts : keeps are_hosts r.hosts ≡ true
  pub passives : keeps are_hosts r.passives ≡ true
  pub arbiters : keeps are_hosts r.arbiters ≡ true
  pub msg : keeps is_word r.msg ≡ true
  pub me : keeps is_address_text r.me ≡ true
  pub set_name : keeps is_word r.set_name ≡ true
  pub primary : keeps is_address_text r.primary ≡ true
  pub set_version : keeps is_natural r.set_version ≡ true
  pub min_wire : keeps is_natural r.min_wire_version ≡ true
  pub max_wire : keeps is_natural r.max_wire_version ≡ true
  pub tags : keeps are_tags r.tags ≡ true
  pub version : keeps is_version r.topology_version ≡ true
  pub connection : keeps is_natural r.connection_id ≡ true
  pub named : names_all r ≡ true
  pub sizes : sizes_none r ≡ true

pub reply_rules : (r : HelloCommandResponse) → is_reply r ≡ true → ReplyRules r
unfolding is_reply are_members are_names are_versions are_marks
reply_rules r h =
    let s5 = names_all r && sizes_none r in
    let s4 = are_marks r && s5 in
    let s3 = are_versions r && s4 in
    let s2 = are_names r && s3 in
    let p1 = and_parts (are_members r) s2 h in
    let p2 = and_parts (are_names r) s3 p1.1 in
    let p3 = and_parts (are_versions r) s4 p2.1 in
    let p4 = and_parts (are_marks r) s5 p3.1 in
    let p5 = and_parts (names_all r) (sizes_none r) p4.1 in
    let a = and_parts (keeps are_hosts r.hosts) (keeps are_hosts r.passives && keeps are_hosts r.arbiters) p1.0 in
    let b = and_parts (keeps are_hosts r.passives) (keeps are_hosts r.arbiters) a.1 in
    let c2 = keeps is_word r.set_name && keeps is_address_text r.primary in
    let c = and_parts (keeps is_word r.msg) (keeps is_address_text r.me && c2) p2.0 in
    let d = and_parts (keeps is_address_text r.me) c2 c.1 in
    let e = and_parts (keeps is_word r.set_name) (keeps is_address_text r.primary) d.1 in
    let f = and_parts (keeps is_natural r.set_version) (keeps is_natural r.min_wire_version && keeps is_natural r.max_wire_version) p3.0 in
    let g = and_parts (keeps is_natural r.min_wire_version) (keeps is_natural r.max_wire_version) f.1 in
    let k = and_parts (keeps are_tags r.tags) (keeps is_version r.topology_version && keeps is_natural r.connection_id) p4.0 in
    let l = and_parts (keeps is_version r.topology_version) (keeps is_natural r.connection_id) k.1 in
    record {
      hosts = a.0;
      passives = b.0;
      arbiters = b.1;
      msg = c.0;
      me = d.0;
      set_name = e.0;
      primary = e.1;
      set_version = f.0;
      min_wire = g.0;
      max_wire = g.1;
      tags = k.0;
      version = l.0;
      connection = l.1;
      named = p5.0;
      sizes = p5.1;
    }

natural_fits : (o : Option ℤ) → IfSome o (FitsSigned w64) → keeps is_natural o ≡ true → IfSome o (λ z. FitsSigned w64 z × (int_le (pos 0) z ≡ true))
natural_fits None fits h = tt
natural_fits (Some z) fits h = (fits, h)

pub reply_numbers : (r : HelloCommandResponse) → IsReplyOfTypes r → ReplyRules r → IfSome r.connection_id (λ z. FitsSigned w64 z × (int_le (pos 0) z ≡ true))
reply_numbers r types k = natural_fits r.connection_id types.connection k.connection

is_none_of : {A : Type 0} (o : Option A) → is_none o ≡ true → None ≡ o
is_none_of None h = refl
is_none_of (Some x) h = absurd (cc)

is_zero_of : (z : ℤ) → int_eq z (pos 0) ≡ true → pos 0 ≡ z
is_zero_of z h = sym ((Decides-int_eq z (pos 0)).0 h)

-- the fields that no line names
pub record Others (r : HelloCommandResponse) : Type 0 where
  pub compressors : None ≡ r.compressors
  pub write : None ≡ r.last_write
  pub mechs : None ≡ r.sasl_supported_mechs
  pub answer : None ≡ r.speculative_authenticate
  pub size : pos 0 ≡ r.max_bson_object_size
  pub batch : None ≡ r.max_write_batch_size
  pub service : None ≡ r.service_id
  pub message : pos 0 ≡ r.max_message_size_bytes

pub others : (r : HelloCommandResponse) → names_all r ≡ true → sizes_none r ≡ true → Others r
unfolding names_all sizes_none
others r h k =
    let s4 = is_none r.speculative_authenticate && is_none r.service_id in
    let s3 = is_none r.sasl_supported_mechs && s4 in
    let s2 = is_none r.last_write && s3 in
    let a = and_parts (is_none r.compressors) s2 h in
    let b = and_parts (is_none r.last_write) s3 a.1 in
    let c = and_parts (is_none r.sasl_supported_mechs) s4 b.1 in
    let d = and_parts (is_none r.speculative_authenticate) (is_none r.service_id) c.1 in
    let e = and_parts (int_eq r.max_bson_object_size (pos 0)) (is_none r.max_write_batch_size && int_eq r.max_message_size_bytes (pos 0)) k in
    let f = and_parts (is_none r.max_write_batch_size) (int_eq r.max_message_size_bytes (pos 0)) e.1 in
    record {
      compressors = is_none_of r.compressors a.0;
      write = is_none_of r.last_write b.0;
      mechs = is_none_of r.sasl_supported_mechs c.0;
      answer = is_none_of r.speculative_authenticate d.0;
      size = is_zero_of r.max_bson_object_size e.0;
      batch = is_none_of r.max_write_batch_size f.0;
      service = is_none_of r.service_id d.1;
      message = is_zero_of r.max_message_size_bytes f.1;
    }

-- a reply with these in place of the fields that no line names
pub whole : (r : HelloCommandResponse) (compressors mechs : Option (List (List ℕ))) (write : Option LastWrite) (answer : Option (List Field)) (size message : ℤ) (batch : Option ℤ) (service : Option ObjectId)
    → compressors ≡ r.compressors → mechs ≡ r.sasl_supported_mechs → write ≡ r.last_write → answer ≡ r.speculative_authenticate → size ≡ r.max_bson_object_size → message ≡ r.max_message_size_bytes → batch ≡ r.max_write_batch_size → service ≡ r.service_id
    → ◌≡◌ {A = HelloCommandResponse} (record { is_writable_primary = r.is_writable_primary; is_master = r.is_master; hello_ok = r.hello_ok; hosts = r.hosts; passives = r.passives; arbiters = r.arbiters; msg = r.msg; me = r.me; compressors = compressors; set_version = r.set_version; set_name = r.set_name; hidden = r.hidden; secondary = r.secondary; arbiter_only = r.arbiter_only; is_replica_set = r.is_replica_set; logical_session_timeout_minutes = r.logical_session_timeout_minutes; last_write = write; min_wire_version = r.min_wire_version; max_wire_version = r.max_wire_version; tags = r.tags; election_id = r.election_id; primary = r.primary; sasl_supported_mechs = mechs; speculative_authenticate = answer; max_bson_object_size = size; max_write_batch_size = batch; service_id = service; topology_version = r.topology_version; max_message_size_bytes = message; connection_id = r.connection_id }) r
whole r compressors mechs write answer size message batch service e1 e2 e3 e4 e5 e6 e7 e8 = rw (e1, e2, e3, e4, e5, e6, e7, e8) refl

-- a reply that has the fields of this one, and none that no line names
pub none_else : (r : HelloCommandResponse) → Others r → ◌≡◌ {A = HelloCommandResponse} (record { is_writable_primary = r.is_writable_primary; is_master = r.is_master; hello_ok = r.hello_ok; hosts = r.hosts; passives = r.passives; arbiters = r.arbiters; msg = r.msg; me = r.me; compressors = None; set_version = r.set_version; set_name = r.set_name; hidden = r.hidden; secondary = r.secondary; arbiter_only = r.arbiter_only; is_replica_set = r.is_replica_set; logical_session_timeout_minutes = r.logical_session_timeout_minutes; last_write = None; min_wire_version = r.min_wire_version; max_wire_version = r.max_wire_version; tags = r.tags; election_id = r.election_id; primary = r.primary; sasl_supported_mechs = None; speculative_authenticate = None; max_bson_object_size = pos 0; max_write_batch_size = None; service_id = None; topology_version = r.topology_version; max_message_size_bytes = pos 0; connection_id = r.connection_id }) r
none_else r o = whole r None None None None (pos 0) (pos 0) None None o.compressors o.mechs o.write o.answer o.size o.message o.batch o.service

pub fields_follow : (r : HelloCommandResponse) (more : Bool) → Follows (fields_text r more)
unfolding fields_text
fields_follow r more = parts_follow (reply_parts r more) refl
