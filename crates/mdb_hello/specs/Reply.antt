-- A reply to a hello as a document: what is read of a document, and what is written.
use Rattle.std.specs.Prelude.{ℕ, List, None, Result, pos}
use Rattle.mdb_base.specs.Document.{Field}
use Rattle.mdb_hello.specs.Table.{on_ok, Values, reply_fields, read_rows, written_rows}
use Rattle.mdb_hello.specs.declared.response.HelloCommandResponse.{HelloCommandResponse}

-- the reply's values, field by field, in the order of the table
abbrev pub values : HelloCommandResponse → Values reply_fields
values r = (
  r.is_writable_primary,
  (
    r.is_master,
    (
      r.hello_ok,
      (
        r.hosts,
        (
          r.passives,
          (
            r.arbiters,
            (
              r.msg,
              (
                r.me,
                (
                  r.compressors,
                  (
                    r.set_version,
                    (
                      r.set_name,
                      (
                        r.hidden,
                        (
                          r.secondary,
                          (
                            r.arbiter_only,
                            (
                              r.is_replica_set,
                              (
                                r.logical_session_timeout_minutes,
                                (
                                  r.last_write,
                                  (
                                    r.min_wire_version,
                                    (
                                      r.max_wire_version,
                                      (
                                        r.tags,
                                        (
                                          r.election_id,
                                          (
                                            r.primary,
                                            (
                                              r.sasl_supported_mechs,
                                              (
                                                r.speculative_authenticate,
                                                (
                                                  r.max_bson_object_size,
                                                  (
                                                    r.max_write_batch_size,
                                                    (
                                                      r.service_id,
                                                      (
                                                        r.topology_version,
                                                        (
                                                          r.max_message_size_bytes,
                                                          (
                                                            r.connection_id,
                                                            tt,
                                                          ),
                                                        ),
                                                      ),
                                                    ),
                                                  ),
                                                ),
                                              ),
                                            ),
                                          ),
                                        ),
                                      ),
                                    ),
                                  ),
                                ),
                              ),
                            ),
                          ),
                        ),
                      ),
                    ),
                  ),
                ),
              ),
            ),
          ),
        ),
      ),
    ),
  ),
)

-- the reply with these values
abbrev pub reply_of : Values reply_fields → HelloCommandResponse
reply_of (a, (b, (c, (d, (e, (f, (g, (h, (i, (j, (k, (l, (m, (n, (o, (p, (q, (r, (s, (t, (u, (v, (w, (x, (y, (z, (aa, (bb, (cc', (dd, ee)))))))))))))))))))))))))))))) =
    record {
      is_writable_primary = a;
      is_master = b;
      hello_ok = c;
      hosts = d;
      passives = e;
      arbiters = f;
      msg = g;
      me = h;
      compressors = i;
      set_version = j;
      set_name = k;
      hidden = l;
      secondary = m;
      arbiter_only = n;
      is_replica_set = o;
      logical_session_timeout_minutes = p;
      last_write = q;
      min_wire_version = r;
      max_wire_version = s;
      tags = t;
      election_id = u;
      primary = v;
      sasl_supported_mechs = w;
      speculative_authenticate = x;
      max_bson_object_size = y;
      max_write_batch_size = z;
      service_id = aa;
      topology_version = bb;
      max_message_size_bytes = cc';
      connection_id = dd;
    }

-- what a document says, or the name of the first field that has another type or is required and absent
abbrev pub read : List Field → Result HelloCommandResponse (List ℕ)
read doc = on_ok reply_of (read_rows reply_fields doc)

-- what a reply is written as
abbrev pub written : HelloCommandResponse → List Field
written r = written_rows reply_fields (values r)

-- the reply that has no optional field, and sizes of 0
abbrev pub no_reply : HelloCommandResponse
no_reply = record {
  is_writable_primary = None;
  is_master = None;
  hello_ok = None;
  hosts = None;
  passives = None;
  arbiters = None;
  msg = None;
  me = None;
  compressors = None;
  set_version = None;
  set_name = None;
  hidden = None;
  secondary = None;
  arbiter_only = None;
  is_replica_set = None;
  logical_session_timeout_minutes = None;
  last_write = None;
  min_wire_version = None;
  max_wire_version = None;
  tags = None;
  election_id = None;
  primary = None;
  sasl_supported_mechs = None;
  speculative_authenticate = None;
  max_bson_object_size = pos 0;
  max_write_batch_size = None;
  service_id = None;
  topology_version = None;
  max_message_size_bytes = pos 0;
  connection_id = None;
}
