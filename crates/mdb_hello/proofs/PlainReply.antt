-- A reply is plain where its numbers, its tags and its session timeout are.
use Rattle.std.proofs.Common.{Option, Some, None, IsTrue, false}
use Rattle.mdb_hello.specs.Kinds.{Kind, a_flag, a_text, some_texts, a_small_number, a_number, an_id, some_tags, a_last_write, a_version, a_document, Of, is_small}
use Rattle.mdb_hello.specs.ReadBack.{IsPlain, IsPlainSlot, IsPlainReply, IsShort}
use Rattle.mdb_hello.specs.declared.response.HelloCommandResponse.{HelloCommandResponse}

any : (k : Kind) → ((x : Of k) → IsPlain k x) → (o : Option (Of k)) → IsPlainSlot false k o
any k all None = tt
any k all (Some x) = all x

pub plain_reply : (r : HelloCommandResponse) → IsShort r.logical_session_timeout_minutes → IsPlainSlot false a_small_number r.set_version
    → IsPlainSlot false a_small_number r.min_wire_version → IsPlainSlot false a_small_number r.max_wire_version → IsPlainSlot false some_tags r.tags
    → IsTrue (is_small r.max_message_size_bytes) → IsPlainReply r
plain_reply r short set_version min max tags size =
    let flag = any a_flag (λ _. tt) in
    let text = any a_text (λ _. tt) in
    let texts = any some_texts (λ _. tt) in
    let number = any a_number (λ _. tt) in
    let id = any an_id (λ _. tt) in (
      flag r.is_writable_primary,
      (
        flag r.is_master,
        (
          flag r.hello_ok,
          (
            texts r.hosts,
            (
              texts r.passives,
              (
                texts r.arbiters,
                (
                  text r.msg,
                  (
                    text r.me,
                    (
                      texts r.compressors,
                      (
                        set_version,
                        (
                          text r.set_name,
                          (
                            flag r.hidden,
                            (
                              flag r.secondary,
                              (
                                flag r.arbiter_only,
                                (
                                  flag r.is_replica_set,
                                  (
                                    short,
                                    (
                                      any a_last_write (λ _. tt) r.last_write,
                                      (
                                        min,
                                        (
                                          max,
                                          (
                                            tags,
                                            (
                                              id r.election_id,
                                              (
                                                text r.primary,
                                                (
                                                  texts r.sasl_supported_mechs,
                                                  (
                                                    any a_document (λ _. tt) r.speculative_authenticate,
                                                    (
                                                      tt,
                                                      (
                                                        number r.max_write_batch_size,
                                                        (
                                                          id r.service_id,
                                                          (
                                                            any a_version (λ _. tt) r.topology_version,
                                                            (
                                                              size,
                                                              (
                                                                number r.connection_id,
                                                                tt,
                                                              ),
                                                            ),
                                                          ),
                                                        ),
                                                      ),
                                                    ),
                                                  ),
                                                ),
                                              ),
                                            ),
                                          ),
                                        ),
                                      ),
                                    ),
                                  ),
                                ),
                              ),
                            ),
                          ),
                        ),
                      ),
                    ),
                  ),
                ),
              ),
            ),
          ),
        ),
      ),
    )
