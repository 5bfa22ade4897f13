-- What a link to a member does.
use Rattle.std.specs.Prelude.{◌≡◌, ℕ, List, Some, None, Result, Ok, Err, length, ◌<◌}
use Rattle.mdb_base.specs.Document.{Field, doc_content}
use Rattle.mdb_base.specs.declared.document.Doc.{Doc}
use Rattle.mdb_hello.specs.declared.error.LinkError.{LinkError}
use Rattle.mdb_hello.specs.declared.error.LinkError.TheVariants as link
use Rattle.mdb_hello.specs.declared.response.HelloCommandResponse.{HelloCommandResponse}
use Rattle.mdb_hello.specs.Links.{LinkState}
use Rattle.mdb_hello.specs.Reply.{read, written}
use Rattle.mdb_fleets.specs.declared.link.FleetLink.{FleetLink}
use Rattle.mdb_fleets.specs.ReplicaSet.{reply_now}

-- the reply of the link's member
abbrev pub link_reply : FleetLink → HelloCommandResponse
link_reply l = reply_now l.fleet.now l.member

-- A link to a member keeps no error, and never fails.
abbrev pub link_state : LinkState
link_state = record { last_error = None; faults = 0 }

-- An exchange gives the document of the member's reply, which is read back as that reply, or meets out of memory.
abbrev pub GivesReply : HelloCommandResponse → Result Doc LinkError → Type 0
GivesReply reply (Ok doc) = (doc_content doc ≡ written reply) × (read (doc_content doc) ≡ Ok reply)
GivesReply reply (Err (link.Failed error)) = ⊥
GivesReply reply (Err link.OutOfMemory) = Unit {0}
