-- What a link to a server does, and what a hello over it answers.
use Rattle.std.specs.Prelude.{◌≡◌, ℕ, List, Option, Some, None, Result, Ok, Err, IsOk}
use Rattle.mdb_base.specs.Document.{Field, doc_content}
use Rattle.mdb_base.specs.Outside.{Rose}
use Rattle.mdb_base.specs.declared.document.Doc.{Doc}
use Rattle.mdb_base.specs.declared.error.Error.{Error}
use Rattle.mdb_base.specs.declared.address.ServerAddress.{ServerAddress}
use Rattle.mdb_hello.specs.declared.error.LinkError.{LinkError}
use Rattle.mdb_hello.specs.declared.error.LinkError.TheVariants as link
use Rattle.mdb_hello.specs.declared.error.RunHelloError.{RunHelloError}
use Rattle.mdb_hello.specs.declared.error.RunHelloError.TheVariants as run
use Rattle.mdb_hello.specs.declared.response.HelloReply.{HelloReply}
use Rattle.mdb_hello.specs.Errors.{run_from_link}
use Rattle.mdb_hello.specs.Reply.{read}

-- the document is the one that the link has, where the link tells
abbrev pub Tells : Option (List Field) → List Field → Type 0
Tells None doc = Unit {0}
Tells (Some told) doc = doc ≡ told

-- What a link tells of itself: the last error that it answered, where it keeps it, and how often it failed.
pub record LinkState : Type 0 where
  pub last_error : Option (Option Error)
  pub faults : ℕ

-- a link that keeps its last error has now this one
abbrev pub HasLast : Option (Option Error) → Option (Option Error) → Error → Type 0
HasLast None now error = Unit {0}
HasLast (Some before) now error = now ≡ Some (Some error)

-- An exchange gives the document that the link had for the command. It fails only where the count rose, with the
-- error that is then the last one, and every other answer leaves both as they were.
abbrev pub Exchanges : Option (List Field) → LinkState → LinkState → Result Doc LinkError → Type 0
Exchanges document old new (Ok doc) = (new ≡ old) × Tells document (doc_content doc)
Exchanges document old new (Err (link.Failed error)) = Rose old.faults new.faults × HasLast old.last_error new.last_error error
Exchanges document old new (Err link.OutOfMemory) = new ≡ old

-- A reply is what its document says, under the server's address, with no cluster time.
pub record IsReply (document : Option (List Field)) (address : ServerAddress) (reply : HelloReply) : Type 0 where
  pub server_address : reply.server_address ≡ address
  pub raw : Tells document reply.raw_command_response
  pub response : read reply.raw_command_response ≡ Ok reply.command_response
  pub cluster_time : reply.cluster_time ≡ None

-- A hello answers the reply of the link's document, the field of that document that is bad, or the link's error,
-- which comes only where the count rose. Every other answer leaves the link's count and last error as they were.
abbrev pub Greets : Option (List Field) → ServerAddress → LinkState → LinkState → Result HelloReply RunHelloError → Type 0
Greets document address old new (Ok reply) = (new ≡ old) × IsReply document address reply
Greets document address old new (Err (run.Link error)) = Rose old.faults new.faults × HasLast old.last_error new.last_error error
Greets document address old new (Err (run.BadField name)) = (new ≡ old) × ((doc : List Field) × Tells document doc × (read doc ≡ Err name.now))
Greets document address old new (Err run.OutOfMemory) = new ≡ old

-- What a hello answers by the link's one answer: the reply of this very document, or its bad field, and want of
-- memory only where no field is bad; or the link's own error.
abbrev pub FollowsFrom : Result Doc LinkError → ServerAddress → Result HelloReply RunHelloError → Type 0
FollowsFrom (Ok doc) address (Ok reply) = IsReply (Some (doc_content doc)) address reply
FollowsFrom (Ok doc) address (Err (run.Link error)) = ⊥
FollowsFrom (Ok doc) address (Err (run.BadField name)) = read (doc_content doc) ≡ Err name.now
FollowsFrom (Ok doc) address (Err run.OutOfMemory) = IsOk (read (doc_content doc))
FollowsFrom (Err e) address result = result ≡ Err (run_from_link e)

-- One exchange was made, and the result follows from its answer.
abbrev pub GreetsOnce : (Result Doc LinkError → Type 0) → ServerAddress → Result HelloReply RunHelloError → Type 0
GreetsOnce exchanged address result = (answer : Result Doc LinkError) × exchanged answer × FollowsFrom answer address result
