-- The command that greets a server.
use Rattle.std.specs.Prelude.{ℕ, pos, List, [], ◌∷◌, ◌++◌, Bool, true, false, ◌||◌, Option, Some, None, is_some, codes}
use Rattle.mdb_base.specs.Document.{Field, int, boolean, text}
use Rattle.mdb_hello.specs.Kinds.{version_content, count_content}
use Rattle.mdb_hello.specs.ServerTypes.{says}
use Rattle.mdb_hello.specs.declared.command.ServerApi.{ServerApi}
use Rattle.mdb_hello.specs.declared.command.AwaitableHelloOptions.{AwaitableHelloOptions}
use Rattle.mdb_hello.specs.declared.command.Command.{Command}

-- the server is known to know `hello`, or has to
abbrev pub is_current : Option ServerApi → Option Bool → Option Bool → Bool
is_current api load_balanced hello_ok = is_some api || says load_balanced || says hello_ok

abbrev pub name_of : Bool → List ℕ
name_of true = codes "hello"
name_of false = codes "isMaster"

-- an older server is asked whether it knows `hello`, where nothing is known of that
abbrev pub greeting_of : Bool → Option Bool → List Field
greeting_of true hello_ok = (codes "hello", int (pos 1)) ∷ []
greeting_of false None = (codes "isMaster", int (pos 1)) ∷ (codes "helloOk", boolean true) ∷ []
greeting_of false (Some known) = (codes "isMaster", int (pos 1)) ∷ []

abbrev pub options_of : AwaitableHelloOptions → List Field
options_of options = (codes "topologyVersion", version_content options.topology_version) ∷ (codes "maxAwaitTimeMS", count_content options.max_await_time) ∷ []

abbrev pub awaiting_of : Option AwaitableHelloOptions → List Field
awaiting_of None = []
awaiting_of (Some options) = options_of options

abbrev pub body_of : Option ServerApi → Option Bool → Option Bool → Option AwaitableHelloOptions → List Field
body_of api load_balanced hello_ok options =
    greeting_of (is_current api load_balanced hello_ok) hello_ok ++ ((codes "backpressure", text (codes "2")) ∷ awaiting_of options)

abbrev pub command_of : Option ServerApi → Option Bool → Option Bool → Option AwaitableHelloOptions → Command
command_of api load_balanced hello_ok options =
    record {
      name = name_of (is_current api load_balanced hello_ok);
      target_db = codes "admin";
      body = body_of api load_balanced hello_ok options;
      server_api = api;
      exhaust_allowed = is_some options;
    }
