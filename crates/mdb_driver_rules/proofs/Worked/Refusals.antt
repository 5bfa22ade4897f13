-- Each reason of a refusal, computed.
use Rattle.std.specs.Prelude.{◌≡◌, List, [], ◌∷◌, ◌++◌, Some, None, refl, codes}
use Rattle.mdb_base.specs.declared.error.ErrorKind.TheVariants.{Network}
use Rattle.mdb_base.specs.declared.options.Options.{Options}
use Rattle.mdb_log.specs.declared.checked.HelloResult.TheVariants as Came
use Rattle.mdb_log.specs.declared.step.Step.{Step}
use Rattle.mdb_log.specs.declared.step.Act.TheVariants.{Request, Collect, Expire, Established, Failed, Return, Pin, Take, Unpin, Hello, Error as ErrorAct}
use Rattle.mdb_log.specs.declared.step.FailedAt.TheVariants.{Post}
use Rattle.mdb_log.specs.declared.step.Use.TheVariants.{Ok}
use Rattle.mdb_log.specs.declared.reply.What.TheVariants as What
use Rattle.mdb_log.specs.declared.reply.Refused.{Refused}
use Rattle.mdb_log.specs.declared.reply.Refused.TheVariants.{TimeBack, UnknownServer, RequestKnown, UnknownRequest, NotHolder, NotPending, Unpinned, PinInUse, PinState, WrongMode, Exhausted}
use Rattle.mdb_log.specs.declared.reply.Reply.TheVariants.{Refused as RefusedBy}
use Rattle.mdb_log.specs.Answer.{Answer}
use Rattle.mdb_driver_rules.proofs.Worked.Scripts.{a, b, S, plain, balanced, at_moment, final, speaks, error, how, how_of}

abbrev refused : Refused → Answer
refused why = record { reply = RefusedBy why; facts = [] }

-- the first caller has a connection, and pins it
abbrev asked : List Step
asked = at_moment 0 (Request 1 a) ∷ []

abbrev held : List Step
held = asked ++ at_moment 0 (Established 0 1 (how_of S)) ∷ []

unknown-server : final balanced [] 0 (Request 1 b) ≡ refused UnknownServer
unknown-server = refl

nothing-to-expire : final balanced [] 0 (Expire b) ≡ refused UnknownServer
nothing-to-expire = refl

request-known : final balanced asked 0 (Request 1 a) ≡ refused RequestKnown
request-known = refl

unknown-request : final balanced asked 0 (Collect 9) ≡ refused UnknownRequest
unknown-request = refl

not-holder : final balanced asked 0 (Return 1 Ok) ≡ refused NotHolder
not-holder = refl

not-holder-error : final balanced asked 0 (ErrorAct 1 (error Network (codes "x"))) ≡ refused NotHolder
not-holder-error = refl

not-pending : final balanced asked 0 (Established 0 2 (how_of S)) ≡ refused NotPending
not-pending = refl

no-service : final balanced asked 0 (Established 0 1 (how 21)) ≡ refused WrongMode
no-service = refl

unpinned : final balanced held 0 (Unpin 0 1) ≡ refused Unpinned
unpinned = refl

pinned-already : final balanced (held ++ at_moment 0 (Pin 1) ∷ []) 0 (Pin 1) ≡ refused PinState
pinned-already = refl

in-use : final balanced (held ++ at_moment 0 (Pin 1) ∷ []) 0 (Take 2 0 1) ≡ refused PinInUse
in-use = refl

time-back : final balanced (at_moment 5 (Request 1 a) ∷ []) 4 (Request 2 a) ≡ refused (TimeBack 5)
time-back = refl

balanced-hello : final balanced [] 1 (Hello a 0 (Came.Ok 5 (speaks 21))) ≡ refused WrongMode
balanced-hello = refl

-- a normal pool has no services, and no generation above its limit
abbrev never_cleared : Options
never_cleared = record (plain (a ∷ [])) { limit_generation = Some 0 }

abbrev ready : List Step
ready = at_moment 1 (Hello a 0 (Came.Ok 5 (speaks 21))) ∷ []

no-generation-left : final never_cleared ready 2 (Hello a 0 (Came.Err (error Network (codes "x")))) ≡ refused (Exhausted What.Generation)
no-generation-left = refl

service-of-a-normal-pool : final never_cleared (ready ++ at_moment 1 (Request 1 a) ∷ []) 2 (Failed 0 1 (Post (Some S)) (error Network (codes "x"))) ≡ refused WrongMode
service-of-a-normal-pool = refl

-- a connection that fails is refused whole, and is pending still
no-generation-for-a-failure : final never_cleared (ready ++ at_moment 1 (Request 1 a) ∷ []) 2 (Failed 0 1 (Post None) (error Network (codes "x"))) ≡ refused (Exhausted What.Generation)
no-generation-for-a-failure = refl
