-- Each number of a step is one of its type.
use Rattle.std.specs.Prelude.{◌<◌, ◌^◌, IfSome, FitsSigned}
use Rattle.std.specs.Int.{w32, w64}
use Rattle.mdb_parts.specs.Types.{IsIdOfTypes}
use Rattle.mdb_base.specs.declared.options.Options.{Options}
use Rattle.mdb_log.specs.declared.step.Established.{Established}
use Rattle.mdb_log.specs.declared.step.FailedAt.{FailedAt}
use Rattle.mdb_log.specs.declared.step.FailedAt.TheVariants as at
use Rattle.mdb_parts.specs.ErrorParts.{IsErrorOfTypes}
use Rattle.mdb_replies.specs.ReplyParts.{IsReplyOfTypes}
use Rattle.mdb_log.specs.declared.checked.HelloResult.{HelloResult}
use Rattle.mdb_log.specs.declared.checked.HelloResult.TheVariants as hello
use Rattle.mdb_log.specs.declared.checked.BeatenResult.{BeatenResult}
use Rattle.mdb_log.specs.declared.checked.BeatenResult.TheVariants as beaten
use Rattle.mdb_log.specs.declared.step.Step.{Step}
use Rattle.mdb_log.specs.declared.step.Act.{Act}
use Rattle.mdb_log.specs.declared.step.Act.TheVariants as act

pub record AreOptionsOfTypes (o : Options) : Type 0 where
  pub max : IfSome o.max_pool_size (λ n. n < 2 ^ 32)
  pub min : IfSome o.min_pool_size (λ n. n < 2 ^ 32)
  pub connecting : IfSome o.max_connecting (λ n. n < 2 ^ 32)
  pub idle : IfSome o.max_idle_time (λ n. n < 2 ^ 64)
  pub wait : IfSome o.max_wait (λ n. n < 2 ^ 64)
  pub heartbeat : IfSome o.heartbeat (λ n. n < 2 ^ 64)
  pub connect : IfSome o.connect (λ n. n < 2 ^ 64)
  pub limit_id : IfSome o.limit_id (λ n. n < 2 ^ 32)
  pub limit_generation : IfSome o.limit_generation (λ n. n < 2 ^ 64)
  pub limit_pool : IfSome o.limit_pool (λ n. n < 2 ^ 32)
  pub limit_monitor : IfSome o.limit_monitor (λ n. n < 2 ^ 32)

pub record IsEstablishedOfTypes (e : Established) : Type 0 where
  pub wire : FitsSigned w32 e.wire
  pub service : IfSome e.service_id IsIdOfTypes
  pub server : IfSome e.server_id (FitsSigned w64)

abbrev pub IsFailedAtOfTypes : FailedAt → Type 0
IsFailedAtOfTypes at.Pre = Unit {0}
IsFailedAtOfTypes (at.Post service) = IfSome service IsIdOfTypes

abbrev pub IsHelloOfTypes : HelloResult → Type 0
IsHelloOfTypes (hello.Ok rtt r) = (rtt < 2 ^ 64) × IsReplyOfTypes r
IsHelloOfTypes (hello.Err e) = IsErrorOfTypes e

abbrev pub IsBeatenOfTypes : BeatenResult → Type 0
IsBeatenOfTypes (beaten.Ok r more) = IsReplyOfTypes r
IsBeatenOfTypes (beaten.Err e) = IsErrorOfTypes e
IsBeatenOfTypes (beaten.Cancelled e) = IsErrorOfTypes e

-- acts of the topology and of its monitors
abbrev pub IsTopologyActOfTypes : Act → Type 0
IsTopologyActOfTypes (act.Hello a p came) = (p < 2 ^ 32) × IsHelloOfTypes came
IsTopologyActOfTypes (act.Beaten a p n came) = (p < 2 ^ 32) × (n < 2 ^ 64) × IsBeatenOfTypes came
IsTopologyActOfTypes (act.Beat a p) = p < 2 ^ 32
IsTopologyActOfTypes (act.Rtt a p n) = (p < 2 ^ 32) × (n < 2 ^ 64)
IsTopologyActOfTypes (act.ClusterTime time) = time.0 < 2 ^ 64
IsTopologyActOfTypes (act.Want w) = w < 2 ^ 32
IsTopologyActOfTypes (act.Unwant w) = w < 2 ^ 32
IsTopologyActOfTypes _ = Unit {0}

abbrev pub IsActOfTypes : Act → Type 0
IsActOfTypes (act.Open o) = AreOptionsOfTypes o
IsActOfTypes (act.Request r a) = r < 2 ^ 32
IsActOfTypes (act.Warm r a) = r < 2 ^ 32
IsActOfTypes (act.Collect r) = r < 2 ^ 32
IsActOfTypes (act.GiveUp r) = r < 2 ^ 32
IsActOfTypes (act.Established p c e) = (p < 2 ^ 32) × (c < 2 ^ 32) × IsEstablishedOfTypes e
IsActOfTypes (act.Return r u) = r < 2 ^ 32
IsActOfTypes (act.Pin r) = r < 2 ^ 32
IsActOfTypes (act.Replicate p c) = (p < 2 ^ 32) × (c < 2 ^ 32)
IsActOfTypes (act.Take r p c) = (r < 2 ^ 32) × (p < 2 ^ 32) × (c < 2 ^ 32)
IsActOfTypes (act.Unpin p c) = (p < 2 ^ 32) × (c < 2 ^ 32)
IsActOfTypes (act.Failed p c at e) = (p < 2 ^ 32) × (c < 2 ^ 32) × IsFailedAtOfTypes at × IsErrorOfTypes e
IsActOfTypes (act.Error r e) = (r < 2 ^ 32) × IsErrorOfTypes e
IsActOfTypes a = IsTopologyActOfTypes a

abbrev pub IsStepOfTypes : Step → Type 0
IsStepOfTypes s = (s.moment < 2 ^ 64) × IsActOfTypes s.act
