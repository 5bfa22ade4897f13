-- How steps are spelled.
use Rattle.std.specs.Prelude.{ℕ, List, [], ◌∷◌, ◌++◌, decimal, codes, option_map, Bool, true, false, IsTrue}
use Rattle.std.specs.Fmt.{signed_decimal}
use Rattle.mdb_base.specs.Spelling.{address, object_id}
use Rattle.mdb_base.specs.ErrorText.{error_text}
use Rattle.mdb_replies.specs.ReplyParts.{fields_text}
use Rattle.mdb_log.specs.declared.checked.HelloResult.{HelloResult}
use Rattle.mdb_log.specs.declared.checked.HelloResult.TheVariants as hello
use Rattle.mdb_log.specs.declared.checked.BeatenResult.{BeatenResult}
use Rattle.mdb_log.specs.declared.checked.BeatenResult.TheVariants as beaten
use Rattle.mdb_log.specs.declared.step.Step.{Step}
use Rattle.mdb_log.specs.declared.step.Act.{Act}
use Rattle.mdb_log.specs.declared.step.Act.TheVariants as act
use Rattle.mdb_log.specs.declared.step.Use.{Use}
use Rattle.mdb_log.specs.declared.step.Use.TheVariants as use_
use Rattle.mdb_log.specs.declared.step.Established.{Established}
use Rattle.mdb_log.specs.declared.step.FailedAt.{FailedAt}
use Rattle.mdb_log.specs.declared.step.FailedAt.TheVariants as at
use Rattle.mdb_parts.specs.Parts.{Part, part_text, parts_text, addresses}
use Rattle.mdb_lines.specs.OpenLine.{open_text}

abbrev pub use_text : Use → List ℕ
use_text use_.Ok = codes "ok"
use_text use_.Errored = codes "errored"
use_text use_.Dropped = codes "dropped"
use_text use_.Streaming = codes "streaming"

-- the optional parts of a line that establishes
abbrev pub established_parts : Established → List Part
established_parts e = (codes " sid=", option_map object_id e.service_id) ∷ (codes " server=", option_map signed_decimal e.server_id) ∷ []

abbrev pub failed_at_text : FailedAt → List ℕ
failed_at_text at.Pre = codes " pre"
failed_at_text (at.Post service) = codes " post" ++ part_text (codes " sid=") (option_map object_id service)

-- what a hello came to
abbrev pub hello_text : HelloResult → List ℕ
hello_text (hello.Ok rtt r) = codes " ok rtt=" ++ (decimal rtt ++ fields_text r false)
hello_text (hello.Err e) = codes " err " ++ error_text e

-- what a check came to
abbrev pub beaten_text : BeatenResult → List ℕ
beaten_text (beaten.Ok r more) = codes " ok" ++ fields_text r more
beaten_text (beaten.Err e) = codes " err " ++ error_text e
beaten_text (beaten.Cancelled e) = codes " cancelled " ++ error_text e

-- acts of the topology and of its monitors
abbrev pub topology_text : ℕ → Act → List ℕ
topology_text m (act.Hello a p came) = codes "hello " ++ (decimal m ++ (codes " " ++ (address a ++ (codes " " ++ (decimal p ++ hello_text came)))))
topology_text m (act.Beaten a p n came) = codes "beaten " ++ (decimal m ++ (codes " " ++ (address a ++ (codes " " ++ (decimal p ++ (codes " " ++ (decimal n ++ beaten_text came)))))))
topology_text m (act.Beat a p) = codes "beat " ++ (decimal m ++ (codes " " ++ (address a ++ (codes " " ++ decimal p))))
topology_text m (act.Rtt a p n) = codes "rtt " ++ (decimal m ++ (codes " " ++ (address a ++ (codes " " ++ (decimal p ++ (codes " " ++ decimal n))))))
topology_text m (act.Hosts hosts) = codes "hosts " ++ (decimal m ++ (codes " " ++ addresses hosts))
topology_text m (act.ClusterTime time) = codes "ctime " ++ (decimal m ++ (codes " " ++ decimal time.0))
topology_text m (act.Want w) = codes "want " ++ (decimal m ++ (codes " " ++ decimal w))
topology_text m (act.Unwant w) = codes "unwant " ++ (decimal m ++ (codes " " ++ decimal w))
topology_text m act.Stop = codes "stop " ++ decimal m
topology_text m _ = []

-- An act's line at a moment. No line spells that a pool is readied, cleared or closed.
abbrev pub act_text : ℕ → Act → List ℕ
act_text m (act.Open o) = open_text o
act_text m (act.Request r a) = codes "request " ++ (decimal m ++ (codes " " ++ (decimal r ++ (codes " " ++ address a))))
act_text m (act.Warm r a) = codes "warm " ++ (decimal m ++ (codes " " ++ (decimal r ++ (codes " " ++ address a))))
act_text m (act.Collect r) = codes "collect " ++ (decimal m ++ (codes " " ++ decimal r))
act_text m act.Claim = codes "claim " ++ decimal m
act_text m (act.GiveUp r) = codes "giveup " ++ (decimal m ++ (codes " " ++ decimal r))
act_text m (act.Established p c e) = codes "established " ++ (decimal m ++ (codes " " ++ (decimal p ++ (codes " " ++ (decimal c ++ (codes " wire=" ++ (signed_decimal e.wire ++ parts_text (established_parts e))))))))
act_text m (act.Failed p c at e) = codes "failed " ++ (decimal m ++ (codes " " ++ (decimal p ++ (codes " " ++ (decimal c ++ (failed_at_text at ++ (codes " " ++ error_text e)))))))
act_text m (act.Return r u) = codes "return " ++ (decimal m ++ (codes " " ++ (decimal r ++ (codes " " ++ use_text u))))
act_text m (act.Pin r) = codes "pin " ++ (decimal m ++ (codes " " ++ decimal r))
act_text m (act.Replicate p c) = codes "replicate " ++ (decimal m ++ (codes " " ++ (decimal p ++ (codes " " ++ decimal c))))
act_text m (act.Take r p c) = codes "take " ++ (decimal m ++ (codes " " ++ (decimal r ++ (codes " " ++ (decimal p ++ (codes " " ++ decimal c))))))
act_text m (act.Unpin p c) = codes "unpin " ++ (decimal m ++ (codes " " ++ (decimal p ++ (codes " " ++ decimal c))))
act_text m (act.Maintain a) = codes "maintain " ++ (decimal m ++ (codes " " ++ address a))
act_text m (act.Expire a) = codes "expire " ++ (decimal m ++ (codes " " ++ address a))
act_text m (act.Error r e) = codes "error " ++ (decimal m ++ (codes " " ++ (decimal r ++ (codes " " ++ error_text e))))
act_text m a = topology_text m a

-- a step's line, without the newline
abbrev pub spelling : Step → List ℕ
spelling s = act_text s.moment s.act

abbrev pub is_spelled : Act → Bool
is_spelled (act.Ready p) = false
is_spelled (act.Clear p s e) = false
is_spelled (act.Close p) = false
is_spelled _ = true

-- A line spells such a step.
abbrev pub HasSpelling : Step → Type 0
HasSpelling s = IsTrue (is_spelled s.act)
