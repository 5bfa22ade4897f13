use Rattle.std.proofs.Common.{◌≡◌}
use Rattle.std.specs.List.{fold}
use Rattle.mdb_srv.specs.Txt.{with_option}
use Rattle.mdb_srv.proofs.config.ResolvedConfig.set_all.Given as goal

abbrev pub invariant-loop-option : goal.invariant-loop-option
invariant-loop-option l = l.self ≡ fold with_option l.initial.self l.yielded
