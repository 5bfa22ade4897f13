use Rattle.std.proofs.Common.{◌≡◌, map, drop}
use Rattle.mdb_srv.specs.Txt.{all_options}
use Rattle.mdb_srv.proofs.Options.{onto}
use Rattle.mdb_srv.proofs.txt.all_options.Given as goal

abbrev pub invariant-loop-part : goal.invariant-loop-part
invariant-loop-part l = all_options (map (λ part. part.now) l.parts) ≡ onto l.options.items (all_options (map (λ part. part.now) (drop l.part-index l.parts)))
