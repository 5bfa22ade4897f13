use Rattle.std.proofs.Common.{rules}
use Rattle.std.proofs.lemmas.Fn.{filter_same}
use Rattle.mdb_describe.specs.Servers.{is_listed}
use Rattle.mdb_describe.proofs.servers.keep_listed.Goals as goal

pub returns : goal.returns
returns c = filter_same _ (λ s. is_listed c.args.listed.now s.address) _ (λ x b f' k. search rules) _ _ c.retain.ensures.filtered
