use Rattle.std.proofs.Common.{rules, not}
use Rattle.std.proofs.lemmas.Fn.{filter_same}
use Rattle.mdb_base.specs.Equality.{same_address}
use Rattle.mdb_describe.proofs.servers.remove.Goals as goal

pub returns : goal.returns
returns c = filter_same _ (λ s. not (same_address s.address c.args.address.now)) _ (λ x b f' k. search rules) _ _ c.retain.ensures.filtered
