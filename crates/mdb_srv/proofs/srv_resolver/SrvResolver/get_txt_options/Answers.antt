use Rattle.std.proofs.Common.{rules, option_map, Ok}
use Rattle.mdb_srv.proofs.srv_resolver.SrvResolver.get_txt_options.Goals as goal

pub returns-in_err-options-clause-once : goal.returns-in_err-options-clause-once
returns-in_err-options-clause-once g c =
    (Ok (option_map (λ list. list.items) c.in_ok-records.records), c.in_ok-records.ensures.looked, search rules)

pub returns-clause-once : goal.returns-clause-once
returns-clause-once g c =
    (Ok (option_map (λ list. list.items) c.in_ok-records.records), c.in_ok-records.ensures.looked, search rules)
