use Rattle.std.proofs.Common.{rules}
use Rattle.mdb_srv.proofs.srv_resolver.SrvResolver.resolve_client_options.Goals as goal

pub returns-in_err-found-clause-order : goal.returns-in_err-found-clause-order
returns-in_err-found-clause-order g c =
    (c.get_srv_hosts.new.self.resolver, (c.get_srv_hosts.result, c.get_srv_hosts.ensures.once, search rules))

pub returns-in_err-get_txt_options-clause-order : goal.returns-in_err-get_txt_options-clause-order
returns-in_err-get_txt_options-clause-order g c =
    (c.get_srv_hosts.new.self.resolver, (c.get_srv_hosts.result, c.get_srv_hosts.ensures.once, search rules))

pub returns-clause-order : goal.returns-clause-order
returns-clause-order g c =
    (c.get_srv_hosts.new.self.resolver, (c.get_srv_hosts.result, c.get_srv_hosts.ensures.once, search rules))
