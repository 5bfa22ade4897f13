use Rattle.std.proofs.Common.{◌≡◌, ◌^◌, ◌-◌, ◌∙◌, min, List, ap, refl, sym, subst}
use Rattle.mdb_log.specs.History.{Item, history_of, open_pool}
use Rattle.mdb_monitor.specs.declared.monitor.Setting.{Setting}
use Rattle.mdb_monitor.specs.Beginnings.{begin_row}
use Rattle.mdb_driver_rules.specs.Lines.{options_of}
use Rattle.mdb_topology.specs.Logging.{IsDriverOf}
use Rattle.mdb_driver_rules.specs.Monitors.{monitor_items, recent, setting}
use Rattle.mdb_topology.specs.Standing.{StandsFor}
use Rattle.mdb_session.specs.Ahead.{next_number}
use Rattle.mdb_session.proofs.Beforehand.{one_check, own_options}
use Rattle.mdb_session.proofs.session.Session.next_check.Goals as goal

pub returns : goal.returns
returns c =
    let d : IsDriverOf c.self.inside.core c.args.self.now = subst (IsDriverOf c.self.inside.core) c.self.view_is c.self.invariant.driver in
    let h : List Item = history_of c.args.self.now in
    let stands : StandsFor c.self.inside.core h = d.stands in
    let same : setting c.self.inside.core.options c.args.address.now ≡ setting (options_of c.args.self.now) c.args.address.now = ap (λ o. setting o c.args.address.now) (sym (own_options c.self.inside.core c.args.self.now d)) in
    let number : c.narrowed-fresh.result ≡ next_number h = c.narrowed-fresh.ensures ∙ ap (λ n. min n (2 ^ 32 - 1)) (c.next_connection_id.ensures h stands) in
    one_check (options_of c.args.self.now) h c.args.address.now (open_pool h c.args.address.now) c.in_ok-check.check (c.in-Some.ensures.opened h stands)
    (λ p is. c.in_ok-check.ensures (monitor_items h p) (c.in-Some.ensures.stands h p c.in-Some.monitor.now stands is refl)
    ∙ ap (λ (s : Setting). begin_row s (recent h p) c.narrowed-fresh.result) (c.in-Some.ensures.setting h c.in-Some.monitor.now stands refl ∙ same)
    ∙ ap (λ n. begin_row (setting (options_of c.args.self.now) c.args.address.now) (recent h p) n) number)
