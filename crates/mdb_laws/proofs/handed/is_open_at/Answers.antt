use Rattle.std.proofs.Common.{ℕ, ◌≡◌, ◌&&◌, refl, sym, subst}
use Rattle.mdb_log.specs.History.{of_pool, has_asked}
use Rattle.mdb_log.specs.Requests.{is_open}
use Rattle.mdb_laws.proofs.handed.is_open_at.Goals as goal

pub returns-in-Some : goal.returns-in-Some
returns-in-Some c = λ h z.
    let s = c.in-Some.known.now in
    let d = c.in-Some.ensures.fits h s z refl in
    subst (λ (n : ℕ). c.is_open.result ≡ has_asked (of_pool n h) c.args.request && is_open h c.args.request) d.number (c.is_open.ensures h (c.in-Some.ensures.stands h s z refl))

pub returns-in-None : goal.returns-in-None
returns-in-None c = λ h z. sym ((c.in-None.ensures.missing h z refl).open_none c.args.request)
