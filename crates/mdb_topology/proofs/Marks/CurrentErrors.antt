-- Which errors of operations are current, and what trouble they tell of.
use Rattle.std.proofs.Common.{ℕ, ◌≡◌, ◌≤◌, ◌&&◌, Bool, true, false, if◌then◌else◌, List, Option, Some, None, is_some, refl, sym, ◌∙◌, ap, subst}
use Rattle.std.specs.Prelude.{pos, slice_get, unwrap_or}
use Rattle.mdb_base.specs.declared.error.Error.{Error}
use Rattle.mdb_base.specs.declared.object_id.ObjectId.{ObjectId}
use Rattle.mdb_base.specs.declared.options.Options.{Options}
use Rattle.mdb_describe.specs.declared.topology.TopologyDescription.{TopologyDescription}
use Rattle.mdb_log.specs.declared.step.Act.{Act}
use Rattle.mdb_log.specs.declared.step.Act.TheVariants as Do
use Rattle.mdb_log.specs.declared.step.Use.TheVariants as Used
use Rattle.mdb_log.specs.declared.reply.Refused.TheVariants.{NotHolder}
use Rattle.mdb_log.specs.History.{Item, PoolItem, of_pool}
use Rattle.mdb_log.specs.Connections.{holding}
use Rattle.mdb_log.specs.Opening.{pool_options}
use Rattle.mdb_log.specs.State.{is_stale}
use Rattle.mdb_pool.specs.Core.{PoolCore}
use Rattle.mdb_pool.specs.Now.{held_now, holds_now, is_live_now, service_now, wire_now}
use Rattle.mdb_pool.specs.Standing.{Fits}
use Rattle.mdb_pool.proofs.Told.OfQueries.{before-is, clears-are, held-lives, holding-is, holds-held, service-is, wire-is}
use Rattle.mdb_topology.specs.declared.topology.TopologyCore.{TopologyCore}
use Rattle.mdb_topology.specs.Complaining.{is_outdated, concerns_now}
use Rattle.mdb_driver_rules.specs.Current.{Complaint, operating, in_operation, complaint_of, is_current}
use Rattle.mdb_driver_rules.specs.Errors.{Case, Trouble, case_of, current_trouble, complaint_trouble, trouble_of}
use Rattle.mdb_driver_pools.specs.Finding.{holder}
use Rattle.mdb_driver_rules.specs.Homes.{home_of, begun}
use Rattle.mdb_driver_rules.specs.Refusal.{first_refusal, refusal}
use Rattle.mdb_topology.specs.Standing.{StandsFor}
use Rattle.mdb_driver_pools.specs.Standing.{home, PoolFits}
use Rattle.mdb_driver_rules.proofs.General.OneElement.{position-at, position-within, at-place}
use Rattle.mdb_driver_pools.proofs.OnePool.FoundAt.{home-placed, home-missing}
use Rattle.mdb_topology.proofs.Publications.WhichSteps.{at_m, in-time, passes-time}

-- the connection is stale where its generation is outdated
outdated-is : (s : PoolCore) (xs : List PoolItem) → Fits s xs → (c : ℕ) → is_live_now s c ≡ true → is_stale s.options xs c ≡ is_outdated s c
outdated-is s xs z c live =
    let t : Option ObjectId = if s.options.load_balanced then service_now s c else None in
    rw (service-is s xs z c live, before-is s xs z c live t, clears-are s xs z t) refl

-- the pool of which the party holds a connection
pub record Held (pools : List PoolCore) (r i : ℕ) : Type 0 where
  pub pool : PoolCore
  pub connection : ℕ
  pub there : slice_get pools i ≡ Some pool
  pub has : held_now pool r ≡ Some connection

pub held-there : (pools : List PoolCore) (r i : ℕ) → holder pools r ≡ Some i → Held pools r i
held-there pools r i held = on (slice_get pools i) refl
  where
    held_in : (s : PoolCore) → slice_get pools i ≡ Some s → Held pools r i
    held_in s f = let x = holds-held s r (position-at (λ u. holds_now u r) pools i s held f).0 in record { pool = s; connection = x.0; there = f; has = x.1 }

    on : (y : Option PoolCore) → slice_get pools i ≡ y → Held pools r i
    on None f = absurd (at-place pools i (position-within (λ u. holds_now u r) pools i held) f)
    on (Some s) f = held_in s f

module _ (w : TopologyCore) (h : List Item) (z : StandsFor w h) (m : ℕ) (l : w.pools.last ≤ m) (r : ℕ) (e : Error) where
  abbrev o : Options
  o = w.options

  abbrev t : TopologyDescription
  t = w.description

  abbrev pools : List PoolCore
  pools = w.pools.cores.items

  abbrev act : Act
  act = Do.Error r e

  abbrev k : List Item
  k = begun h (at_m w h z m l act)

  -- no pool of which the party holds a connection
  pub complaint-homeless : holder pools r ≡ None → refusal o h (at_m w h z m l act) ≡ Some NotHolder
  complaint-homeless none =
      let missing : home_of h act ≡ None = home-missing (pool_options o) pools h z.pools.fit (Do.Return r Used.Ok) refl none in
      rw (in-time w h z m l, missing) refl

  module _ (i : ℕ) (s : PoolCore) (x : ℕ) (held : holder pools r ≡ Some i) (there : slice_get pools i ≡ Some s) (has : held_now s r ≡ Some x) where
    home-is : home_of h act ≡ Some (home s)
    home-is = home-placed (pool_options o) pools h z.pools.fit (Do.Return r Used.Ok) refl i s there held

    pub complaint-passes : first_refusal o h (at_m w h z m l act) ≡ None
    complaint-passes = passes-time w h z m l act (rw home-is refl)

    abbrev xs : List PoolItem
    xs = of_pool s.pool h

    d : PoolFits (pool_options o) h i s
    d = z.pools.fit.each i s there

    pub number-is : s.pool ≡ i
    number-is = d.number

    fits : Fits s xs
    fits = subst (λ p. Fits s (of_pool p h)) (sym d.number) d.fits

    live : is_live_now s x ≡ true
    live = held-lives s r x has

    holding-x : holding xs r ≡ Some x
    holding-x = holding-is s xs fits r ∙ has

    abbrev c : Complaint
    c = record { pool = s.pool; address = s.address; connection = x; phase = operating; error = e }

    complaint-is : complaint_of k act ≡ Some c
    complaint-is =
        ap (in_operation k r e) home-is
        ∙ ap (λ (y : Option ℕ). Some (record { pool = s.pool; address = s.address; connection = unwrap_or y 0; phase = operating; error = e })) holding-x

    current-is : is_current o k t c ≡ concerns_now w s x e
    current-is =
        let stale : is_stale (pool_options o) xs x ≡ is_outdated s x = ap (λ p. is_stale p xs x) (sym d.options) ∙ outdated-is s xs fits x live in
        rw (z.pools.fit.open_are s.address, stale) refl

    -- the trouble of the row
    abbrev pub complained : Case → Trouble
    complained row = record { row = row; pool = s.pool; address = s.address; error = e; wire = unwrap_or (wire_now s x) (pos 0); service = service_now s x }

    abbrev complained-of : Option Case → Option Trouble
    complained-of None = None
    complained-of (Some row) = Some (complained row)

    trouble-row : (y : Option Case) → current_trouble k c y ≡ complained-of y
    trouble-row None = refl
    trouble-row (Some row) = rw (wire-is s xs fits x live, service-is s xs fits x live) refl

    -- a current error of a row is its trouble
    pub trouble-told : (row : Case) → concerns_now w s x e ≡ true → case_of operating e ≡ Some row → trouble_of o k t act ≡ Some (complained row)
    trouble-told row current case =
        ap (complaint_trouble o k t) complaint-is
        ∙ (ap (λ b. if b then current_trouble k c (case_of operating e) else None) (current-is ∙ current)
        ∙ (ap (current_trouble k c) case ∙ trouble-row (Some row)))

    -- and no other is one
    pub trouble-none : concerns_now w s x e && is_some (case_of operating e) ≡ false → trouble_of o k t act ≡ None
    trouble-none none = ap (complaint_trouble o k t) complaint-is ∙ (ap (λ b. if b then current_trouble k c (case_of operating e) else None) current-is ∙ on (concerns_now w s x e) (case_of operating e) none)
      where
        on : (b : Bool) (y : Option Case) → b && is_some y ≡ false → (if b then current_trouble k c y else None) ≡ None
        on false y f = refl
        on true None f = refl
        on true (Some row) f = cc
