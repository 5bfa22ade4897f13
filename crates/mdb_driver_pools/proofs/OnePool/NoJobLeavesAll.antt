-- A claim that finds no job leaves the pools.
use Rattle.std.proofs.Common.{ℕ, ◌≡◌, List, [], ◌∷◌, ◌++◌, None, refl, ◌∙◌, ap}
use Rattle.mdb_base.specs.declared.options.Options.{Options}
use Rattle.mdb_log.specs.declared.options.PoolOptions.{PoolOptions}
use Rattle.mdb_log.specs.declared.step.Step.{Step}
use Rattle.mdb_log.specs.declared.step.Act.TheVariants.{Claim}
use Rattle.mdb_log.specs.declared.reply.Reply.TheVariants.{NoJob}
use Rattle.mdb_log.specs.History.{Item, did, of_pool, with_facts}
use Rattle.mdb_log.specs.Homes.{Home}
use Rattle.mdb_log.specs.Opening.{pool_options}
use Rattle.mdb_pool.specs.Core.{PoolCore}
use Rattle.mdb_pool_rules.specs.Serving.{serving}
use Rattle.mdb_pool_rules.proofs.NoMove.{served-serving}
use Rattle.mdb_driver_rules.specs.Homes.{home_of, begun}
use Rattle.mdb_driver_rules.specs.Facts.{own_facts, serve_all, step_facts}
use Rattle.mdb_driver_rules.specs.Answer.{pool_reply, reply_to, answered}
use Rattle.mdb_driver_rules.specs.Refusal.{refusal}
use Rattle.mdb_driver_pools.specs.Finding.{index_of}
use Rattle.mdb_driver_pools.specs.Standing.{home, PoolFits, PoolsFit, PoolsStand}
use Rattle.mdb_driver_pools.specs.Taking.{Rests}
use Rattle.mdb_driver_rules.proofs.General.OneElement.{flat-none}
use Rattle.mdb_driver_pools.proofs.OnePool.FoundAt.{home-missing}
use Rattle.mdb_driver_pools.proofs.OnePool.TellsNoTopology.{plain-facts}

module _ (qo : Options) (pools : List PoolCore) (h : List Item) (n : ℕ) where
  abbrev o : PoolOptions
  o = pool_options qo

  abbrev step : Step
  step = record { moment = n; act = Claim }

  abbrev k : List Item
  k = did step NoJob ∷ h

  rests-fit : PoolsFit o pools h → PoolsFit o pools k
  rests-fit z = record {
    each = λ p s e. let d : PoolFits o h p s = z.each p s e in record { number = d.number; options = d.options; fits = d.fits };
    rest = z.rest;
    homes_are = z.homes_are;
    open_are = z.open_are;
    single = z.single;
    names = z.names;
    apart = z.apart;
    requested = z.requested;
    opens = z.opens;
    noted = z.noted;
    claims = z.claims;
    unclaimed = z.unclaimed;
  }

  rests-stand : PoolsStand o pools h → PoolsStand o pools k
  rests-stand z = record { fit = rests-fit z.fit; served = z.served; quiet = z.quiet; within = z.within }

  -- no pool has anything to serve
  nothing-served : PoolsStand o pools h → serve_all qo n (begun h step) ≡ []
  nothing-served z = rw z.fit.homes_are (flat-none home (λ (x : Home). serving x.number x.address o n (of_pool x.number h)) pools (λ j x e. served-serving o (of_pool x.pool h) (z.served x.pool) x.pool x.address n))

  pub rests : PoolsStand o pools h → index_of pools Claim ≡ None → refusal qo h step ≡ None → Rests qo pools step h
  rests z e accepted =
      let place : home_of h Claim ≡ None = home-missing o pools h z.fit Claim refl e in
      let facts : step_facts qo h step ≡ [] = plain-facts qo h step refl ∙ (ap (λ x. own_facts qo h step x (begun h step) ++ serve_all qo n (with_facts n (own_facts qo h step x (begun h step)) (begun h step))) place ∙ nothing-served z) in
      let reply : reply_to qo h step (begun h step) Claim ≡ NoJob = ap (pool_reply h (begun h step) Claim) place in
      record {
        answer_is = ap (λ a. answered qo h step a (step_facts qo h step)) accepted ∙ (ap (answered qo h step None) facts ∙ ap (λ r. record { reply = r; facts = [] }) reply);
        stands = rests-stand z;
        fair = tt;
      }
