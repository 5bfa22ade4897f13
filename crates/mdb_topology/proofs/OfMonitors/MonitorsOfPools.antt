-- The monitors of pools that are opened, one change after another.
use Rattle.std.proofs.Common.{ℕ, suc, arith, ◌≡◌, ◌+◌, ◌<◌, List, [], ◌∷◌, ◌++◌, map, length, take, get_or, refl, sym, ◌∙◌, ap}
use Rattle.std.proofs.Math.Seq.{take-suc}
use Rattle.std.proofs.lemmas.List.{map-append}
use Rattle.mdb_base.specs.declared.options.Options.{Options}
use Rattle.mdb_monitor.specs.declared.monitor.Setting.{Setting}
use Rattle.mdb_pool.specs.Core.{PoolCore}
use Rattle.mdb_driver_pools.specs.declared.pool_change.PoolChange.{PoolChange}
use Rattle.mdb_driver_pools.specs.declared.pool_change.PoolChange.TheVariants.{Alter, Open}
use Rattle.mdb_driver_rules.specs.Monitors.{setting}
use Rattle.mdb_driver_pools.specs.Planned.{opened_by}
use Rattle.mdb_driver_pools.specs.Standing.{home}

opened-both : (xs ys : List PoolChange) → opened_by (xs ++ ys) ≡ opened_by xs ++ opened_by ys
opened-both [] ys = refl
opened-both (Alter i plan ∷ xs) ys = opened-both xs ys
opened-both (Open core ∷ xs) ys = ap (λ hs. home core ∷ hs) (opened-both xs ys)

-- the first pools with one more
pub pools-more : (o : Options) (xs : List PoolCore) (i : ℕ) (x : PoolCore) (now then : List Setting) → i < length xs → x ≡ get_or xs i x
    → now ≡ map (λ s. setting o s.address) (take i xs) → then ≡ now ++ setting o x.address ∷ [] → then ≡ map (λ s. setting o s.address) (take (i + 1) xs)
pools-more o xs i x now then within is before after =
    let f : PoolCore → Setting = (λ s. setting o s.address) in
    let longer : take (i + 1) xs ≡ take i xs ++ x ∷ [] = (let e : i + 1 ≡ suc i = omega arith in ap (λ n. take n xs) e) ∙ (take-suc xs i x within ∙ ap (λ y. take i xs ++ y ∷ []) (sym is)) in
    after ∙ (ap (λ ys. ys ++ f x ∷ []) before ∙ (sym (map-append f (take i xs) (x ∷ [])) ∙ ap (map f) (sym longer)))

-- the first changes with one more
pub settings-more : (o : Options) (xs : List PoolChange) (i : ℕ) (x : PoolChange) (now then : List Setting) → i < length xs → x ≡ get_or xs i x
    → now ≡ map (λ h. setting o h.address) (opened_by (take i xs)) → then ≡ now ++ map (λ h. setting o h.address) (opened_by (x ∷ []))
    → then ≡ map (λ h. setting o h.address) (opened_by (take (i + 1) xs))
settings-more o xs i x now then within is before after =
    let longer : take (i + 1) xs ≡ take i xs ++ x ∷ [] = (let e : i + 1 ≡ suc i = omega arith in ap (λ n. take n xs) e) ∙ (take-suc xs i x within ∙ ap (λ y. take i xs ++ y ∷ []) (sym is)) in
    after
    ∙ (ap (λ ys. ys ++ map (λ h. setting o h.address) (opened_by (x ∷ []))) before
    ∙ (sym (map-append (λ h. setting o h.address) (opened_by (take i xs)) (opened_by (x ∷ [])))
    ∙ ap (map (λ h. setting o h.address)) (sym (ap opened_by longer ∙ opened-both (take i xs) (x ∷ [])))))
