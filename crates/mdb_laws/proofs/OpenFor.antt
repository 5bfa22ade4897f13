-- After an accepted step a pool is open exactly where a server is known.
use Rattle.std.proofs.Common.{ℕ, ◌≡◌, ◌==◌, ◌+◌, ◌&&◌, ◌||◌, Bool, true, false, not, if◌then◌else◌, List, [], ◌∷◌, ◌++◌, Option, Some, None, is_some, refl, sym, ◌∙◌, ap}
use Rattle.std.specs.Prelude.{flat_map}
use Rattle.mdb_base.specs.Equality.{same_address}
use Rattle.mdb_base.specs.declared.address.ServerAddress.{ServerAddress}
use Rattle.mdb_base.specs.declared.options.Options.{Options}
use Rattle.mdb_describe.specs.declared.topology.TopologyDescription.{TopologyDescription}
use Rattle.mdb_describe.specs.declared.diff.Diff.{Diff}
use Rattle.mdb_describe.specs.Differences.{difference, changed, missing}
use Rattle.mdb_describe.specs.Servers.{is_known, is_listed}
use Rattle.mdb_log.specs.History.{Item, open_pool}
use Rattle.mdb_describe.proofs.Addresses.{own-address}
use Rattle.mdb_driver_rules.specs.Errors.{Clear, Trouble}
use Rattle.mdb_topology.proofs.Publications.OfDifference.{nothing-differs}
use Rattle.mdb_driver_rules.proofs.ServersThen.{known-now, of-difference}
use Rattle.mdb_laws.specs.Causes.{Mark, closed_at, readied_at, opened_from, changes, clears}
use Rattle.mdb_laws.proofs.Gone.{open_after, after-append, all-readied, closed-none, closed-one, cleared-same}
use Rattle.mdb_laws.proofs.Marks.{any-head, same-number}
use Rattle.mdb_laws.proofs.Runs.{IsAlone}
use Rattle.mdb_laws.proofs.Published.{IsSound}

module _ (o : Options) (h : List Item) (u : TopologyDescription) (a : ServerAddress) where
  abbrev C : ServerAddress → List Mark
  C b = closed_at b (open_pool h b)

  -- the closes of others leave the pool of an address
  closed-others : IsAlone h → (p : ℕ) → open_pool h a ≡ Some p → (xs : List ServerAddress) → is_listed xs a ≡ false → open_after a (flat_map C xs) (Some p) ≡ Some p
  closed-others alone p there [] e = refl
  closed-others alone p there (b ∷ xs) e =
      let d : (same_address b a ≡ false) × (is_listed xs a ≡ false) = any-head (λ c. same_address c a) b xs e in
      after-append a (C b) (flat_map C xs) (Some p)
      ∙ (ap (open_after a (flat_map C xs)) (one d.0 (open_pool h b) refl) ∙ closed-others alone p there xs d.1)
    where
      one : same_address b a ≡ false → (q : Option ℕ) → open_pool h b ≡ q → open_after a (closed_at b q) (Some p) ≡ Some p
      one other None f = refl
      one other (Some q) f = test (p == q) refl
        where
          test : (c : Bool) → (p == q) ≡ c → (if p == q then None else Some p) ≡ Some p
          test false g = rw g refl
          test true g =
              let n : p ≡ q = same-number p q g in
              let same : b ≡ a = alone b a p (f ∙ ap Some (sym n)) there in
              let w : same_address b a ≡ true = ap (λ x. same_address x a) same ∙ own-address a in
              let t : true ≡ false = sym w ∙ other in
              cc

  -- after closes the pool is open where it was, unless it is one of those
  closed-is : IsAlone h → (xs : List ServerAddress) → is_some (open_after a (flat_map C xs) (open_pool h a)) ≡ is_some (open_pool h a) && not (is_listed xs a)
  closed-is alone xs = on (open_pool h a) (is_listed xs a) refl refl
    where
      on : (x : Option ℕ) (b : Bool) → open_pool h a ≡ x → is_listed xs a ≡ b → is_some (open_after a (flat_map C xs) x) ≡ is_some x && not b
      on None b f g = ap is_some (closed-none o h u a xs)
      on (Some p) true f g = ap is_some (closed-one o h u a p f xs g)
      on (Some p) false f g = ap is_some (closed-others alone p f xs g)

  -- after opens it is open where it was, or is one of those
  opened-is : (n : ℕ) (xs : List ServerAddress) (x : Option ℕ) → is_some (open_after a (opened_from n xs) x) ≡ is_some x || is_listed xs a
  opened-is n [] x = or-none (is_some x)
    where
      or-none : (b : Bool) → b ≡ b || false
      or-none true = refl
      or-none false = refl
  opened-is n (b ∷ xs) x = opened-is (n + 1) xs (if same_address b a then Some n else x) ∙ on (same_address b a) (is_some x) refl
    where
      on : (c y : Bool) → is_some x ≡ y → is_some (if c then Some n else x) || is_listed xs a ≡ is_some x || (c || is_listed xs a)
      on true true f = rw f refl
      on true false f = rw f refl
      on false y f = refl

  marks-open : IsAlone h → (n : ℕ) (changed gone come : List ServerAddress) (trouble : Option Trouble) (clear : Clear)
      → is_some (open_after a (((flat_map (λ b. readied_at o h u b (open_pool h b)) changed ++ flat_map C gone) ++ opened_from n come) ++ clears o h trouble clear) (open_pool h a))
      ≡ (is_some (open_pool h a) && not (is_listed gone a)) || is_listed come a
  marks-open alone n changed gone come trouble clear =
      let R : List Mark = flat_map (λ b. readied_at o h u b (open_pool h b)) changed in
      let x : Option ℕ = open_pool h a in
      let y : Option ℕ = open_after a (flat_map C gone) x in
      let closes : open_after a (R ++ flat_map C gone) x ≡ y = after-append a R (flat_map C gone) x ∙ ap (open_after a (flat_map C gone)) (all-readied o h u a changed x) in
      ap is_some (after-append a ((R ++ flat_map C gone) ++ opened_from n come) (clears o h trouble clear) x
      ∙ (cleared-same o h u a trouble clear (open_after a ((R ++ flat_map C gone) ++ opened_from n come) x)
      ∙ (after-append a (R ++ flat_map C gone) (opened_from n come) x ∙ ap (open_after a (opened_from n come)) closes)))
      ∙ (opened-is n come y ∙ ap (λ b. b || is_listed come a) (closed-is alone gone))

-- What is known of the servers is where the pools are open, after all that is caused.
pub open-known : (o : Options) (h : List Item) (t u : TopologyDescription) → IsSound o t h → (a : ServerAddress) (trouble : Option Trouble) (clear : Clear)
    → is_some (open_after a (changes o h u (difference t.servers u.servers) ++ clears o h trouble clear) (open_pool h a)) ≡ is_known a u.servers
open-known o h t u sound a trouble clear = on (difference t.servers u.servers) refl
  where
    whole : Diff
    whole = record { changed = changed t.servers u.servers; removed = missing t.servers u.servers; added = missing u.servers t.servers }

    now : (d : Diff) → d.removed ≡ whole.removed → d.added ≡ whole.added → (is_some (open_pool h a) && not (is_listed d.removed a)) || is_listed d.added a ≡ is_known a u.servers
    now d e f = rw (sound.open_for a, e, f) (known-now a t.servers u.servers)

    keeps : (b : Bool) → b ≡ (b && true) || false
    keeps true = refl
    keeps false = refl

    on : (x : Option Diff) → difference t.servers u.servers ≡ x → is_some (open_after a (changes o h u x ++ clears o h trouble clear) (open_pool h a)) ≡ is_known a u.servers
    on None e =
        let none : (whole.removed ≡ []) × (whole.added ≡ []) = nothing-differs whole e in
        let d : Diff = record { changed = []; removed = []; added = [] } in
        ap is_some (cleared-same o h u a trouble clear (open_pool h a)) ∙ (keeps (is_some (open_pool h a)) ∙ now d (sym none.0) (sym none.1))
    on (Some d) e =
        let same : whole ≡ d = of-difference whole d e in
        marks-open o h u a sound.alone _ d.changed d.removed d.added trouble clear ∙ now d (ap (λ (x : Diff). x.removed) (sym same)) (ap (λ (x : Diff). x.added) (sym same))
