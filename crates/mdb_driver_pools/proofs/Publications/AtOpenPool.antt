-- The parts of a publication that touch an open pool: a server that changed readies its pool, and one that goes closes it.
use Rattle.std.proofs.Common.{ℕ, ◌≡◌, Bool, if◌then◌else◌, List, [], ◌∷◌, ◌++◌, set, Option, Some, None, refl, sym, ◌∙◌, ap, subst}
use Rattle.std.specs.Prelude.{slice_get}
use Rattle.mdb_base.specs.declared.address.ServerAddress.{ServerAddress}
use Rattle.mdb_base.specs.declared.options.Options.{Options}
use Rattle.mdb_describe.specs.declared.description.ServerDescription.{ServerDescription}
use Rattle.mdb_describe.specs.declared.topology.TopologyDescription.{TopologyDescription}
use Rattle.mdb_describe.specs.Topology.{server_at}
use Rattle.mdb_events.specs.declared.fact.Fact.{Fact}
use Rattle.mdb_events.specs.declared.fact.Fact.TheVariants.{Sdam}
use Rattle.mdb_events.specs.declared.sdam.SdamEvent.TheVariants.{ServerDescriptionChanged, ServerClosed}
use Rattle.mdb_log.specs.declared.options.PoolOptions.{PoolOptions}
use Rattle.mdb_log.specs.declared.step.Act.{Act}
use Rattle.mdb_log.specs.declared.step.Act.TheVariants.{Ready, Close}
use Rattle.mdb_log.specs.declared.reply.Reply.{Reply}
use Rattle.mdb_log.specs.History.{Item, PoolItem, made, of_pool, open_pool}
use Rattle.mdb_log.specs.Opening.{pool_options}
use Rattle.mdb_pool.specs.Core.{PoolCore}
use Rattle.mdb_pool_rules.specs.Facts.{readied, close_facts}
use Rattle.mdb_pool_rules.specs.Answer.{all_facts}
use Rattle.mdb_pool.specs.Planning.{Does}
use Rattle.mdb_pool_rules.specs.Quiet.{IsQuiet}
use Rattle.mdb_pool_rules.specs.Serving.{IsServed}
use Rattle.mdb_pool.specs.Standing.{Fits, Accepts, SameHome}
use Rattle.mdb_pool_rules.proofs.AfterClearOrClose.{ready-alone, close-alone}
use Rattle.mdb_driver_rules.specs.Ready.{is_ready_type}
use Rattle.mdb_driver_rules.specs.Publishing.{ready_pool, close_pool, server_changed, server_closed}
use Rattle.mdb_driver_pools.specs.Standing.{is_open_at, at_address, PoolFits}
use Rattle.mdb_driver_pools.specs.Telling.{Comes, Makes}
use Rattle.mdb_driver_pools.proofs.OnePool.OpenAtOneAddress.{at-address}
use Rattle.mdb_driver_pools.proofs.OnePool.DriversOwnAct.{IsInner, Acted, acted, same-items}
use Rattle.mdb_driver_rules.proofs.General.OneElement.{position-at}
use Rattle.mdb_driver_pools.proofs.PartsInTurn.{comes-as, comes-none, comes-calm, makes-then}

-- the facts of the pool that is open at the address, by what it knows
abbrev pub Gives : Type 0
Gives = ℕ → ServerAddress → PoolOptions → List PoolItem → List Fact

abbrev pub of_open : Gives → Options → ServerAddress → Option ℕ → List Item → List Fact
of_open gives o a None k = []
of_open gives o a (Some p) k = gives p a (pool_options o) (of_pool p k)

module _ (o : Options) (m : ℕ) (a : ServerAddress) (pools : List PoolCore) (gives : Gives) where
  -- where none is open nothing is done
  nothing-made : (before : List Fact) → at_address pools a ≡ None → Makes o m (λ k. of_open gives o a (open_pool k a) k) pools pools before before
  nothing-made before none k z =
      let w : open_pool k a ≡ None = z.fit.open_are a ∙ none in
      comes-as o m (of_open gives o a (open_pool k a) k) [] pools before before k (sym (ap (λ x. of_open gives o a x k) w)) (comes-none o m pools before k z)

  -- the open pool does the act
  module _ (i : ℕ) (s t : PoolCore) (here : at_address pools a ≡ Some i) (at_i : slice_get pools i ≡ Some s) (same : SameHome s t) (act : Act) (inner : IsInner act)
      (alone : (xs : List PoolItem) → IsQuiet s.options xs → IsServed s.options xs → all_facts s.pool s.address s.options m xs xs act ≡ gives s.pool s.address s.options xs)
      (fs : List Fact) (reply : Reply) (does : Does s t [] fs (record { moment = m; act = act }) reply)
      (before after : List Fact) (added : after ≡ before ++ fs) where
    pub inner-made : Makes o m (λ k. of_open gives o a (open_pool k a) k) pools (set pools i t) before after
    inner-made k z =
        let xs : List PoolItem = of_pool s.pool k in
        let d : PoolFits (pool_options o) k i s = z.fit.each i s at_i in
        let w : open_pool k a ≡ Some s.pool = z.fit.open_are a ∙ (here ∙ ap Some (sym d.number)) in
        let at : s.address ≡ a = at-address a s (position-at (is_open_at a) pools i s here at_i).0 in
        let fits : Fits s xs = subst (λ p. Fits s (of_pool p k)) (sym d.number) d.fits in
        let v : Accepts s t [] fs m act reply xs xs = subst (Accepts s t [] fs m act reply xs) (same-items act inner s.pool m (λ b. Some s.pool) xs) (does xs fits) in
        let quiet : IsQuiet s.options xs = subst (λ c. IsQuiet c xs) (sym d.options) (z.quiet s.pool) in
        let served : IsServed s.options xs = subst (λ c. IsServed c xs) (sym d.options) (z.served s.pool) in
        let F : List Fact = all_facts s.pool s.address s.options m xs xs act in
        let all : F ≡ of_open gives o a (open_pool k a) k =
        alone xs quiet served ∙ (ap (λ b. gives s.pool b s.options xs) at ∙ (ap (λ c. gives s.pool a c xs) d.options ∙ sym (ap (λ x. of_open gives o a x k) w))) in
        let c : Acted (pool_options o) (set pools i t) m F k = acted (pool_options o) pools k z i s t at_i m act inner [] fs reply same v in
        comes-as o m (of_open gives o a (open_pool k a) k) F (set pools i t) before after k all
        (record { added = added ∙ ap (λ gs. before ++ gs) v.facts_are; stand = c.stand; fair = c.fair; fresh = c.fresh })

abbrev readies : ℕ → Gives
readies m p a o xs = readied p a o m xs

abbrev closes : ℕ → Gives
closes m p a o xs = close_facts p a o m xs

module _ (o : Options) (m : ℕ) (a : ServerAddress) where
  ready-is : (k : List Item) (x : Option ℕ) → of_open (readies m) o a x k ≡ ready_pool o m a x k
  ready-is k None = refl
  ready-is k (Some p) = refl

  close-is : (k : List Item) (x : Option ℕ) → of_open (closes m) o a x k ≡ close_pool o m a x k
  close-is k None = refl
  close-is k (Some p) = refl

  module _ (pools : List PoolCore) where
    pub ready-none : (before : List Fact) → at_address pools a ≡ None → Makes o m (λ k. ready_pool o m a (open_pool k a) k) pools pools before before
    ready-none before none k z = comes-as o m (ready_pool o m a (open_pool k a) k) (of_open (readies m) o a (open_pool k a) k) pools before before k (ready-is k (open_pool k a)) (nothing-made o m a pools (readies m) before none k z)

    pub close-none : (before : List Fact) → at_address pools a ≡ None → Makes o m (λ k. close_pool o m a (open_pool k a) k) pools pools before before
    close-none before none k z = comes-as o m (close_pool o m a (open_pool k a) k) (of_open (closes m) o a (open_pool k a) k) pools before before k (close-is k (open_pool k a)) (nothing-made o m a pools (closes m) before none k z)

    module _ (i : ℕ) (s t : PoolCore) (here : at_address pools a ≡ Some i) (at_i : slice_get pools i ≡ Some s) (same : SameHome s t) (fs : List Fact) (reply : Reply) (before after : List Fact) (added : after ≡ before ++ fs) where
      pub ready-made : (q : ℕ) → Does s t [] fs (record { moment = m; act = Ready q }) reply → Makes o m (λ k. ready_pool o m a (open_pool k a) k) pools (set pools i t) before after
      ready-made q does k z =
          comes-as o m (ready_pool o m a (open_pool k a) k) (of_open (readies m) o a (open_pool k a) k) (set pools i t) before after k (ready-is k (open_pool k a))
          (inner-made o m a pools (readies m) i s t here at_i same (Ready q) tt (λ xs quiet served. ready-alone s.pool s.address s.options m xs q quiet served) fs reply does before after added k z)

      pub close-made : (q : ℕ) → Does s t [] fs (record { moment = m; act = Close q }) reply → Makes o m (λ k. close_pool o m a (open_pool k a) k) pools (set pools i t) before after
      close-made q does k z =
          comes-as o m (close_pool o m a (open_pool k a) k) (of_open (closes m) o a (open_pool k a) k) (set pools i t) before after k (close-is k (open_pool k a))
          (inner-made o m a pools (closes m) i s t here at_i same (Close q) tt (λ xs quiet served. close-alone s.pool s.address s.options m xs q) fs reply does before after added k z)

  -- a server that changed: its pool first, and then what is known of it
  abbrev changed_fact : ServerDescription → ServerDescription → Fact
  changed_fact old new = Sdam (ServerDescriptionChanged (record { address = a; topology_id = o.topology_id; previous_description = old; new_description = new }))

  pub changed-made : (t u : TopologyDescription) (old new : ServerDescription) (b : Bool) (pools later : List PoolCore) (before between after : List Fact)
      → server_at a t.servers ≡ Some old → server_at a u.servers ≡ Some new → is_ready_type u.topology_type new.server_type ≡ b
      → Makes o m (λ k. if b then ready_pool o m a (open_pool k a) k else []) pools later before between → after ≡ between ++ changed_fact old new ∷ []
      → Makes o m (server_changed o m t u a) pools later before after
  changed-made t u old new b pools later before between after was is ready first added k z =
      let part : List Item → List Fact = λ j. if b then ready_pool o m a (open_pool j a) j else [] in
      let both : Comes o m (part k ++ changed_fact old new ∷ []) later before after k =
      makes-then o m part (λ j. changed_fact old new ∷ []) pools later later before between after first (λ j y. comes-calm o m later between after (changed_fact old new) j tt added y) k z in
      let same : part k ++ changed_fact old new ∷ [] ≡ server_changed o m t u a k = rw (was, is, ready) refl in
      comes-as o m (server_changed o m t u a k) (part k ++ changed_fact old new ∷ []) later before after k same both

  -- a server that goes: it is told, and then its pool is closed
  abbrev gone_fact : Fact
  gone_fact = Sdam (ServerClosed (record { address = a; topology_id = o.topology_id }))

  pub closed-made : (pools later : List PoolCore) (before between after : List Fact) → between ≡ before ++ gone_fact ∷ []
      → Makes o m (λ k. close_pool o m a (open_pool k a) k) pools later between after → Makes o m (server_closed o m a) pools later before after
  closed-made pools later before between after added shuts k z =
      let j : List Item = made m gone_fact ∷ k in
      let both : Comes o m ((gone_fact ∷ []) ++ close_pool o m a (open_pool j a) j) later before after k =
      makes-then o m (λ k. gone_fact ∷ []) (λ k. close_pool o m a (open_pool k a) k) pools pools later before between after (λ k y. comes-calm o m pools before between gone_fact k tt added y) shuts k z in
      let same : (x : Option ℕ) → (gone_fact ∷ []) ++ close_pool o m a x j ≡ gone_fact ∷ close_pool o m a x k = λ x. on x in
      comes-as o m (server_closed o m a k) ((gone_fact ∷ []) ++ close_pool o m a (open_pool k a) j) later before after k (same (open_pool k a)) both
    where
      on : (x : Option ℕ) → (gone_fact ∷ []) ++ close_pool o m a x (made m gone_fact ∷ k) ≡ gone_fact ∷ close_pool o m a x k
      on None = refl
      on (Some p) = refl
