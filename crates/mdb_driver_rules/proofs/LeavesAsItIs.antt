-- What facts and refused steps leave as it is.
use Rattle.std.proofs.Common.{ℕ, ◌≡◌, List, [], ◌∷◌, ◌++◌, refl, sym, ◌∙◌, ap}
use Rattle.std.proofs.lemmas.List.{append_assoc}
use Rattle.mdb_base.specs.declared.options.Options.{Options}
use Rattle.mdb_events.specs.declared.fact.Fact.{Fact}
use Rattle.mdb_log.specs.History.{Item, made, with_facts}
use Rattle.mdb_driver_rules.specs.Turns.{in_turn}
use Rattle.mdb_driver_rules.specs.Monitors.{fresh, monitor_items, watchers_of}
use Rattle.mdb_driver_rules.specs.Description.{description_of, published, is_stopped}

pub with-append : (m : ℕ) (fs gs : List Fact) (k : List Item) → with_facts m (fs ++ gs) k ≡ with_facts m gs (with_facts m fs k)
with-append m [] gs k = refl
with-append m (f ∷ fs) gs k = with-append m fs gs (made m f ∷ k)

-- facts tell nothing of the topology, of monitors and of watchers
module _ (o : Options) (m : ℕ) where
  pub description-facts : (fs : List Fact) (k : List Item) → description_of o (with_facts m fs k) ≡ description_of o k
  description-facts [] k = refl
  description-facts (f ∷ fs) k = description-facts fs (made m f ∷ k)

  pub published-facts : (fs : List Fact) (k : List Item) → published o (with_facts m fs k) ≡ published o k
  published-facts [] k = refl
  published-facts (f ∷ fs) k = published-facts fs (made m f ∷ k)

  pub stopped-facts : (fs : List Fact) (k : List Item) → is_stopped (with_facts m fs k) ≡ is_stopped k
  stopped-facts [] k = refl
  stopped-facts (f ∷ fs) k = stopped-facts fs (made m f ∷ k)

  pub monitor-facts : (p : ℕ) (fs : List Fact) (k : List Item) → monitor_items (with_facts m fs k) p ≡ monitor_items k p
  monitor-facts p [] k = refl
  monitor-facts p (f ∷ fs) k = monitor-facts p fs (made m f ∷ k)

  pub fresh-facts : (fs : List Fact) (k : List Item) → fresh (with_facts m fs k) ≡ fresh k
  fresh-facts [] k = refl
  fresh-facts (f ∷ fs) k = fresh-facts fs (made m f ∷ k)

  pub watchers-facts : (fs : List Fact) (k : List Item) → watchers_of (with_facts m fs k) ≡ watchers_of k
  watchers-facts [] k = refl
  watchers-facts (f ∷ fs) k = watchers-facts fs (made m f ∷ k)

-- parts one after another
pub turn-append : (m : ℕ) (fs gs : List (List Item → List Fact)) (k : List Item) → in_turn m (fs ++ gs) k ≡ in_turn m fs k ++ in_turn m gs (with_facts m (in_turn m fs k) k)
turn-append m [] gs k = refl
turn-append m (f ∷ fs) gs k =
    let later : List Item = with_facts m (f k) k in
    let rest : List Fact = in_turn m fs later in
    let deeper : in_turn m (fs ++ gs) later ≡ rest ++ in_turn m gs (with_facts m rest later) = turn-append m fs gs later in
    ap (λ x. f k ++ x) deeper
    ∙ (ap (λ x. f k ++ (rest ++ in_turn m gs x)) (sym (with-append m (f k) rest k))
    ∙ sym (append_assoc (f k) rest (in_turn m gs (with_facts m (f k ++ rest) k))))
