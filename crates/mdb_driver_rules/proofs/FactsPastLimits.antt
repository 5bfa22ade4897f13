-- Which facts take a number past a limit.
use Rattle.std.proofs.Common.{ℕ, ◌≡◌, List, [], ◌∷◌, ◌++◌, Option, Some, None, refl, sym, ◌∙◌, ap}
use Rattle.mdb_base.specs.declared.options.Options.{Options}
use Rattle.mdb_events.specs.declared.fact.Fact.{Fact}
use Rattle.mdb_log.specs.declared.reply.What.{What}
use Rattle.mdb_log.specs.History.{Item, made, with_facts}
use Rattle.mdb_driver_rules.specs.Refusal.{past_limit, sooner, first_past}

-- the fact takes nothing past a limit, whatever the history
abbrev pub IsFree : Fact → Type 0
IsFree f = (o : Options) (k : List Item) → past_limit o k f ≡ None

sooner-assoc : (a b c : Option What) → sooner (sooner a b) c ≡ sooner a (sooner b c)
sooner-assoc (Some w) b c = refl
sooner-assoc None b c = refl

pub past-append : (o : Options) (m : ℕ) (k : List Item) (fs gs : List Fact) → first_past o m k (fs ++ gs) ≡ sooner (first_past o m k fs) (first_past o m (with_facts m fs k) gs)
past-append o m k [] gs = refl
past-append o m k (f ∷ fs) gs = ap (sooner (past_limit o k f)) (past-append o m (made m f ∷ k) fs gs) ∙ sym (sooner-assoc (past_limit o k f) (first_past o m (made m f ∷ k) fs) (first_past o m (with_facts m fs (made m f ∷ k)) gs))
