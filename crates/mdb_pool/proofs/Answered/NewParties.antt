-- Whether a pool can tell that a party is new to it.
use Rattle.std.proofs.Common.{◌≡◌, ℕ, Bool, true, false, ◌||◌, List, [], ◌∷◌, refl, sym, ◌∙◌, ap, subst}
use Rattle.mdb_log.specs.declared.step.Act.{Act}
use Rattle.mdb_log.specs.declared.step.Act.TheVariants.{Request, Warm, Take}
use Rattle.mdb_log.specs.declared.step.Step.{Step}
use Rattle.mdb_pool.specs.Core.{PoolCore}
use Rattle.mdb_pool.specs.Now.{alone_now, queries}
use Rattle.mdb_pool.specs.Refusing.{can_tell, names_nobody, tells_new, NameNobody, TellsNew}

-- one that stands alone can tell of every party
pub alone_tells : (s : PoolCore) (act : Act) → alone_now s ≡ true → tells_new s act ≡ true
alone_tells s (Request r a) e = rw e refl
alone_tells s (Warm r a) e = rw e refl
alone_tells s (Take r q c) e = rw e refl
alone_tells s _ e = refl

pub alone_can : (s : PoolCore) (r : ℕ) → alone_now s ≡ true → can_tell s r ≡ true
alone_can s r e = rw e refl

-- each can where the act names nobody
pub named_tells : (s : PoolCore) (act : Act) → names_nobody act ≡ true → tells_new s act ≡ true
named_tells s (Request r a) e = cc
named_tells s (Warm r a) e = cc
named_tells s (Take r q c) e = cc
named_tells s _ e = refl

pub nobody_tells : (s : PoolCore) (act : Act) → (alone_now s || names_nobody act) ≡ true → tells_new s act ≡ true
nobody_tells s act e = on (alone_now s) refl
  where
    on : (b : Bool) → alone_now s ≡ b → tells_new s act ≡ true
    on true f = alone_tells s act f
    on false f = named_tells s act (sym (ap (λ b. b || names_nobody act) f) ∙ e)

-- what is said of the steps that come is said after the first of them
pub tells-on : (s t : PoolCore) (step : Step) (more : List Step) → alone_now t ≡ alone_now s → TellsNew s (step ∷ more) → TellsNew t more
unfolding queries
tells-on s t step [] e z = tt
tells-on s t step (x ∷ more) e z = let later : NameNobody (alone_now s) (x ∷ more) = z.1 in (nobody_tells t x.act (subst (λ b. (b || names_nobody x.act) ≡ true) (sym e) later.0), subst (λ b. NameNobody b more) (sym e) later.1)

-- a pool that stands alone can tell of all steps
pub alone-all : (alone : Bool) (steps : List Step) → alone ≡ true → NameNobody alone steps
alone-all alone [] e = tt
alone-all alone (step ∷ more) e = (rw e refl, alone-all alone more e)
