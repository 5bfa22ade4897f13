-- Of items that say alike the same acts are refused.
use Rattle.std.proofs.Common.{ℕ, ◌≡◌, List, Option, refl, ◌∙◌}
use Rattle.std.specs.Prelude.{unwrap_or}
use Rattle.mdb_base.specs.declared.object_id.ObjectId.{ObjectId}
use Rattle.mdb_log.specs.declared.options.PoolOptions.{PoolOptions}
use Rattle.mdb_log.specs.declared.step.Act.{Act}
use Rattle.mdb_log.specs.declared.step.Act.TheVariants as act
use Rattle.mdb_log.specs.declared.step.FailedAt.TheVariants.{Pre, Post}
use Rattle.mdb_log.specs.History.{Item, PoolItem}
use Rattle.mdb_log.specs.Connections.{holding, held}
use Rattle.mdb_log.specs.State.{State, is_closed, state_of}
use Rattle.mdb_pool_rules.specs.Refusal.{is_exhausted, rows_of}
use Rattle.mdb_pool_rules.proofs.SameAnswers.Queries.{Alike}
use Rattle.mdb_pool_rules.proofs.SameAnswers.OneMoreItem.{holding-alike}

module _ (p : ℕ) (o : PoolOptions) (h : List Item) (xs ys : List PoolItem) (k : Alike xs ys) where
  exhausted-alike : (service : Option ObjectId) → is_exhausted o xs service ≡ is_exhausted o ys service
  exhausted-alike service = on (state_of o ys) refl
    where
      on : (s : State) → state_of o ys ≡ s → is_exhausted o xs service ≡ is_exhausted o ys service
      on is_closed e = let f : state_of o xs ≡ is_closed = k.state_of o ∙ e in rw (e, f) refl
      on s e = let f : state_of o xs ≡ s = k.state_of o ∙ e in rw (e, f, k.generation_of service) refl

  held-alike : (c : ℕ) → held xs c ≡ held ys c
  held-alike c = rw (k.pending_list, k.parties c) refl

  pub rows-alike : (does : Act) → rows_of p o h xs does ≡ rows_of p o h ys does
  rows-alike (act.Established q c how) = rw k.pending_list refl
  rows-alike (act.Failed q c Pre error) = rw k.pending_list refl
  rows-alike (act.Failed q c (Post service) error) = rw k.pending_list refl
  rows-alike (act.Return r used) = rw (holding-alike xs ys k r) refl
  rows-alike (act.Pin r) = rw (holding-alike xs ys k r, k.pins (unwrap_or (holding ys r) 0)) refl
  rows-alike (act.Replicate q c) = rw (k.pins c) refl
  rows-alike (act.Take r q c) = rw (k.pins c, held-alike c) refl
  rows-alike (act.Unpin q c) = rw (k.pins c) refl
  rows-alike (act.Clear q service error) = rw (exhausted-alike service) refl
  rows-alike _ = refl
