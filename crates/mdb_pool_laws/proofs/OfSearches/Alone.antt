-- What a pool answers to any step grants a caller the available connection that came back last.
use Rattle.std.proofs.Common.{ℕ, ◌≡◌, ◌≤◌, List, Option, Some, None, refl, arith}
use Rattle.mdb_base.specs.declared.address.ServerAddress.{ServerAddress}
use Rattle.mdb_log.specs.declared.options.PoolOptions.{PoolOptions}
use Rattle.mdb_log.specs.declared.step.Step.{Step}
use Rattle.mdb_log.specs.declared.step.Act.{Act}
use Rattle.mdb_log.specs.declared.step.Act.TheVariants as Do
use Rattle.mdb_log.specs.declared.reply.Refused.{Refused}
use Rattle.mdb_log.specs.History.{Item, PoolItem, of_pool, after_facts, with_act}
use Rattle.mdb_log.specs.Connections.{holding}
use Rattle.mdb_pool_rules.specs.Answer.{answer}
use Rattle.mdb_pool_rules.specs.Facts.{act_facts}
use Rattle.mdb_pool_rules.specs.Refusal.{refusal_of}
use Rattle.mdb_pool_rules.specs.Serving.{serving}
use Rattle.mdb_pool_rules.proofs.FactsGrantNothing.{AreCalm, IsBound, act-calm}
use Rattle.mdb_pool_laws.specs.Searches.{AllGrantLast}
use Rattle.mdb_pool_laws.proofs.OfSearches.Serving.{last-both, calm-last, serving-last}

-- a number that none of the connections exceeds which an act may bring back
abbrev or_zero : Option ℕ → ℕ
or_zero None = 0
or_zero (Some c) = c

abbrev pub bound : List PoolItem → Act → ℕ
bound xs (Do.Established q c how) = c
bound xs (Do.GiveUp r) = or_zero (holding xs r)
bound xs (Do.Return r used) = or_zero (holding xs r)
bound xs (Do.Unpin q c) = c
bound xs _ = 0

held-bound : (k : Option ℕ) (c : ℕ) → k ≡ Some c → c ≤ or_zero k
held-bound None c e = cc
held-bound (Some d) c e = let same : d ≡ c = cc in omega (arith, same)

is-bound : (xs : List PoolItem) (act : Act) → IsBound (bound xs act) xs act
is-bound xs (Do.Established q c how) = omega arith
is-bound xs (Do.GiveUp r) = held-bound (holding xs r)
is-bound xs (Do.Return r used) = held-bound (holding xs r)
is-bound xs (Do.Unpin q c) = omega arith
is-bound xs _ = tt

-- the facts of an act grant nothing
pub act-grants-nothing : (q : ℕ) (a : ServerAddress) (o : PoolOptions) (m : ℕ) (xs ys : List PoolItem) (act : Act) → AreCalm (bound xs act) (act_facts q a o m xs ys act)
act-grants-nothing q a o m xs ys act = act-calm (bound xs act) q a o m xs ys act (is-bound xs act)

act-last : (p m : ℕ) (zs : List PoolItem) (q : ℕ) (a : ServerAddress) (o : PoolOptions) (xs ys : List PoolItem) (act : Act) → AllGrantLast p m zs (act_facts q a o m xs ys act)
act-last p m zs q a o xs ys act = calm-last p m (bound xs act) (act_facts q a o m xs ys act) zs (act-grants-nothing q a o m xs ys act)

module _ (p : ℕ) (a : ServerAddress) (o : PoolOptions) (h : List Item) (step : Step) where
  pub answer-last : AllGrantLast p step.moment (with_act p h step) (answer p a o h step).facts
  answer-last = on (refusal_of p o h step) refl
    where
      on : (why : Option Refused) → refusal_of p o h step ≡ why → AllGrantLast p step.moment (with_act p h step) (answer p a o h step).facts
      on (Some why) e = rw e tt
      on None e =
          let ys : List PoolItem = with_act p h step in
          rw e (last-both p step.moment (act_facts p a o step.moment (of_pool p h) ys step.act) (serving p a o step.moment (after_facts p step.moment (act_facts p a o step.moment (of_pool p h) ys step.act) ys)) ys (act-last p step.moment ys p a o (of_pool p h) ys step.act) (serving-last p a o step.moment (after_facts p step.moment (act_facts p a o step.moment (of_pool p h) ys step.act) ys)))
