-- What is said of a pool is said of each that keeps the same.
use Rattle.std.proofs.Common.{ℕ, List, sym, subst}
use Rattle.mdb_events.specs.declared.fact.Fact.{Fact}
use Rattle.mdb_log.specs.declared.log.Entry.{Entry}
use Rattle.mdb_log.specs.declared.step.Step.{Step}
use Rattle.mdb_log.specs.declared.step.Act.{Act}
use Rattle.mdb_log.specs.declared.reply.Reply.{Reply}
use Rattle.mdb_log.specs.History.{Item, PoolItem}
use Rattle.mdb_pool.specs.Now.{queries}
use Rattle.mdb_pool.specs.declared.planning.Answered.{Answered}
use Rattle.mdb_pool.specs.Kept.Inner.{Inner}
use Rattle.mdb_pool.specs.Core.{PoolCore, SameKept}
use Rattle.mdb_pool.specs.Standing.{Fits, StandsFor, SameHome, Accepts, Answers, Logs}
use Rattle.mdb_pool.specs.Planning.{DoesLogged, IsDone, IsPrepared}

module _ (i : Inner) where
  abbrev with_inner : PoolCore → PoolCore
  with_inner s = record s { kept = record s.kept { inner = i } }

  fits-with : (s : PoolCore) (xs : List PoolItem) → Fits s xs → Fits (with_inner s) xs
  fits-with s xs z = record {
    matches = record {
      counts = z.matches.counts;
      connections = z.matches.connections;
      told = z.matches.told;
      requests = z.matches.requests;
      links = z.matches.links;
      pinning = z.matches.pinning;
      uses = z.matches.uses;
      clearing = z.matches.clearing;
      at_pin = z.matches.at_pin;
    };
    asked = z.asked;
    order = z.order;
  }

  stands-with : (s : PoolCore) (h : List Item) → StandsFor s h → StandsFor (with_inner s) h
  unfolding queries
  stands-with s h z = record {
    fits = fits-with s _ z.fits;
    last_is = z.last_is;
    open_here = z.open_here;
    asked_once = z.asked_once;
    requested = z.requested;
    opens = z.opens;
    claims = z.claims;
  }

  accepts-with : (s t : PoolCore) (before after : List Fact) (m : ℕ) (act : Act) (reply : Reply) (xs ys : List PoolItem) → Accepts s t before after m act reply xs ys
      → Accepts s (with_inner t) before after m act reply xs ys
  unfolding queries
  accepts-with s t before after m act reply xs ys z = record {
    facts_are = z.facts_are;
    reply_is = z.reply_is;
    accepted = z.accepted;
    settled = z.settled;
    claimed = z.claimed;
    shut = z.shut;
    fits = fits-with t _ z.fits;
    fair = z.fair;
    own = z.own;
    served = z.served;
  }

  home-with : (s t : PoolCore) → SameHome s t → SameHome s (with_inner t)
  unfolding queries
  home-with s t z = record { pool = z.pool; address = z.address; options = z.options; alone = z.alone }

  done-with : (s t : PoolCore) (step : Step) (a : Answered) → IsDone s t step a → IsDone s (with_inner t) step a
  unfolding queries
  done-with s t step a z = record { home = home-with s t z.home; last = z.last; does = λ xs f. accepts-with s t _ _ _ _ _ xs _ (z.does xs f) }

pub home_same : (r s t : PoolCore) → SameKept s t → SameHome r s → SameHome r t
unfolding queries SameKept
home_same r s t e z = subst (SameHome r) (sym e) (home-with t.kept.inner r s z)

pub stands_same : (s t : PoolCore) (h : List Item) → SameKept s t → StandsFor s h → StandsFor t h
unfolding queries SameKept
stands_same s t h e z = subst (λ u. StandsFor u h) (sym e) (stands-with t.kept.inner s h z)

pub answers_same : (r s t : PoolCore) (before after : List Fact) (step : Step) (reply : Reply) (h : List Item) → SameKept s t → Answers r s before after step reply h → Answers r t before after step reply h
answers_same r s t before after step reply h e z = record { reply_is = z.reply_is; facts_are = z.facts_are; stands = stands_same s t _ e z.stands; fair = z.fair; none_left = z.none_left }

pub logs_same : (r s t : PoolCore) (before after : List Entry) (seat : ℕ) (step : Step) (h : List Item) → SameKept s t → Logs r s before after seat step h → Logs r t before after seat step h
logs_same r s t before after seat step h e z = record { entry = z.entry; stands = stands_same s t _ e z.stands; fair = z.fair; none_left = z.none_left }

pub done_same : (r s t : PoolCore) (step : Step) (a : Answered) → SameKept s t → IsDone r s step a → IsDone r t step a
unfolding queries SameKept
done_same r s t step a e z = subst (λ u. IsDone r u step a) (sym e) (done-with t.kept.inner r s step a z)

pub logged_same : (r s t : PoolCore) (before after : List Entry) (seat : ℕ) (step : Step) (reply : Reply) → SameKept s t → DoesLogged r s before after seat step reply → DoesLogged r t before after seat step reply
logged_same r s t before after seat step reply e z = (z.0, done_same r s t step _ e z.1, z.2)

pub prepared_same : (r s t : PoolCore) (steps : List Step) (told : List Answered) (h : List Item) → SameKept s t → IsPrepared r s steps told h → IsPrepared r t steps told h
prepared_same r s t steps told h e z = record { answers = z.answers; stands = stands_same s t _ e z.stands; none_left = z.none_left }
