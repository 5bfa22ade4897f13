-- Errors about connections that concern the server no more.
use Rattle.std.specs.Prelude.{ℕ, ◌≡◌, Bool, false, not, List, Option, Some, None, All}
use Rattle.mdb_base.specs.declared.object_id.ObjectId.{ObjectId}
use Rattle.mdb_base.specs.declared.address.ServerAddress.{ServerAddress}
use Rattle.mdb_base.specs.declared.options.Options.{Options}
use Rattle.mdb_describe.specs.declared.topology.TopologyDescription.{TopologyDescription}
use Rattle.mdb_log.specs.declared.step.Step.{Step}
use Rattle.mdb_log.specs.declared.step.Act.{Act}
use Rattle.mdb_log.specs.declared.step.Act.TheVariants as Do
use Rattle.mdb_log.specs.Answer.{Answer}
use Rattle.mdb_log.specs.History.{Item, of_pool, open_pool, with_answer}
use Rattle.mdb_log.specs.State.{state_of, generation_of}
use Rattle.mdb_log.specs.Opening.{pool_options}
use Rattle.mdb_driver_rules.specs.Homes.{begun}
use Rattle.mdb_driver_rules.specs.Current.{Complaint, complaint_of, is_current}
use Rattle.mdb_driver_rules.specs.Description.{description_of}
use Rattle.mdb_driver_rules.specs.OfServers.{is_of_server}
use Rattle.mdb_driver_rules.specs.Answer.{answer}

-- there is a complaint, and it is not current
abbrev pub concerns_no_more : Options → List Item → TopologyDescription → Option Complaint → Bool
concerns_no_more o k t None = false
concerns_no_more o k t (Some x) = not (is_current o k t x)

-- the error of an operation that concerns its server no more
abbrev pub is_stale_error : Options → List Item → Step → Bool
is_stale_error o h step = on step.act
  where
    on : Act → Bool
    on (Do.Error r e) = concerns_no_more o (begun h step) (description_of o h) (complaint_of (begun h step) (Do.Error r e))
    on _ = false

-- so of a connection that failed to be established
abbrev pub is_stale_failure : Options → List Item → Step → Bool
is_stale_failure o h step = on step.act
  where
    on : Act → Bool
    on (Do.Failed q c at e) = concerns_no_more o (begun h step) (description_of o h) (complaint_of (begun h step) (Do.Failed q c at e))
    on _ = false

-- the history with the step and its answer
abbrev pub after : Options → List Item → Step → List Item
after o h step = with_answer step (answer o h step).reply (answer o h step).facts h

-- The answer to the step makes no fact of a server, and leaves what is known of the servers, which pools are open, and the states and generations of all pools.
pub record SparesServerBy (o : Options) (h : List Item) (step : Step) (a : Answer) : Type 0 where
  pub facts_are : All (λ f. is_of_server f ≡ false) a.facts
  pub described_is : description_of o (with_answer step a.reply a.facts h) ≡ description_of o h
  pub open_is : (b : ServerAddress) → open_pool (with_answer step a.reply a.facts h) b ≡ open_pool h b
  pub state_is : (p : ℕ) → state_of (pool_options o) (of_pool p (with_answer step a.reply a.facts h)) ≡ state_of (pool_options o) (of_pool p h)
  pub generation_is : (p : ℕ) (s : Option ObjectId) → generation_of (of_pool p (with_answer step a.reply a.facts h)) s ≡ generation_of (of_pool p h) s

-- A driver's own answer does.
abbrev pub SparesServer : Options → List Item → Step → Type 0
SparesServer o h step = SparesServerBy o h step (answer o h step)
