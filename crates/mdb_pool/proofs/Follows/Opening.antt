-- A pool that was just made stands for its opening.
use Rattle.std.proofs.Common.{ℕ, ◌≡◌, Bool, true, false, ◌&&◌, [], ◌∷◌, Some, None, refl, sym, subst, if◌then◌else◌}
use Rattle.mdb_base.specs.declared.address.ServerAddress.{ServerAddress}
use Rattle.mdb_base.specs.Equality.{same_address}
use Rattle.mdb_log.specs.declared.options.PoolOptions.{PoolOptions}
use Rattle.mdb_pool.specs.Now.{queries}
use Rattle.mdb_pool.specs.declared.kept.status.Status.{Status}
use Rattle.mdb_pool.specs.Kept.Inner.{Inner}
use Rattle.mdb_pool.specs.Core.{PoolCore}
use Rattle.mdb_log.specs.History.{of_pool, opening, pool_created}
use Rattle.mdb_log.specs.State.{is_ready, is_new}
use Rattle.mdb_pool.specs.Kept.Values.{state_in, is_shut}
use Rattle.mdb_pool.specs.Standing.{Fits, StandsFor}
use Rattle.mdb_pool.specs.Kept.Matching.{Matches}
use Rattle.mdb_log.proofs.Numbers.{same-number}

module _ (p : ℕ) (a : ServerAddress) (o : PoolOptions) (status : Status) (alone : Bool) (inner : Inner) where
  abbrev pub opened : PoolCore
  opened = record { pool = p; address = a; options = o; kept = record { last = 0; created = 0; connections = []; requests = []; status = status; clears = []; settled = []; claimed = []; alone = alone; inner = inner } }

  both : {A : Type 0} (b : Bool) (x : A) → (if b then x else x) ≡ x
  both true x = refl
  both false x = refl

  opened-matches : state_in status ≡ (if o.load_balanced then is_ready else is_new) → Matches opened (pool_created ∷ [])
  opened-matches e = record {
    counts = record {
      created = refl;
      live_all = refl;
      pending = refl;
      available = refl;
      single = λ c. refl;
      unused = λ c h. refl;
    };
    connections = record {
      live = λ c. refl;
      parties = λ c. refl;
      ungranted = λ c h. refl;
      granted_to = λ c y h. cc;
      created_at = λ c y h. cc;
      since = λ c y h f. cc;
    };
    told = record {
      served = λ c. both _ None;
      service = λ c. both _ None;
      wire = λ c. both _ None;
    };
    requests = record {
      queue = refl;
      given = λ r. refl;
      single_request = λ r. refl;
      asked_at = λ r. refl;
      ends = λ r. refl;
      asks = λ r. refl;
      warm = λ r. refl;
    };
    links = record {
      taken = λ r c h. cc;
      owned = λ c r h. cc;
      known = λ c y r h f. cc;
      free = λ c y h f. cc;
      busy = λ c y h f. cc;
      waits = λ c y r h f g. cc;
      left_by = λ c y r h f g i. cc;
      fills = λ c y r h f g. cc;
    };
    pinning = record {
      pins = λ c. refl;
      loose = λ c y h f. cc;
      rests = λ c y h f. cc;
    };
    uses = record {
      errored = λ c. both _ false;
      dropped = λ c. both _ false;
      calm = λ c y h f. cc;
    };
    clearing = record {
      status = sym e;
      clears = λ t. refl;
      before = λ c t h. refl;
      seen = λ c t h. refl;
    };
    at_pin = λ c. refl;
  }

  opened-items : of_pool p (opening p a o) ≡ pool_created ∷ []
  opened-items = rw (same-number p) refl

  pub opening-stands : state_in status ≡ (if o.load_balanced then is_ready else is_new) → is_shut status ≡ false → StandsFor opened (opening p a o)
  unfolding queries
  opening-stands e unshut = record {
    fits = subst (Fits opened) (sym opened-items) (record { matches = opened-matches e; asked = λ r. refl; order = refl });
    last_is = refl;
    open_here = λ b. rw unshut (at_home (same_address a b));
    asked_once = λ r. rw opened-items refl;
    requested = λ r. rw opened-items refl;
    opens = λ r. refl;
    claims = λ c. refl;
  }
    where
      at_home : (b : Bool) → (if b then Some p else None) ≡ (if b && true then Some p else None)
      at_home true = refl
      at_home false = refl
