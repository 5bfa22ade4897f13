-- The refusal by what the pool keeps is that of its history.
use Rattle.std.proofs.Common.{ℕ, ◌≡◌, Bool, true, false, ◌&&◌, List, [], ◌∷◌, Option, Some, None, is_some, refl, sym, ◌∙◌, if◌then◌else◌, nat_lt, not}
use Rattle.std.specs.Prelude.{unwrap_or}
use Rattle.std.proofs.Math.Bool.{and-false}
use Rattle.mdb_base.specs.declared.address.ServerAddress.{ServerAddress}
use Rattle.mdb_base.specs.Equality.{same_address}
use Rattle.mdb_log.specs.declared.step.Step.{Step}
use Rattle.mdb_log.specs.declared.step.Act.{Act}
use Rattle.mdb_log.specs.declared.step.Act.TheVariants.{Open, Request, Warm, Collect, Claim, GiveUp, Established, Failed, Return, Pin, Replicate, Take, Unpin, Error, Hello, Beat, Beaten, Rtt, Hosts, ClusterTime, Want, Unwant, Stop, Maintain, Expire, Ready, Clear, Close}
use Rattle.mdb_log.specs.declared.step.FailedAt.TheVariants.{Pre, Post}
use Rattle.mdb_log.specs.declared.reply.Refused.TheVariants.{NotHolder, PinState}
use Rattle.mdb_log.specs.History.{Item, PoolItem, is_number, of_pool, open_pool}
use Rattle.mdb_log.specs.Connections.{holding, pins}
use Rattle.mdb_log.specs.Requests.{some_act, names_party, is_open}
use Rattle.mdb_log.proofs.Numbers.{same-number}
use Rattle.mdb_pool.specs.declared.kept.connection.Connection.{Connection}
use Rattle.mdb_pool.specs.Core.{PoolCore}
use Rattle.mdb_pool.specs.Kept.Values.{request_at, held_connection, is_shut, pins_at}
use Rattle.mdb_pool.specs.Now.{is_open_now, queries}
use Rattle.mdb_pool_rules.specs.Refusal.{first_row, rows_of, refusal_of}
use Rattle.mdb_pool.specs.Refusing.{is_here, rows_now, refusal_now}
use Rattle.mdb_pool.specs.Standing.{StandsFor}
use Rattle.mdb_pool.proofs.Answered.Act.{pending-is, holding-is, holds-is, live-pins}
use Rattle.mdb_pool.proofs.Listed.FirstOrLast.{id_or}
use Rattle.mdb_pool.proofs.Answered.Pin.{held-at}
use Rattle.mdb_pool.proofs.Answered.Take.{held-is}
use Rattle.mdb_pool.proofs.Answered.Clear.{exhausted-is}
use Rattle.mdb_pool.proofs.Follows.Fits.{asked-known}

module _ (s : PoolCore) (h : List Item) (z : StandsFor s h) where
  abbrev xs : List PoolItem
  xs = of_pool s.pool h

  pub here-is : (a : ServerAddress) → is_number (open_pool h a) s.pool ≡ is_here s a
  unfolding queries
  here-is a = rw (z.open_here a) (on (same_address s.address a && not (is_shut s.kept.status)))
    where
      on : (b : Bool) → is_number (if b then Some s.pool else None) s.pool ≡ b
      on true = same-number s.pool
      on false = refl

  known-is : (r : ℕ) → some_act names_party h r ≡ is_some (request_at s r)
  known-is r = z.asked_once r ∙ z.fits.asked r

  open-is : (r : ℕ) → is_open h r ≡ is_open_now s r
  unfolding queries
  open-is r = rw (z.requested r, asked-known s xs z.fits r, z.opens r) refl

  pins-held : (r : ℕ) → first_row ((not (is_some (holding xs r)), NotHolder) ∷ (nat_lt 0 (pins xs (unwrap_or (holding xs r) 0)), PinState) ∷ []) ≡ first_row ((not (is_some (held_connection s r)), NotHolder) ∷ (nat_lt 0 (pins_at (held_connection s r)), PinState) ∷ [])
  pins-held r = rw (holding-is s xs z.fits r) (on (held_connection s r) refl)
    where
      on : (o : Option Connection) → held_connection s r ≡ o → first_row ((not (is_some (id_or o None)), NotHolder) ∷ (nat_lt 0 (pins xs (unwrap_or (id_or o None) 0)), PinState) ∷ []) ≡ first_row ((not (is_some o), NotHolder) ∷ (nat_lt 0 (pins_at o), PinState) ∷ [])
      on None e = refl
      on (Some x) e = rw (live-pins s xs z.fits.matches x.id x (held-at s r x e).1) refl

  rows-are : (act : Act) → first_row (rows_of s.pool s.options h xs act) ≡ first_row (rows_now s act)
  unfolding queries
  rows-are (Request r a) = rw (here-is a, known-is r) refl
  rows-are (Warm r a) = rw (here-is a, known-is r) refl
  rows-are (Collect r) = rw (open-is r) refl
  rows-are (GiveUp r) = rw (open-is r) refl
  rows-are (Established q c how) = rw (pending-is s xs z.fits c) refl
  rows-are (Failed q c Pre error) = rw (pending-is s xs z.fits c, and-false (not s.options.load_balanced)) refl
  rows-are (Failed q c (Post service) error) = rw (pending-is s xs z.fits c) refl
  rows-are (Return r used) = rw (holds-is s xs z.fits r) refl
  rows-are (Pin r) = pins-held r
  rows-are (Replicate q c) = rw (z.fits.matches.pinning.pins c) refl
  rows-are (Take r q c) = rw (known-is r, z.fits.matches.pinning.pins c, held-is s xs z.fits c) refl
  rows-are (Unpin q c) = rw (z.fits.matches.pinning.pins c) refl
  rows-are (Maintain a) = rw (here-is a) refl
  rows-are (Expire a) = rw (here-is a) refl
  rows-are (Clear q service error) = rw (exhausted-is s xs z.fits service) refl
  rows-are (Open o) = refl
  rows-are Claim = refl
  rows-are (Error r error) = refl
  rows-are (Hello a q came) = refl
  rows-are (Beat a q) = refl
  rows-are (Beaten a q n came) = refl
  rows-are (Rtt a q n) = refl
  rows-are (Hosts hosts) = refl
  rows-are (ClusterTime time) = refl
  rows-are (Want w) = refl
  rows-are (Unwant w) = refl
  rows-are Stop = refl
  rows-are (Ready q) = refl
  rows-are (Close q) = refl

  pub refused-now : (step : Step) → refusal_now s step ≡ refusal_of s.pool s.options h step
  refused-now step = rw (sym z.last_is, rows-are step.act) refl
