-- Each connection has one place.
use Rattle.std.proofs.Common.{◌≡◌, ◌+◌, ◌≤◌, List, Option, Some, None, refl, arith, ℕ, true, false, is_some, ap}
use Rattle.mdb_pool.specs.declared.kept.connection.Connection.{Connection}
use Rattle.mdb_pool.specs.declared.kept.connection.Place.{Place}
use Rattle.mdb_pool.specs.declared.kept.connection.Place.TheVariants.{Pending, Available, Held, Pinned}
use Rattle.mdb_pool.specs.Core.{PoolCore}
use Rattle.mdb_log.specs.History.{PoolItem}
use Rattle.mdb_log.specs.Connections.{has, live, pending, available, held, pinned, pending_list, available_list, is_pinned}
use Rattle.mdb_pool.specs.Standing.{Fits}
use Rattle.mdb_pool.specs.Kept.Values.{connection_at, is_pinned_at}
use Rattle.mdb_log.specs.Legal.{OnePlace}
use Rattle.mdb_pool.specs.Kept.Places.{is_pending, is_available, is_held, is_at_pin}
use Rattle.mdb_pool_rules.proofs.Listed.Values.{has-where, passes}

pub one-place : (s : PoolCore) (xs : List PoolItem) → Fits s xs → OnePlace xs
one-place s xs z c = on (connection_at s c) refl
  where
    is_p : has c (pending_list xs) ≡ passes (λ (x : Connection). x.id) (λ x. is_pending x.place) (connection_at s c)
    is_p = rw z.matches.counts.pending (has-where (λ (x : Connection). x.id) (λ x. is_pending x.place) c s.kept.connections (z.matches.counts.single c))

    is_a : has c (available_list xs) ≡ passes (λ (x : Connection). x.id) (λ x. is_available x.place) (connection_at s c)
    is_a = rw z.matches.counts.available (has-where (λ (x : Connection). x.id) (λ x. is_available x.place) c s.kept.connections (z.matches.counts.single c))

    is_n : is_pinned xs c ≡ is_pinned_at (connection_at s c)
    is_n = z.matches.at_pin c

    at_held : (x : Connection) (o : Option ℕ) → connection_at s c ≡ Some x → x.place ≡ Held → x.holder ≡ o → (pending xs c + available xs c + held xs c + pinned xs c ≡ live xs c) × (live xs c ≤ 1)
    at_held x None e f g = let k : is_some x.holder ≡ true = z.matches.links.busy c x e (ap is_held f) in let w : is_some x.holder ≡ false = ap is_some g in cc
    at_held x (Some r) e f g = rw (is_p, is_a, z.matches.connections.parties c, z.matches.connections.live c, is_n, e, f, g) (refl, omega arith)

    at_place : (x : Connection) (p : Place) → connection_at s c ≡ Some x → x.place ≡ p → (pending xs c + available xs c + held xs c + pinned xs c ≡ live xs c) × (live xs c ≤ 1)
    at_place x Pending e f = rw (is_p, is_a, z.matches.connections.live c, is_n, e, f) (refl, omega arith)
    at_place x Available e f = rw (is_p, is_a, z.matches.connections.parties c, z.matches.connections.live c, is_n, e, f, z.matches.links.free c x e (ap is_available f)) (refl, omega arith)
    at_place x Held e f = at_held x x.holder e f refl
    at_place x Pinned e f = rw (is_p, is_a, is_n, z.matches.connections.parties c, z.matches.connections.live c, e, f, z.matches.pinning.rests c x e (ap is_at_pin f)) (refl, omega arith)

    on : (o : Option Connection) → connection_at s c ≡ o → (pending xs c + available xs c + held xs c + pinned xs c ≡ live xs c) × (live xs c ≤ 1)
    on None e = rw (is_p, is_a, z.matches.connections.parties c, z.matches.connections.live c, is_n, e) (refl, omega arith)
    on (Some x) e = at_place x x.place e refl
