-- What one more fact or step of its pool changes of a connection.
use Rattle.std.proofs.Common.{ℕ, ◌+◌, ◌≡◌, ◌==◌, Bool, true, false, not, ◌&&◌, ◌||◌, if◌then◌else◌, is_some, List, [], ◌∷◌, ◌++◌, refl, arith}
use Rattle.std.proofs.lemmas.Grind.{common_steps}
use Rattle.mdb_log.specs.History.{PoolItem, created, closed, checked_in, established, failed, if_so, without}
use Rattle.mdb_log.specs.Connections.{has, one_if, available_list, granted_to}
use Rattle.mdb_log.specs.declared.step.Established.{Established}
use Rattle.mdb_log.specs.PlainConnections.{is_available}
use Rattle.mdb_log.proofs.Numbers.{has-append, has-without-is}
use Rattle.mdb_base.specs.declared.object_id.ObjectId.{ObjectId}
use Rattle.std.proofs.Common.{Option}
use Rattle.mdb_tallies.specs.declared.connection.Connection.{Connection}
use Rattle.mdb_tallies.specs.Standing.{connection_by}
use Rattle.mdb_tallies.specs.Changes.{once_created, once_closed, once_checked_in, once_established, once_failed}

-- a connection that comes to be available, and one that is no longer
pub arrives : (d c : ℕ) (cs : List ℕ) → has c (without d cs ++ d ∷ []) ≡ (if d == c then true else has c cs)
arrives d c cs = grind (arith, common_steps, has-append c d (without d cs), has-without-is c d cs)

pub departs : (d c : ℕ) (cs : List ℕ) → has c (without d cs) ≡ (if d == c then false else has c cs)
departs d c cs = grind (arith, common_steps, has-without-is c d cs)

created_one : (t : Bool) (x : Connection) → record x { creations = x.creations + one_if t } ≡ (if t then once_created x else x)
created_one true x = refl
created_one false x = let none : x.creations + 0 ≡ x.creations = omega arith in rw none refl

pub created-changes : (b : Bool) (d m : ℕ) (xs : List PoolItem) (gone over : ℕ → Bool) (c : ℕ) → connection_by (if_so b (created d m) xs) gone over c ≡ (if b && (d == c) then once_created (connection_by xs gone over c) else connection_by xs gone over c)
created-changes true d m xs gone over c = created_one (d == c) (connection_by xs gone over c)
created-changes false d m xs gone over c = refl

closed_one : (t : Bool) (x : Connection) → record x { closings = x.closings + one_if t; is_available = if t then false else x.is_available } ≡ (if t then once_closed x else x)
closed_one true x = refl
closed_one false x = let none : x.closings + 0 ≡ x.closings = omega arith in rw none refl

pub closed-changes : (b : Bool) (d : ℕ) (xs : List PoolItem) (gone over : ℕ → Bool) (c : ℕ) → connection_by (if_so b (closed d) xs) gone over c ≡ (if b && (d == c) then once_closed (connection_by xs gone over c) else connection_by xs gone over c)
closed-changes true d xs gone over c = rw (departs d c (available_list xs)) (closed_one (d == c) (connection_by xs gone over c))
closed-changes false d xs gone over c = refl

checked_one : (t : Bool) (x : Connection) → record x { is_available = if t then true else x.is_available } ≡ (if t then once_checked_in x else x)
checked_one true x = refl
checked_one false x = refl

pub checked_in-changes : (b : Bool) (d m : ℕ) (xs : List PoolItem) (gone over : ℕ → Bool) (c : ℕ) → connection_by (if_so b (checked_in d m) xs) gone over c ≡ (if b && (d == c) then once_checked_in (connection_by xs gone over c) else connection_by xs gone over c)
checked_in-changes true d m xs gone over c = rw (arrives d c (available_list xs)) (checked_one (d == c) (connection_by xs gone over c))
checked_in-changes false d m xs gone over c = refl

failed_one : (t : Bool) (x : Connection) → record x { is_tried = t || x.is_tried } ≡ (if t then once_failed x else x)
failed_one true x = refl
failed_one false x = refl

pub failed-changes : (b : Bool) (d : ℕ) (service : Option ObjectId) (xs : List PoolItem) (gone over : ℕ → Bool) (c : ℕ) → connection_by (if_so b (failed d service) xs) gone over c ≡ (if b && (d == c) then once_failed (connection_by xs gone over c) else connection_by xs gone over c)
failed-changes true d service xs gone over c = failed_one (d == c) (connection_by xs gone over c)
failed-changes false d service xs gone over c = refl

-- established in the background, where it was never granted
pub established_available : (d c : ℕ) (xs : List PoolItem) → has c (if is_some (granted_to xs d) then available_list xs else (without d (available_list xs) ++ d ∷ [])) ≡ (if d == c then (is_available xs c || not (is_some (granted_to xs c))) else is_available xs c)
established_available d c xs = grind (arith, common_steps, arrives d c (available_list xs))

established_one : (t : Bool) (x : Connection) → record x { is_tried = t || x.is_tried; is_available = if t then (x.is_available || not x.is_granted) else x.is_available } ≡ (if t then once_established x else x)
established_one true x = refl
established_one false x = refl

pub established-changes : (b : Bool) (d : ℕ) (how : Established) (m : ℕ) (xs : List PoolItem) (gone over : ℕ → Bool) (c : ℕ) → connection_by (if_so b (established d how m) xs) gone over c ≡ (if b && (d == c) then once_established (connection_by xs gone over c) else connection_by xs gone over c)
established-changes true d how m xs gone over c = rw (established_available d c xs) (established_one (d == c) (connection_by xs gone over c))
established-changes false d how m xs gone over c = refl
