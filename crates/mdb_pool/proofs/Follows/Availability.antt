-- The available connections that a pool keeps are those that its items tell.
use Rattle.std.proofs.Common.{ℕ, ◌≡◌, ◌≤◌, Bool, true, false, List, [], ◌∷◌, map, Some, None, refl, sym, ◌∙◌, ap, subst, is_some, if◌then◌else◌}
use Rattle.mdb_slots.specs.declared.records.Record.{Record}
use Rattle.mdb_slots.specs.Sided.{noted}
use Rattle.mdb_log.specs.Connections.{known_service, since}
use Rattle.mdb_log.specs.History.{PoolItem}
use Rattle.mdb_pool.specs.declared.kept.connection.Connection.{Connection}
use Rattle.mdb_pool_rules.specs.Available.{available_records}
use Rattle.mdb_pool.specs.Core.{PoolCore}
use Rattle.mdb_pool.specs.Kept.Values.{connection_in, ids_where, lasts_in, service_at}
use Rattle.mdb_pool.specs.Kept.Matching.{Matches}
use Rattle.mdb_pool.specs.Kept.Places.{is_available}
use Rattle.mdb_pool_rules.proofs.Listed.Values.{In, here, there, member-at, one_if-le}

abbrev stands_available : Connection → Bool
stands_available x = is_available x.place

abbrev recorded : Connection → Record
recorded x = record { id = x.id; service = x.service; since = x.since }

module _ (s : PoolCore) (xs : List PoolItem) (z : Matches s xs) where
  abbrev told : ℕ → Record
  told c = record { id = c; service = known_service xs c; since = since xs c }

  found : (x : Connection) → In x s.kept.connections → connection_in s.kept.connections x.id ≡ Some x
  found x i = member-at (λ y. y.id) x s.kept.connections i (subst (λ n. n ≤ 1) (sym (z.counts.single x.id)) (one_if-le (is_some (connection_in s.kept.connections x.id))))

  service-is : (x : Connection) → connection_in s.kept.connections x.id ≡ Some x → known_service xs x.id ≡ x.service
  service-is x e =
      let lasts : lasts_in s.kept.created s.kept.connections x.id ≡ true = rw e refl in
      let both : (if lasts_in s.kept.created s.kept.connections x.id then known_service xs x.id else None) ≡ service_at (connection_in s.kept.connections x.id) = z.told.service x.id in
      subst (λ b. (if b then known_service xs x.id else None) ≡ service_at (connection_in s.kept.connections x.id)) lasts both ∙ ap service_at e

  told-is : (x : Connection) → In x s.kept.connections → stands_available x ≡ true → recorded x ≡ told x.id
  told-is x i e =
      let f = found x i in
      rw (service-is x f, z.connections.since x.id x f e) refl

  all-told : (ys : List Connection) → ((y : Connection) → In y ys → In y s.kept.connections) → noted (λ x. x.id) (λ x. x.service) (λ x. x.since) stands_available ys ≡ map told (ids_where is_available ys)
  all-told [] in_all = refl
  all-told (y ∷ ys) in_all = on (is_available y.place) refl (all-told ys (λ x i. in_all x (there i)))
    where
      on : (b : Bool) → is_available y.place ≡ b → noted (λ x. x.id) (λ x. x.service) (λ x. x.since) stands_available ys ≡ map told (ids_where is_available ys)
          → noted (λ x. x.id) (λ x. x.service) (λ x. x.since) stands_available (y ∷ ys) ≡ map told (ids_where is_available (y ∷ ys))
      on true e rest = rw e (rw (told-is y (in_all y here) e) (ap (λ rs. told y.id ∷ rs) rest))
      on false e rest = rw e rest

  pub available-told : noted (λ x. x.id) (λ x. x.service) (λ x. x.since) (λ x. is_available x.place) s.kept.connections ≡ available_records xs
  available-told = all-told s.kept.connections (λ y i. i) ∙ ap (map told) (sym z.counts.available)
