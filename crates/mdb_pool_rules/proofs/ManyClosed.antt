-- Many connections are closed and many requests end, one after another.
use Rattle.std.proofs.Common.{ℕ, ◌≡◌, ◌-◌, ◌≤◌, Bool, true, false, not, ◌&&◌, ◌||◌, ◌==◌, List, [], ◌∷◌, length, filter, Option, Some, None, is_some, refl, sym, ◌∙◌, ap, arith, if◌then◌else◌}
use Rattle.std.proofs.lemmas.Grind.{common_steps}
use Rattle.mdb_base.specs.declared.object_id.ObjectId.{ObjectId}
use Rattle.mdb_events.specs.declared.end.End.{End}
use Rattle.mdb_log.specs.declared.options.PoolOptions.{PoolOptions}
use Rattle.mdb_log.specs.History.{PoolItem, closed, ended, given, without, has_asked, has_taken}
use Rattle.mdb_log.specs.Connections.{one_if, has, live, live_total, created_total, created_at, pending_list, available_list, parties, pins, is_pinned, timeouts_since, granted_to, service_of, known_service, last_use, is_errored, wire_of}
use Rattle.mdb_log.specs.Requests.{requests, queued, is_warm, asked_at, end_of}
use Rattle.mdb_log.specs.State.{generation_of, generation_before}
use Rattle.mdb_slots.specs.Keyed.{entry_at}
use Rattle.mdb_pool_rules.proofs.Listed.Values.{named, passes}
use Rattle.mdb_log.proofs.Pins.{pinned-again}
use Rattle.mdb_log.proofs.Numbers.{same-number, has-without-is}
use Rattle.std.proofs.Math.Bool.{and-true}

-- the items, those of the first numbers first
abbrev pub closings : List ℕ → List PoolItem → List PoolItem
closings [] xs = xs
closings (c ∷ cs) xs = closings cs (closed c ∷ xs)

abbrev pub endings : End → List ℕ → List PoolItem → List PoolItem
endings end [] xs = xs
endings end (r ∷ rs) xs = endings end rs (ended r end ∷ xs)

-- what neither changes
pub record Still (o : PoolOptions) (xs ys : List PoolItem) : Type 0 where
  pub created : created_total ys ≡ created_total xs
  pub granted_to : (c : ℕ) → granted_to ys c ≡ granted_to xs c
  pub created_at : (c : ℕ) → created_at ys c ≡ created_at xs c
  pub served : (c : ℕ) → service_of ys c ≡ service_of xs c
  pub service : (c : ℕ) → known_service ys c ≡ known_service xs c
  pub wire : (c : ℕ) → wire_of ys c ≡ wire_of xs c
  pub asked_at : (r : ℕ) → asked_at ys r ≡ asked_at xs r
  pub clears : (t : Option ObjectId) → generation_of ys t ≡ generation_of xs t
  pub before : (c : ℕ) (t : Option ObjectId) → generation_before ys c t ≡ generation_before xs c t
  pub warm : (r : ℕ) → is_warm ys r ≡ is_warm xs r
  pub pins : (c : ℕ) → pins ys c ≡ pins xs c
  pub pinned : (c : ℕ) → is_pinned ys c ≡ is_pinned xs c
  pub timeouts : (c : ℕ) → timeouts_since ys c ≡ timeouts_since xs c
  pub errored : (c : ℕ) → is_errored ys c ≡ is_errored xs c
  pub use_of : (c : ℕ) → last_use ys c ≡ last_use xs c
  pub asked : (r : ℕ) → has_asked ys r ≡ has_asked xs r
  pub taken : (r : ℕ) → has_taken ys r ≡ has_taken xs r
  pub order : requests ys ≡ requests xs

still-then : (o : PoolOptions) (xs ys zs : List PoolItem) → Still o xs ys → Still o ys zs → Still o xs zs
still-then o xs ys zs a b = record {
  created = b.created ∙ a.created;
  granted_to = λ c. b.granted_to c ∙ a.granted_to c;
  created_at = λ c. b.created_at c ∙ a.created_at c;
  served = λ c. b.served c ∙ a.served c;
  service = λ c. b.service c ∙ a.service c;
  wire = λ c. b.wire c ∙ a.wire c;
  asked_at = λ r. b.asked_at r ∙ a.asked_at r;
  clears = λ t. b.clears t ∙ a.clears t;
  before = λ c t. b.before c t ∙ a.before c t;
  warm = λ r. b.warm r ∙ a.warm r;
  pins = λ c. b.pins c ∙ a.pins c;
  pinned = λ c. b.pinned c ∙ a.pinned c;
  timeouts = λ c. b.timeouts c ∙ a.timeouts c;
  errored = λ c. b.errored c ∙ a.errored c;
  use_of = λ c. b.use_of c ∙ a.use_of c;
  asked = λ r. b.asked r ∙ a.asked r;
  taken = λ r. b.taken r ∙ a.taken r;
  order = b.order ∙ a.order;
}

still-same : (o : PoolOptions) (xs : List PoolItem) → Still o xs xs
still-same o xs = record {
  created = refl;
  granted_to = λ c. refl;
  created_at = λ c. refl;
  served = λ c. refl;
  service = λ c. refl;
  wire = λ c. refl;
  asked_at = λ r. refl;
  clears = λ t. refl;
  before = λ c t. refl;
  warm = λ r. refl;
  pins = λ c. refl;
  pinned = λ c. refl;
  timeouts = λ c. refl;
  errored = λ c. refl;
  use_of = λ c. refl;
  asked = λ r. refl;
  taken = λ r. refl;
  order = refl;
}

still-closed : (o : PoolOptions) (c : ℕ) (xs : List PoolItem) → Still o xs (closed c ∷ xs)
still-closed o k xs = record {
  created = refl;
  granted_to = λ c. refl;
  created_at = λ c. refl;
  served = λ c. refl;
  service = λ c. refl;
  wire = λ c. refl;
  asked_at = λ r. refl;
  clears = λ t. refl;
  before = λ c t. refl;
  warm = λ r. refl;
  pins = λ c. refl;
  pinned = λ c. pinned-again xs c;
  timeouts = λ c. refl;
  errored = λ c. refl;
  use_of = λ c. refl;
  asked = λ r. refl;
  taken = λ r. refl;
  order = refl;
}

still-ended : (o : PoolOptions) (r : ℕ) (end : End) (xs : List PoolItem) → Still o xs (ended r end ∷ xs)
still-ended o k end xs = record {
  created = refl;
  granted_to = λ c. refl;
  created_at = λ c. refl;
  served = λ c. refl;
  service = λ c. refl;
  wire = λ c. refl;
  asked_at = λ r. refl;
  clears = λ t. refl;
  before = λ c t. refl;
  warm = λ r. refl;
  pins = λ c. refl;
  pinned = λ c. pinned-again xs c;
  timeouts = λ c. refl;
  errored = λ c. refl;
  use_of = λ c. refl;
  asked = λ r. refl;
  taken = λ r. refl;
  order = refl;
}

pub still-closings : (o : PoolOptions) (cs : List ℕ) (xs : List PoolItem) → Still o xs (closings cs xs)
still-closings o [] xs = still-same o xs
still-closings o (c ∷ cs) xs = still-then o xs (closed c ∷ xs) (closings cs (closed c ∷ xs)) (still-closed o c xs) (still-closings o cs (closed c ∷ xs))

pub still-endings : (o : PoolOptions) (end : End) (rs : List ℕ) (xs : List PoolItem) → Still o xs (endings end rs xs)
still-endings o end [] xs = still-same o xs
still-endings o end (r ∷ rs) xs = still-then o xs (ended r end ∷ xs) (endings end rs (ended r end ∷ xs)) (still-ended o r end xs) (still-endings o end rs (ended r end ∷ xs))

pub still-both : (o : PoolOptions) (end : End) (cs rs : List ℕ) (xs : List PoolItem) → Still o xs (endings end rs (closings cs xs))
still-both o end cs rs xs = still-then o xs (closings cs xs) (endings end rs (closings cs xs)) (still-closings o cs xs) (still-endings o end rs (closings cs xs))

-- the list with each of the numbers taken out
abbrev pub leave : List ℕ → List ℕ → List ℕ
leave [] ks = ks
leave (j ∷ js) ks = leave js (without j ks)

and-not : (a b c : Bool) → (a && not b) && not c ≡ a && not (b || c)
and-not true true c = refl
and-not true false c = refl
and-not false b c = refl

has-leave : (k : ℕ) (js ks : List ℕ) → has k (leave js ks) ≡ has k ks && not (has k js)
has-leave k [] ks = sym (and-true (has k ks))
has-leave k (j ∷ js) ks = has-leave k js (without j ks) ∙ (ap (λ b. b && not (has k js)) (has-without-is k j ks) ∙ and-not (has k ks) (j == k) (has k js))

no-members : (ks : List ℕ) → ((k : ℕ) → has k ks ≡ false) → ks ≡ []
no-members [] none = refl
no-members (k ∷ ks) none = let e : has k (k ∷ ks) ≡ true = rw (same-number k) refl in let f : has k (k ∷ ks) ≡ false = none k in cc

-- nothing is left where all are taken out
pub leave-all : (js ks : List ℕ) → ((k : ℕ) → has k ks ≡ true → has k js ≡ true) → leave js ks ≡ []
leave-all js ks all = no-members (leave js ks) (λ k. has-leave k js ks ∙ on k (has k ks) refl)
  where
    on : (k : ℕ) (b : Bool) → has k ks ≡ b → has k ks && not (has k js) ≡ false
    on k true e = rw (e, all k e) refl
    on k false e = rw e refl

pub leave-none : (js : List ℕ) → leave js [] ≡ []
leave-none [] = refl
leave-none (j ∷ js) = leave-none js

pub leave-one : (js : List ℕ) (k : ℕ) → leave js (k ∷ []) ≡ if has k js then [] else (k ∷ [])
leave-one [] k = refl
leave-one (j ∷ js) k = on (j == k) refl (leave-one js k)
  where
    turned : (b : Bool) → (j == k) ≡ b → (k == j) ≡ b
    turned true e = grind arith
    turned false e = grind arith

    on : (b : Bool) → (j == k) ≡ b → leave js (k ∷ []) ≡ (if has k js then [] else (k ∷ [])) → leave js (without j (k ∷ [])) ≡ if has k (j ∷ js) then [] else (k ∷ [])
    on true e rest = rw (turned true e, e) (leave-none js)
    on false e rest = rw (turned false e, e) rest

-- what the closes change
pub live-closings : (cs : List ℕ) (xs : List PoolItem) (c : ℕ) → live xs c ≤ 1 → live (closings cs xs) c ≡ if has c cs then 0 else live xs c
live-closings [] xs c l = refl
live-closings (d ∷ cs) xs c l = live-closings cs (closed d ∷ xs) c less ∙ on (d == c) refl
  where
    less : live xs c - one_if (d == c) ≤ 1
    less = omega arith

    on : (b : Bool) → (d == c) ≡ b → (if has c cs then 0 else live (closed d ∷ xs) c) ≡ if has c (d ∷ cs) then 0 else live xs c
    on true e = rw e (gone (has c cs))
      where
        gone : (b : Bool) → (if b then 0 else (live xs c - 1)) ≡ 0
        gone true = refl
        gone false = omega arith
    on false e = rw e (plain (has c cs))
      where
        plain : (b : Bool) → (if b then 0 else (live xs c - 0)) ≡ if b then 0 else live xs c
        plain true = refl
        plain false = omega arith

pub total-closings : (cs : List ℕ) (xs : List PoolItem) → live_total (closings cs xs) ≡ live_total xs - length cs
total-closings [] xs = omega arith
total-closings (c ∷ cs) xs = let e : live_total (closings cs (closed c ∷ xs)) ≡ live_total (closed c ∷ xs) - length cs = total-closings cs (closed c ∷ xs) in e ∙ omega arith

pub pending-closings : (cs : List ℕ) (xs : List PoolItem) → pending_list (closings cs xs) ≡ leave cs (pending_list xs)
pending-closings [] xs = refl
pending-closings (c ∷ cs) xs = pending-closings cs (closed c ∷ xs)

pub available-closings : (cs : List ℕ) (xs : List PoolItem) → available_list (closings cs xs) ≡ leave cs (available_list xs)
available-closings [] xs = refl
available-closings (c ∷ cs) xs = available-closings cs (closed c ∷ xs)

pub queued-closings : (cs : List ℕ) (xs : List PoolItem) → queued (closings cs xs) ≡ queued xs
queued-closings [] xs = refl
queued-closings (c ∷ cs) xs = queued-closings cs (closed c ∷ xs)

pub parties-closings : (cs : List ℕ) (xs : List PoolItem) (c : ℕ) → parties (closings cs xs) c ≡ parties xs c
parties-closings [] xs c = refl
parties-closings (d ∷ cs) xs c = parties-closings cs (closed d ∷ xs) c

pub given-closings : (cs : List ℕ) (xs : List PoolItem) (r : ℕ) → given (closings cs xs) r ≡ given xs r
given-closings [] xs r = refl
given-closings (c ∷ cs) xs r = given-closings cs (closed c ∷ xs) r

pub end-closings : (cs : List ℕ) (xs : List PoolItem) (r : ℕ) → end_of (closings cs xs) r ≡ end_of xs r
end-closings [] xs r = refl
end-closings (c ∷ cs) xs r = end-closings cs (closed c ∷ xs) r

-- what the ends change
module _ (end : End) where
  pub live-endings : (rs : List ℕ) (xs : List PoolItem) (c : ℕ) → live (endings end rs xs) c ≡ live xs c
  live-endings [] xs c = refl
  live-endings (r ∷ rs) xs c = live-endings rs (ended r end ∷ xs) c

  pub total-endings : (rs : List ℕ) (xs : List PoolItem) → live_total (endings end rs xs) ≡ live_total xs
  total-endings [] xs = refl
  total-endings (r ∷ rs) xs = total-endings rs (ended r end ∷ xs)

  pub pending-endings : (rs : List ℕ) (xs : List PoolItem) → pending_list (endings end rs xs) ≡ pending_list xs
  pending-endings [] xs = refl
  pending-endings (r ∷ rs) xs = pending-endings rs (ended r end ∷ xs)

  pub available-endings : (rs : List ℕ) (xs : List PoolItem) → available_list (endings end rs xs) ≡ available_list xs
  available-endings [] xs = refl
  available-endings (r ∷ rs) xs = available-endings rs (ended r end ∷ xs)

  pub queued-endings : (rs : List ℕ) (xs : List PoolItem) → queued (endings end rs xs) ≡ leave rs (queued xs)
  queued-endings [] xs = refl
  queued-endings (r ∷ rs) xs = queued-endings rs (ended r end ∷ xs)

  pub parties-endings : (rs : List ℕ) (xs : List PoolItem) (c : ℕ) → parties (endings end rs xs) c ≡ leave rs (parties xs c)
  parties-endings [] xs c = refl
  parties-endings (r ∷ rs) xs c = parties-endings rs (ended r end ∷ xs) c

  pub given-endings : (rs : List ℕ) (xs : List PoolItem) (k : ℕ) → given (endings end rs xs) k ≡ if has k rs then None else given xs k
  given-endings [] xs k = refl
  given-endings (r ∷ rs) xs k = given-endings rs (ended r end ∷ xs) k ∙ on (has k rs) (r == k)
    where
      on : (a b : Bool) → (if a then None else (if b then None else given xs k)) ≡ if b || a then None else given xs k
      on true true = refl
      on true false = refl
      on false true = refl
      on false false = refl

  pub end-endings : (rs : List ℕ) (xs : List PoolItem) (k : ℕ) → end_of (endings end rs xs) k ≡ if has k rs then Some end else end_of xs k
  end-endings [] xs k = refl
  end-endings (r ∷ rs) xs k = end-endings rs (ended r end ∷ xs) k ∙ on (has k rs) (r == k)
    where
      on : (a b : Bool) → (if a then Some end else (if b then Some end else end_of xs k)) ≡ if b || a then Some end else end_of xs k
      on true true = refl
      on true false = refl
      on false true = refl
      on false false = refl

-- the kept values of one kind, and changed values
module _ {T : Type 0} (key : T → ℕ) where
  entry-none : (k : ℕ) (p : T → Bool) (xs : List T) → named key k xs ≡ 0 → entry_at key k (filter p xs) ≡ None
  entry-none k p [] e = refl
  entry-none k p (x ∷ xs) e = grind (arith, common_steps, entry-none k p xs)

  pub entry_at-filter : (k : ℕ) (p : T → Bool) (xs : List T) → named key k xs ≤ 1 → entry_at key k (filter p xs) ≡ if passes key p (entry_at key k xs) then entry_at key k xs else None
  entry_at-filter k p [] l = refl
  entry_at-filter k p (x ∷ xs) l = on (key x == k) (p x) refl refl (entry_at-filter k p xs)
    where
      on : (a b : Bool) → (key x == k) ≡ a → p x ≡ b → (named key k xs ≤ 1 → entry_at key k (filter p xs) ≡ if passes key p (entry_at key k xs) then entry_at key k xs else None) → entry_at key k (filter p (x ∷ xs)) ≡ if passes key p (entry_at key k (x ∷ xs)) then entry_at key k (x ∷ xs) else None
      on true true e f rest = rw (f, e, f) refl
      on true false e f rest = let none : named key k xs ≡ 0 = grind (arith, common_steps) in rw (e, f) (entry-none k p xs none)
      on false true e f rest = let l2 : named key k xs ≤ 1 = grind (arith, common_steps) in rw (f, e) (rest l2)
      on false false e f rest = let l2 : named key k xs ≤ 1 = grind (arith, common_steps) in rw (e, f) (rest l2)

  pub named-filter : (k : ℕ) (p : T → Bool) (xs : List T) → named key k xs ≤ 1 → named key k (filter p xs) ≡ one_if (is_some (entry_at key k (filter p xs)))
  named-filter k p xs l = counted (filter p xs) (fewer xs l)
    where
      fewer : (ys : List T) → named key k ys ≤ 1 → named key k (filter p ys) ≤ 1
      fewer ys l = less (at-most ys) l
        where
          at-most : (zs : List T) → named key k (filter p zs) ≤ named key k zs
          at-most [] = omega arith
          at-most (z ∷ zs) = grind (arith, common_steps, at-most zs)

          less : {a b : ℕ} → a ≤ b → b ≤ 1 → a ≤ 1
          less i j = omega arith

      counted : (ys : List T) → named key k ys ≤ 1 → named key k ys ≡ one_if (is_some (entry_at key k ys))
      counted [] i = refl
      counted (y ∷ ys) i = grind (arith, common_steps, counted ys)

  pub filter-none : (p q : T → Bool) (xs : List T) → ((x : T) → q x ≡ true → p x ≡ false) → filter p (filter q xs) ≡ []
  filter-none p q [] never = refl
  filter-none p q (x ∷ xs) never = on (q x) refl (filter-none p q xs never)
    where
      on : (b : Bool) → q x ≡ b → filter p (filter q xs) ≡ [] → filter p (filter q (x ∷ xs)) ≡ []
      on true e rest = rw (e, never x e) rest
      on false e rest = rw e rest
