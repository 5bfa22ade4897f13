-- A table and its lists stay in step.
use Rattle.std.proofs.Common.{◌≡◌, ℕ, Bool, true, false, Option, List, refl, ◌∙◌, sym}
use Rattle.mdb_base.specs.declared.object_id.ObjectId.{ObjectId}
use Rattle.mdb_slots.specs.declared.records.Record.{Record}
use Rattle.mdb_slots.specs.Keyed.{entry_at, others, put, swap}
use Rattle.mdb_slots.specs.Sided.{relisted, amended, remaining, stays, record_of, numbered, InStep}
use Rattle.mdb_slots.proofs.Noted.{noted-put, noted-others, noted-swap, swap-number}
use Rattle.mdb_slots.proofs.Apart.{apart-put, apart-others, apart-swap}

unmoved : (stands : Bool) (n : ℕ) (ns : List ℕ) → amended (λ k. k) stands n ns ≡ remaining stands n ns
unmoved true n ns = swap-number n ns
unmoved false n ns = refl

module _ {T : Type 0} (key : T → ℕ) (service : T → Option ObjectId) (since : T → ℕ) (on_left on_right : T → Bool) where
  pub step-put : {xs : List T} {ls : List Record} {rs : List ℕ} → InStep key service since on_left on_right xs ls rs → (x : T) → InStep key service since on_left on_right (put key x xs) (relisted (λ r. r.id) (on_left x) (record_of key service since x) ls) (relisted (λ k. k) (on_right x) (key x) rs)
  step-put {xs = xs} i x = record {
    apart_is = apart-put key x xs i.apart_is;
    left_is = rw i.left_is (sym (noted-put key (record_of key service since) (λ r. r.id) (λ y. refl) on_left x xs));
    right_is = rw i.right_is (sym (noted-put key key (λ k. k) (λ y. refl) on_right x xs));
  }

  pub step-swap : {xs : List T} {ls : List Record} {rs : List ℕ} → InStep key service since on_left on_right xs ls rs → (x : T) → stays on_left x (entry_at key (key x) xs) ≡ true → stays on_right x (entry_at key (key x) xs) ≡ true → InStep key service since on_left on_right (swap key x xs) (amended (λ r. r.id) (on_left x) (record_of key service since x) ls) (remaining (on_right x) (key x) rs)
  step-swap {xs = xs} i x l r = record {
    apart_is = apart-swap key x xs i.apart_is;
    left_is = rw i.left_is (sym (noted-swap key (record_of key service since) (λ r. r.id) (λ y. refl) on_left x xs i.apart_is l));
    right_is = rw i.right_is (sym (noted-swap key key (λ k. k) (λ y. refl) on_right x xs i.apart_is r ∙ unmoved (on_right x) (key x) (numbered key on_right xs)));
  }

  pub step-others : {xs : List T} {ls : List Record} {rs : List ℕ} → InStep key service since on_left on_right xs ls rs → (k : ℕ) → InStep key service since on_left on_right (others key k xs) (others (λ r. r.id) k ls) (others (λ n. n) k rs)
  step-others {xs = xs} i k = record {
    apart_is = apart-others key k xs i.apart_is;
    left_is = rw i.left_is (sym (noted-others key (record_of key service since) (λ r. r.id) (λ y. refl) on_left k xs));
    right_is = rw i.right_is (sym (noted-others key key (λ k. k) (λ y. refl) on_right k xs));
  }
