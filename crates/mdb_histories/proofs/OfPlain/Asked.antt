-- Which requests are of which pool, and which are warm ones, by the plain sentences and by the items of a pool.
use Rattle.std.proofs.Common.{ℕ, ◌≡◌, ◌==◌, Bool, true, false, ◌||◌, List, [], ◌∷◌, ◌++◌, Option, is_some, refl, sym, ◌∙◌, ap, subst, arith, if◌then◌else◌, filter, append-nil}
use Rattle.mdb_base.specs.declared.address.ServerAddress.{ServerAddress}
use Rattle.mdb_log.specs.declared.step.Step.{Step}
use Rattle.mdb_log.specs.declared.reply.Reply.{Reply}
use Rattle.mdb_log.specs.declared.step.Act.{Act}
use Rattle.mdb_log.specs.declared.step.Act.TheVariants.{Request, Warm, GiveUp, Established, Failed, Return, Pin, Replicate, Take, Unpin}
use Rattle.mdb_log.specs.declared.step.FailedAt.TheVariants.{Pre, Post}
use Rattle.mdb_log.specs.History.{Item, did, made, PoolItem, asked, warmed, of_pool, open_pool, given, has_asked, is_number, if_so, after_act}
use Rattle.mdb_log.specs.Connections.{has}
use Rattle.mdb_log.specs.Requests.{requests, some_act, was_asked, names_party}
use Rattle.mdb_log.specs.PlainRequests.{requests as all_requests, asked_now, pool_of}
use Rattle.mdb_log.proofs.Numbers.{has-append, same-number}
use Rattle.mdb_histories.specs.SoundHistory.{SoundHistory, MayCome, StepNames, AsksAnew, is_party}
use Rattle.mdb_histories.proofs.OfPlain.Lists.{same-if, filter-same, filter-more}
use Rattle.mdb_histories.proofs.OfPlain.Frames.{from_fact, silent-fact, if-still}

-- who asked is a party
asked-names : (a : Act) (r : ℕ) → was_asked a r ≡ true → names_party a r ≡ true
asked-names (Request k b) r e = e
asked-names (Warm k b) r e = e
asked-names _ r e = cc

asked-party : (h : List Item) (r : ℕ) → some_act was_asked h r ≡ true → is_party h r ≡ true
asked-party [] r e = cc
asked-party (made m f ∷ h) r e = asked-party h r e
asked-party (did step reply ∷ h) r e = on (was_asked step.act r) refl e (asked-party h r)
  where
    on : (b : Bool) → was_asked step.act r ≡ b → b || some_act was_asked h r ≡ true → (some_act was_asked h r ≡ true → is_party h r ≡ true) → names_party step.act r || is_party h r ≡ true
    on true f e deeper = let n : names_party step.act r ≡ true = asked-names step.act r f in rw n refl
    on false f e deeper = let n : is_party h r ≡ true = deeper e in grind arith

pub unasked : (h : List Item) (r : ℕ) → is_party h r ≡ false → some_act was_asked h r ≡ false
unasked h r n = on (some_act was_asked h r) refl
  where
    on : (b : Bool) → some_act was_asked h r ≡ b → some_act was_asked h r ≡ false
    on true e = let k : is_party h r ≡ true = asked-party h r e in cc
    on false e = e

-- a request is one of the list where some step asked
with-one : (r k : ℕ) (rs : List ℕ) → has k (if has r rs then rs else (rs ++ r ∷ [])) ≡ (r == k) || has k rs
with-one r k rs = on (has r rs) refl
  where
    on : (b : Bool) → has r rs ≡ b → has k (if b then rs else (rs ++ r ∷ [])) ≡ (r == k) || has k rs
    on true e = at (r == k) refl
      where
        at : (b : Bool) → (r == k) ≡ b → has k rs ≡ b || has k rs
        at true f = subst (λ n. has n rs ≡ true) (same-if r k f) e
        at false f = refl
    on false e = grind (arith, has-append k r rs)

pub requests-asked : (h : List Item) (r : ℕ) → has r (all_requests h) ≡ some_act was_asked h r
requests-asked [] r = refl
requests-asked (made m f ∷ h) r = requests-asked h r
requests-asked (did step reply ∷ h) r = on step.act ∙ ap (λ b. was_asked step.act r || b) (requests-asked h r)
  where
    on : (a : Act) → has r (all_requests (did (record { moment = step.moment; act = a }) reply ∷ h)) ≡ was_asked a r || has r (all_requests h)
    on (Request k b) = with-one k r (all_requests h)
    on (Warm k b) = with-one k r (all_requests h)
    on _ = refl

-- who asks anew
pub new-asker : (h : List Item) (a : Act) (r : ℕ) → StepNames h a → was_asked a r ≡ true → some_act was_asked h r ≡ false
new-asker h (Request k b) r w e = let n : AsksAnew h k b = w in unasked h r (subst (λ i. is_party h i ≡ false) (same-if k r e) n.fresh)
new-asker h (Warm k b) r w e = let n : AsksAnew h k b = w in unasked h r (subst (λ i. is_party h i ≡ false) (same-if k r e) n.fresh)
new-asker h _ r w e = cc

requests-quiet : (x : PoolItem) (ys : List PoolItem) → from_fact x ≡ true → requests (x ∷ ys) ≡ requests ys
requests-quiet (asked r m) ys e = cc
requests-quiet (warmed r m) ys e = cc
requests-quiet _ ys e = refl

-- the requests of pool p among all
abbrev pub at : ℕ → List Item → ℕ → Bool
at p h r = is_number (pool_of h r) p

-- what the act adds to the requests of pool p
abbrev adds : ℕ → (ServerAddress → Option ℕ) → Act → List ℕ
adds p here (Request k b) = if is_number (here b) p then (k ∷ []) else []
adds p here (Warm k b) = if is_number (here b) p then (k ∷ []) else []
adds p here _ = []

module _ (p : ℕ) (here : ServerAddress → Option ℕ) (m : ℕ) (xs : List PoolItem) where
  one-more : (k : ℕ) (b : Bool) (x : PoolItem) → requests (x ∷ xs) ≡ requests xs ++ k ∷ [] → requests (if_so b x xs) ≡ requests xs ++ (if b then (k ∷ []) else [])
  one-more k true x e = e
  one-more k false x e = sym (append-nil (requests xs))

  none-more : (b : Bool) (x : PoolItem) → requests (x ∷ xs) ≡ requests xs → requests (if_so b x xs) ≡ requests xs ++ []
  none-more b x e = if-still requests xs b x e ∙ sym (append-nil (requests xs))

  requests-act : (a : Act) → requests (after_act p here m a xs) ≡ requests xs ++ adds p here a
  requests-act (Request k b) = one-more k (is_number (here b) p) _ refl
  requests-act (Warm k b) = one-more k (is_number (here b) p) _ refl
  requests-act (GiveUp k) = none-more (has_asked xs k) _ refl
  requests-act (Established q c how) = none-more (q == p) _ refl
  requests-act (Failed q c Pre error) = none-more (q == p) _ refl
  requests-act (Failed q c (Post service) error) = none-more (q == p) _ refl
  requests-act (Return k used) = none-more (is_some (given xs k)) _ refl
  requests-act (Pin k) = none-more (is_some (given xs k)) _ refl
  requests-act (Replicate q c) = none-more (q == p) _ refl
  requests-act (Take k q c) = none-more (q == p) _ refl
  requests-act (Unpin q c) = none-more (q == p) _ refl
  requests-act _ = sym (append-nil (requests xs))

-- after a step those who asked before are at the pools where they were
before : (step : Step) (reply : Reply) (h : List Item) (p k : ℕ) → has k (all_requests h) ≡ true → at p (did step reply ∷ h) k ≡ at p h k
before step reply h p k e = let a : some_act was_asked h k ≡ true = sym (requests-asked h k) ∙ e in rw a refl

-- The requests of a pool are those of all that asked it, in their order.
pub pool-requests : (h : List Item) → SoundHistory h → (p : ℕ) → filter (at p h) (all_requests h) ≡ requests (of_pool p h)
pool-requests [] s p = refl
pool-requests (made m f ∷ h) s p = pool-requests h s.1 p ∙ sym (silent-fact requests requests-quiet p m (of_pool p h) f)
pool-requests (did step reply ∷ h) s p = on step.act refl (filter-same (at p (did step reply ∷ h)) (at p h) (all_requests h) (before step reply h p) ∙ pool-requests h s.1 p) ∙ sym (requests-act p (open_pool h) step.moment (of_pool p h) step.act)
  where
    w : MayCome h (did step reply)
    w = s.0

    asks-one : (r : ℕ) (b : ServerAddress) → was_asked step.act r ≡ true → asked_now h step.act ≡ open_pool h b → filter (at p (did step reply ∷ h)) (all_requests h) ≡ requests (of_pool p h) → filter (at p (did step reply ∷ h)) (if has r (all_requests h) then all_requests h else (all_requests h ++ r ∷ [])) ≡ requests (of_pool p h) ++ (if is_number (open_pool h b) p then (r ∷ []) else [])
    asks-one r b e f i =
        let new : some_act was_asked h r ≡ false = new-asker h step.act r w.names e in
        let out : has r (all_requests h) ≡ false = requests-asked h r ∙ new in
        let there : at p (did step reply ∷ h) r ≡ is_number (open_pool h b) p = rw (new, e, f) refl in
        rw out (filter-more (at p (did step reply ∷ h)) (all_requests h) r ∙ rw (i, there) refl)

    on : (a : Act) → step.act ≡ a → filter (at p (did step reply ∷ h)) (all_requests h) ≡ requests (of_pool p h) → filter (at p (did step reply ∷ h)) (all_requests (did (record { moment = step.moment; act = a }) reply ∷ h)) ≡ requests (of_pool p h) ++ adds p (open_pool h) a
    on (Request r b) e i = asks-one r b (rw e (same-number r)) (rw e refl) i
    on (Warm r b) e i = asks-one r b (rw e (same-number r)) (rw e refl) i
    on _ e i = i ∙ sym (append-nil (requests (of_pool p h)))
