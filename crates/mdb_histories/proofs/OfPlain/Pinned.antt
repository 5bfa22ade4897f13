-- Which connections are at their pin, by the plain sentences and by the items of a pool.
use Rattle.std.proofs.Common.{ℕ, ◌≡◌, ◌==◌, Bool, true, false, ◌&&◌, List, Option, Some, None, is_some, refl, sym, ◌∙◌, subst, if◌then◌else◌, nat_lt}
use Rattle.mdb_base.specs.declared.address.ServerAddress.{ServerAddress}
use Rattle.mdb_log.specs.declared.step.Act.{Act}
use Rattle.mdb_log.specs.declared.step.Act.TheVariants.{Request, Warm, GiveUp, Established, Failed, Return, Pin, Replicate, Take, Unpin}
use Rattle.mdb_log.specs.declared.step.FailedAt.TheVariants.{Pre, Post}
use Rattle.mdb_log.specs.declared.reply.Reply.{Reply}
use Rattle.mdb_log.specs.History.{Item, did, PoolItem, gave_up, returned, taken, of_pool, given, has_asked, is_number, if_so, after_act}
use Rattle.mdb_log.specs.Connections.{holding, pins, is_pinned, comes_back, is_taking}
use Rattle.mdb_log.specs.PlainHolders.{holds, comes_back as back, is_taking as taking}
use Rattle.mdb_log.proofs.Pins.{pinned-again, holding-none}
use Rattle.mdb_log.proofs.Frame.{asked-party}
use Rattle.mdb_histories.specs.SoundHistory.{SoundHistory, StepNames, IsRequest}
use Rattle.mdb_histories.proofs.OfPlain.Parties.{one-pool}
use Rattle.mdb_histories.proofs.OfPlain.Across.{party-of}
use Rattle.mdb_histories.proofs.OfPlain.Holders.{holds-alike}

-- at its pin after one more item that has a pin: it came back, or it was so and wasn't taken
abbrev pub stays : Bool → Bool → Bool → Bool → Bool
stays came went was has = (if came then true else (if went then false else was)) && has

-- the item changes what is said of a connection at its pin as its own pool says
abbrev pub PinStep : List PoolItem → List PoolItem → ℕ → Bool → Bool → Type 0
PinStep xs ys c came went = is_pinned ys c ≡ stays came went (is_pinned xs c) (nat_lt 0 (pins ys c))

-- one more item that isn't there, or is there
pub plain : (xs : List PoolItem) (c : ℕ) → PinStep xs xs c false false
plain xs c = sym (pinned-again xs c)

pub pin-step : (xs : List PoolItem) (b : Bool) (x : PoolItem) (c : ℕ) (came went : Bool) → (b ≡ true → comes_back x xs c ≡ came) → (b ≡ true → is_taking x c ≡ went) → (b ≡ false → came ≡ false) → (b ≡ false → went ≡ false) → PinStep xs (if_so b x xs) c came went
pin-step xs true x c came went f g i j = rw (f refl, g refl) refl
pin-step xs false x c came went f g i j = rw (i refl, j refl) (plain xs c)

-- a fact neither brings a connection back nor takes it
pub still-one : (xs : List PoolItem) (b : Bool) (x : PoolItem) (c : ℕ) → comes_back x xs c ≡ false → is_taking x c ≡ false → PinStep xs (if_so b x xs) c false false
still-one xs b x c f g = pin-step xs b x c false false (λ e. f) (λ e. g) (λ e. refl) (λ e. refl)

none-holds : (xs : List PoolItem) (r c : ℕ) → is_some (given xs r) ≡ false → is_number (holding xs r) c ≡ false
none-holds xs r c e = on (given xs r) refl e
  where
    on : (o : Option ℕ) → given xs r ≡ o → is_some o ≡ false → is_number (holding xs r) c ≡ false
    on None f e = let h : holding xs r ≡ None = holding-none xs r f in rw h refl
    on (Some d) f e = cc

-- who didn't ask here and gives up has nothing here
module _ (h : List Item) (s : SoundHistory h) (p r c : ℕ) (q : IsRequest h r) where
  outside : has_asked (of_pool p h) r ≡ false → holds p h r c ≡ false
  outside n = holds-alike h s p r c ∙ none-holds (of_pool p h) r c (on (is_some (given (of_pool p h) r)) refl)
    where
      on : (b : Bool) → is_some (given (of_pool p h) r) ≡ b → is_some (given (of_pool p h) r) ≡ false
      on true e =
          let m : q.pool ≡ p = one-pool h s q.pool p r (asked-party (of_pool q.pool h) r q.asked) (party-of h s p r e) in
          let a : has_asked (of_pool p h) r ≡ true = subst (λ n. has_asked (of_pool n h) r ≡ true) m q.asked in
          cc
      on false e = e

module _ (p : ℕ) (here : ServerAddress → Option ℕ) (m : ℕ) (h : List Item) (s : SoundHistory h) (c : ℕ) where
  abbrev xs : List PoolItem
  xs = of_pool p h

  -- no coming back and no take
  still : (b : Bool) (x : PoolItem) → comes_back x xs c ≡ false → is_taking x c ≡ false → PinStep xs (if_so b x xs) c false false
  still b x f g = still-one xs b x c f g

  pub act-step : (a : Act) (reply : Reply) (n : ℕ) → StepNames h a → PinStep xs (after_act p here m a xs) c (back p (did (record { moment = n; act = a }) reply) h c) (taking p (did (record { moment = n; act = a }) reply) c)
  act-step (Return r used) reply n w = pin-step xs (is_some (given xs r)) (returned r used) c (holds p h r c) false (λ e. sym (holds-alike h s p r c)) (λ e. refl) (λ e. holds-alike h s p r c ∙ none-holds xs r c e) (λ e. refl)
  act-step (GiveUp r) reply n w = pin-step xs (has_asked xs r) (gave_up r) c (holds p h r c) false (λ e. sym (holds-alike h s p r c)) (λ e. refl) (λ e. outside h s p r c w e) (λ e. refl)
  act-step (Take r q d) reply n w = pin-step xs (q == p) (taken r d) c false ((q == p) && (d == c)) (λ e. refl) (λ e. rw e refl) (λ e. refl) (λ e. rw e refl)
  act-step (Request r b) reply n w = still (is_number (here b) p) _ refl refl
  act-step (Warm r b) reply n w = still (is_number (here b) p) _ refl refl
  act-step (Established q d how) reply n w = still (q == p) _ refl refl
  act-step (Failed q d Pre error) reply n w = still (q == p) _ refl refl
  act-step (Failed q d (Post service) error) reply n w = still (q == p) _ refl refl
  act-step (Pin r) reply n w = still (is_some (given xs r)) _ refl refl
  act-step (Replicate q d) reply n w = still (q == p) _ refl refl
  act-step (Unpin q d) reply n w = still (q == p) _ refl refl
  act-step _ reply n w = plain xs c
