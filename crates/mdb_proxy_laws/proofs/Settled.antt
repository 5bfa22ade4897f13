-- What the entries of a log settle, its history tells; and an ask whose request was accepted and not settled is charged.
use Rattle.std.proofs.Common.{ℕ, ◌≡◌, ◌==◌, Bool, true, false, not, ◌&&◌, ◌||◌, if◌then◌else◌, List, [], ◌∷◌, drop, zero, suc, refl, sym, ◌∙◌, subst}
use Rattle.std.specs.List.{list_any}
use Rattle.std.proofs.lemmas.Bool.Decides.{Decides-eqb}
use Rattle.std.proofs.lemmas.Bool.{or_left, or_right, not-true}
use Rattle.mdb_base.specs.Equality.{same_address}
use Rattle.mdb_base.specs.declared.address.ServerAddress.{ServerAddress}
use Rattle.mdb_events.specs.declared.fact.Fact.{Fact}
use Rattle.mdb_events.specs.declared.fact.Fact.TheVariants.{Ended}
use Rattle.mdb_log.specs.declared.log.Entry.{Entry}
use Rattle.mdb_log.specs.declared.step.Step.{Step}
use Rattle.mdb_log.specs.declared.step.Act.{Act}
use Rattle.mdb_log.specs.declared.step.Act.TheVariants.{Return}
use Rattle.mdb_log.specs.declared.reply.Reply.{Reply}
use Rattle.mdb_log.specs.declared.reply.Reply.TheVariants.{Refused}
use Rattle.mdb_log.specs.Driver.{is_refusal}
use Rattle.mdb_log.specs.History.{Item, did, made, with_facts, with_answer, with_entries}
use Rattle.mdb_log.specs.PlainRequests.{is_ended}
use Rattle.mdb_log.specs.PlainHolders.{has_returned}
use Rattle.mdb_proxies.specs.declared.asked.Asked.{Asked}
use Rattle.mdb_proxies.specs.Charge.{requests, returns, is_end, ends, settles, is_settled, is_charged, since, counts}
use Rattle.mdb_proxies.proofs.Bools.{left, right, both, rest}
use Rattle.mdb_proxy_laws.specs.Asks.{is_taken, is_ask_of}
use Rattle.mdb_proxy_laws.proofs.Counting.{is_charged_number}

-- ---- the history

-- the request ended or its connection came not-true
abbrev pub is_over : List Item → ℕ → Bool
is_over h r = is_ended h r || has_returned h r

ended-fact : (m : ℕ) (f : Fact) (h : List Item) (r : ℕ) → is_ended h r ≡ true → is_ended (made m f ∷ h) r ≡ true
ended-fact m (Ended q end) h r e = or_right (q == r) (is_ended h r) e
ended-fact m _ h r e = e

over-fact : (m : ℕ) (f : Fact) (h : List Item) (r : ℕ) → is_over h r ≡ true → is_over (made m f ∷ h) r ≡ true
over-fact m f h r e = go (is_ended h r) refl e
  where
    go : (b : Bool) → is_ended h r ≡ b → (b || has_returned h r) ≡ true → (is_ended (made m f ∷ h) r || has_returned h r) ≡ true
    go true i e = or_left (is_ended (made m f ∷ h) r) (has_returned h r) (ended-fact m f h r i)
    go false i e = or_right (is_ended (made m f ∷ h) r) (has_returned h r) e

over-facts : (m : ℕ) (fs : List Fact) (h : List Item) (r : ℕ) → is_over h r ≡ true → is_over (with_facts m fs h) r ≡ true
over-facts m [] h r e = e
over-facts m (f ∷ fs) h r e = over-facts m fs (made m f ∷ h) r (over-fact m f h r e)

end-over : (m : ℕ) (f : Fact) (h : List Item) (r : ℕ) → is_end r f ≡ true → is_over (made m f ∷ h) r ≡ true
end-over m (Ended q end) h r e = or_left ((q == r) || is_ended h r) (has_returned h r) (or_left (q == r) (is_ended h r) e)
end-over m _ h r e = absurd (let k : false ≡ true = e in cc)

-- one of the facts ends it
ends-over : (m : ℕ) (fs : List Fact) (h : List Item) (r : ℕ) → ends r fs ≡ true → is_over (with_facts m fs h) r ≡ true
ends-over m [] h r e = absurd (let k : false ≡ true = e in cc)
ends-over m (f ∷ fs) h r e = go (is_end r f) refl e (ends-over m fs (made m f ∷ h) r)
  where
    go : (b : Bool) → is_end r f ≡ b → (b || ends r fs) ≡ true → (ends r fs ≡ true → is_over (with_facts m fs (made m f ∷ h)) r ≡ true) → is_over (with_facts m fs (made m f ∷ h)) r ≡ true
    go true i e deeper = over-facts m fs (made m f ∷ h) r (end-over m f h r i)
    go false i e deeper = deeper e

return-over : (step : Step) (reply : Reply) (h : List Item) (r : ℕ) → returns r step.act ≡ true → is_over (did step reply ∷ h) r ≡ true
return-over step reply h r e = or_right (is_ended h r) (has_returned (did step reply ∷ h) r) (go step.act e)
  where
    go : (a : Act) → returns r a ≡ true → has_returned (did (record { moment = step.moment; act = a }) reply ∷ h) r ≡ true
    go (Return q used) e = or_left (q == r) (has_returned h r) e
    go _ e = absurd (let k : false ≡ true = e in cc)

over-step : (step : Step) (reply : Reply) (h : List Item) (r : ℕ) → is_over h r ≡ true → is_over (did step reply ∷ h) r ≡ true
over-step step reply h r e = go (is_ended h r) e
  where
    go : (b : Bool) → (b || has_returned h r) ≡ true → (b || has_returned (did step reply ∷ h) r) ≡ true
    go true e = refl
    go false e = or_right _ (has_returned h r) e

over-answer : (step : Step) (reply : Reply) (fs : List Fact) (h : List Item) (r : ℕ) → is_over h r ≡ true → is_over (with_answer step reply fs h) r ≡ true
over-answer step (Refused why) fs h r e = e
over-answer step reply fs h r e = over-facts step.moment fs (did step reply ∷ h) r (over-step step reply h r e)

over-entries : (es : List Entry) (h : List Item) (r : ℕ) → is_over h r ≡ true → is_over (with_entries es h) r ≡ true
over-entries [] h r e = e
over-entries (x ∷ es) h r e = over-entries es (with_answer x.step x.reply x.facts h) r (over-answer x.step x.reply x.facts h r e)

-- an accepted entry that settles it
settle-answer : (step : Step) (reply : Reply) (fs : List Fact) (h : List Item) (r : ℕ) → is_refusal reply ≡ false → (returns r step.act || ends r fs) ≡ true → is_over (with_answer step reply fs h) r ≡ true
settle-answer step (Refused why) fs h r n e = absurd (let k : true ≡ false = n in cc)
settle-answer step reply fs h r n e = go (returns r step.act) refl e
  where
    go : (b : Bool) → returns r step.act ≡ b → (b || ends r fs) ≡ true → is_over (with_facts step.moment fs (did step reply ∷ h)) r ≡ true
    go true i e = over-facts step.moment fs (did step reply ∷ h) r (return-over step reply h r i)
    go false i e = ends-over step.moment fs (did step reply ∷ h) r e

settled-over : (es : List Entry) (h : List Item) (r : ℕ) → is_settled r es ≡ true → is_over (with_entries es h) r ≡ true
settled-over [] h r e = absurd (let k : false ≡ true = e in cc)
settled-over (x ∷ es) h r e = go (settles r x) refl e (settled-over es (with_answer x.step x.reply x.facts h) r)
  where
    go : (b : Bool) → settles r x ≡ b → (b || is_settled r es) ≡ true → (is_settled r es ≡ true → is_over (with_entries es (with_answer x.step x.reply x.facts h)) r ≡ true) → is_over (with_entries es (with_answer x.step x.reply x.facts h)) r ≡ true
    go true i e deeper =
        over-entries es (with_answer x.step x.reply x.facts h) r
        (settle-answer x.step x.reply x.facts h r (not-true (is_refusal x.reply) (left (not (is_refusal x.reply)) (returns r x.step.act || ends r x.facts) i)) (right (not (is_refusal x.reply)) (returns r x.step.act || ends r x.facts) i))
    go false i e deeper = deeper e

-- What its history does not tell as over no entry of a log settled.
pub unsettled : (log : List Entry) (r : ℕ) → is_over (with_entries log []) r ≡ false → is_settled r log ≡ false
unsettled log r e = go (is_settled r log) refl
  where
    go : (b : Bool) → is_settled r log ≡ b → b ≡ false
    go true i = let k : true ≡ false = sym (settled-over log [] r i) ∙ e in cc
    go false i = refl

-- ---- charged asks

unsettled-since : (r n : ℕ) (es : List Entry) → is_settled r es ≡ false → is_settled r (drop n es) ≡ false
unsettled-since r zero es e = e
unsettled-since r (suc n) [] e = e
unsettled-since r (suc n) (x ∷ es) e = unsettled-since r n es (rest (settles r x) (is_settled r es) e)

taken-charged : (r : ℕ) (es : List Entry) → is_taken r es ≡ true → is_settled r es ≡ false → is_charged r es ≡ true
taken-charged r [] t s = t
taken-charged r (x ∷ es) t s = go (requests r x.step.act) t (λ k. taken-charged r es k (rest (settles r x) (is_settled r es) s))
  where
    go : (b : Bool) → (if b then not (is_refusal x.reply) else is_taken r es) ≡ true → (is_taken r es ≡ true → is_charged r es ≡ true) → (if b then not (is_refusal x.reply) && not (is_settled r (x ∷ es)) else is_charged r es) ≡ true
    go true t deeper = both (not (is_refusal x.reply)) (not (is_settled r (x ∷ es))) t (rw s refl)
    go false t deeper = deeper t

charged-one : (log : List Entry) (r : ℕ) (a : ServerAddress) (x : Asked) → is_settled r log ≡ false → is_ask_of log r a x ≡ true → is_charged_number log a r x ≡ true
charged-one log r a x s h =
    let own : (r == x.request) ≡ true = left (r == x.request) (same_address x.address a && is_taken r (since log x)) h in
    let more : (same_address x.address a && is_taken r (since log x)) ≡ true = right (r == x.request) (same_address x.address a && is_taken r (since log x)) h in
    let same : r ≡ x.request = (Decides-eqb r x.request).0 own in
    let charged : is_charged r (since log x) ≡ true = taken-charged r (since log x) (right (same_address x.address a) (is_taken r (since log x)) more) (unsettled-since r x.entries log s) in
    both (r == x.request) (same_address x.address a && counts log x) own
    (both (same_address x.address a) (counts log x) (left (same_address x.address a) (is_taken r (since log x)) more) (subst (λ (q : ℕ). is_charged q (since log x) ≡ true) same charged))

-- An accepted request that is not over is that of a charged ask.
pub asked-charged : (log : List Entry) (r : ℕ) (a : ServerAddress) (xs : List Asked) → is_settled r log ≡ false → list_any (is_ask_of log r a) xs ≡ true → list_any (is_charged_number log a r) xs ≡ true
asked-charged log r a [] s h = h
asked-charged log r a (x ∷ xs) s h = go (is_ask_of log r a x) refl h (asked-charged log r a xs s)
  where
    go : (b : Bool) → is_ask_of log r a x ≡ b → (b || list_any (is_ask_of log r a) xs) ≡ true → (list_any (is_ask_of log r a) xs ≡ true → list_any (is_charged_number log a r) xs ≡ true) → (is_charged_number log a r x || list_any (is_charged_number log a r) xs) ≡ true
    go true i h deeper = or_left (is_charged_number log a r x) (list_any (is_charged_number log a r) xs) (charged-one log r a x s i)
    go false i h deeper = or_right (is_charged_number log a r x) (list_any (is_charged_number log a r) xs) (deeper h)
