-- What is answered to a new ask.
use Rattle.std.proofs.Common.{◌≡◌, ℕ, ◌+◌, Bool, true, false, List, [], ◌∷◌, ◌++◌, length, get_or, None, refl, sym, ap, ◌∙◌, subst, arith, length-append}
use Rattle.std.proofs.Math.Seq.{get_or-append_seam}
use Rattle.mdb_log.specs.declared.log.Entry.{Entry}
use Rattle.mdb_log.specs.declared.reply.Reply.{Reply}
use Rattle.mdb_log.specs.declared.step.Step.{Step}
use Rattle.mdb_log.specs.declared.step.Act.TheVariants.{Request}
use Rattle.mdb_log.specs.Driver.{IsEntry, is_refusal}
use Rattle.mdb_proxies.specs.declared.asked.Asked.{Asked}
use Rattle.mdb_proxies.specs.declared.asked.Standing.{Standing}
use Rattle.mdb_proxies.specs.declared.step.ProxyReply.TheVariants.{Core}
use Rattle.mdb_proxies.specs.Handing.{Entered, IsRequestAt}
use Rattle.mdb_proxies.specs.Entries.{request_at, GoesOn}
use Rattle.mdb_proxies.specs.Telling.{tells, told_if}
use Rattle.mdb_proxies.specs.Recording.{SameAsks, Begun}
use Rattle.mdb_proxies.specs.Tables.{standing_of}
use Rattle.mdb_proxies.proofs.Going.{goes-none}

-- lists with one more at their ends are the same where the lists and the ends are
pub last-same : (xs ys : List Asked) (x y : Asked) → xs ++ x ∷ [] ≡ ys ++ y ∷ [] → (xs ≡ ys) × (x ≡ y)
last-same [] [] x y h = (refl, (let e : x ≡ y = cc in e))
last-same [] (z ∷ zs) x y h = absurd (omega (arith, ap length h, length-append zs (y ∷ [])))
last-same (z ∷ zs) [] x y h = absurd (omega (arith, ap length h, length-append zs (x ∷ [])))
last-same (w ∷ ws) (z ∷ zs) x y h =
    let t : ws ++ x ∷ [] ≡ zs ++ y ∷ [] = cc in
    let e : w ≡ z = cc in
    let r = last-same ws zs x y t in
    (ap (λ (l : List Asked). w ∷ l) r.0 ∙ ap (λ (v : Asked). v ∷ zs) e, r.1)

-- the entry that hands on the ask that stands last
pub last-entry : (m i : ℕ) (step : Step) (reply : Reply) (log more : List Entry) (os stand ps : List Standing) (x : Asked) → stand ≡ os ++ standing_of x true ∷ [] → i + 1 ≡ length stand → IsRequestAt m stand i step
    → (n : Entered step reply log more stand ps) → IsEntry 0 (request_at m x) reply n.entry
last-entry m i step reply log more os stand ps x j l r n =
    let o : Standing = standing_of x true in
    let at : i ≡ length os = omega (arith, l, ap length j, length-append os (o ∷ [])) in
    let is : r.0 ≡ o = r.1 ∙ ap (λ (k : List Standing). get_or k i r.0) j ∙ ap (λ (k : ℕ). get_or (os ++ o ∷ []) k r.0) at ∙ get_or-append_seam os o [] r.0 in
    (n.is.0, n.is.1 ∙ r.2 ∙ ap (λ (p : Standing). let s : Step = record { moment = m; act = Request p.request p.address } in s) is, n.is.2)

-- the core refused it
pub begun-refused : (m : ℕ) (shares : List ℕ) (xs ys : List Asked) (x : Asked) (log more : List Entry) (reply : Reply) (e : Entry) → IsEntry 0 (request_at m x) reply e → more ≡ log ++ e ∷ [] → is_refusal reply ≡ true → ys ≡ xs
    → Begun m shares xs x log more ys (Core reply) None
begun-refused m shares xs ys x log more reply e is g f a = record {
  asks = a ∙ (rw f refl);
  replied = (reply, refl, record { entry = e; is = is; refused = λ _. g; goes_on = goes-none m shares ys (log ++ e ∷ []) more g });
}

-- the core took it
pub begun-taken : (m : ℕ) (shares : List ℕ) (xs ys : List Asked) (x : Asked) (log more again : List Entry) (reply : Reply) (told : Bool) (e : Entry) → IsEntry 0 (request_at m x) reply e → more ≡ log ++ e ∷ [] → is_refusal reply ≡ false
    → told ≡ tells reply → ys ≡ xs ++ told_if told x ∷ [] → GoesOn m shares ys more again → Begun m shares xs x log again ys (Core reply) None
begun-taken m shares xs ys x log more again reply told e is g f t a h = record {
  asks = a ∙ ap (λ (b : Bool). xs ++ told_if b x ∷ []) t ∙ (rw f refl);
  replied = (
    reply,
    refl,
    record {
      entry = e;
      is = is;
      refused = λ r. absurd (let z : true ≡ false = sym r ∙ f in cc);
      goes_on = subst (λ (l : List Entry). GoesOn m shares ys l again) g h;
    },
  );
}

-- what was told of the newest ask changes no ask otherwise
pub last-told : (xs : List Asked) (x : Asked) (told : Bool) → SameAsks (xs ++ x ∷ []) (xs ++ told_if told x ∷ [])
last-told [] x true = (refl, refl, refl, refl, tt)
last-told [] x false = (refl, refl, refl, refl, tt)
last-told (y ∷ ys) x told = (refl, refl, refl, refl, last-told ys x told)
