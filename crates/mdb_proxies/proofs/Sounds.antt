-- What the steps of a proxy leave sound.
use Rattle.std.proofs.Common.{◌≡◌, ℕ, ◌+◌, ◌≤◌, Bool, true, false, not, ◌&&◌, if◌then◌else◌, ◌==◌, nat_eq, nat_lt, nat_le, List, [], ◌∷◌, ◌++◌, length, sum, get_or, Option, Some, None, refl, sym, ap, ◌∙◌, subst, arith, append-nil, length-append}
use Rattle.std.specs.List.{list_all, HoldsAt}
use Rattle.std.specs.HashMap.{get}
use Rattle.std.proofs.Math.Seq.{get_or-append_seam}
use Rattle.std.proofs.lemmas.Bool.Decides.{Decides-eqb}
use Rattle.mdb_log.specs.declared.log.Entry.{Entry}
use Rattle.mdb_log.specs.declared.reply.Reply.{Reply}
use Rattle.mdb_log.specs.declared.step.Step.{Step}
use Rattle.mdb_log.specs.declared.step.Act.TheVariants.{Request}
use Rattle.mdb_log.specs.Driver.{is_refusal}
use Rattle.mdb_proxies.specs.declared.asked.Asked.{Asked}
use Rattle.mdb_proxies.specs.declared.asked.Standing.{Standing}
use Rattle.mdb_proxies.specs.declared.asked.Note.{Note}
use Rattle.mdb_proxies.specs.declared.books.Books.{Books}
use Rattle.mdb_proxies.specs.declared.books.Fate.TheVariants.{Stays}
use Rattle.mdb_proxies.specs.Charge.{requests}
use Rattle.mdb_proxies.specs.Shares.{share_of, are_shares}
use Rattle.mdb_proxies.specs.Handing.{Entered, IsRequestAt}
use Rattle.mdb_proxies.specs.Recording.{Recorded, SameAsks}
use Rattle.mdb_proxies.specs.Tables.{blank, notes_of, may_go, some_may_go, is_off_in, fate_of, after_entry, standing_of, standings, is_fresh, place_of, AreMade, AreSingle, AreWithin, Keeps, Sound}
use Rattle.mdb_proxies.proofs.Within.{NoneRequested, after_entry-append}
use Rattle.mdb_proxies.proofs.Numbers.{free-none, free-standings}
use Rattle.mdb_proxies.proofs.Kept.{keeps-entered, keeps-recorded, keeps-forgotten, left-single}
use Rattle.mdb_proxies.proofs.Hands.{HandsOn, hands-on, push-charge, push-within, off-stays, on-goes}
use Rattle.mdb_proxies.proofs.Telling.{keeps-same}
use Rattle.mdb_proxies.proofs.Noted.{notes-append, just-noted, notes-same}

-- books with these lists
pub sound-of : (log : List Entry) (shares : List ℕ) (os : List Standing) (xs : List Asked) (known : ℕ → Option ℕ) (b : Books) → b.standing.items ≡ os → b.asks.items ≡ xs → ((r : ℕ) → get nat_eq b.known r ≡ known r)
    → b.notes.items ≡ notes_of log xs → Keeps log os xs known → AreWithin shares os → Sound log shares b
sound-of log shares os xs known b i j l n k w = record {
  keeps = record {
    standing = i ∙ k.standing ∙ ap (standings log) (sym j);
    made = subst (λ (ys : List Asked). AreMade (length log) ys) (sym j) k.made;
    single = subst (λ (ys : List Asked). AreSingle ys) (sym j) k.single;
    placed = λ r. l r ∙ k.placed r ∙ ap (place_of r) (sym j);
  };
  noted = n ∙ ap (notes_of log) (sym j);
  within = subst (λ (ps : List Standing). AreWithin shares ps) (sym i) w;
}

-- what was told changes nothing
pub sound-told : (log : List Entry) (shares : List ℕ) (b c : Books) → SameAsks b.asks.items c.asks.items → c.standing ≡ b.standing → c.notes ≡ b.notes → c.known ≡ b.known → Sound log shares b → Sound log shares c
sound-told log shares b c s i n l k =
    sound-of log shares b.standing.items c.asks.items (λ r. get nat_eq b.known r) c (rw i refl) refl (λ r. rw l refl) ((rw n k.noted) ∙ notes-same log b.asks.items c.asks.items s)
    (keeps-same log b.standing.items b.asks.items c.asks.items (λ r. get nat_eq b.known r) s k.keeps) k.within

-- ---- an ask was recorded

pub recorded : (log : List Entry) (shares : List ℕ) (b c : Books) (x : Asked) (off behind : Bool) → Sound log shares b → is_fresh x.request b.asks.items ≡ true → x.entries ≡ length log → c.asks.items ≡ b.asks.items ++ x ∷ []
    → c.standing.items ≡ b.standing.items ++ standing_of x true ∷ [] → c.notes.items ≡ b.notes.items ++ blank ∷ [] → ((r : ℕ) → get nat_eq c.known r ≡ (if r == x.request then Some (length b.asks.items) else get nat_eq b.known r))
    → is_off_in shares b.standing.items x.tenant x.address ≡ off → behind ≡ some_may_go shares b.standing.items → Recorded log shares c off behind
recorded log shares b c x off behind s f m i j n l o h =
    let os : List Standing = b.standing.items in
    let xs : List Asked = b.asks.items in
    let knows : ℕ → Option ℕ = λ r. if r == x.request then Some (length xs) else get nat_eq b.known r in
    let kept : Keeps log (os ++ standing_of x true ∷ []) (xs ++ x ∷ []) knows = keeps-recorded log os xs x (λ r. get nat_eq b.known r) knows f m (λ r. refl) s.keeps in
    record {
      before = xs;
      newest = x;
      asks = i;
      standing = j ∙ ap (λ (l : List Standing). l ++ standing_of x true ∷ []) s.keeps.standing;
      sound = sound-of log shares (os ++ standing_of x true ∷ []) (xs ++ x ∷ []) knows c j i l
          (n ∙ ap (λ (ns : List Note). ns ++ blank ∷ []) s.noted ∙ ap (λ (y : Note). notes_of log xs ++ y ∷ []) (sym (just-noted log x m)) ∙ sym (notes-append log xs x)) kept (push-within shares os (standing_of x true) refl s.within);
      is_off = ap (λ (l : List Standing). is_off_in shares l x.tenant x.address) (sym s.keeps.standing) ∙ o;
      is_behind = ap (some_may_go shares) (sym s.keeps.standing) ∙ sym h;
    }

pop-within : (shares : List ℕ) (os : List Standing) (o : Standing) → o.held ≡ true → AreWithin shares (os ++ o ∷ []) → AreWithin shares os
pop-within shares os o h w = λ t a. subst (λ (n : ℕ). n ≤ share_of shares t) (push-charge os o t a h) (w t a)

-- the newest ask was taken back
pub sound-back : (log : List Entry) (shares : List ℕ) (b c : Books) (xs : List Asked) (x : Asked) → b.asks.items ≡ xs ++ x ∷ [] → b.standing.items ≡ standings log xs ++ standing_of x true ∷ [] → Sound log shares b
    → c.asks.items ≡ xs → c.standing.items ≡ standings log xs → c.notes.items ≡ notes_of log xs → ((r : ℕ) → get nat_eq c.known r ≡ (if r == x.request then None else get nat_eq b.known r)) → Sound log shares c
sound-back log shares b c xs x i j s k l n m =
    let knows : ℕ → Option ℕ = λ r. if r == x.request then None else get nat_eq b.known r in
    let kept : Keeps log b.standing.items (xs ++ x ∷ []) (λ r. get nat_eq b.known r) = subst (λ (ys : List Asked). Keeps log b.standing.items ys (λ r. get nat_eq b.known r)) i s.keeps in
    let within : AreWithin shares (standings log xs) = pop-within shares (standings log xs) (standing_of x true) refl (subst (λ (os : List Standing). AreWithin shares os) j s.within) in
    sound-of log shares (standings log xs) xs knows c l k m n (keeps-forgotten log b.standing.items (standings log xs) xs x (λ r. get nat_eq b.known r) knows refl (λ r. refl) kept) within

-- ---- a refused entry

refused-fate : (e : Entry) (o : Standing) → is_refusal e.reply ≡ true → requests o.request e.step.act ≡ false → fate_of e o ≡ Stays
refused-fate e o f q = rw (q, f) (go o.held)
  where
    go : (h : Bool) → (if h then Stays else Stays) ≡ Stays
    go true = refl
    go false = refl

-- a refused entry that requests none of them changes nothing
pub refused-same : (e : Entry) (os : List Standing) → is_refusal e.reply ≡ true → NoneRequested e os → after_entry e os ≡ os
refused-same e [] f n = refl
refused-same e (o ∷ os) f n = rw (refused-fate e o f n.0) (ap (λ (l : List Standing). o ∷ l) (refused-same e os f n.1))

refused-gone : (e : Entry) (o : Standing) → o.held ≡ true → requests o.request e.step.act ≡ true → is_refusal e.reply ≡ true → after_entry e (o ∷ []) ≡ []
refused-gone e o h q f = rw (h, q, f) refl

-- what the core said of the newest ask
pub record Newest (log : List Entry) (xs : List Asked) (x : Asked) (e : Entry) (reply : Reply) : Type 0 where
  pub asked : requests x.request e.step.act ≡ true
  pub others : NoneRequested e (standings log xs)
  pub replied : e.reply ≡ reply

pub newest-asked : (log more : List Entry) (xs : List Asked) (x : Asked) (stand ps : List Standing) (moment i : ℕ) (step : Step) (reply : Reply) → stand ≡ standings log xs ++ standing_of x true ∷ [] → is_fresh x.request xs ≡ true
    → i + 1 ≡ length stand → IsRequestAt moment stand i step → (n : Entered step reply log more stand ps) → Newest log xs x n.entry reply
newest-asked log more xs x stand ps moment i step reply j f l r n =
    let os : List Standing = standings log xs in
    let o : Standing = standing_of x true in
    let at : i ≡ length os = omega (arith, l, ap length j, length-append os (o ∷ [])) in
    let is : r.0 ≡ o = r.1 ∙ ap (λ (l : List Standing). get_or l i r.0) j ∙ ap (λ (k : ℕ). get_or (os ++ o ∷ []) k r.0) at ∙ get_or-append_seam os o [] r.0 in
    let act : n.entry.step.act ≡ Request x.request x.address = ap (λ (s : Step). s.act) (n.is.1 ∙ r.2) ∙ ap (λ (y : Standing). Request y.request y.address) is in
    record {
      asked = ap (requests x.request) act ∙ (Decides-eqb x.request x.request).1 refl;
      others = free-none n.entry x.request x.address os act (free-standings x.request log xs f);
      replied = n.is.2;
    }

-- the core refused the newest ask, which is out of the lists again
pub record Unasked (log more : List Entry) (shares : List ℕ) (xs : List Asked) (c : Books) : Type 0 where
  pub sound : Sound more shares c
  pub same : c.standing.items ≡ standings log xs

pub sound-refused : (log more : List Entry) (shares : List ℕ) (b c : Books) (xs : List Asked) (x : Asked) (ps : List Standing) (moment i : ℕ) (step : Step) (reply : Reply) → b.asks.items ≡ xs ++ x ∷ []
    → b.standing.items ≡ standings log xs ++ standing_of x true ∷ [] → Sound log shares b → i + 1 ≡ length b.standing.items → IsRequestAt moment b.standing.items i step → Entered step reply log more b.standing.items ps
    → is_refusal reply ≡ true → c.asks.items ≡ xs → c.standing.items ≡ ps → c.notes.items ≡ notes_of more xs → ((r : ℕ) → get nat_eq c.known r ≡ (if r == x.request then None else get nat_eq b.known r)) → Unasked log more shares xs c
sound-refused log more shares b c xs x ps moment i step reply a j s l r n f ca cs cn cm =
    let os : List Standing = standings log xs in
    let o : Standing = standing_of x true in
    let kept : Keeps log b.standing.items (xs ++ x ∷ []) (λ r. get nat_eq b.known r) = subst (λ (ys : List Asked). Keeps log b.standing.items ys (λ r. get nat_eq b.known r)) a s.keeps in
    let fresh : is_fresh x.request xs ≡ true = (left-single xs x kept.single).1 in
    let e : Entry = n.entry in
    let is : Newest log xs x e reply = newest-asked log more xs x b.standing.items ps moment i step reply j fresh l r n in
    let refused : is_refusal e.reply ≡ true = ap is_refusal is.replied ∙ f in
    let unchanged : after_entry e os ≡ os = refused-same e os refused is.others in
    let left : ps ≡ os = n.after ∙ ap (after_entry e) j ∙ after_entry-append e os (o ∷ []) ∙ ap (λ (l : List Standing). after_entry e os ++ l) (refused-gone e o refl is.asked refused) ∙ append-nil (after_entry e os) ∙ unchanged in
    let knows : ℕ → Option ℕ = λ r. if r == x.request then None else get nat_eq b.known r in
    let before : Keeps log os xs knows = keeps-forgotten log b.standing.items os xs x (λ r. get nat_eq b.known r) knows refl (λ r. refl) kept in
    let after : Keeps more ps xs knows = keeps-entered log more e os ps xs knows n.grown (left ∙ sym unchanged) before in
    let within : AreWithin shares os = pop-within shares os o refl (subst (λ (l : List Standing). AreWithin shares l) j s.within) in
    record {
      sound = sound-of more shares ps xs knows c cs ca cm cn after (subst (λ (l : List Standing). AreWithin shares l) (sym left) within);
      same = cs ∙ left;
    }

-- the core took the newest ask
pub sound-begun : (log more : List Entry) (shares : List ℕ) (b c : Books) (xs : List Asked) (x : Asked) (ps : List Standing) (moment i : ℕ) (step : Step) (reply : Reply)
    → b.standing.items ≡ standings log xs ++ standing_of x true ∷ [] → Sound log shares b → is_off_in shares (standings log xs) x.tenant x.address ≡ false → i + 1 ≡ length b.standing.items → IsRequestAt moment b.standing.items i step
    → Entered step reply log more b.standing.items ps → SameAsks b.asks.items c.asks.items → c.standing.items ≡ ps → c.notes.items ≡ notes_of more b.asks.items → c.known ≡ b.known → Sound more shares c
sound-begun log more shares b c xs x ps moment i step reply j s off l r n same cs cn ck =
    let os : List Standing = standings log xs in
    let o : Standing = standing_of x true in
    let at : i ≡ length os = omega (arith, l, ap length j, length-append os (o ∷ [])) in
    let goes : may_go shares (os ++ o ∷ []) o ≡ true = on-goes shares os o refl off in
    let here : (d : Standing) → get_or b.standing.items i d ≡ o = λ d. ap (λ (l : List Standing). get_or l i d) j ∙ ap (λ (k : ℕ). get_or (os ++ o ∷ []) k d) at ∙ get_or-append_seam os o [] d in
    let may : HoldsAt (λ y. may_go shares b.standing.items y ≡ true) b.standing.items i = λ d. subst (λ (y : Standing). may_go shares b.standing.items y ≡ true) (sym (here d)) (subst (λ (l : List Standing). may_go shares l o ≡ true) (sym j) goes) in
    let handed : HandsOn shares more b.standing.items ps b.asks.items (λ r. get nat_eq b.known r) = hands-on shares log more b.standing.items ps b.asks.items (λ r. get nat_eq b.known r) moment i step reply (omega (arith, l)) may r n s.keeps s.within in
    sound-of more shares ps c.asks.items (λ r. get nat_eq b.known r) c cs refl (λ r. rw ck refl) (cn ∙ notes-same more b.asks.items c.asks.items same) (keeps-same more ps b.asks.items c.asks.items (λ r. get nat_eq b.known r) same handed.keeps) handed.within

-- ---- where nothing may go on

pub held-behind : (was now : Bool) (shares : List ℕ) (os old new : List Standing) (o : Standing) → (was ≡ true → now ≡ some_may_go shares new) × (was ≡ false → (now ≡ false) × (new ≡ old)) → old ≡ os ++ o ∷ [] → o.held ≡ true
    → is_off_in shares os o.tenant o.address ≡ true → some_may_go shares os ≡ was → now ≡ some_may_go shares new
held-behind true now shares os old new o h e k off g = h.0 refl
held-behind false now shares os old new o h e k off g =
    let p : (now ≡ false) × (new ≡ old) = h.1 refl in
    p.0 ∙ sym (ap (some_may_go shares) (p.1 ∙ e) ∙ off-stays shares os o k off g)

-- where nothing lagged, nothing does
pub caught : (was now : Bool) (shares : List ℕ) (old new : Books) → (was ≡ true → now ≡ some_may_go shares new.standing.items) × (was ≡ false → (now ≡ false) × (new ≡ old)) → was ≡ some_may_go shares old.standing.items → now ≡ some_may_go shares new.standing.items
caught true now shares old new h g = h.0 refl
caught false now shares old new h g =
    let p : (now ≡ false) × (new ≡ old) = h.1 refl in
    p.0 ∙ g ∙ ap (λ (b : Books). some_may_go shares b.standing.items) (sym p.1)

-- a refused entry leaves it as it was
pub rests : (r refused behind : Bool) (shares : List ℕ) (os ps : List Standing) → not r ≡ false → r ≡ refused → (refused ≡ true → ps ≡ os) → behind ≡ some_may_go shares os → behind ≡ some_may_go shares ps
rests true refused behind shares os ps g e k h = h ∙ ap (some_may_go shares) (sym (k (sym e)))
rests false refused behind shares os ps g e k h = absurd (let z : true ≡ false = g in cc)

-- ---- shares

pub shares-sum : (shares : List ℕ) (max s : ℕ) → (nat_lt 0 (length shares) && nat_le (length shares) 64) ≡ true → list_all (λ n. nat_lt 0 n) shares ≡ true → s ≡ sum shares → nat_le s max ≡ are_shares shares max
shares-sum shares max s f a e =
    ap (λ (n : ℕ). nat_le n max) e ∙ sym (ap (λ b. (b && list_all (λ n. nat_lt 0 n) shares) && nat_le (sum shares) max) f ∙ ap (λ b. (true && b) && nat_le (sum shares) max) a)
