-- A recorder follows the log of its driver.
use Rattle.std.proofs.Common.{◌≡◌, ℕ, ◌+◌, List, [], ◌++◌, length, drop, refl, sym, ◌∙◌, ap, subst, append_assoc, length-append}
use Rattle.std.proofs.lemmas.List.{append-nil}
use Rattle.std.proofs.Math.Seq.{drop-append_seam}
use Rattle.mdb_log.specs.declared.log.Entry.{Entry}
use Rattle.mdb_log.specs.Driver.{StartsWith}
use Rattle.mdb_turns.specs.Stepping.{SeatView, OnlySaw}
use Rattle.mdb_recorders.specs.Recording.{Recording, Follows}

abbrev pub after : Recording → List Entry → Recording
after r held = record { done = r.done; held = held }

abbrev pub handed : Recording → Recording
handed r = record { done = r.done + length r.held; held = [] }

-- the log has more entries
pub grown : (r : Recording) (seen seen' : List Entry) → Follows r seen → StartsWith seen' seen → Follows r seen'
grown r seen seen' f more = (f.0, f.1, (f.2.0 ++ more.0, more.1 ∙ (ap (λ es. es ++ more.0) f.2.1 ∙ append_assoc (f.0 ++ r.held) f.2.0 more.0)))

-- what was kept was handed on
pub handed-on : (r : Recording) (seen : List Entry) → Follows r seen → Follows (handed r) seen
handed-on r seen f = (f.0 ++ r.held, length-append f.0 r.held ∙ ap (λ n. n + length r.held) f.1, (f.2.0, f.2.1 ∙ ap (λ es. es ++ f.2.0) (sym (append-nil (f.0 ++ r.held)))))

module _ (r : Recording) (seen : List Entry) (f : Follows r seen) (none : r.held ≡ []) where
  split : seen ≡ f.0 ++ f.2.0
  split = f.2.1 ∙ ap (λ es. es ++ f.2.0) (ap (λ hs. f.0 ++ hs) none ∙ append-nil f.0)

  rest : drop r.done seen ≡ f.2.0
  rest = ap (drop r.done) split ∙ (ap (λ n. drop n (f.0 ++ f.2.0)) (sym f.1) ∙ drop-append_seam f.0 f.2.0)

  -- the entries behind those that were handed on were taken
  pub taken : Follows (after r (drop r.done seen)) seen
  taken = (f.0, f.1, ([], split ∙ (ap (λ es. f.0 ++ es) (sym rest) ∙ sym (append-nil (f.0 ++ drop r.done seen)))))

  pub count : r.done + length (drop r.done seen) ≡ length seen
  count = ap (λ n. n + length (drop r.done seen)) (sym f.1) ∙ (ap (λ (es : List Entry). length f.0 + length es) rest ∙ (sym (length-append f.0 f.2.0) ∙ ap (λ (es : List Entry). length es) (sym split)))

-- what was kept and what lies behind it are all that was to be handed on
pub whole : (r : Recording) (seen : List Entry) → Follows r seen → r.held ++ drop (r.done + length r.held) seen ≡ drop r.done seen
unfolding handed-on
whole r seen f =
    let split : seen ≡ f.0 ++ (r.held ++ f.2.0) = f.2.1 ∙ append_assoc f.0 r.held f.2.0 in
    let all : drop r.done seen ≡ r.held ++ f.2.0 = ap (drop r.done) split ∙ (ap (λ n. drop n (f.0 ++ (r.held ++ f.2.0))) (sym f.1) ∙ drop-append_seam f.0 (r.held ++ f.2.0)) in
    ap (λ es. r.held ++ es) (rest (handed r) seen (handed-on r seen f) refl) ∙ sym all

-- the seat saw no more
pub saw-nothing : (s : SeatView) → OnlySaw s s
saw-nothing s = (([], sym (append-nil s.seen)), refl)

-- ---- what was kept is handed on, and then what was taken; the log has more entries meanwhile

module _ (r one : Recording) (seen seen' : List Entry) (f : Follows r seen) (more : StartsWith seen' seen) (first : one ≡ handed r) where
  -- what was kept was handed on
  pub between : Follows one seen'
  between = subst (λ (x : Recording). Follows x seen') (sym first) (handed-on r seen' (grown r seen seen' f more))

  nothing-held : one.held ≡ []
  nothing-held = ap (λ (x : Recording). x.held) first

  -- the entries that were taken come next
  pub next : (from : ℕ) (entries : List Entry) → from ≡ one.done → entries ≡ drop from seen' → entries ≡ drop one.done seen'
  next from entries at is = is ∙ ap (λ (n : ℕ). drop n seen') at

  pub kept-on : (entries : List Entry) → entries ≡ drop one.done seen' → Follows (after one entries) seen'
  kept-on entries is = subst (λ (es : List Entry). Follows (after one es) seen') (sym is) (taken one seen' between nothing-held)

  pub counted : (entries : List Entry) → entries ≡ drop one.done seen' → one.done + length entries ≡ length seen'
  counted entries is = ap (λ (es : List Entry). one.done + length es) is ∙ count one seen' between nothing-held

  pub all-handed : (entries : List Entry) → entries ≡ drop one.done seen' → r.held ++ entries ≡ drop r.done seen'
  all-handed entries is = ap (λ (es : List Entry). r.held ++ es) (is ∙ ap (λ (x : Recording). drop x.done seen') first) ∙ whole r seen' (grown r seen seen' f more)

  -- all was handed on
  pub over : (entries : List Entry) (two : Recording) → entries ≡ drop one.done seen' → two ≡ handed (after one entries) → Follows two seen' × (two ≡ record { done = length seen'; held = [] })
  over entries two is last =
      let at : ℕ → Recording = λ n. record { done = n; held = [] } in (
        subst (λ (x : Recording). Follows x seen') (sym last) (handed-on (after one entries) seen' (kept-on entries is)),
        last ∙ ap at (counted entries is),
      )
