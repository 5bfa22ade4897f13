-- The entries of asks that are handed on, one after another.
use Rattle.std.proofs.Common.{◌≡◌, ℕ, List, [], ◌∷◌, ◌++◌, Some, sym, ap, ◌∙◌, subst, append-nil, append_assoc}
use Rattle.mdb_log.specs.declared.log.Entry.{Entry}
use Rattle.mdb_log.specs.declared.reply.Reply.{Reply}
use Rattle.mdb_log.specs.declared.step.Step.{Step}
use Rattle.mdb_proxies.specs.declared.asked.Asked.{Asked}
use Rattle.mdb_proxies.specs.declared.asked.Standing.{Standing}
use Rattle.mdb_proxies.specs.Handing.{Entered, IsRequestAt}
use Rattle.mdb_proxies.specs.Entries.{next_request, AreHandedOn, GoesOn, Enters}
use Rattle.mdb_proxies.specs.Recording.{SameAsks}
use Rattle.mdb_proxies.specs.Tables.{IsBest, standings}
use Rattle.mdb_proxies.proofs.Next.{next-same, best-request}

handed-push : (m : ℕ) (shares : List ℕ) (xs : List Asked) (log es : List Entry) (e : Entry) → AreHandedOn m shares xs log es → e.seat ≡ 0 → next_request m shares xs (log ++ es) ≡ Some e.step → AreHandedOn m shares xs log (es ++ e ∷ [])
handed-push m shares xs log [] e a s n = (s, subst (λ (l : List Entry). next_request m shares xs l ≡ Some e.step) (append-nil log) n, tt)
handed-push m shares xs log (x ∷ es) e a s n = (a.0, a.1, handed-push m shares xs (log ++ x ∷ []) es e a.2 s (subst (λ (l : List Entry). next_request m shares xs l ≡ Some e.step) (sym (append_assoc log (x ∷ []) es)) n))

-- nothing was handed on
pub goes-none : (m : ℕ) (shares : List ℕ) (xs : List Asked) (log more : List Entry) → more ≡ log → GoesOn m shares xs log more
goes-none m shares xs log more e = ([], e ∙ sym (append-nil log), tt)

-- one more was handed on
pub goes-more : (m : ℕ) (shares : List ℕ) (xs : List Asked) (log more again : List Entry) (os ps : List Standing) (i : ℕ) (step : Step) (reply : Reply) → GoesOn m shares xs log more → os ≡ standings more xs
    → IsBest shares os os (Some i) → IsRequestAt m os i step → Entered step reply more again os ps → GoesOn m shares xs log again
goes-more m shares xs log more again os ps i step reply g k b r n =
    let e : Entry = n.entry in
    let next : next_request m shares xs (log ++ g.0) ≡ Some e.step = subst (λ (l : List Entry). next_request m shares xs l ≡ Some e.step) g.1 (best-request m shares xs more os i step k b r ∙ ap Some (sym n.is.1)) in
    (g.0 ++ e ∷ [], n.grown ∙ ap (λ (l : List Entry). l ++ e ∷ []) g.1 ∙ append_assoc log g.0 (e ∷ []), handed-push m shares xs log g.0 e g.2 n.is.0 next)

pub goes-step : (m : ℕ) (shares sh : List ℕ) (xs ys : List Asked) (log more again : List Entry) (os ps : List Standing) (i : ℕ) (step : Step) (reply : Reply) → sh ≡ shares → ys ≡ xs → GoesOn m shares xs log more → os ≡ standings more ys
    → IsBest sh os os (Some i) → IsRequestAt m os i step → Entered step reply more again os ps → GoesOn m shares xs log again
goes-step m shares sh xs ys log more again os ps i step reply e f g k b r n =
    goes-more m shares xs log more again os ps i step reply g (k ∙ ap (standings more) f) (subst (λ (s : List ℕ). IsBest s os os (Some i)) e b) r n

handed-same : (m : ℕ) (shares : List ℕ) (xs ys : List Asked) (log es : List Entry) → SameAsks xs ys → AreHandedOn m shares xs log es → AreHandedOn m shares ys log es
handed-same m shares xs ys log [] s a = tt
handed-same m shares xs ys log (e ∷ es) s a = (a.0, sym (next-same m shares xs ys log s) ∙ a.1, handed-same m shares xs ys (log ++ e ∷ []) es s a.2)

-- what was told changes nothing of what is handed on
pub goes-same : (m : ℕ) (shares : List ℕ) (xs ys : List Asked) (log more : List Entry) → SameAsks xs ys → GoesOn m shares xs log more → GoesOn m shares ys log more
goes-same m shares xs ys log more s g = (g.0, g.1, handed-same m shares xs ys log g.0 s g.2)

pub enters-same : (m : ℕ) (shares : List ℕ) (xs ys : List Asked) (step : Step) (reply : Reply) (log more : List Entry) → SameAsks xs ys → Enters m shares xs step reply log more → Enters m shares ys step reply log more
enters-same m shares xs ys step reply log more s n = record {
  entry = n.entry;
  is = n.is;
  refused = n.refused;
  goes_on = goes-same m shares xs ys (log ++ n.entry ∷ []) more s n.goes_on;
}
