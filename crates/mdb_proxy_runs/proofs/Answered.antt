-- Lines that were answered, one after another.
use Rattle.std.proofs.Common.{◌≡◌, ℕ, ◌+◌, ◌<◌, ◌≤◌, List, [], ◌∷◌, ◌++◌, length, drop, map, Option, Some, None, refl, sym, ap, ◌∙◌, subst, arith, append-nil, append_assoc, length-append, inl, inr}
use Rattle.std.proofs.Math.Seq.{drop-append_seam}
use Rattle.mdb_base.specs.Outside.{Held, Took}
use Rattle.mdb_log.specs.declared.log.Entry.{Entry}
use Rattle.mdb_log.specs.declared.step.Step.{Step}
use Rattle.mdb_log.specs.LegalLog.{IsLegalLog}
use Rattle.mdb_lines.specs.Script.{lines_of, max_input}
use Rattle.mdb_lines.proofs.Loops.{took_nothing, took_more, took_no_more}
use Rattle.mdb_topology.specs.declared.topology.TopologyCore.{TopologyCore}
use Rattle.mdb_topology.specs.Logging.{IsDriverOf}
use Rattle.mdb_proxies.specs.declared.asked.Asked.{Asked}
use Rattle.mdb_proxies.specs.declared.step.ProxyStep.{ProxyStep}
use Rattle.mdb_proxies.specs.declared.step.ProxyReply.{ProxyReply}
use Rattle.mdb_proxies.specs.declared.step.ProxyRefused.{ProxyRefused}
use Rattle.mdb_proxies.specs.Entries.{Enters}
use Rattle.mdb_proxies.specs.Replies.{Replies, refusal_of}
use Rattle.mdb_proxies.specs.View.{ProxyView}
use Rattle.mdb_proxy_lines.specs.ProxyLines.{SpellsStep}
use Rattle.mdb_proxy_lines.specs.ProxyText.{answer_text, line_text}
use Rattle.mdb_proxy_runs.specs.ProxyScripts.{whole, IsLater, AreLater}
use Rattle.mdb_proxy_runs.specs.ProxyRuns.{Steps, Answers, AnswersAll, Begins, LineRuns, LinesRun, Nothing, Played, Ran, opening_text}

-- ---- one step

-- the log has more entries
pub record Grown (log more : List Entry) : Type 0 where
  pub added : List Entry
  pub is : more ≡ log ++ added

replies-grown : (m : ℕ) (shares : List ℕ) (asks : List Asked) (step : Step) (log more : List Entry) (reply : ProxyReply) (own : Option ProxyReply) → Replies m shares asks step log more reply own → Grown log more
replies-grown m shares asks step log more reply (Some o) r = record { added = r.1.0; is = r.1.1 }
replies-grown m shares asks step log more reply None r =
    let n : Enters m shares asks step r.0 log more = r.2 in
    record { added = n.entry ∷ n.goes_on.0; is = n.goes_on.1 ∙ append_assoc log (n.entry ∷ []) n.goes_on.0 }

same-grown : (old new : ProxyView) → new ≡ old → Grown old.log new.log
same-grown old new e = record { added = []; is = ap (λ (v : ProxyView). v.log) e ∙ sym (append-nil old.log) }

steps-grown : (old new : ProxyView) (s : ProxyStep) (reply : ProxyReply) → Steps old new s reply → Grown old.log new.log
steps-grown old new s reply h = go (refusal_of old s) refl
  where
    go : (o : Option ProxyRefused) → refusal_of old s ≡ o → Grown old.log new.log
    go (Some why) i = same-grown old new (h.refused why i).1
    go None i = let p = h.performs i in replies-grown s.moment old.shares new.asks _ old.log new.log reply _ p.replied

-- the entries that a step added
added-is : (log more : List Entry) → Grown log more → more ≡ log ++ drop (length log) more
added-is log more g = g.is ∙ ap (λ (es : List Entry). log ++ es) (sym (ap (drop (length log)) g.is ∙ drop-append_seam log g.added))

pub answered : (old new : ProxyView) (line text : List ℕ) (s : ProxyStep) (reply : ProxyReply) → SpellsStep line s → Steps old new s reply → text ≡ line_text line (answer_text reply) (drop (length old.log) new.log) → Answers old new line text
answered old new line text s reply k h t = record {
  step = s;
  reply = reply;
  added = drop (length old.log) new.log;
  spelled = k;
  steps = h;
  grown = added-is old.log new.log (steps-grown old new s reply h);
  written = t;
}

-- ---- lines

pub answers-push : (old mid new : ProxyView) (ls : List (List ℕ)) (l t u : List ℕ) → AnswersAll old mid ls t → Answers mid new l u → AnswersAll old new (ls ++ l ∷ []) (t ++ u)
answers-push old mid new [] l t u a b = (new, u, [], subst (λ (v : ProxyView). Answers v new l u) a.0 b, (refl, refl), ap (λ (x : List ℕ). x ++ u) a.1 ∙ sym (append-nil u))
answers-push old mid new (x ∷ xs) l t u a b =
    let (v, own, rest, first, more, is) = a in
    (v, own, rest ++ u, first, answers-push v mid new xs l rest u more b, ap (λ (y : List ℕ). y ++ u) is ∙ append_assoc own rest u)

pub lines-push : (ls : List (List ℕ)) (l : List ℕ) (more : List (List ℕ)) → map whole ls ++ whole l ∷ more ≡ map whole (ls ++ l ∷ []) ++ more
lines-push [] l more = refl
lines-push (x ∷ xs) l more = ap (λ (y : List (List ℕ)). whole x ∷ y) (lines-push xs l more)

-- what holds between two lines
pub record Between (input rest : List ℕ) (number : ℕ) (old now : ProxyView) (held new_held : Option Held) (faults new_faults : ℕ) : Type 0 where
  pub lines : List (List ℕ)
  pub text : List ℕ
  pub cut : lines_of input ≡ map whole lines ++ lines_of rest
  pub answers : AnswersAll old now lines text
  pub room : number + length rest ≤ 3 + max_input
  pub at : number ≡ 3 + length lines
  pub later : AreLater (map whole lines)
  pub taken : Took held new_held text
  pub same : new_faults ≡ faults

pub starts : (input : List ℕ) (old : ProxyView) (held : Option Held) (faults : ℕ) → length input ≤ max_input → Between input input 3 old old held held faults faults
starts input old held faults fits = record { lines = []; text = []; cut = refl; answers = (refl, refl); room = omega (arith, fits); at = refl; later = tt; taken = took_nothing held; same = refl }

later-push : (ls : List (List ℕ)) (l : List ℕ) → AreLater (map whole ls) → IsLater (whole l) → AreLater (map whole (ls ++ l ∷ []))
later-push [] l all one = (one, tt)
later-push (x ∷ ls) l all one = (all.0, later-push ls l all.1 one)

pub goes-on : (input rest line behind : List ℕ) (number : ℕ) (old now new : ProxyView) (held mid new_held : Option Held) (faults old_faults new_faults : ℕ) → lines_of rest ≡ whole line ∷ lines_of behind → length behind < length rest
    → Between input rest number old now held mid faults old_faults → LineRuns line now new mid new_held old_faults new_faults → Between input behind (number + 1) old new held new_held faults new_faults
goes-on input rest line behind number old now new held mid new_held faults old_faults new_faults cut shorter b (own, a, taken, same) = record {
  lines = b.lines ++ line ∷ [];
  text = b.text ++ own;
  cut = b.cut ∙ ap (λ (ls : List (List ℕ)). map whole b.lines ++ ls) cut ∙ lines-push b.lines line (lines_of behind);
  answers = answers-push old now new b.lines line b.text own b.answers a;
  room = omega (arith, b.room, shorter);
  at = omega (arith, b.at, length-append b.lines (line ∷ []));
  later = later-push b.lines line b.later (line, a.step, refl, a.spelled);
  taken = took_more held mid new_held b.text own b.taken taken;
  same = same ∙ b.same;
}

pub done : (input rest : List ℕ) (number : ℕ) (old now : ProxyView) (held new_held : Option Held) (faults new_faults : ℕ) → length rest ≡ 0 → Between input rest number old now held new_held faults new_faults → LinesRun input old now held new_held faults new_faults
unfolding lines_of
done input [] number old now held new_held faults new_faults none b = (b.lines, b.text, b.cut ∙ append-nil (map whole b.lines), b.answers, b.taken, b.same)
done input (x ∷ rest) number old now held new_held faults new_faults none b = absurd (omega arith)

-- ---- whole runs

pub nothing : (input : List ℕ) (held : Option Held) (faults : ℕ) → length input ≡ 0 → Nothing input [] held held faults faults
nothing [] held faults none = record { empty = refl; none = refl; taken = took_nothing held; same = refl }
nothing (x ∷ input) held faults none = absurd (omega arith)

pub played : (shares input line behind : List ℕ) (first last : ProxyView) (log : List Entry) (held mid new_held : Option Held) (faults old_faults new_faults : ℕ) → lines_of input ≡ whole line ∷ lines_of behind
    → Begins shares line held mid faults old_faults first → LinesRun behind first last mid new_held old_faults new_faults → log ≡ last.log → (w : TopologyCore) × IsDriverOf w log → IsLegalLog log → Played shares input log held new_held faults new_faults
played shares input line behind first last log held mid new_held faults old_faults new_faults cut (o, opens, is, taken, same) (lines, text, more, answers, took, again) e driver legal = record {
  options = o;
  line = line;
  lines = lines;
  last = last;
  text = text;
  cut = cut ∙ ap (λ (ls : List (List ℕ)). whole line ∷ ls) more;
  opens = opens;
  answers = subst (λ (v : ProxyView). AnswersAll v last lines text) is answers;
  is = e;
  driver = driver;
  legal = legal;
  taken = took_more held mid new_held (opening_text line o) text taken took;
  same = again ∙ same;
}

-- ---- what was taken is flushed

pub ran-more : (input : List ℕ) (log : List Entry) (held mid new_held : Option Held) (faults old_faults new_faults : ℕ) → Ran input log held mid faults old_faults → Took mid new_held [] → new_faults ≡ old_faults → Ran input log held new_held faults new_faults
ran-more input log held mid new_held faults old_faults new_faults ran took e = go ran
  where
    nothing-more : (rest : List ℕ) → Nothing rest log held mid faults old_faults → Nothing rest log held new_held faults new_faults
    nothing-more rest n = record { empty = n.empty; none = n.none; taken = took_no_more held mid new_held [] n.taken took; same = e ∙ n.same }

    played-more : (shares rest : List ℕ) → Played shares rest log held mid faults old_faults → Played shares rest log held new_held faults new_faults
    played-more shares rest p = record {
      options = p.options;
      line = p.line;
      lines = p.lines;
      last = p.last;
      text = p.text;
      cut = p.cut;
      opens = p.opens;
      answers = p.answers;
      is = p.is;
      driver = p.driver;
      legal = p.legal;
      taken = took_no_more held mid new_held (opening_text p.line p.options ++ p.text) p.taken took;
      same = e ∙ p.same;
    }

    go : Ran input log held mid faults old_faults → Ran input log held new_held faults new_faults
    go (inl n) = inl (nothing-more input n)
    go (inr (line, shares, rest, cut, names, inl n)) = inr (line, shares, rest, cut, names, inl (nothing-more rest n))
    go (inr (line, shares, rest, cut, names, inr p)) = inr (line, shares, rest, cut, names, inr (played-more shares rest p))
