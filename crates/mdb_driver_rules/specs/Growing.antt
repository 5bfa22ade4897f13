-- How often the topology was published only grows.
use Rattle.std.proofs.Common.{ℕ, ◌≡◌, ◌≤◌, ◌+◌, List, [], ◌∷◌, ◌++◌, is_some, refl, sym, subst, arith}
use Rattle.std.proofs.Math.Nat.{le_refl}
use Rattle.mdb_base.specs.declared.options.Options.{Options}
use Rattle.mdb_events.specs.declared.fact.Fact.{Fact}
use Rattle.mdb_log.specs.declared.log.Entry.{Entry}
use Rattle.mdb_log.specs.declared.step.Step.{Step}
use Rattle.mdb_log.specs.declared.reply.Reply.{Reply}
use Rattle.mdb_log.specs.declared.reply.Reply.TheVariants.{Refused}
use Rattle.mdb_log.specs.Connections.{one_if}
use Rattle.mdb_log.specs.History.{Item, did, made, with_facts, with_answer, with_entries, history_of}
use Rattle.mdb_driver_rules.specs.Description.{published, rule_after}
use Rattle.mdb_driver_rules.specs.Lines.{options_in, publications}

-- facts publish nothing
told-facts : (o : Options) (m : ℕ) (fs : List Fact) (k : List Item) → published o (with_facts m fs k) ≡ published o k
told-facts o m [] k = refl
told-facts o m (f ∷ fs) k = told-facts o m fs (made m f ∷ k)

more : (n k : ℕ) → n ≤ n + k
more n k = omega arith

accepted-grows : (o : Options) (step : Step) (reply : Reply) (facts : List Fact) (h : List Item) → published o h ≤ published o (with_facts step.moment facts (did step reply ∷ h))
accepted-grows o step reply facts h = subst (λ n. published o h ≤ n) (sym (told-facts o step.moment facts (did step reply ∷ h))) (more (published o h) (one_if (is_some (rule_after o h step))))

answer-grows : (o : Options) (step : Step) (reply : Reply) (facts : List Fact) (h : List Item) → published o h ≤ published o (with_answer step reply facts h)
answer-grows o step (Refused why) facts h = le_refl (published o h)
answer-grows o step _ facts h = accepted-grows o step _ facts h

entries-grow : (o : Options) (es : List Entry) (h : List Item) → published o h ≤ published o (with_entries es h)
entries-grow o [] h = le_refl (published o h)
entries-grow o (e ∷ es) h =
    let a : published o h ≤ published o (with_answer e.step e.reply e.facts h) = answer-grows o e.step e.reply e.facts h in
    let b : published o (with_answer e.step e.reply e.facts h) ≤ published o (with_entries es (with_answer e.step e.reply e.facts h)) = entries-grow o es (with_answer e.step e.reply e.facts h) in
    omega (arith, a, b)

pub with-entries : (es fs : List Entry) (h : List Item) → with_entries (es ++ fs) h ≡ with_entries fs (with_entries es h)
with-entries [] fs h = refl
with-entries (e ∷ es) fs h = with-entries es fs (with_answer e.step e.reply e.facts h)

pub publications-grow : (log later : List Entry) → publications log ≤ publications (log ++ later)
publications-grow [] later = omega arith
publications-grow (first ∷ log) later =
    let o : Options = options_in first.step.act in
    subst (λ k. published o (history_of (first ∷ log)) ≤ published o k) (sym (with-entries (first ∷ log) later [])) (entries-grow o later (history_of (first ∷ log)))
