-- A line that spells a step is read as that step.
use Rattle.std.proofs.Common.{◌≡◌, ℕ, ◌+◌, ◌<◌, ◌≤◌, ◌^◌, Bool, true, false, ◌&&◌, ◌||◌, List, [], ◌∷◌, ◌++◌, codes, Option, Some, None, Result, Ok, Err, IsErrAnd, IfOk, refl, sym, ap, ◌∙◌, arith, subst}
use Rattle.std.specs.Bool.{MatchBool}
use Rattle.std.specs.Prelude.{◌==◌, nat_le, decimal, IsTrue, if◌then◌else◌, MatchResult}
use Rattle.std.proofs.lemmas.Bool.{and_parts, and_from}
use Rattle.mdb_base.specs.AddressReading.{until, beyond}
use Rattle.mdb_base.specs.Spelling.{address}
use Rattle.mdb_base.specs.declared.address.ServerAddress.{ServerAddress}
use Rattle.mdb_log.specs.declared.step.Step.{Step}
use Rattle.mdb_log.specs.declared.step.Act.{Act}
use Rattle.mdb_log.specs.declared.step.Act.TheVariants as act
use Rattle.mdb_log.specs.declared.step.Use.{Use}
use Rattle.mdb_lines.specs.Grammar.{is_act, is_open, is_printable}
use Rattle.mdb_lines.specs.Script.{Spells}
use Rattle.mdb_lines.specs.Spelling.{use_text, spelling}
use Rattle.mdb_parts.specs.declared.line_error.LineError.{LineError}
use Rattle.mdb_parts.specs.declared.line_error.LineError.TheVariants.{Bad, OutOfMemory}
use Rattle.mdb_parts.specs.Reading.{Gives, lacks}
use Rattle.mdb_parts.proofs.TextLemmas.{decimal_lacks}
use Rattle.mdb_proxies.specs.Passing.{is_passed}
use Rattle.mdb_proxies.specs.declared.step.ProxyAct.{ProxyAct}
use Rattle.mdb_proxies.specs.declared.step.ProxyAct.TheVariants.{Ask, Collect, Finish, Pass}
use Rattle.mdb_proxies.specs.declared.step.ProxyStep.{ProxyStep}
use Rattle.mdb_proxy_lines.specs.declared.line_reading.Word.{Word}
use Rattle.mdb_proxy_lines.specs.declared.line_reading.Word.TheVariants as word
use Rattle.mdb_proxy_lines.specs.ProxyLines.{is_share, act_text, keeps_rules, SpellsStep}
use Rattle.mdb_proxy_lines.specs.ProxyForms.{word_of, IsOther, ReadsOther}

-- ---- the first word

-- what stands behind it
pub ask-behind : (line : List ℕ) (m t n : ℕ) (a : ServerAddress) → SpellsStep line (record { moment = m; act = Ask t n a })
    → beyond 32 line ≡ codes " " ++ (decimal m ++ (codes " " ++ (decimal t ++ (codes " " ++ (decimal n ++ (codes " " ++ address a))))))
unfolding beyond
ask-behind line m t n a s = ap (beyond 32) s.text

pub finish-behind : (line : List ℕ) (m n : ℕ) (used : Use) → SpellsStep line (record { moment = m; act = Finish n used })
    → beyond 32 line ≡ codes " " ++ (decimal m ++ (codes " " ++ (decimal n ++ (codes " " ++ use_text used))))
unfolding beyond
finish-behind line m n used s = ap (beyond 32) s.text

abbrev kind : ProxyAct → Word
kind (Ask t n a) = word.Ask
kind (Finish n used) = word.Finish
kind _ = word.Other

pass-word : (m : ℕ) (a : Act) → is_passed a ≡ true → word_of (until 32 (spelling (record { moment = m; act = a }))) ≡ word.Other
unfolding until word_of
pass-word m act.Claim e = refl
pass-word m (act.Established p c how) e = refl
pass-word m (act.Failed p c at error) e = refl
pass-word m (act.Error r error) e = refl
pass-word m (act.Hello a p came) e = refl
pass-word m (act.Beat a p) e = refl
pass-word m (act.Beaten a p n came) e = refl
pass-word m (act.Rtt a p n) e = refl
pass-word m (act.Hosts hosts) e = refl
pass-word m (act.ClusterTime time) e = refl
pass-word m (act.Want w) e = refl
pass-word m (act.Unwant w) e = refl
pass-word m act.Stop e = refl
pass-word m (act.Expire a) e = refl
pass-word m _ e = absurd (cc)

act-word : (m : ℕ) (a : ProxyAct) → keeps_rules m a ≡ true → word_of (until 32 (act_text m a)) ≡ kind a
unfolding until word_of
act-word m (Ask t n a) e = refl
act-word m (Collect n) e = refl
act-word m (Finish n used) e = refl
act-word m (Pass a) e = pass-word m a (and_parts (is_passed a) (is_act m a) e).0

line-word : (line : List ℕ) (s : ProxyStep) → SpellsStep line s → word_of (until 32 line) ≡ kind s.act
line-word line s h = ap (λ (xs : List ℕ). word_of (until 32 xs)) h.text ∙ act-word s.moment s.act h.rules

-- a line that begins as an ask spells nothing but an ask
pub read-ask : (line : List ℕ) (r : Result ProxyStep LineError) → word_of (until 32 line) ≡ word.Ask
    → ((m t n : ℕ) (a : ServerAddress) → SpellsStep line (record { moment = m; act = Ask t n a }) → Gives (record { moment = m; act = Ask t n a }) r)
    → (s : ProxyStep) → SpellsStep line s → Gives s r
read-ask line r e only s h = go s.moment s.act h (line-word line s h)
  where
    go : (m : ℕ) (a : ProxyAct) → SpellsStep line (record { moment = m; act = a }) → word_of (until 32 line) ≡ kind a → Gives (record { moment = m; act = a }) r
    go m (Ask t n a) h k = only m t n a h
    go m (Collect n) h k = absurd (cc)
    go m (Finish n used) h k = absurd (cc)
    go m (Pass a) h k = absurd (cc)

-- one that begins as a finish nothing but a finish
pub read-finish : (line : List ℕ) (r : Result ProxyStep LineError) → word_of (until 32 line) ≡ word.Finish
    → ((m n : ℕ) (used : Use) → SpellsStep line (record { moment = m; act = Finish n used }) → Gives (record { moment = m; act = Finish n used }) r)
    → (s : ProxyStep) → SpellsStep line s → Gives s r
read-finish line r e only s h = go s.moment s.act h (line-word line s h)
  where
    go : (m : ℕ) (a : ProxyAct) → SpellsStep line (record { moment = m; act = a }) → word_of (until 32 line) ≡ kind a → Gives (record { moment = m; act = a }) r
    go m (Ask t n a) h k = absurd (cc)
    go m (Collect n) h k = absurd (cc)
    go m (Finish n used) h k = only m n used h
    go m (Pass a) h k = absurd (cc)

-- and every other line neither
pub read-other : (line : List ℕ) (r : Result ProxyStep LineError) → word_of (until 32 line) ≡ word.Other → ReadsOther line r → (s : ProxyStep) → SpellsStep line s → Gives s r
read-other line r e only s h = go s.moment s.act h (line-word line s h)
  where
    go : (m : ℕ) (a : ProxyAct) → SpellsStep line (record { moment = m; act = a }) → word_of (until 32 line) ≡ kind a → Gives (record { moment = m; act = a }) r
    go m (Ask t n a) h k = absurd (cc)
    go m (Collect n) h k = only.collects m n h
    go m (Finish n used) h k = absurd (cc)
    go m (Pass a) h k = only.passes m a h

-- ---- lines of the driver

-- a printable line has a printable rest
pub rest-printable : (line : List ℕ) → is_printable line ≡ true → is_printable (beyond 32 line) ≡ true
unfolding beyond
rest-printable [] e = refl
rest-printable (b ∷ bs) e = on (b == 32) (rest-printable bs (and_parts (nat_le 32 b && nat_le b 126) (is_printable bs) e).1)
  where
    on : (t : Bool) → is_printable (beyond 32 bs) ≡ true → is_printable (if t then b ∷ bs else beyond 32 bs) ≡ true
    on true f = e
    on false f = f

-- the rest of a finish is that of a return
pub return-spells : (text : List ℕ) (m n : ℕ) (used : Use) → is_printable text ≡ true → m < 2 ^ 64 → n < 2 ^ 32 → text ≡ codes " " ++ (decimal m ++ (codes " " ++ (decimal n ++ (codes " " ++ use_text used))))
    → Spells 2 (codes "return" ++ text) (record { moment = m; act = act.Return n used })
return-spells text m n used p lm ln e = record { types = (lm, ln); rules = refl; place = refl; printable = p; text = ap (λ (xs : List ℕ). codes "return" ++ xs) e }

-- a collect
pub collect-spells : (line : List ℕ) (m n : ℕ) → SpellsStep line (record { moment = m; act = Collect n }) → Spells 2 line (record { moment = m; act = act.Collect n })
collect-spells line m n h = record { types = (h.moment, h.types); rules = refl; place = refl; printable = h.printable; text = h.text }

pub collect-spelled : (line : List ℕ) (m n : ℕ) → Spells 2 line (record { moment = m; act = act.Collect n }) → SpellsStep line (record { moment = m; act = Collect n })
collect-spelled line m n h = record { moment = h.types.0; types = h.types.1; rules = refl; printable = h.printable; text = h.text }

-- an act that is passed
passed-opens : (a : Act) → is_passed a ≡ true → is_open a ≡ false
passed-opens (act.Open o) e = absurd (cc)
passed-opens _ e = refl

pub pass-spells : (line : List ℕ) (m : ℕ) (a : Act) → SpellsStep line (record { moment = m; act = Pass a }) → Spells 2 line (record { moment = m; act = a })
pass-spells line m a h =
    let p = and_parts (is_passed a) (is_act m a) h.rules in
    record { types = (h.moment, h.types); rules = p.1; place = passed-opens a p.0; printable = h.printable; text = h.text }

pub pass-spelled : (line : List ℕ) (m : ℕ) (a : Act) → is_passed a ≡ true → Spells 2 line (record { moment = m; act = a }) → SpellsStep line (record { moment = m; act = Pass a })
pass-spelled line m a e h = record { moment = h.types.0; types = h.types.1; rules = and_from (is_passed a) (is_act m a) e h.rules; printable = h.printable; text = h.text }

-- ---- what is made of the act of a line of the driver

pub other-refused : (m : ℕ) (a : Act) → ((n : ℕ) → a ≡ act.Collect n → ⊥) → is_passed a ≡ false → IsOther m a (Err Bad)
other-refused m (act.Collect n) ne e = absurd (ne n refl)
other-refused m a ne e = subst (λ (b : Bool). MatchBool b (◌≡◌ {A = Result ProxyStep LineError} (Err Bad) (Ok (record { moment = m; act = Pass a }))) (◌≡◌ {A = Result ProxyStep LineError} (Err Bad) (Err Bad))) (sym e) refl

pub other-passed : (m : ℕ) (a : Act) → ((n : ℕ) → a ≡ act.Collect n → ⊥) → is_passed a ≡ true → IsOther m a (Ok (record { moment = m; act = Pass a }))
other-passed m (act.Collect n) ne e = absurd (ne n refl)
other-passed m a ne e =
    subst (λ (b : Bool). MatchBool b (◌≡◌ {A = Result ProxyStep LineError} (Ok (record { moment = m; act = Pass a })) (Ok (record { moment = m; act = Pass a }))) (◌≡◌ {A = Result ProxyStep LineError} (Ok (record { moment = m; act = Pass a })) (Err Bad))) (sym e) refl

same-step : (s t : ProxyStep) → ◌≡◌ {A = Result ProxyStep LineError} (Ok s) (Ok t) → t ≡ s
same-step s t e = cc

no-step : (s : ProxyStep) → ◌≡◌ {A = Result ProxyStep LineError} (Ok s) (Err Bad) → ⊥
no-step s e = cc

passed-found : (line : List ℕ) (m : ℕ) (a : Act) (s : ProxyStep) (b : Bool) → is_passed a ≡ b → Spells 2 line (record { moment = m; act = a })
    → MatchBool b (◌≡◌ {A = Result ProxyStep LineError} (Ok s) (Ok (record { moment = m; act = Pass a }))) (◌≡◌ {A = Result ProxyStep LineError} (Ok s) (Err Bad)) → SpellsStep line s
passed-found line m a s true p h e = subst (SpellsStep line) (same-step s (record { moment = m; act = Pass a }) e) (pass-spelled line m a p h)
passed-found line m a s false p h e = absurd (no-step s e)

step-found : (line : List ℕ) (m : ℕ) (a : Act) (s : ProxyStep) → Spells 2 line (record { moment = m; act = a }) → IsOther m a (Ok s) → SpellsStep line s
step-found line m (act.Collect n) s h e = subst (SpellsStep line) (same-step s (record { moment = m; act = Collect n }) e) (collect-spelled line m n h)
step-found line m a s h e = passed-found line m a s (is_passed a) refl h e

-- what is made of it is spelled by the line
pub other-found : (line : List ℕ) (s : Step) (r : Result ProxyStep LineError) → Spells 2 line s → IsOther s.moment s.act r → IfOk r (SpellsStep line)
other-found line s (Ok t) h e = step-found line s.moment s.act t h e
other-found line s (Err x) h e = tt

given : (s : ProxyStep) (r : Result ProxyStep LineError) → r ≡ Ok s → Gives s r
given s r e = subst (Gives s) (sym e) refl

passed-is : (m : ℕ) (a : Act) (r : Result ProxyStep LineError) → is_passed a ≡ true → IsOther m a r → r ≡ Ok (record { moment = m; act = Pass a })
passed-is m (act.Collect n) r p e = absurd (let k : false ≡ true = p in cc)
passed-is m a r p e = subst (λ (b : Bool). MatchBool b (r ≡ Ok (record { moment = m; act = Pass a })) (r ≡ Err Bad)) p e

-- and what the line spells is what is made of it
pub other-reads : (line : List ℕ) (s : Step) (r : Result ProxyStep LineError) → ((t : Step) → Spells 2 line t → s ≡ t) → IsOther s.moment s.act r → ReadsOther line r
other-reads line s r only e = record {
  collects = λ m n h. (
      let same : s ≡ record { moment = m; act = act.Collect n } = only (record { moment = m; act = act.Collect n }) (collect-spells line m n h) in
      given (record { moment = m; act = Collect n }) r (subst (λ (t : Step). IsOther t.moment t.act r) same e));
  passes = λ m a h. (
      let same : s ≡ record { moment = m; act = a } = only (record { moment = m; act = a }) (pass-spells line m a h) in
      given (record { moment = m; act = Pass a }) r (passed-is m a r (and_parts (is_passed a) (is_act m a) h.rules).0 (subst (λ (t : Step). IsOther t.moment t.act r) same e)));
}

-- the parts of a return
pub return-is : (s : Step) (m n r : ℕ) (used u : Use) → s ≡ record { moment = m; act = act.Return n used } → s.act ≡ act.Return r u → ◌≡◌ {A = ℕ × ℕ × Use} (s.moment, r, u) (m, n, used)
return-is s m n r used u e f =
    let acts : act.Return r u ≡ act.Return n used = sym f ∙ ap (λ (t : Step). t.act) e in
    let i : r ≡ n = cc in
    let j : u ≡ used = cc in
    let one : ℕ → ℕ × ℕ × Use = λ x. (x, r, u) in
    let two : ℕ → ℕ × ℕ × Use = λ x. (m, x, u) in
    let three : Use → ℕ × ℕ × Use = λ x. (m, n, x) in
    ap one (ap (λ (t : Step). t.moment) e) ∙ (ap two i ∙ ap three j)

-- ---- shares

pub share-lacks : (n : ℕ) → is_share n ≡ true → lacks 44 (decimal n) ≡ true
share-lacks n e = decimal_lacks 44 n (omega arith) (narrow n e)
  where
    narrow : (n : ℕ) → is_share n ≡ true → n < 2 ^ 64
    narrow n e = grind arith

-- lack of memory is handed on
pub handed_on : {A : Type 0} (P : A → Type 0) (r : Result A LineError) (e : LineError) → e ≡ OutOfMemory → IsErrAnd r (λ y. y ≡ e) → MatchResult r P (λ y. y ≡ OutOfMemory)
handed_on P (Ok y) e wanting h = absurd h
handed_on P (Err y) e wanting h = h ∙ wanting
