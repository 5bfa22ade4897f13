-- Steps that lines spell are plain.
use Rattle.std.proofs.Common.{ℕ, ℤ, ◌≡◌, ◌+◌, true, ◌&&◌, List, [], ◌∷◌, ◌++◌, decimal, codes, Option, Some, None, refl, sym, ◌∙◌}
use Rattle.std.specs.List.{AllByRecursion, list_all}
use Rattle.std.proofs.lemmas.Bool.{and_from, and_parts}
use Rattle.std.proofs.lemmas.List.Folds.{list_all-append}
use Rattle.mdb_base.specs.AddressRule.{is_address}
use Rattle.mdb_base.specs.OptionRules.{are_seeds}
use Rattle.mdb_base.specs.ErrorText.{kind_text, labels_text, version_part, error_text}
use Rattle.mdb_base.specs.Spelling.{address}
use Rattle.mdb_base.specs.declared.error.Error.{Error}
use Rattle.mdb_base.specs.declared.options.Options.{Options}
use Rattle.mdb_hello.specs.declared.response.HelloCommandResponse.{HelloCommandResponse}
use Rattle.mdb_log.specs.declared.checked.HelloResult.{HelloResult}
use Rattle.mdb_log.specs.declared.checked.HelloResult.TheVariants as hello
use Rattle.mdb_log.specs.declared.checked.BeatenResult.{BeatenResult}
use Rattle.mdb_log.specs.declared.checked.BeatenResult.TheVariants as beaten
use Rattle.mdb_log.specs.declared.step.Step.{Step}
use Rattle.mdb_log.specs.declared.step.Act.{Act}
use Rattle.mdb_log.specs.declared.step.Act.TheVariants as act
use Rattle.mdb_parts.specs.ErrorParts.{is_error}
use Rattle.mdb_parts.specs.WordRule.{keeps}
use Rattle.mdb_replies.specs.ReplyParts.{is_reply, are_members, are_names, are_versions, are_marks}
use Rattle.mdb_replies.specs.Values.{is_natural}
use Rattle.mdb_lines.specs.Grammar.{is_printable, are_options, is_hello, is_beaten, is_act}
use Rattle.mdb_lines.specs.Script.{Spells, AreAllowed}
use Rattle.mdb_lines.specs.Spelling.{failed_at_text, hello_text, beaten_text, act_text, spelling}
use Rattle.mdb_event_reading.specs.SdamTexts.{is_server_id}
use Rattle.mdb_verdicts.proofs.Plain.{ArePlainAddresses, IsPlainError, IsPlainResponse, IsPlainHello, IsPlainBeaten, IsPlainAct}
use Rattle.mdb_verdicts.proofs.Lists.{all-from}

abbrev Prints : List ℕ → Type 0
Prints text = is_printable text ≡ true

-- what stands behind a text prints too
behind : (text rest : List ℕ) → Prints (text ++ rest) → Prints rest
behind text rest h = (and_parts (is_printable text) (is_printable rest) (sym (list_all-append _ text rest) ∙ h)).1

error-plain : (e : Error) → is_error e ≡ true → Prints (error_text e) → IsPlainError e
error-plain e i h =
    let last = codes " msg=" ++ e.message in
    and_from (is_error e) (is_printable e.message) i
    (behind (codes " msg=") e.message (behind (version_part e.topology_version) last (behind (labels_text e.labels) (version_part e.topology_version ++ last) (behind (kind_text e.kind) (labels_text e.labels ++ (version_part e.topology_version ++ last)) h))))

id-plain : (z : Option ℤ) → keeps is_natural z ≡ true → is_server_id z ≡ true
id-plain None h = refl
id-plain (Some z) h = h

response-plain : (r : HelloCommandResponse) → is_reply r ≡ true → IsPlainResponse r
unfolding is_reply are_marks
response-plain r h =
    let h1 = and_parts (are_members r) _ h in
    let h2 = and_parts (are_names r) _ h1.1 in
    let h3 = and_parts (are_versions r) _ h2.1 in
    let h4 = and_parts (are_marks r) _ h3.1 in
    id-plain r.connection_id (and_parts _ (keeps is_natural r.connection_id) (and_parts _ _ h4.0).1).1

hello-plain : (came : HelloResult) → is_hello came ≡ true → Prints (hello_text came) → IsPlainHello came
hello-plain (hello.Ok rtt r) i h = response-plain r i
hello-plain (hello.Err e) i h = error-plain e i (behind (codes " err ") (error_text e) h)

beaten-plain : (came : BeatenResult) → is_beaten came ≡ true → Prints (beaten_text came) → IsPlainBeaten came
beaten-plain (beaten.Ok r more) i h = response-plain r i
beaten-plain (beaten.Err e) i h = error-plain e i (behind (codes " err ") (error_text e) h)
beaten-plain (beaten.Cancelled e) i h = error-plain e i (behind (codes " cancelled ") (error_text e) h)

seeds-plain : (o : Options) → are_options o ≡ true → ArePlainAddresses o.seeds
unfolding are_options
seeds-plain o i = all-from is_address o.seeds (and_parts (list_all is_address o.seeds) _ (and_parts _ (list_all is_address o.seeds && _) i).1).0

-- a word and what follows the space behind it
next : (word rest : List ℕ) → Prints (word ++ (codes " " ++ rest)) → Prints rest
next word rest h = behind (codes " ") rest (behind word (codes " " ++ rest) h)

spelled-plain : (m : ℕ) (does : Act) → is_act m does ≡ true → Prints (act_text m does) → IsPlainAct does
spelled-plain m (act.Open o) i h = seeds-plain o (and_parts _ (are_options o) i).1
spelled-plain m (act.Failed p c at e) i h =
    let last = failed_at_text at ++ (codes " " ++ error_text e) in
    let h1 = behind (codes "failed ") (decimal m ++ (codes " " ++ (decimal p ++ (codes " " ++ (decimal c ++ last))))) h in
    let h2 = next (decimal m) (decimal p ++ (codes " " ++ (decimal c ++ last))) h1 in
    let h3 = next (decimal p) (decimal c ++ last) h2 in
    error-plain e i (next (failed_at_text at) (error_text e) (behind (decimal c) last h3))
spelled-plain m (act.Error r e) i h =
    let h1 = behind (codes "error ") (decimal m ++ (codes " " ++ (decimal r ++ (codes " " ++ error_text e)))) h in
    error-plain e i (next (decimal r) (error_text e) (next (decimal m) (decimal r ++ (codes " " ++ error_text e)) h1))
spelled-plain m (act.Hello a p came) i h =
    let j = and_parts (is_address a) (is_hello came) i in
    let last = decimal p ++ hello_text came in
    let h1 = behind (codes "hello ") (decimal m ++ (codes " " ++ (address a ++ (codes " " ++ last)))) h in
    let h2 = next (address a) last (next (decimal m) (address a ++ (codes " " ++ last)) h1) in
    (j.0, hello-plain came j.1 (behind (decimal p) (hello_text came) h2))
spelled-plain m (act.Beaten a p n came) i h =
    let j = and_parts (is_address a) (is_beaten came) i in
    let last = decimal n ++ beaten_text came in
    let h1 = behind (codes "beaten ") (decimal m ++ (codes " " ++ (address a ++ (codes " " ++ (decimal p ++ (codes " " ++ last)))))) h in
    let h2 = next (decimal m) (address a ++ (codes " " ++ (decimal p ++ (codes " " ++ last)))) h1 in
    let h3 = next (decimal p) last (next (address a) (decimal p ++ (codes " " ++ last)) h2) in
    (j.0, beaten-plain came j.1 (behind (decimal n) (beaten_text came) h3))
spelled-plain m (act.Beat a p) i h = i
spelled-plain m (act.Hosts hosts) i h = all-from is_address hosts (and_parts (are_seeds hosts) (list_all is_address hosts) i).1
spelled-plain m (act.Clear p service e) i h = absurd (cc)
spelled-plain m _ i h = tt

pub step-plain : (n : ℕ) (line : List ℕ) (s : Step) → Spells n (spelling s) s → IsPlainAct s.act
step-plain n line s h = spelled-plain s.moment s.act h.rules h.printable

-- each step of a script is plain
abbrev pub IsPlainStep : Step → Type 0
IsPlainStep s = IsPlainAct s.act

pub allowed-plain : (n : ℕ) (steps : List Step) → AreAllowed n steps → AllByRecursion IsPlainStep steps
allowed-plain n [] h = tt
allowed-plain n (s ∷ ss) h = (step-plain n (spelling s) s h.0, allowed-plain (n + 1) ss h.1)
