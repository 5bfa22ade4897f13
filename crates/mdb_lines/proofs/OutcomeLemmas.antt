-- What stands behind the pool and the duration in the lines of monitors.
use Rattle.std.proofs.Common.{◌≡◌, ℕ, ◌<◌, ◌^◌, Bool, true, false, List, ◌++◌, Some, None, decimal, refl, sym, ap, ◌∙◌, codes}
use Rattle.std.proofs.lemmas.List.{append_cancel_left}
use Rattle.mdb_base.specs.AddressReading.{after}
use Rattle.mdb_base.specs.ErrorText.{error_text}
use Rattle.mdb_base.specs.declared.error.Error.{Error}
use Rattle.mdb_base.proofs.Words.{after_here}
use Rattle.mdb_hello.specs.declared.response.HelloCommandResponse.{HelloCommandResponse}
use Rattle.mdb_log.specs.declared.checked.HelloResult.{HelloResult}
use Rattle.mdb_log.specs.declared.checked.HelloResult.TheVariants as hello
use Rattle.mdb_log.specs.declared.checked.BeatenResult.{BeatenResult}
use Rattle.mdb_log.specs.declared.checked.BeatenResult.TheVariants as beaten
use Rattle.mdb_parts.specs.ErrorParts.{is_error, IsErrorOfTypes}
use Rattle.mdb_parts.specs.Reading.{Follows}
use Rattle.mdb_parts.proofs.Same.{number_same}
use Rattle.mdb_parts.proofs.SameErrors.{error_same}
use Rattle.mdb_replies.specs.ReplyParts.{fields_text, is_reply, IsReplyOfTypes}
use Rattle.mdb_replies.proofs.ReplyLemmas.{fields_follow}
use Rattle.mdb_replies.proofs.SameReplies.{reply_same}
use Rattle.mdb_lines.specs.Grammar.{is_hello, is_beaten}
use Rattle.mdb_lines.specs.Spelling.{hello_text, beaten_text}
use Rattle.mdb_lines.specs.Types.{IsHelloOfTypes, IsBeatenOfTypes}

some_same : {A : Type 0} (a b : A) → Some a ≡ Some b → a ≡ b
some_same a b h = cc

pub hello_follows : (came : HelloResult) → Follows (hello_text came)
hello_follows (hello.Ok rtt r) = refl
hello_follows (hello.Err e) = refl

pub beaten_follows : (came : BeatenResult) → Follows (beaten_text came)
beaten_follows (beaten.Ok r more) = refl
beaten_follows (beaten.Err e) = refl
beaten_follows (beaten.Cancelled e) = refl

-- an error behind its space
abbrev pub tail : Error → List ℕ
tail e = codes " " ++ error_text e

-- where a line begins with ok, or with err, and where not

no_ok_err : (e : Error) → after (codes " ok") (codes " err" ++ tail e) ≡ None
unfolding after
no_ok_err e = refl

no_ok_cancelled : (e : Error) → after (codes " ok") (codes " cancelled" ++ tail e) ≡ None
unfolding after
no_ok_cancelled e = refl

no_err_cancelled : (e : Error) → after (codes " err") (codes " cancelled" ++ tail e) ≡ None
unfolding after
no_err_cancelled e = refl

pub record IsAnswered (came : HelloResult) (rest : List ℕ) : Type 0 where
  pub rtt : ℕ
  pub reply : HelloCommandResponse
  pub is : came ≡ hello.Ok rtt reply
  pub fits : rtt < 2 ^ 64
  pub types : IsReplyOfTypes reply
  pub rule : is_reply reply ≡ true
  pub text : rest ≡ codes " rtt=" ++ (decimal rtt ++ fields_text reply false)

pub hello_answered : (came : HelloResult) (text rest : List ℕ) → IsHelloOfTypes came → is_hello came ≡ true → Some rest ≡ after (codes " ok") text → text ≡ hello_text came → IsAnswered came rest
hello_answered (hello.Ok rtt r) text rest types rule found e =
    let inner = codes " rtt=" ++ (decimal rtt ++ fields_text r false) in
    record { rtt = rtt; reply = r; is = refl; fits = types.0; types = types.1; rule = rule; text = some_same rest inner (found ∙ ap (after (codes " ok")) e ∙ after_here (codes " ok") inner) }
hello_answered (hello.Err x) text rest types rule found e = let f = found ∙ ap (after (codes " ok")) e ∙ no_ok_err x in absurd (cc)

pub record IsUnanswered (came : HelloResult) (text : List ℕ) : Type 0 where
  pub error : Error
  pub is : came ≡ hello.Err error
  pub types : IsErrorOfTypes error
  pub rule : is_error error ≡ true
  pub text_is : text ≡ codes " err" ++ tail error

pub hello_unanswered : (came : HelloResult) (text : List ℕ) → IsHelloOfTypes came → is_hello came ≡ true → None ≡ after (codes " ok") text → text ≡ hello_text came → IsUnanswered came text
hello_unanswered (hello.Ok rtt r) text types rule none e =
    let inner = codes " rtt=" ++ (decimal rtt ++ fields_text r false) in
    let f = none ∙ ap (after (codes " ok")) e ∙ after_here (codes " ok") inner in absurd (cc)
hello_unanswered (hello.Err x) text types rule none e = record { error = x; is = refl; types = types; rule = rule; text_is = e }

pub record IsSuccess (came : BeatenResult) (rest : List ℕ) : Type 0 where
  pub reply : HelloCommandResponse
  pub more : Bool
  pub is : came ≡ beaten.Ok reply more
  pub types : IsReplyOfTypes reply
  pub rule : is_reply reply ≡ true
  pub text : rest ≡ fields_text reply more

pub beaten_success : (came : BeatenResult) (text rest : List ℕ) → IsBeatenOfTypes came → is_beaten came ≡ true → Some rest ≡ after (codes " ok") text → text ≡ beaten_text came → IsSuccess came rest
beaten_success (beaten.Ok r more) text rest types rule found e =
    let inner = fields_text r more in
    record { reply = r; more = more; is = refl; types = types; rule = rule; text = some_same rest inner (found ∙ ap (after (codes " ok")) e ∙ after_here (codes " ok") inner) }
beaten_success (beaten.Err x) text rest types rule found e = let f = found ∙ ap (after (codes " ok")) e ∙ no_ok_err x in absurd (cc)
beaten_success (beaten.Cancelled x) text rest types rule found e = let f = found ∙ ap (after (codes " ok")) e ∙ no_ok_cancelled x in absurd (cc)

pub record IsFailure (came : BeatenResult) (rest : List ℕ) : Type 0 where
  pub error : Error
  pub is : came ≡ beaten.Err error
  pub types : IsErrorOfTypes error
  pub rule : is_error error ≡ true
  pub text : rest ≡ tail error

pub beaten_failure : (came : BeatenResult) (text rest : List ℕ) → IsBeatenOfTypes came → is_beaten came ≡ true → None ≡ after (codes " ok") text → Some rest ≡ after (codes " err") text → text ≡ beaten_text came → IsFailure came rest
beaten_failure (beaten.Ok r more) text rest types rule none found e =
    let f = none ∙ ap (after (codes " ok")) e ∙ after_here (codes " ok") (fields_text r more) in absurd (cc)
beaten_failure (beaten.Err x) text rest types rule none found e =
    record { error = x; is = refl; types = types; rule = rule; text = some_same rest (tail x) (found ∙ ap (after (codes " err")) e ∙ after_here (codes " err") (tail x)) }
beaten_failure (beaten.Cancelled x) text rest types rule none found e = let f = found ∙ ap (after (codes " err")) e ∙ no_err_cancelled x in absurd (cc)

pub record IsCancelled (came : BeatenResult) (text : List ℕ) : Type 0 where
  pub error : Error
  pub is : came ≡ beaten.Cancelled error
  pub types : IsErrorOfTypes error
  pub rule : is_error error ≡ true
  pub text_is : text ≡ codes " cancelled" ++ tail error

pub beaten_cancelled : (came : BeatenResult) (text : List ℕ) → IsBeatenOfTypes came → is_beaten came ≡ true → None ≡ after (codes " ok") text → None ≡ after (codes " err") text → text ≡ beaten_text came → IsCancelled came text
beaten_cancelled (beaten.Ok r more) text types rule none no_err e =
    let f = none ∙ ap (after (codes " ok")) e ∙ after_here (codes " ok") (fields_text r more) in absurd (cc)
beaten_cancelled (beaten.Err x) text types rule none no_err e = let f = no_err ∙ ap (after (codes " err")) e ∙ after_here (codes " err") (tail x) in absurd (cc)
beaten_cancelled (beaten.Cancelled x) text types rule none no_err e = record { error = x; is = refl; types = types; rule = rule; text_is = e }

-- what is spelled alike is the same

mixed : {A : Type 0} (rest name other : List ℕ) → name ++ rest ≡ other → after name other ≡ None → A
mixed rest name other e none = let f = sym (after_here name rest) ∙ ap (after name) e ∙ none in absurd (cc)

pub hellos_same : (c d : HelloResult) → IsHelloOfTypes c → IsHelloOfTypes d → is_hello c ≡ true → is_hello d ≡ true → hello_text c ≡ hello_text d → c ≡ d
hellos_same (hello.Ok n r) (hello.Ok k q) tc td hc hd e =
    let p = number_same n k (fields_text r false) (fields_text q false) tc.0 td.0 (fields_follow r false) (fields_follow q false) (append_cancel_left (codes " ok rtt=") _ _ e) in
    let s = reply_same r q false false tc.1 td.1 hc hd p.1 in
    rw (p.0, s.0) refl
hellos_same (hello.Ok n r) (hello.Err y) tc td hc hd e = mixed (codes " rtt=" ++ (decimal n ++ fields_text r false)) (codes " ok") (hello_text (hello.Err y)) e (no_ok_err y)
hellos_same (hello.Err x) (hello.Ok k q) tc td hc hd e = mixed (codes " rtt=" ++ (decimal k ++ fields_text q false)) (codes " ok") (hello_text (hello.Err x)) (sym e) (no_ok_err x)
hellos_same (hello.Err x) (hello.Err y) tc td hc hd e = ap hello.Err (error_same x y tc td hc hd (append_cancel_left (codes " err ") (error_text x) (error_text y) e))

pub checks_same : (c d : BeatenResult) → IsBeatenOfTypes c → IsBeatenOfTypes d → is_beaten c ≡ true → is_beaten d ≡ true → beaten_text c ≡ beaten_text d → c ≡ d
checks_same (beaten.Ok r m) (beaten.Ok q n) tc td hc hd e =
    let s = reply_same r q m n tc td hc hd (append_cancel_left (codes " ok") (fields_text r m) (fields_text q n) e) in
    rw (s.0, s.1) refl
checks_same (beaten.Ok r m) (beaten.Err y) tc td hc hd e = mixed (fields_text r m) (codes " ok") (beaten_text (beaten.Err y)) e (no_ok_err y)
checks_same (beaten.Ok r m) (beaten.Cancelled y) tc td hc hd e = mixed (fields_text r m) (codes " ok") (beaten_text (beaten.Cancelled y)) e (no_ok_cancelled y)
checks_same (beaten.Err x) (beaten.Ok q n) tc td hc hd e = mixed (fields_text q n) (codes " ok") (beaten_text (beaten.Err x)) (sym e) (no_ok_err x)
checks_same (beaten.Err x) (beaten.Err y) tc td hc hd e = ap beaten.Err (error_same x y tc td hc hd (append_cancel_left (codes " err ") (error_text x) (error_text y) e))
checks_same (beaten.Err x) (beaten.Cancelled y) tc td hc hd e = mixed (tail x) (codes " err") (beaten_text (beaten.Cancelled y)) e (no_err_cancelled y)
checks_same (beaten.Cancelled x) (beaten.Ok q n) tc td hc hd e = mixed (fields_text q n) (codes " ok") (beaten_text (beaten.Cancelled x)) (sym e) (no_ok_cancelled x)
checks_same (beaten.Cancelled x) (beaten.Err y) tc td hc hd e = mixed (tail y) (codes " err") (beaten_text (beaten.Cancelled x)) (sym e) (no_err_cancelled x)
checks_same (beaten.Cancelled x) (beaten.Cancelled y) tc td hc hd e = ap beaten.Cancelled (error_same x y tc td hc hd (append_cancel_left (codes " cancelled ") (error_text x) (error_text y) e))
