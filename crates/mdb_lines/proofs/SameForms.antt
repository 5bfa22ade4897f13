-- For each kind of line: two steps that it spells are the same.
use Rattle.std.proofs.Common.{◌≡◌, ℕ, ◌<◌, ◌^◌, Bool, true, false, List, [], ◌++◌, drop, Option, Some, None, Ok, option_map, IfSome, refl, sym, ap, ◌∙◌, arith, decimal, codes, replicate, if◌then◌else◌, eqb, length, get_or, ℤ, FitsSigned}
use Rattle.std.specs.Int.{w32, w64}
use Rattle.std.specs.Fmt.{signed_decimal}
use Rattle.std.proofs.lemmas.List.{append_cancel_left}
use Rattle.std.proofs.lemmas.Fmt.{decimal_injective, signed_decimal_injective}
use Rattle.std.proofs.lemmas.Slice.Eq.{bytes_eq-Decides}
use Rattle.mdb_base.specs.AddressRule.{is_address}
use Rattle.mdb_base.specs.Spelling.{address, object_id}
use Rattle.mdb_base.specs.declared.address.ServerAddress.{ServerAddress}
use Rattle.mdb_base.specs.declared.object_id.ObjectId.{ObjectId}
use Rattle.mdb_base.specs.declared.options.Options.{Options}
use Rattle.mdb_log.specs.declared.checked.HelloResult.{HelloResult}
use Rattle.mdb_log.specs.declared.checked.BeatenResult.{BeatenResult}
use Rattle.mdb_log.specs.declared.step.Step.{Step}
use Rattle.mdb_log.specs.declared.step.Act.{Act}
use Rattle.mdb_log.specs.declared.step.Act.TheVariants as act
use Rattle.mdb_log.specs.declared.step.Established.{Established}
use Rattle.mdb_log.specs.declared.step.Use.{Use}
use Rattle.mdb_log.specs.declared.step.Use.TheVariants as use_
use Rattle.mdb_parts.specs.Parts.{parts_text, addresses, flag}
use Rattle.mdb_parts.specs.Reading.{Follows}
use Rattle.mdb_parts.specs.ErrorParts.{is_error, IsErrorOfTypes}
use Rattle.mdb_base.specs.ErrorText.{error_text}
use Rattle.mdb_base.specs.declared.error.Error.{Error}
use Rattle.mdb_base.specs.declared.times.ClusterTime.{ClusterTime}
use Rattle.mdb_log.specs.declared.step.FailedAt.{FailedAt}
use Rattle.std.specs.List.{list_all}
use Rattle.mdb_lines.specs.OpenLine.{open_parts, mode_text}
use Rattle.mdb_lines.specs.Spelling.{use_text, established_parts, failed_at_text, hello_text, beaten_text}
use Rattle.mdb_lines.specs.Grammar.{are_options, is_established, is_zero_id, is_hello, is_beaten}
use Rattle.mdb_lines.specs.Types.{AreOptionsOfTypes, IsEstablishedOfTypes, IsFailedAtOfTypes, IsHelloOfTypes, IsBeatenOfTypes}
use Rattle.mdb_lines.specs.Forms.{ReadsOpen, ReadsMoment, ReadsParty, ReadsAsked, ReadsAddress, ReadsPlace, ReadsTake, ReadsEstablished, ReadsReturn, ReadsFailed, ReadsError, ReadsHello, ReadsBeaten, ReadsBeat, ReadsRtt, ReadsHosts, ReadsTime}
use Rattle.mdb_parts.proofs.TextLemmas.{signed_lacks, short_32}
use Rattle.mdb_parts.proofs.PartLemmas.{parts_follow, words_lack-32, words_lack-64, words_lack-signed, words_lack-id, words_lack-flag}
use Rattle.mdb_lines.proofs.FormLemmas.{server_fits}
use Rattle.mdb_lines.proofs.OpenLemmas.{mode_lacks, open_rules}
use Rattle.mdb_parts.proofs.AddressLemmas.{addresses_lack, address_lacks}
use Rattle.mdb_parts.proofs.SameErrors.{error_same}
use Rattle.mdb_lines.proofs.OutcomeLemmas.{hello_follows, beaten_follows, hellos_same, checks_same}
use Rattle.mdb_lines.proofs.FailureLemmas.{failure_follows, failures_same}
use Rattle.mdb_parts.proofs.Same.{word_same, number_same, address_same, addresses_same, part_same, numbers_same-32, numbers_same-64, numbers_same-signed, ids_same, values_same}

pub moment_same : (done : Act) (m : ℕ) → m < 2 ^ 64 → ReadsMoment done (codes " " ++ decimal m) (Ok (record { moment = m; act = done }))
moment_same done m lm n ln e =
    let p1 = decimal_injective m n lm ln (append_cancel_left (codes " ") (decimal m) (decimal n) e) in
    rw p1 refl

pub party_same : (does : ℕ → Act) (m r : ℕ) → m < 2 ^ 64 → r < 2 ^ 32
    → ReadsParty does (codes " " ++ (decimal m ++ (codes " " ++ decimal r))) (Ok (record { moment = m; act = does r }))
party_same does m r lm lr n q ln lq e =
    let p1 = number_same m n (codes " " ++ decimal r) (codes " " ++ decimal q) lm ln refl refl (append_cancel_left (codes " ") _ _ e) in
    let p2 = decimal_injective r q (omega arith) (omega arith) (append_cancel_left (codes " ") (decimal r) (decimal q) p1.1) in
    rw (p1.0, p2) refl

pub address_line_same : (does : ServerAddress → Act) (m : ℕ) (a : ServerAddress) → m < 2 ^ 64 → is_address a ≡ true
    → ReadsAddress does (codes " " ++ (decimal m ++ (codes " " ++ address a))) (Ok (record { moment = m; act = does a }))
address_line_same does m a lm h n b ln k e =
    let p1 = number_same m n (codes " " ++ address a) (codes " " ++ address b) lm ln refl refl (append_cancel_left (codes " ") _ _ e) in
    let p2 = address_same a b h k (append_cancel_left (codes " ") (address a) (address b) p1.1) in
    rw (p1.0, p2) refl

pub asked_same : (does : ℕ → ServerAddress → Act) (m r : ℕ) (a : ServerAddress) → m < 2 ^ 64 → r < 2 ^ 32 → is_address a ≡ true
    → ReadsAsked does (codes " " ++ (decimal m ++ (codes " " ++ (decimal r ++ (codes " " ++ address a))))) (Ok (record { moment = m; act = does r a }))
asked_same does m r a lm lr h n q b ln lq k e =
    let p1 = number_same m n (codes " " ++ (decimal r ++ (codes " " ++ address a))) (codes " " ++ (decimal q ++ (codes " " ++ address b))) lm ln refl refl (append_cancel_left (codes " ") _ _ e) in
    let p2 = number_same r q (codes " " ++ address a) (codes " " ++ address b) (omega arith) (omega arith) refl refl (append_cancel_left (codes " ") _ _ p1.1) in
    let p3 = address_same a b h k (append_cancel_left (codes " ") _ _ p2.1) in
    rw (p1.0, p2.0, p3) refl

pub place_same : (does : ℕ → ℕ → Act) (m p c : ℕ) → m < 2 ^ 64 → p < 2 ^ 32 → c < 2 ^ 32
    → ReadsPlace does (codes " " ++ (decimal m ++ (codes " " ++ (decimal p ++ (codes " " ++ decimal c))))) (Ok (record { moment = m; act = does p c }))
place_same does m p c lm lp lc n q k ln lq lk e =
    let p1 = number_same m n (codes " " ++ (decimal p ++ (codes " " ++ decimal c))) (codes " " ++ (decimal q ++ (codes " " ++ decimal k))) lm ln refl refl (append_cancel_left (codes " ") _ _ e) in
    let p2 = number_same p q (codes " " ++ decimal c) (codes " " ++ decimal k) (omega arith) (omega arith) refl refl (append_cancel_left (codes " ") _ _ p1.1) in
    let p3 = decimal_injective c k (omega arith) (omega arith) (append_cancel_left (codes " ") (decimal c) (decimal k) p2.1) in
    rw (p1.0, p2.0, p3) refl

pub take_same : (m r p c : ℕ) → m < 2 ^ 64 → r < 2 ^ 32 → p < 2 ^ 32 → c < 2 ^ 32
    → ReadsTake (codes " " ++ (decimal m ++ (codes " " ++ (decimal r ++ (codes " " ++ (decimal p ++ (codes " " ++ decimal c))))))) (Ok (record { moment = m; act = act.Take r p c }))
take_same m r p c lm lr lp lc n s q k ln ls lq lk e =
    let p1 = number_same m n (codes " " ++ (decimal r ++ (codes " " ++ (decimal p ++ (codes " " ++ decimal c))))) (codes " " ++ (decimal s ++ (codes " " ++ (decimal q ++ (codes " " ++ decimal k))))) lm ln refl refl (append_cancel_left (codes " ") _ _ e) in
    let p2 = number_same r s (codes " " ++ (decimal p ++ (codes " " ++ decimal c))) (codes " " ++ (decimal q ++ (codes " " ++ decimal k))) (omega arith) (omega arith) refl refl (append_cancel_left (codes " ") _ _ p1.1) in
    let p3 = number_same p q (codes " " ++ decimal c) (codes " " ++ decimal k) (omega arith) (omega arith) refl refl (append_cancel_left (codes " ") _ _ p2.1) in
    let p4 = decimal_injective c k (omega arith) (omega arith) (append_cancel_left (codes " ") (decimal c) (decimal k) p3.1) in
    rw (p1.0, p2.0, p3.0, p4) refl

-- a use, by the length of its word
use_from : List ℕ → Use
use_from word = if eqb (length word) 2 then use_.Ok else if eqb (length word) 9 then use_.Streaming else if eqb (get_or word 0 0) 101 then use_.Errored else use_.Dropped

use_back : (u : Use) → use_from (use_text u) ≡ u
unfolding use_from
use_back use_.Ok = refl
use_back use_.Errored = refl
use_back use_.Dropped = refl
use_back use_.Streaming = refl

pub return_same : (m r : ℕ) (u : Use) → m < 2 ^ 64 → r < 2 ^ 32
    → ReadsReturn (codes " " ++ (decimal m ++ (codes " " ++ (decimal r ++ (codes " " ++ use_text u))))) (Ok (record { moment = m; act = act.Return r u }))
return_same m r u lm lr n q v ln lq e =
    let p1 = number_same m n (codes " " ++ (decimal r ++ (codes " " ++ use_text u))) (codes " " ++ (decimal q ++ (codes " " ++ use_text v))) lm ln refl refl (append_cancel_left (codes " ") _ _ e) in
    let p2 = number_same r q (codes " " ++ use_text u) (codes " " ++ use_text v) (omega arith) (omega arith) refl refl (append_cancel_left (codes " ") _ _ p1.1) in
    let word : use_text u ≡ use_text v = append_cancel_left (codes " ") _ _ p2.1 in
    let p3 : u ≡ v = sym (use_back u) ∙ ap use_from word ∙ use_back v in
    rw (p1.0, p2.0, p3) refl

widened : (z : ℤ) → FitsSigned w32 z → FitsSigned w64 z
widened z fits = let small = fits.sfits in record { sfits = omega (arith, small) }

made_same : (d e : Established) → IsEstablishedOfTypes d → IsEstablishedOfTypes e → is_established d ≡ true → is_established e ≡ true
    → signed_decimal d.wire ++ parts_text (established_parts d) ≡ signed_decimal e.wire ++ parts_text (established_parts e) → d ≡ e
made_same d e td te hd he same =
    let p1 = word_same (signed_decimal d.wire) (signed_decimal e.wire) (parts_text (established_parts d)) (parts_text (established_parts e))
    (signed_lacks 32 d.wire (omega arith) (widened d.wire td.wire)) (signed_lacks 32 e.wire (omega arith) (widened e.wire te.wire))
    (parts_follow (established_parts d) refl) (parts_follow (established_parts e) refl) same in
    let p2 = part_same (codes " sid=") (option_map object_id d.service_id) (option_map object_id e.service_id) (drop 1 (established_parts d)) (drop 1 (established_parts e)) (words_lack-id d.service_id) (words_lack-id e.service_id) refl refl p1.1 in
    let p3 = part_same (codes " server=") (option_map signed_decimal d.server_id) (option_map signed_decimal e.server_id) [] [] (words_lack-signed d.server_id (server_fits d td hd)) (words_lack-signed e.server_id (server_fits e te he)) refl refl p2.1 in
    let wire = signed_decimal_injective d.wire e.wire (short_32 d.wire td.wire) (short_32 e.wire te.wire) p1.0 in
    let service = ids_same d.service_id e.service_id td.service te.service p2.0 in
    let server = numbers_same-signed d.server_id e.server_id (server_fits d td hd) (server_fits e te he) p3.0 in
    let all : ◌≡◌ {A = Established} (record { wire = d.wire; service_id = d.service_id; server_id = d.server_id }) e = rw (wire, service, server) refl in
    all

pub established_same : (m p c : ℕ) (d : Established) → m < 2 ^ 64 → p < 2 ^ 32 → c < 2 ^ 32 → IsEstablishedOfTypes d → is_established d ≡ true
    → ReadsEstablished (codes " " ++ (decimal m ++ (codes " " ++ (decimal p ++ (codes " " ++ (decimal c ++ (codes " wire=" ++ (signed_decimal d.wire ++ parts_text (established_parts d)))))))))
    (Ok (record { moment = m; act = act.Established p c d }))
established_same m p c d lm lp lc td hd n q k e ln lq lk te he same =
    let tail = codes " wire=" ++ (signed_decimal d.wire ++ parts_text (established_parts d)) in
    let other = codes " wire=" ++ (signed_decimal e.wire ++ parts_text (established_parts e)) in
    let p1 = number_same m n (codes " " ++ (decimal p ++ (codes " " ++ (decimal c ++ tail)))) (codes " " ++ (decimal q ++ (codes " " ++ (decimal k ++ other)))) lm ln refl refl (append_cancel_left (codes " ") _ _ same) in
    let p2 = number_same p q (codes " " ++ (decimal c ++ tail)) (codes " " ++ (decimal k ++ other)) (omega arith) (omega arith) refl refl (append_cancel_left (codes " ") _ _ p1.1) in
    let p3 = number_same c k tail other (omega arith) (omega arith) refl refl (append_cancel_left (codes " ") _ _ p2.1) in
    let p4 = made_same d e td te hd he (append_cancel_left (codes " wire=") _ _ p3.1) in
    rw (p1.0, p2.0, p3.0, p4) refl

pub failed_same : (m p c : ℕ) (a : FailedAt) (d : Error) → m < 2 ^ 64 → p < 2 ^ 32 → c < 2 ^ 32 → IsFailedAtOfTypes a → IsErrorOfTypes d → is_error d ≡ true
    → ReadsFailed (codes " " ++ (decimal m ++ (codes " " ++ (decimal p ++ (codes " " ++ (decimal c ++ (failed_at_text a ++ (codes " " ++ error_text d)))))))) (Ok (record { moment = m; act = act.Failed p c a d }))
failed_same m p c a d lm lp lc ta td hd n q k b e ln lq lk tb te he same =
    let tail = failed_at_text a ++ (codes " " ++ error_text d) in
    let other = failed_at_text b ++ (codes " " ++ error_text e) in
    let p1 = number_same m n (codes " " ++ (decimal p ++ (codes " " ++ (decimal c ++ tail)))) (codes " " ++ (decimal q ++ (codes " " ++ (decimal k ++ other)))) lm ln refl refl (append_cancel_left (codes " ") _ _ same) in
    let p2 = number_same p q (codes " " ++ (decimal c ++ tail)) (codes " " ++ (decimal k ++ other)) (omega arith) (omega arith) refl refl (append_cancel_left (codes " ") _ _ p1.1) in
    let p3 = number_same c k tail other (omega arith) (omega arith) (failure_follows a _) (failure_follows b _) (append_cancel_left (codes " ") _ _ p2.1) in
    let p4 = failures_same a b d e ta tb td te hd he p3.1 in
    rw (p1.0, p2.0, p3.0, p4.0, p4.1) refl

pub error_line_same : (m r : ℕ) (d : Error) → m < 2 ^ 64 → r < 2 ^ 32 → IsErrorOfTypes d → is_error d ≡ true
    → ReadsError (codes " " ++ (decimal m ++ (codes " " ++ (decimal r ++ (codes " " ++ error_text d))))) (Ok (record { moment = m; act = act.Error r d }))
error_line_same m r d lm lr td hd n q e ln lq te he same =
    let p1 = number_same m n (codes " " ++ (decimal r ++ (codes " " ++ error_text d))) (codes " " ++ (decimal q ++ (codes " " ++ error_text e))) lm ln refl refl (append_cancel_left (codes " ") _ _ same) in
    let p2 = number_same r q (codes " " ++ error_text d) (codes " " ++ error_text e) (omega arith) (omega arith) refl refl (append_cancel_left (codes " ") _ _ p1.1) in
    let p3 = error_same d e td te hd he (append_cancel_left (codes " ") _ _ p2.1) in
    rw (p1.0, p2.0, p3) refl

-- monitors and the topology

place_and_rest : (a b : ServerAddress) (rest more : List ℕ) → is_address a ≡ true → is_address b ≡ true → Follows rest → Follows more → address a ++ rest ≡ address b ++ more → (a ≡ b) × (rest ≡ more)
place_and_rest a b rest more h k r m e =
    let p = word_same (address a) (address b) rest more (address_lacks a h) (address_lacks b k) r m e in
    (address_same a b h k p.0, p.1)

pub hello_same : (m p : ℕ) (a : ServerAddress) (c : HelloResult) → m < 2 ^ 64 → p < 2 ^ 32 → is_address a ≡ true → IsHelloOfTypes c → is_hello c ≡ true
    → ReadsHello (codes " " ++ (decimal m ++ (codes " " ++ (address a ++ (codes " " ++ (decimal p ++ hello_text c)))))) (Ok (record { moment = m; act = act.Hello a p c }))
hello_same m p a c lm lp h tc hc n q b d ln lq k td hd e =
    let p1 = number_same m n (codes " " ++ (address a ++ (codes " " ++ (decimal p ++ hello_text c)))) (codes " " ++ (address b ++ (codes " " ++ (decimal q ++ hello_text d)))) lm ln refl refl (append_cancel_left (codes " ") _ _ e) in
    let p2 = place_and_rest a b (codes " " ++ (decimal p ++ hello_text c)) (codes " " ++ (decimal q ++ hello_text d)) h k refl refl (append_cancel_left (codes " ") _ _ p1.1) in
    let p3 = number_same p q (hello_text c) (hello_text d) (omega arith) (omega arith) (hello_follows c) (hello_follows d) (append_cancel_left (codes " ") _ _ p2.1) in
    let p4 = hellos_same c d tc td hc hd p3.1 in
    rw (p1.0, p2.0, p3.0, p4) refl

pub beaten_same : (m p t : ℕ) (a : ServerAddress) (c : BeatenResult) → m < 2 ^ 64 → p < 2 ^ 32 → t < 2 ^ 64 → is_address a ≡ true → IsBeatenOfTypes c → is_beaten c ≡ true
    → ReadsBeaten (codes " " ++ (decimal m ++ (codes " " ++ (address a ++ (codes " " ++ (decimal p ++ (codes " " ++ (decimal t ++ beaten_text c)))))))) (Ok (record { moment = m; act = act.Beaten a p t c }))
beaten_same m p t a c lm lp lt h tc hc n q u b d ln lq lu k td hd e =
    let p1 = number_same m n (codes " " ++ (address a ++ (codes " " ++ (decimal p ++ (codes " " ++ (decimal t ++ beaten_text c)))))) (codes " " ++ (address b ++ (codes " " ++ (decimal q ++ (codes " " ++ (decimal u ++ beaten_text d)))))) lm ln refl refl (append_cancel_left (codes " ") _ _ e) in
    let p2 = place_and_rest a b (codes " " ++ (decimal p ++ (codes " " ++ (decimal t ++ beaten_text c)))) (codes " " ++ (decimal q ++ (codes " " ++ (decimal u ++ beaten_text d)))) h k refl refl (append_cancel_left (codes " ") _ _ p1.1) in
    let p3 = number_same p q (codes " " ++ (decimal t ++ beaten_text c)) (codes " " ++ (decimal u ++ beaten_text d)) (omega arith) (omega arith) refl refl (append_cancel_left (codes " ") _ _ p2.1) in
    let p4 = number_same t u (beaten_text c) (beaten_text d) lt lu (beaten_follows c) (beaten_follows d) (append_cancel_left (codes " ") _ _ p3.1) in
    let p5 = checks_same c d tc td hc hd p4.1 in
    rw (p1.0, p2.0, p3.0, p4.0, p5) refl

pub beat_same : (m p : ℕ) (a : ServerAddress) → m < 2 ^ 64 → p < 2 ^ 32 → is_address a ≡ true
    → ReadsBeat (codes " " ++ (decimal m ++ (codes " " ++ (address a ++ (codes " " ++ decimal p))))) (Ok (record { moment = m; act = act.Beat a p }))
beat_same m p a lm lp h n q b ln lq k e =
    let p1 = number_same m n (codes " " ++ (address a ++ (codes " " ++ decimal p))) (codes " " ++ (address b ++ (codes " " ++ decimal q))) lm ln refl refl (append_cancel_left (codes " ") _ _ e) in
    let p2 = place_and_rest a b (codes " " ++ decimal p) (codes " " ++ decimal q) h k refl refl (append_cancel_left (codes " ") _ _ p1.1) in
    let p3 = decimal_injective p q (omega arith) (omega arith) (append_cancel_left (codes " ") (decimal p) (decimal q) p2.1) in
    rw (p1.0, p2.0, p3) refl

pub rtt_same : (m p t : ℕ) (a : ServerAddress) → m < 2 ^ 64 → p < 2 ^ 32 → t < 2 ^ 64 → is_address a ≡ true
    → ReadsRtt (codes " " ++ (decimal m ++ (codes " " ++ (address a ++ (codes " " ++ (decimal p ++ (codes " " ++ decimal t))))))) (Ok (record { moment = m; act = act.Rtt a p t }))
rtt_same m p t a lm lp lt h n q u b ln lq lu k e =
    let p1 = number_same m n (codes " " ++ (address a ++ (codes " " ++ (decimal p ++ (codes " " ++ decimal t))))) (codes " " ++ (address b ++ (codes " " ++ (decimal q ++ (codes " " ++ decimal u))))) lm ln refl refl (append_cancel_left (codes " ") _ _ e) in
    let p2 = place_and_rest a b (codes " " ++ (decimal p ++ (codes " " ++ decimal t))) (codes " " ++ (decimal q ++ (codes " " ++ decimal u))) h k refl refl (append_cancel_left (codes " ") _ _ p1.1) in
    let p3 = number_same p q (codes " " ++ decimal t) (codes " " ++ decimal u) (omega arith) (omega arith) refl refl (append_cancel_left (codes " ") _ _ p2.1) in
    let p4 = decimal_injective t u lt lu (append_cancel_left (codes " ") (decimal t) (decimal u) p3.1) in
    rw (p1.0, p2.0, p3.0, p4) refl

pub hosts_same : (m : ℕ) (hosts : List ServerAddress) → m < 2 ^ 64 → 0 < length hosts → list_all is_address hosts ≡ true
    → ReadsHosts (codes " " ++ (decimal m ++ (codes " " ++ addresses hosts))) (Ok (record { moment = m; act = act.Hosts hosts }))
hosts_same m hosts lm some h n others ln more k e =
    let p1 = number_same m n (codes " " ++ addresses hosts) (codes " " ++ addresses others) lm ln refl refl (append_cancel_left (codes " ") _ _ e) in
    let p2 = addresses_same hosts others some more h k (append_cancel_left (codes " ") _ _ p1.1) in
    rw (p1.0, p2) refl

pub time_same : (m : ℕ) (time : ClusterTime) → m < 2 ^ 64 → time.0 < 2 ^ 64
    → ReadsTime (codes " " ++ (decimal m ++ (codes " " ++ decimal time.0))) (Ok (record { moment = m; act = act.ClusterTime time }))
time_same m time lm lt n other ln lo e =
    let p1 = number_same m n (codes " " ++ decimal time.0) (codes " " ++ decimal other.0) lm ln refl refl (append_cancel_left (codes " ") _ _ e) in
    let p2 = decimal_injective time.0 other.0 lt lo (append_cancel_left (codes " ") (decimal time.0) (decimal other.0) p1.1) in
    let p3 : time ≡ other = ap (λ (t : ℕ). let made : ClusterTime = record { 0 = t } in made) p2 in
    rw (p1.0, p3) refl

-- the first line

modes_same : (o p : Option Bool) → option_map mode_text o ≡ option_map mode_text p → o ≡ p
modes_same o p e = values_same mode_text (λ b. Unit {0}) mode_same o p (any o) (any p) e
  where
    any : (o : Option Bool) → IfSome o (λ b. Unit {0})
    any None = tt
    any (Some b) = tt

    mode_same : (b c : Bool) → Unit {0} → Unit {0} → mode_text b ≡ mode_text c → b ≡ c
    mode_same true true hb hc e = refl
    mode_same true false hb hc e = absurd (cc)
    mode_same false true hb hc e = absurd (cc)
    mode_same false false hb hc e = refl

flags_same : (b c : Bool) → flag b ≡ flag c → b ≡ c
flags_same true true e = refl
flags_same true false e = absurd (cc)
flags_same false true e = absurd (cc)
flags_same false false e = refl

zero_same : (x y : ObjectId) → is_zero_id x ≡ true → is_zero_id y ≡ true → x ≡ y
zero_same x y hx hy =
    let ex = (bytes_eq-Decides x.0 (replicate 12 0)).0 hx in
    let ey = (bytes_eq-Decides y.0 (replicate 12 0)).0 hy in
    ap (λ (bs : List ℕ). let id : ObjectId = record { 0 = bs } in id) (ex ∙ sym ey)

pub open_same : (o : Options) → AreOptionsOfTypes o → are_options o ≡ true
    → ReadsOpen (codes " seeds=" ++ (addresses o.seeds ++ parts_text (open_parts o))) (Ok (record { moment = 0; act = act.Open o }))
open_same o t h q u k e =
    let r = open_rules o h in
    let s = open_rules q k in
    let os = open_parts o in
    let qs = open_parts q in
    let e0 = word_same (addresses o.seeds) (addresses q.seeds) (parts_text os) (parts_text qs) (addresses_lack o.seeds r.seeds) (addresses_lack q.seeds s.seeds) (parts_follow os refl) (parts_follow qs refl) (append_cancel_left (codes " seeds=") _ _ e) in
    let e1 = part_same (codes " set=") o.set_name q.set_name (drop 1 os) (drop 1 qs) r.name s.name refl refl e0.1 in
    let e2 = part_same (codes " direct") (flag o.direct) (flag q.direct) (drop 2 os) (drop 2 qs) (words_lack-flag o.direct) (words_lack-flag q.direct) refl refl e1.1 in
    let e3 = part_same (codes " lb") (flag o.load_balanced) (flag q.load_balanced) (drop 3 os) (drop 3 qs) (words_lack-flag o.load_balanced) (words_lack-flag q.load_balanced) refl refl e2.1 in
    let e4 = part_same (codes " max=") (option_map decimal o.max_pool_size) (option_map decimal q.max_pool_size) (drop 4 os) (drop 4 qs) (words_lack-32 _ t.max) (words_lack-32 _ u.max) refl refl e3.1 in
    let e5 = part_same (codes " min=") (option_map decimal o.min_pool_size) (option_map decimal q.min_pool_size) (drop 5 os) (drop 5 qs) (words_lack-32 _ t.min) (words_lack-32 _ u.min) refl refl e4.1 in
    let e6 = part_same (codes " connecting=") (option_map decimal o.max_connecting) (option_map decimal q.max_connecting) (drop 6 os) (drop 6 qs) (words_lack-32 _ t.connecting) (words_lack-32 _ u.connecting) refl refl e5.1 in
    let e7 = part_same (codes " idle=") (option_map decimal o.max_idle_time) (option_map decimal q.max_idle_time) (drop 7 os) (drop 7 qs) (words_lack-64 _ t.idle) (words_lack-64 _ u.idle) refl refl e6.1 in
    let e8 = part_same (codes " wait=") (option_map decimal o.max_wait) (option_map decimal q.max_wait) (drop 8 os) (drop 8 qs) (words_lack-64 _ t.wait) (words_lack-64 _ u.wait) refl refl e7.1 in
    let e9 = part_same (codes " heartbeat=") (option_map decimal o.heartbeat) (option_map decimal q.heartbeat) (drop 9 os) (drop 9 qs) (words_lack-64 _ t.heartbeat) (words_lack-64 _ u.heartbeat) refl refl e8.1 in
    let e10 = part_same (codes " connect=") (option_map decimal o.connect) (option_map decimal q.connect) (drop 10 os) (drop 10 qs) (words_lack-64 _ t.connect) (words_lack-64 _ u.connect) refl refl e9.1 in
    let e11 = part_same (codes " mode=") (option_map mode_text o.streaming) (option_map mode_text q.streaming) (drop 11 os) (drop 11 qs) (mode_lacks o.streaming) (mode_lacks q.streaming) refl refl e10.1 in
    let e12 = part_same (codes " limit_id=") (option_map decimal o.limit_id) (option_map decimal q.limit_id) (drop 12 os) (drop 12 qs) (words_lack-32 _ t.limit_id) (words_lack-32 _ u.limit_id) refl refl e11.1 in
    let e13 = part_same (codes " limit_generation=") (option_map decimal o.limit_generation) (option_map decimal q.limit_generation) (drop 13 os) (drop 13 qs) (words_lack-64 _ t.limit_generation) (words_lack-64 _ u.limit_generation) refl refl e12.1 in
    let e14 = part_same (codes " limit_pool=") (option_map decimal o.limit_pool) (option_map decimal q.limit_pool) (drop 14 os) (drop 14 qs) (words_lack-32 _ t.limit_pool) (words_lack-32 _ u.limit_pool) refl refl e13.1 in
    let e15 = part_same (codes " limit_monitor=") (option_map decimal o.limit_monitor) (option_map decimal q.limit_monitor) [] [] (words_lack-32 _ t.limit_monitor) (words_lack-32 _ u.limit_monitor) refl refl e14.1 in
    let seeds = addresses_same o.seeds q.seeds r.some s.some r.seeds s.seeds e0.0 in
    let direct = flags_same o.direct q.direct e2.0 in
    let load_balanced = flags_same o.load_balanced q.load_balanced e3.0 in
    let max = numbers_same-32 o.max_pool_size q.max_pool_size t.max u.max e4.0 in
    let min = numbers_same-32 o.min_pool_size q.min_pool_size t.min u.min e5.0 in
    let connecting = numbers_same-32 o.max_connecting q.max_connecting t.connecting u.connecting e6.0 in
    let idle = numbers_same-64 o.max_idle_time q.max_idle_time t.idle u.idle e7.0 in
    let wait = numbers_same-64 o.max_wait q.max_wait t.wait u.wait e8.0 in
    let heartbeat = numbers_same-64 o.heartbeat q.heartbeat t.heartbeat u.heartbeat e9.0 in
    let connect = numbers_same-64 o.connect q.connect t.connect u.connect e10.0 in
    let streaming = modes_same o.streaming q.streaming e11.0 in
    let limit_id = numbers_same-32 o.limit_id q.limit_id t.limit_id u.limit_id e12.0 in
    let limit_generation = numbers_same-64 o.limit_generation q.limit_generation t.limit_generation u.limit_generation e13.0 in
    let limit_pool = numbers_same-32 o.limit_pool q.limit_pool t.limit_pool u.limit_pool e14.0 in
    let limit_monitor = numbers_same-32 o.limit_monitor q.limit_monitor t.limit_monitor u.limit_monitor e15.0 in
    let id = zero_same o.topology_id q.topology_id r.id s.id in
    let all : ◌≡◌ {A = Options} (record { seeds = o.seeds; set_name = o.set_name; direct = o.direct; load_balanced = o.load_balanced; max_pool_size = o.max_pool_size; min_pool_size = o.min_pool_size; max_connecting = o.max_connecting; max_idle_time = o.max_idle_time; max_wait = o.max_wait; heartbeat = o.heartbeat; connect = o.connect; streaming = o.streaming; limit_id = o.limit_id; limit_generation = o.limit_generation; limit_pool = o.limit_pool; limit_monitor = o.limit_monitor; topology_id = o.topology_id }) q =
    rw (seeds, e1.0, direct, load_balanced, max, min, connecting, idle, wait, heartbeat, connect, streaming, limit_id, limit_generation, limit_pool, limit_monitor, id) refl in
    ap (λ (x : Options). let step : Step = record { moment = 0; act = act.Open x } in step) all
