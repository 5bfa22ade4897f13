-- What reading gives for each kind of line, from what stands behind its first word: the step that the line spells.
use Rattle.std.specs.Prelude.{◌≡◌, ℕ, ◌<◌, ◌^◌, List, ◌++◌, length, codes, decimal, Option, Some, None, Result, true, if◌then◌else◌, bytes_eq, MatchOption}
use Rattle.std.specs.List.{list_all}
use Rattle.std.specs.Option.{option_or}
use Rattle.std.specs.Fmt.{signed_decimal}
use Rattle.mdb_base.specs.AddressReading.{until, beyond}
use Rattle.mdb_base.specs.AddressRule.{is_address}
use Rattle.mdb_base.specs.Spelling.{address}
use Rattle.mdb_base.specs.declared.address.ServerAddress.{ServerAddress}
use Rattle.mdb_base.specs.ErrorText.{error_text}
use Rattle.mdb_base.specs.declared.error.Error.{Error}
use Rattle.mdb_base.specs.declared.options.Options.{Options}
use Rattle.mdb_base.specs.declared.times.ClusterTime.{ClusterTime}
use Rattle.mdb_log.specs.declared.step.FailedAt.{FailedAt}
use Rattle.mdb_parts.specs.ErrorParts.{is_error, IsErrorOfTypes}
use Rattle.mdb_log.specs.declared.checked.HelloResult.{HelloResult}
use Rattle.mdb_log.specs.declared.checked.BeatenResult.{BeatenResult}
use Rattle.mdb_log.specs.declared.step.Step.{Step}
use Rattle.mdb_log.specs.declared.step.Act.{Act}
use Rattle.mdb_log.specs.declared.step.Act.TheVariants as act
use Rattle.mdb_log.specs.declared.step.Use.{Use}
use Rattle.mdb_log.specs.declared.step.Established.{Established}
use Rattle.mdb_lines.specs.declared.line_kind.LineKind.{LineKind}
use Rattle.mdb_lines.specs.declared.line_kind.LineKind.TheVariants as line
use Rattle.mdb_parts.specs.declared.line_error.LineError.{LineError}
use Rattle.mdb_parts.specs.Parts.{parts_text, addresses}
use Rattle.mdb_lines.specs.OpenLine.{open_parts}
use Rattle.mdb_lines.specs.Spelling.{established_parts, use_text, failed_at_text, hello_text, beaten_text}
use Rattle.mdb_lines.specs.Grammar.{are_options, is_established, is_hello, is_beaten}
use Rattle.mdb_lines.specs.Types.{AreOptionsOfTypes, IsEstablishedOfTypes, IsFailedAtOfTypes, IsHelloOfTypes, IsBeatenOfTypes}
use Rattle.mdb_parts.specs.Reading.{Gives}

unfoldable pub caller_kind : List ℕ → Option LineKind
caller_kind word =
    if bytes_eq word (codes "request") then Some line.Request
    else if bytes_eq word (codes "warm") then Some line.Warm
    else if bytes_eq word (codes "collect") then Some line.Collect
    else if bytes_eq word (codes "claim") then Some line.Claim
    else if bytes_eq word (codes "giveup") then Some line.GiveUp
    else if bytes_eq word (codes "return") then Some line.Return
    else if bytes_eq word (codes "error") then Some line.Error
    else None

unfoldable pub connection_kind : List ℕ → Option LineKind
connection_kind word =
    if bytes_eq word (codes "established") then Some line.Established
    else if bytes_eq word (codes "failed") then Some line.Failed
    else if bytes_eq word (codes "pin") then Some line.Pin
    else if bytes_eq word (codes "replicate") then Some line.Replicate
    else if bytes_eq word (codes "take") then Some line.Take
    else if bytes_eq word (codes "unpin") then Some line.Unpin
    else None

unfoldable pub monitor_kind : List ℕ → Option LineKind
monitor_kind word =
    if bytes_eq word (codes "hello") then Some line.Hello
    else if bytes_eq word (codes "beat") then Some line.Beat
    else if bytes_eq word (codes "beaten") then Some line.Beaten
    else if bytes_eq word (codes "rtt") then Some line.Rtt
    else None

unfoldable pub topology_kind : List ℕ → Option LineKind
topology_kind word =
    if bytes_eq word (codes "hosts") then Some line.Hosts
    else if bytes_eq word (codes "ctime") then Some line.ClusterTime
    else if bytes_eq word (codes "want") then Some line.Want
    else if bytes_eq word (codes "unwant") then Some line.Unwant
    else if bytes_eq word (codes "stop") then Some line.Stop
    else None

-- the kind of line that begins with this word
unfoldable pub kind_of : List ℕ → Option LineKind
kind_of word =
    if bytes_eq word (codes "open") then Some line.Open
    else if bytes_eq word (codes "maintain") then Some line.Maintain
    else if bytes_eq word (codes "expire") then Some line.Expire
    else option_or (option_or (caller_kind word) (connection_kind word)) (option_or (monitor_kind word) (topology_kind word))

abbrev pub ReadsOpen : List ℕ → Result Step LineError → Type 0
ReadsOpen text r =
    (o : Options) → AreOptionsOfTypes o → are_options o ≡ true
    → text ≡ codes " seeds=" ++ (addresses o.seeds ++ parts_text (open_parts o))
    → Gives (record { moment = 0; act = act.Open o }) r

-- a moment alone
abbrev pub ReadsMoment : Act → List ℕ → Result Step LineError → Type 0
ReadsMoment done text r = (m : ℕ) → m < 2 ^ 64 → text ≡ codes " " ++ decimal m → Gives (record { moment = m; act = done }) r

-- a moment and a party
abbrev pub ReadsParty : (ℕ → Act) → List ℕ → Result Step LineError → Type 0
ReadsParty does text r =
    (m party : ℕ) → m < 2 ^ 64 → party < 2 ^ 32
    → text ≡ codes " " ++ (decimal m ++ (codes " " ++ decimal party))
    → Gives (record { moment = m; act = does party }) r

-- a moment, a party and an address
abbrev pub ReadsAsked : (ℕ → ServerAddress → Act) → List ℕ → Result Step LineError → Type 0
ReadsAsked does text r =
    (m party : ℕ) (a : ServerAddress) → m < 2 ^ 64 → party < 2 ^ 32 → is_address a ≡ true
    → text ≡ codes " " ++ (decimal m ++ (codes " " ++ (decimal party ++ (codes " " ++ address a))))
    → Gives (record { moment = m; act = does party a }) r

-- a moment and an address
abbrev pub ReadsAddress : (ServerAddress → Act) → List ℕ → Result Step LineError → Type 0
ReadsAddress does text r =
    (m : ℕ) (a : ServerAddress) → m < 2 ^ 64 → is_address a ≡ true
    → text ≡ codes " " ++ (decimal m ++ (codes " " ++ address a))
    → Gives (record { moment = m; act = does a }) r

-- a moment, a pool and a connection
abbrev pub ReadsPlace : (ℕ → ℕ → Act) → List ℕ → Result Step LineError → Type 0
ReadsPlace does text r =
    (m p c : ℕ) → m < 2 ^ 64 → p < 2 ^ 32 → c < 2 ^ 32
    → text ≡ codes " " ++ (decimal m ++ (codes " " ++ (decimal p ++ (codes " " ++ decimal c))))
    → Gives (record { moment = m; act = does p c }) r

-- a moment, a party, a pool and a connection
abbrev pub ReadsTake : List ℕ → Result Step LineError → Type 0
ReadsTake text r =
    (m party p c : ℕ) → m < 2 ^ 64 → party < 2 ^ 32 → p < 2 ^ 32 → c < 2 ^ 32
    → text ≡ codes " " ++ (decimal m ++ (codes " " ++ (decimal party ++ (codes " " ++ (decimal p ++ (codes " " ++ decimal c))))))
    → Gives (record { moment = m; act = act.Take party p c }) r

abbrev pub ReadsEstablished : List ℕ → Result Step LineError → Type 0
ReadsEstablished text r =
    (m p c : ℕ) (e : Established) → m < 2 ^ 64 → p < 2 ^ 32 → c < 2 ^ 32 → IsEstablishedOfTypes e → is_established e ≡ true
    → text ≡ codes " " ++ (decimal m ++ (codes " " ++ (decimal p ++ (codes " " ++ (decimal c ++ (codes " wire=" ++ (signed_decimal e.wire ++ parts_text (established_parts e))))))))
    → Gives (record { moment = m; act = act.Established p c e }) r

abbrev pub ReadsReturn : List ℕ → Result Step LineError → Type 0
ReadsReturn text r =
    (m party : ℕ) (used : Use) → m < 2 ^ 64 → party < 2 ^ 32
    → text ≡ codes " " ++ (decimal m ++ (codes " " ++ (decimal party ++ (codes " " ++ use_text used))))
    → Gives (record { moment = m; act = act.Return party used }) r

abbrev pub ReadsFailed : List ℕ → Result Step LineError → Type 0
ReadsFailed text r =
    (m p c : ℕ) (at : FailedAt) (e : Error) → m < 2 ^ 64 → p < 2 ^ 32 → c < 2 ^ 32 → IsFailedAtOfTypes at → IsErrorOfTypes e → is_error e ≡ true
    → text ≡ codes " " ++ (decimal m ++ (codes " " ++ (decimal p ++ (codes " " ++ (decimal c ++ (failed_at_text at ++ (codes " " ++ error_text e)))))))
    → Gives (record { moment = m; act = act.Failed p c at e }) r

abbrev pub ReadsError : List ℕ → Result Step LineError → Type 0
ReadsError text r =
    (m party : ℕ) (e : Error) → m < 2 ^ 64 → party < 2 ^ 32 → IsErrorOfTypes e → is_error e ≡ true
    → text ≡ codes " " ++ (decimal m ++ (codes " " ++ (decimal party ++ (codes " " ++ error_text e))))
    → Gives (record { moment = m; act = act.Error party e }) r

abbrev pub ReadsHello : List ℕ → Result Step LineError → Type 0
ReadsHello text r =
    (m p : ℕ) (a : ServerAddress) (came : HelloResult) → m < 2 ^ 64 → p < 2 ^ 32 → is_address a ≡ true → IsHelloOfTypes came → is_hello came ≡ true
    → text ≡ codes " " ++ (decimal m ++ (codes " " ++ (address a ++ (codes " " ++ (decimal p ++ hello_text came)))))
    → Gives (record { moment = m; act = act.Hello a p came }) r

abbrev pub ReadsBeaten : List ℕ → Result Step LineError → Type 0
ReadsBeaten text r =
    (m p n : ℕ) (a : ServerAddress) (came : BeatenResult) → m < 2 ^ 64 → p < 2 ^ 32 → n < 2 ^ 64 → is_address a ≡ true → IsBeatenOfTypes came → is_beaten came ≡ true
    → text ≡ codes " " ++ (decimal m ++ (codes " " ++ (address a ++ (codes " " ++ (decimal p ++ (codes " " ++ (decimal n ++ beaten_text came)))))))
    → Gives (record { moment = m; act = act.Beaten a p n came }) r

-- a moment, an address and a pool
abbrev pub ReadsBeat : List ℕ → Result Step LineError → Type 0
ReadsBeat text r =
    (m p : ℕ) (a : ServerAddress) → m < 2 ^ 64 → p < 2 ^ 32 → is_address a ≡ true
    → text ≡ codes " " ++ (decimal m ++ (codes " " ++ (address a ++ (codes " " ++ decimal p))))
    → Gives (record { moment = m; act = act.Beat a p }) r

-- a moment, an address, a pool and nanoseconds
abbrev pub ReadsRtt : List ℕ → Result Step LineError → Type 0
ReadsRtt text r =
    (m p n : ℕ) (a : ServerAddress) → m < 2 ^ 64 → p < 2 ^ 32 → n < 2 ^ 64 → is_address a ≡ true
    → text ≡ codes " " ++ (decimal m ++ (codes " " ++ (address a ++ (codes " " ++ (decimal p ++ (codes " " ++ decimal n))))))
    → Gives (record { moment = m; act = act.Rtt a p n }) r

-- a moment and addresses
abbrev pub ReadsHosts : List ℕ → Result Step LineError → Type 0
ReadsHosts text r =
    (m : ℕ) (hosts : List ServerAddress) → m < 2 ^ 64 → 0 < length hosts → list_all is_address hosts ≡ true
    → text ≡ codes " " ++ (decimal m ++ (codes " " ++ addresses hosts))
    → Gives (record { moment = m; act = act.Hosts hosts }) r

-- a moment and a time of the cluster
abbrev pub ReadsTime : List ℕ → Result Step LineError → Type 0
ReadsTime text r =
    (m : ℕ) (time : ClusterTime) → m < 2 ^ 64 → time.0 < 2 ^ 64
    → text ≡ codes " " ++ (decimal m ++ (codes " " ++ decimal time.0))
    → Gives (record { moment = m; act = act.ClusterTime time }) r

abbrev pub ReadsKind : LineKind → List ℕ → Result Step LineError → Type 0
ReadsKind line.Open text r = ReadsOpen text r
ReadsKind line.Request text r = ReadsAsked (λ party a. act.Request party a) text r
ReadsKind line.Warm text r = ReadsAsked (λ party a. act.Warm party a) text r
ReadsKind line.Collect text r = ReadsParty (λ party. act.Collect party) text r
ReadsKind line.Claim text r = ReadsMoment act.Claim text r
ReadsKind line.GiveUp text r = ReadsParty (λ party. act.GiveUp party) text r
ReadsKind line.Established text r = ReadsEstablished text r
ReadsKind line.Return text r = ReadsReturn text r
ReadsKind line.Pin text r = ReadsParty (λ party. act.Pin party) text r
ReadsKind line.Replicate text r = ReadsPlace (λ p c. act.Replicate p c) text r
ReadsKind line.Take text r = ReadsTake text r
ReadsKind line.Unpin text r = ReadsPlace (λ p c. act.Unpin p c) text r
ReadsKind line.Maintain text r = ReadsAddress (λ a. act.Maintain a) text r
ReadsKind line.Expire text r = ReadsAddress (λ a. act.Expire a) text r
ReadsKind line.Failed text r = ReadsFailed text r
ReadsKind line.Error text r = ReadsError text r
ReadsKind line.Hello text r = ReadsHello text r
ReadsKind line.Beaten text r = ReadsBeaten text r
ReadsKind line.Beat text r = ReadsBeat text r
ReadsKind line.Rtt text r = ReadsRtt text r
ReadsKind line.Hosts text r = ReadsHosts text r
ReadsKind line.ClusterTime text r = ReadsTime text r
ReadsKind line.Want text r = ReadsParty (λ watcher. act.Want watcher) text r
ReadsKind line.Unwant text r = ReadsParty (λ watcher. act.Unwant watcher) text r
ReadsKind line.Stop text r = ReadsMoment act.Stop text r

-- A line is read by its kind. One of no kind gives nothing.
abbrev pub ReadsLine : List ℕ → Result Step LineError → Type 0
ReadsLine line r = MatchOption (kind_of (until 32 line)) (Unit {0}) (λ kind. ReadsKind kind (beyond 32 line) r)
