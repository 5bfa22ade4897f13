-- An event was taken: what is kept stands for it too.
use Rattle.std.proofs.Common.{◌≡◌, ℕ, ◌+◌, List, ◌∷◌, ◌++◌, Option, unwrap_or, sym, ap, ◌∙◌, subst, string_bytes}
use Rattle.mdb_recordings.specs.Rules.{against, breaks, glance_of}
use Rattle.mdb_recordings.specs.Standing.{Stands}
use Rattle.mdb_recordings.specs.declared.event.Event.{Event}
use Rattle.mdb_recordings.specs.declared.event.Recorded.{Recorded}
use Rattle.mdb_recordings.specs.declared.glance.Glance.{Glance}
use Rattle.mdb_recordings.specs.declared.standard.Standard.{Standard}
use Rattle.mdb_recording_servers.specs.ServerRules.{against as server_against, breaks as server_breaks, known_of}
use Rattle.mdb_recording_servers.specs.ServerStanding.{StandsFor}
use Rattle.mdb_recording_servers.specs.declared.event.Seen.{Seen}
use Rattle.mdb_recording_servers.specs.declared.event.ServerEvent.{ServerEvent}
use Rattle.mdb_recording_servers.specs.declared.event.ServerEvent.TheVariants.{Server}
use Rattle.mdb_recording_servers.specs.declared.event.ServerTold.{ServerTold}
use Rattle.mdb_recording_servers.specs.declared.known.Known.{Known}
use Rattle.mdb_recording_lines.specs.declared.names.Names.{Names}
use Rattle.mdb_recording_lines.specs.Known.{Holds, Named}
use Rattle.mdb_recording_runs.specs.Keeping.{Keeps, TellsRules}
use Rattle.mdb_recording_runs.specs.Report.{Read, after_event, after_seen, event_text, finding_line, findings_count, findings_text, naming, recorded_at, server_event_at, server_finding_line, server_findings_text}
use Rattle.mdb_recording_runs.specs.RuleWords.{all_rules, all_server_rules}
use Rattle.mdb_recording_runs.specs.declared.reader.Reader.{Reader}

-- an event of a pool, by its number, on the line n
abbrev pub numbered : ℕ → ℕ → Event → Recorded
numbered pool n e = record { pool = pool; line = n; event = e }

pub event-taken : (standard : Standard) (s : Read) (text : List ℕ) (old new : Reader) (number pool found : ℕ) (a : List ℕ) (e : Event) (g : Glance)
    → Keeps standard s text old
    → Named a s.known pool new.names
    → ((h : List Recorded) → Stands h old.judge → g ≡ glance_of h (numbered pool number e))
    → ((h : List Recorded) → g ≡ glance_of h (numbered pool number e) → TellsRules (λ rule. breaks old.standard rule h (numbered pool number e)) (λ rule. finding_line a (numbered pool number e) rule (against rule h (numbered pool number e))) all_rules (string_bytes old.out) (string_bytes new.out) found)
    → ((h : List Recorded) → Stands h old.judge → g ≡ glance_of h (numbered pool number e) → Stands (numbered pool number e ∷ h) new.judge)
    → new.standard ≡ old.standard → new.servers ≡ old.servers → new.server_judge ≡ old.server_judge → new.events ≡ old.events + 1 → new.findings ≡ old.findings + found → new.malformed ≡ old.malformed → new.passed_over ≡ old.passed_over
    → Keeps standard (after_event standard number s a e) (text ++ event_text standard number s a e) new
event-taken standard s text old new number pool found a e g keeps named look tell note same servers server_judge events findings malformed passed_over = record {
  judged_by = same ∙ keeps.judged_by;
  names = named.holds;
  judge = subst (λ r. Stands (r ∷ s.history) new.judge) is (note s.history keeps.judge known);
  servers = subst (λ x. Holds s.servers x) (sym servers) keeps.servers;
  server_judge = subst (λ x. StandsFor s.server_history x) (sym server_judge) keeps.server_judge;
  tells =
      told.text ∙ ap (λ t. t ++ findings_text old.standard s.history a (numbered pool number e)) keeps.tells
      ∙ ap (λ x. text ++ findings_text x s.history a (numbered pool number e)) keeps.judged_by
      ∙ ap (λ r. text ++ findings_text standard s.history a r) is;
  events = events ∙ ap (λ n. n + 1) keeps.events;
  findings =
      findings ∙ ap (λ n. n + found) keeps.findings ∙ ap (λ n. s.findings + n) told.count
      ∙ ap (λ x. s.findings + findings_count x s.history (numbered pool number e)) keeps.judged_by
      ∙ ap (λ r. s.findings + findings_count standard s.history r) is;
  malformed = malformed ∙ keeps.malformed;
  passed_over = passed_over ∙ keeps.passed_over;
}
  where
    is : numbered pool number e ≡ recorded_at number s a e
    is = ap (λ o. numbered (unwrap_or o 0) number e) (sym named.number)

    known : g ≡ glance_of s.history (numbered pool number e)
    known = look s.history keeps.judge

    told : TellsRules (λ rule. breaks old.standard rule s.history (numbered pool number e)) (λ rule. finding_line a (numbered pool number e) rule (against rule s.history (numbered pool number e))) all_rules (string_bytes old.out) (string_bytes new.out) found
    told = tell s.history known

-- an event of a server, or of the topology
pub seen-taken : (standard : Standard) (s : Read) (text : List ℕ) (old new : Reader) (found : ℕ) (o : Option (List ℕ)) (e : Seen) (k : Known)
    → Keeps standard s text old
    → ((h : List Seen) → StandsFor h old.server_judge → k ≡ known_of h e.event)
    → ((h : List Seen) → k ≡ known_of h e.event → TellsRules (λ rule. server_breaks rule h e.event) (λ rule. server_finding_line o e rule (server_against rule h e.event)) all_server_rules (string_bytes old.out) (string_bytes new.out) found)
    → ((h : List Seen) → StandsFor h old.server_judge → k ≡ known_of h e.event → StandsFor (e ∷ h) new.server_judge)
    → new.standard ≡ old.standard → new.names ≡ old.names → new.judge ≡ old.judge → new.servers ≡ old.servers → new.events ≡ old.events + 1 → new.findings ≡ old.findings + found → new.malformed ≡ old.malformed → new.passed_over ≡ old.passed_over
    → Keeps standard (after_seen s e) (text ++ server_findings_text s.server_history o e) new
seen-taken standard s text old new found o e k keeps look tell note same names judge servers events findings malformed passed_over = record {
  judged_by = same ∙ keeps.judged_by;
  names = subst (λ x. Holds s.known x) (sym names) keeps.names;
  judge = subst (λ x. Stands s.history x) (sym judge) keeps.judge;
  servers = subst (λ x. Holds s.servers x) (sym servers) keeps.servers;
  server_judge = note s.server_history keeps.server_judge known;
  tells = told.text ∙ ap (λ t. t ++ server_findings_text s.server_history o e) keeps.tells;
  events = events ∙ ap (λ n. n + 1) keeps.events;
  findings = findings ∙ ap (λ n. n + found) keeps.findings ∙ ap (λ n. s.findings + n) told.count;
  malformed = malformed ∙ keeps.malformed;
  passed_over = passed_over ∙ keeps.passed_over;
}
  where
    known : k ≡ known_of s.server_history e.event
    known = look s.server_history keeps.server_judge

    told : TellsRules (λ rule. server_breaks rule s.server_history e.event) (λ rule. server_finding_line o e rule (server_against rule s.server_history e.event)) all_server_rules (string_bytes old.out) (string_bytes new.out) found
    told = tell s.server_history known

-- the address of a server was named
pub server-named : (standard : Standard) (s : Read) (text : List ℕ) (old new : Reader) (server : ℕ) (a : List ℕ) → Keeps standard s text old → Named a s.servers server new.servers
    → new.standard ≡ old.standard → new.names ≡ old.names → new.judge ≡ old.judge → new.server_judge ≡ old.server_judge → new.out ≡ old.out → new.events ≡ old.events → new.findings ≡ old.findings → new.malformed ≡ old.malformed → new.passed_over ≡ old.passed_over
    → Keeps standard (naming a s) text new
server-named standard s text old new server a keeps named same names judge server_judge out events findings malformed passed_over = record {
  judged_by = same ∙ keeps.judged_by;
  names = subst (λ x. Holds s.known x) (sym names) keeps.names;
  judge = subst (λ x. Stands s.history x) (sym judge) keeps.judge;
  servers = named.holds;
  server_judge = subst (λ x. StandsFor s.server_history x) (sym server_judge) keeps.server_judge;
  tells = ap string_bytes out ∙ keeps.tells;
  events = events ∙ keeps.events;
  findings = findings ∙ keeps.findings;
  malformed = malformed ∙ keeps.malformed;
  passed_over = passed_over ∙ keeps.passed_over;
}

-- the event of the server by its number is that of the one at the address
pub server-is : (s : Read) (a : List ℕ) (server : ℕ) (t : ServerTold) (names : Names) → Named a s.servers server names → Server server t ≡ server_event_at s a t
server-is s a server t names named = ap (λ o. Server (unwrap_or o 0) t) (sym named.number)
