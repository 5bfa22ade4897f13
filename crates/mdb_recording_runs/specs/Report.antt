-- What is told of a recording.
use Rattle.std.specs.Prelude.{ℕ, ◌+◌, ◌==◌, ◌&&◌, Bool, not, List, [], ◌∷◌, ◌++◌, codes, decimal, Option, Some, None, unwrap_or, if◌then◌else◌}
use Rattle.mdb_lines.specs.Script.{lines_of}
use Rattle.mdb_recordings.specs.Events.{id_of}
use Rattle.mdb_recordings.specs.Lives.{life, facts_of, former_of}
use Rattle.mdb_recordings.specs.Rules.{against, breaks}
use Rattle.mdb_recordings.specs.declared.event.Event.{Event}
use Rattle.mdb_recordings.specs.declared.event.Recorded.{Recorded}
use Rattle.mdb_recordings.specs.declared.facts.Facts.{Facts}
use Rattle.mdb_recordings.specs.declared.former.Former.{Former}
use Rattle.mdb_recordings.specs.declared.rule.Rule.{Rule}
use Rattle.mdb_recordings.specs.declared.standard.Standard.{Standard}
use Rattle.mdb_recording_lines.specs.Known.{place, with_named}
use Rattle.mdb_recording_lines.specs.LineForms.{Said, malformed, passed, tells, tells_server, tells_topology, said}
use Rattle.mdb_recording_servers.specs.ServerRules as servers
use Rattle.mdb_recording_servers.specs.declared.event.Seen.{Seen}
use Rattle.mdb_recording_servers.specs.declared.event.ServerEvent.{ServerEvent}
use Rattle.mdb_recording_servers.specs.declared.event.ServerEvent.TheVariants.{Server}
use Rattle.mdb_recording_servers.specs.declared.event.ServerTold.{ServerTold}
use Rattle.mdb_recording_servers.specs.declared.rule.ServerRule.{ServerRule}
use Rattle.mdb_recording_runs.specs.Cutting.{without_newline}
use Rattle.mdb_recording_runs.specs.declared.verdict.Verdict.{Verdict}
use Rattle.mdb_recording_runs.specs.declared.verdict.Verdict.TheVariants.{Kept, Broken, NothingJudged}
use Rattle.mdb_recording_runs.specs.RuleWords.{all_rules, rule_section, rule_word, all_server_rules, server_rule_section, server_rule_word}

-- What was read so far: the addresses of pools in the order in which they were first named, and their events, the last of them newest;
-- the same of servers, with the events of the topology; and how many events, findings and malformed lines there were, and lines that
-- were passed over.
pub record Read : Type 0 where
  pub known : List (List ℕ)
  pub history : List Recorded
  pub servers : List (List ℕ)
  pub server_history : List Seen
  pub events : ℕ
  pub findings : ℕ
  pub malformed : ℕ
  pub passed_over : ℕ

abbrev pub nothing : Read
nothing = record { known = []; history = []; servers = []; server_history = []; events = 0; findings = 0; malformed = 0; passed_over = 0 }

-- findings

-- the connection that is named, if one is
abbrev pub id_text : Option ℕ → List ℕ
id_text None = []
id_text (Some i) = codes " connection=" ++ decimal i

-- the section of the standard, to the end of the line
abbrev pub section_text : List ℕ → List ℕ
section_text section = codes " section=" ++ (section ++ codes "\n")

-- the line of the event that it contradicts, if there is one
unfoldable pub against_text : Option ℕ → List ℕ
against_text None = []
against_text (Some n) = codes " against=" ++ decimal n

-- the line of a finding, by the address of the event's pool and the line of the event that it contradicts
abbrev pub finding_line : List ℕ → Recorded → Rule → Option ℕ → List ℕ
finding_line a r rule o = codes "event " ++ (decimal r.line ++ (codes ": " ++ (rule_word rule ++ (codes " pool=" ++ (a ++ (id_text (id_of r.event.told) ++ (against_text o ++ section_text (rule_section rule))))))))

-- the findings of an event: a line for each of these rules that it breaks
abbrev pub told_of : {R : Type 0} → (R → Bool) → (R → List ℕ) → List R → List ℕ
told_of broken line [] = []
told_of broken line (rule ∷ rules) = (if broken rule then line rule else []) ++ told_of broken line rules

-- how many of these rules it breaks
abbrev pub how_many : {R : Type 0} → (R → Bool) → List R → ℕ
how_many broken [] = 0
how_many broken (rule ∷ rules) = (if broken rule then 1 else 0) + how_many broken rules

-- the findings of an event of a pool after these
abbrev pub findings_text : Standard → List Recorded → List ℕ → Recorded → List ℕ
findings_text standard h a r = told_of (λ rule. breaks standard rule h r) (λ rule. finding_line a r rule (against rule h r)) all_rules

abbrev pub findings_count : Standard → List Recorded → Recorded → ℕ
findings_count standard h r = how_many (λ rule. breaks standard rule h r) all_rules

-- the server that is named, if one is
abbrev pub server_text : Option (List ℕ) → List ℕ
server_text None = []
server_text (Some a) = codes " server=" ++ a

-- the line of a finding of a server, by its address, or of the topology, and by the line of the event that it contradicts
abbrev pub server_finding_line : Option (List ℕ) → Seen → ServerRule → Option ℕ → List ℕ
server_finding_line a e rule o = codes "event " ++ (decimal e.line ++ (codes ": " ++ (server_rule_word rule ++ (server_text a ++ (against_text o ++ section_text (server_rule_section rule))))))

-- the findings of an event of a server or of the topology after these
abbrev pub server_findings_text : List Seen → Option (List ℕ) → Seen → List ℕ
server_findings_text h a e = told_of (λ rule. servers.breaks rule h e.event) (λ rule. server_finding_line a e rule (servers.against rule h e.event)) all_server_rules

abbrev pub server_findings_count : List Seen → Seen → ℕ
server_findings_count h e = how_many (λ rule. servers.breaks rule h e.event) all_server_rules

-- lines

-- an event of the pool at the address, which has its number, on the line n
abbrev pub recorded_at : ℕ → Read → List ℕ → Event → Recorded
recorded_at n s a e = record { pool = unwrap_or (place a (with_named a s.known)) 0; line = n; event = e }

abbrev pub after_event : Standard → ℕ → Read → List ℕ → Event → Read
after_event standard n s a e = record s {
  known = with_named a s.known;
  history = recorded_at n s a e ∷ s.history;
  events = s.events + 1;
  findings = s.findings + findings_count standard s.history (recorded_at n s a e);
}

-- the address of a server is named
abbrev pub naming : List ℕ → Read → Read
naming a s = record s { servers = with_named a s.servers }

-- an event of the server at the address, which has its number
abbrev pub server_event_at : Read → List ℕ → ServerTold → ServerEvent
server_event_at s a t = Server (unwrap_or (place a (with_named a s.servers)) 0) t

-- an event on the line n
abbrev pub seen_on : ℕ → ServerEvent → Seen
seen_on n e = record { line = n; event = e }

-- an event of a server, or of the topology
abbrev pub after_seen : Read → Seen → Read
after_seen s e = record s {
  server_history = e ∷ s.server_history;
  events = s.events + 1;
  findings = s.findings + server_findings_count s.server_history e;
}

-- what was read with the line n, which tells this
abbrev pub after_said : Standard → ℕ → Read → Said → Read
after_said standard n s malformed = record s { malformed = s.malformed + 1 }
after_said standard n s passed = record s { passed_over = s.passed_over + 1 }
after_said standard n s (tells a e) = after_event standard n s a e
after_said standard n s (tells_server a t) = after_seen (naming a s) (seen_on n (server_event_at s a t))
after_said standard n s (tells_topology e) = after_seen s (seen_on n e)

abbrev pub event_text : Standard → ℕ → Read → List ℕ → Event → List ℕ
event_text standard n s a e = findings_text standard s.history a (recorded_at n s a e)

-- what is told of the line of this number
abbrev pub said_text : Standard → ℕ → Read → Said → List ℕ
said_text standard n s malformed = codes "line " ++ (decimal n ++ codes ": malformed\n")
said_text standard n s passed = []
said_text standard n s (tells a e) = event_text standard n s a e
said_text standard n s (tells_server a t) = server_findings_text s.server_history (Some a) (seen_on n (server_event_at s a t))
said_text standard n s (tells_topology e) = server_findings_text s.server_history None (seen_on n e)

-- what was read with these lines, counted from this number
abbrev pub after_lines : Standard → ℕ → Read → List (List ℕ) → Read
after_lines standard n s [] = s
after_lines standard n s (line ∷ lines) = after_lines standard (n + 1) (after_said standard n s (said (without_newline line))) lines

-- what is told of these lines, counted from this number
abbrev pub lines_text : Standard → ℕ → Read → List (List ℕ) → List ℕ
lines_text standard n s [] = []
lines_text standard n s (line ∷ lines) = said_text standard n s (said (without_newline line)) ++ lines_text standard (n + 1) (after_said standard n s (said (without_newline line))) lines

-- the end

-- the counts of a pool's connections, of its check-outs, and of what failed and was cleared

abbrev pub connections_text : Facts → List ℕ
connections_text f = codes " created=" ++ (decimal f.created ++ (codes " ready=" ++ (decimal f.readied ++ (codes " closed=" ++ decimal f.closed))))

abbrev pub check_outs_text : Facts → List ℕ
check_outs_text f = codes " started=" ++ (decimal f.started ++ (codes " out=" ++ (decimal f.outs ++ (codes " in=" ++ decimal f.ins))))

abbrev pub ends_text : Facts → List ℕ
ends_text f = codes " failed=" ++ (decimal f.failed ++ (codes " cleared=" ++ decimal f.clears))

-- how many connections of the pools before it are not closed
abbrev pub left_text : Former → List ℕ
left_text x = codes " left=" ++ decimal x.left

-- what the last pool at an address did, and what those before it left
abbrev pub pool_line : List ℕ → Facts → Former → List ℕ
pool_line a f x = codes "pool " ++ (a ++ (connections_text f ++ (check_outs_text f ++ (ends_text f ++ (left_text x ++ codes "\n")))))

-- the pools at these addresses, numbered from this
abbrev pub pools_text : List Recorded → ℕ → List (List ℕ) → List ℕ
pools_text h p [] = []
pools_text h p (a ∷ known) = pool_line a (facts_of (life p h)) (former_of p h) ++ pools_text h (p + 1) known

-- What so many findings, malformed lines and events come to: a rule is broken, or a line can't be read; nothing was judged; or all rules
-- are kept.
abbrev pub verdict_by : ℕ → ℕ → ℕ → Verdict
verdict_by found bad events = if not ((found == 0) && (bad == 0)) then Broken else (if events == 0 then NothingJudged else Kept)

abbrev pub passed_text : ℕ → List ℕ
passed_text passed_over = codes " passed_over=" ++ (decimal passed_over ++ codes "\n")

abbrev pub kept_line : ℕ → ℕ → List ℕ
kept_line events passed_over = codes "clean events=" ++ (decimal events ++ passed_text passed_over)

abbrev pub broken_line : ℕ → ℕ → ℕ → ℕ → List ℕ
broken_line found bad events passed_over = codes "findings=" ++ (decimal found ++ (codes " malformed=" ++ (decimal bad ++ (codes " events=" ++ (decimal events ++ passed_text passed_over)))))

abbrev pub nothing_line : ℕ → List ℕ
nothing_line passed_over = codes "nothing judged" ++ passed_text passed_over

-- the last line, by the verdict and by the counts
abbrev pub verdict_line : Verdict → ℕ → ℕ → ℕ → ℕ → List ℕ
verdict_line Kept found bad events passed_over = kept_line events passed_over
verdict_line Broken found bad events passed_over = broken_line found bad events passed_over
verdict_line NothingJudged found bad events passed_over = nothing_line passed_over

abbrev pub counts_line : ℕ → ℕ → ℕ → ℕ → List ℕ
counts_line found bad events passed_over = verdict_line (verdict_by found bad events) found bad events passed_over

-- what is found of a recording that was read
abbrev pub verdict_of : Read → Verdict
verdict_of s = verdict_by s.findings s.malformed s.events

abbrev pub end_line : Read → List ℕ
end_line s = counts_line s.findings s.malformed s.events s.passed_over

-- all that is told of a recording that was read
abbrev pub end_text : Read → List ℕ
end_text s = pools_text s.history 0 s.known ++ end_line s

-- what a recording comes to
abbrev pub read_of : Standard → List ℕ → Read
read_of standard text = after_lines standard 1 nothing (lines_of text)

abbrev pub report : Standard → List ℕ → List ℕ
report standard text = lines_text standard 1 nothing (lines_of text) ++ end_text (read_of standard text)
