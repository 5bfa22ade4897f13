-- The text of a run: each event with its answer, and what the driver then describes.
use Rattle.std.specs.Prelude.{ℕ, ℤ, List, [], ◌∷◌, ◌++◌, codes, decimal, find, Option, Some, None}
use Rattle.std.specs.Fmt.{signed_decimal}
use Rattle.mdb_base.specs.declared.object_id.ObjectId.{ObjectId}
use Rattle.mdb_base.specs.Spelling.{address, object_id}
use Rattle.mdb_describe.specs.declared.description.ServerDescription.{ServerDescription}
use Rattle.mdb_describe.specs.declared.topology.TopologyDescription.{TopologyDescription}
use Rattle.mdb_describe.specs.Servers.{is_primary_type}
use Rattle.mdb_lines.specs.LogText.{reply_text}
use Rattle.mdb_srv.specs.Polling.{topology_name}
use Rattle.mdb_fleet_runs.specs.declared.answers.FleetAnswer.{FleetAnswer}
use Rattle.mdb_fleet_runs.specs.declared.answers.FleetAnswer.TheVariants as answer
use Rattle.mdb_fleet_runs.specs.declared.event.Event.{Event}
use Rattle.mdb_fleet_runs.specs.Events.{event_text}
use Rattle.mdb_fleet_runs.specs.Trials.{Trial, Outcome, description_in, outcome}

abbrev pub answer_text : FleetAnswer → List ℕ
answer_text answer.Done = codes "Done"
answer_text (answer.Sent i) = codes "Reply " ++ decimal i
answer_text (answer.Told reply) = reply_text reply
answer_text answer.NotPrimary = codes "Refused NotPrimary"
answer_text answer.NoReply = codes "Refused NoReply"
answer_text answer.NoMember = codes "Refused NoMember"

-- the first of the servers that is a primary
abbrev pub described_primary : List ServerDescription → Option ServerDescription
described_primary servers = find (λ s. is_primary_type s.server_type) servers

-- the address of a primary, or a dash
abbrev pub primary_text : Option ServerDescription → List ℕ
primary_text (Some s) = address s.address
primary_text None = codes "-"

-- the id of an election, or a dash
abbrev pub election_text : Option ObjectId → List ℕ
election_text (Some id) = object_id id
election_text None = codes "-"

-- a set version, or a dash
abbrev pub version_text : Option ℤ → List ℕ
version_text (Some version) = signed_decimal version
version_text None = codes "-"

-- a description: its type, its primary and both maxima
abbrev pub shown : TopologyDescription → List ℕ
shown d =
    topology_name d.topology_type ++ (codes " primary=" ++ (primary_text (described_primary d.servers)
    ++ (codes " election=" ++ (election_text d.max_election_id ++ (codes " set=" ++ version_text d.max_set_version)))))

-- the line of an event, with its newline
abbrev pub line_text : ℕ → Event → Outcome → List ℕ
line_text n e o = event_text e ++ (codes " | " ++ (answer_text o.answer ++ (codes " | " ++ (shown (description_in n o.trial) ++ codes "\n"))))

-- the lines of events, one after another
abbrev pub text_after : ℕ → Trial → List Event → List ℕ
text_after n t [] = []
text_after n t (e ∷ es) = line_text n e (outcome n t e) ++ text_after n (outcome n t e).trial es
