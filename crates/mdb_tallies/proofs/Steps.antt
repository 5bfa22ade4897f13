-- What one more accepted step changes of a connection.
use Rattle.std.proofs.Common.{ℕ, ◌+◌, ◌≡◌, ◌==◌, Bool, true, false, not, ◌&&◌, ◌||◌, if◌then◌else◌, nat_lt, is_some, None, List, ◌∷◌, refl, ap, ◌∙◌, arith}
use Rattle.std.proofs.lemmas.Grind.{common_steps}
use Rattle.mdb_log.specs.declared.step.Act.{Act}
use Rattle.mdb_log.specs.declared.step.Act.TheVariants.{Request, Warm, GiveUp, Established, Failed, Return, Pin, Replicate, Take, Unpin}
use Rattle.mdb_log.specs.declared.step.FailedAt.TheVariants.{Pre, Post}
use Rattle.mdb_log.specs.declared.reply.Reply.{Reply}
use Rattle.mdb_log.specs.History.{Item, PoolItem, did, of_pool, open_pool, after_act, if_so, is_number, given, has_asked, asked, warmed, gave_up, returned, pinned_by, replicated, unpinned}
use Rattle.mdb_log.specs.Connections.{one_if}
use Rattle.mdb_log.specs.PlainConnections.{is_pending}
use Rattle.mdb_log.specs.PlainHolders.{has_returned, holds, is_granted_to, is_taken_by}
use Rattle.mdb_log.specs.PlainRequests.{is_ended}
use Rattle.mdb_tallies.specs.declared.connection.Connection.{Connection}
use Rattle.mdb_tallies.specs.Standing.{connection_by, connection_of, gift_of, party_of, keeps, borrows}
use Rattle.mdb_tallies.specs.Changes.{connection_after, held_by_now}
use Rattle.mdb_tallies.specs.Reading.{of_act}
use Rattle.mdb_tallies.proofs.Facts.{unsaid}
use Rattle.mdb_tallies.proofs.Pooled.{established-changes, failed-changes}
use Rattle.mdb_tallies.proofs.Lent.{taken-changes, returned-changes}

same_holds : (t g p e r : Bool) → (t || (g && (not p && not e))) && not r ≡ (t && not r) || ((g && (not t && (not r && not e))) && not p)
same_holds true true true true true = refl
same_holds true true true true false = refl
same_holds true true true false true = refl
same_holds true true true false false = refl
same_holds true true false true true = refl
same_holds true true false true false = refl
same_holds true true false false true = refl
same_holds true true false false false = refl
same_holds true false true true true = refl
same_holds true false true true false = refl
same_holds true false true false true = refl
same_holds true false true false false = refl
same_holds true false false true true = refl
same_holds true false false true false = refl
same_holds true false false false true = refl
same_holds true false false false false = refl
same_holds false true true true true = refl
same_holds false true true true false = refl
same_holds false true true false true = refl
same_holds false true true false false = refl
same_holds false true false true true = refl
same_holds false true false true false = refl
same_holds false true false false true = refl
same_holds false true false false false = refl
same_holds false false true true true = refl
same_holds false false true true false = refl
same_holds false false true false true = refl
same_holds false false true false false = refl
same_holds false false false true true = refl
same_holds false false false true false = refl
same_holds false false false false true = refl
same_holds false false false false false = refl

-- who holds a connection, by how it was given and what is known of the party and the connection
pub held-now : (p : ℕ) (h : List Item) (r c : ℕ) → holds p h r c ≡ held_by_now (gift_of h r p c) (party_of h r) (connection_of h p c)
held-now p h r c = same_holds (is_taken_by (of_pool p h) r c) (is_granted_to (of_pool p h) r c) (is_pending (of_pool p h) c) (is_ended h r) (has_returned h r)

-- A connection after one more accepted step.
pub step-connection : (m : ℕ) (act : Act) (reply : Reply) (h : List Item) (p c : ℕ) → connection_of (did (record { moment = m; act = act }) reply ∷ h) p c ≡ connection_after (of_act (open_pool h) act) (λ r. gift_of h r p c) (party_of h) p c (connection_of h p c)
step-connection m (Request r a) reply h p c = unsaid (is_number (open_pool h a) p) (asked r m) (of_pool p h) (has_returned h) (is_ended h) c refl
step-connection m (Warm r a) reply h p c = unsaid (is_number (open_pool h a) p) (warmed r m) (of_pool p h) (has_returned h) (is_ended h) c refl
step-connection m (GiveUp r) reply h p c = unsaid (has_asked (of_pool p h) r) (gave_up r) (of_pool p h) (has_returned h) (is_ended h) c refl
step-connection m (Established q d how) reply h p c = established-changes (q == p) d how m (of_pool p h) (has_returned h) (is_ended h) c
step-connection m (Failed q d Pre error) reply h p c = failed-changes (q == p) d None (of_pool p h) (has_returned h) (is_ended h) c
step-connection m (Failed q d (Post service) error) reply h p c = failed-changes (q == p) d service (of_pool p h) (has_returned h) (is_ended h) c
step-connection m (Return r used) reply h p c =
    unsaid (is_some (given (of_pool p h) r)) (returned r used) (of_pool p h) (λ q. (r == q) || has_returned h q) (is_ended h) c refl
    ∙ returned-changes r (of_pool p h) (has_returned h) (is_ended h) c
step-connection m (Pin r) reply h p c = unsaid (is_some (given (of_pool p h) r)) (pinned_by r) (of_pool p h) (has_returned h) (is_ended h) c refl
step-connection m (Replicate q d) reply h p c = unsaid (q == p) (replicated d) (of_pool p h) (has_returned h) (is_ended h) c refl
step-connection m (Take r q d) reply h p c = taken-changes (q == p) r d (of_pool p h) (has_returned h) (is_ended h) c
step-connection m (Unpin q d) reply h p c = unsaid (q == p) (unpinned d) (of_pool p h) (has_returned h) (is_ended h) c refl
step-connection m act reply h p c = refl
