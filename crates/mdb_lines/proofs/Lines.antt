-- Each line that spells a step is read as that step, and no line spells two.
use Rattle.std.proofs.Common.{◌≡◌, ℕ, ◌<◌, ◌≤◌, ◌^◌, ◌&&◌, true, eqb, leb, List, [], ◌∷◌, length, get_or, zero, suc, Result, Ok, IsUtf8, refl, sym, arith, codes, subst}
use Rattle.std.proofs.lemmas.Bool.{eqb-true, leb-true, and_parts}
use Rattle.std.proofs.lemmas.List.{append_cancel_right}
use Rattle.std.proofs.lemmas.Str.{IsUtf8-from_ascii}
use Rattle.mdb_base.specs.AddressReading.{until, beyond}
use Rattle.std.specs.List.{list_all}
use Rattle.mdb_base.specs.AddressRule.{is_address}
use Rattle.mdb_base.specs.OptionRules.{are_seeds, all_different}
use Rattle.mdb_base.specs.declared.address.ServerAddress.{ServerAddress}
use Rattle.mdb_log.specs.declared.step.Step.{Step}
use Rattle.mdb_log.specs.declared.step.Act.{Act}
use Rattle.mdb_log.specs.declared.step.Act.TheVariants as act
use Rattle.mdb_parts.specs.declared.line_error.LineError.{LineError}
use Rattle.mdb_lines.specs.Spelling.{act_text, spelling}
use Rattle.mdb_lines.specs.Grammar.{is_act, is_printable, are_options, is_hello, is_beaten}
use Rattle.mdb_lines.specs.Types.{IsActOfTypes}
use Rattle.mdb_lines.specs.Script.{Spells, line_of}
use Rattle.mdb_parts.specs.Reading.{Gives}
use Rattle.mdb_lines.specs.Forms.{kind_of, caller_kind, connection_kind, monitor_kind, topology_kind, ReadsLine}
use Rattle.mdb_lines.proofs.SameForms.{open_same, moment_same, party_same, asked_same, address_line_same, place_same, take_same, established_same, return_same, failed_same, error_line_same, hello_same, beaten_same, beat_same, rtt_same, hosts_same, time_same}

-- hosts that keep the rules are some, and addresses
host_rules : (hosts : List ServerAddress) → (are_seeds hosts && list_all is_address hosts) ≡ true → (0 < length hosts) × (list_all is_address hosts ≡ true)
host_rules hosts h =
    let p = and_parts (are_seeds hosts) (list_all is_address hosts) h in
    let q = and_parts (leb 1 (length hosts) && leb (length hosts) 128) (all_different hosts) p.0 in
    let one : 1 ≤ length hosts = leb-true 1 (length hosts) (and_parts (leb 1 (length hosts)) (leb (length hosts) 128) q.0).0 in
    (omega arith, p.1)

-- what reading the text of an act gives
pub act_read : (m : ℕ) (a : Act) (r : Result Step LineError) → m < 2 ^ 64 → IsActOfTypes a → is_act m a ≡ true → ReadsLine (act_text m a) r → Gives (record { moment = m; act = a }) r
unfolding until beyond kind_of caller_kind connection_kind monitor_kind topology_kind
act_read m (act.Open o) r lm types rules reads =
    let p = and_parts (eqb m 0) (are_options o) rules in
    subst (λ (n : ℕ). Gives (record { moment = n; act = act.Open o }) r) (sym (eqb-true m 0 p.0)) (reads o types p.1 refl)
act_read m (act.Request party a) r lm types rules reads = reads m party a lm types rules refl
act_read m (act.Warm party a) r lm types rules reads = reads m party a lm types rules refl
act_read m (act.Collect party) r lm types rules reads = reads m party lm types refl
act_read m act.Claim r lm types rules reads = reads m lm refl
act_read m (act.GiveUp party) r lm types rules reads = reads m party lm types refl
act_read m (act.Established p c e) r lm types rules reads = reads m p c e lm types.0 types.1 types.2 rules refl
act_read m (act.Return party used) r lm types rules reads = reads m party used lm types refl
act_read m (act.Pin party) r lm types rules reads = reads m party lm types refl
act_read m (act.Replicate p c) r lm types rules reads = reads m p c lm types.0 types.1 refl
act_read m (act.Take party p c) r lm types rules reads = reads m party p c lm types.0 types.1 types.2 refl
act_read m (act.Unpin p c) r lm types rules reads = reads m p c lm types.0 types.1 refl
act_read m (act.Maintain a) r lm types rules reads = reads m a lm rules refl
act_read m (act.Expire a) r lm types rules reads = reads m a lm rules refl
act_read m (act.Failed p c at e) r lm types rules reads = reads m p c at e lm types.0 types.1 types.2 types.3 rules refl
act_read m (act.Error party e) r lm types rules reads = reads m party e lm types.0 types.1 rules refl
act_read m (act.Hello a p came) r lm types rules reads = let h = and_parts (is_address a) (is_hello came) rules in reads m p a came lm types.0 h.0 types.1 h.1 refl
act_read m (act.Beaten a p n came) r lm types rules reads = let h = and_parts (is_address a) (is_beaten came) rules in reads m p n a came lm types.0 types.1 h.0 types.2 h.1 refl
act_read m (act.Beat a p) r lm types rules reads = reads m p a lm types rules refl
act_read m (act.Rtt a p n) r lm types rules reads = reads m p n a lm types.0 types.1 rules refl
act_read m (act.Hosts hosts) r lm types rules reads = let h = host_rules hosts rules in reads m hosts lm h.0 h.1 refl
act_read m (act.ClusterTime time) r lm types rules reads = reads m time lm types refl
act_read m (act.Want watcher) r lm types rules reads = reads m watcher lm types refl
act_read m (act.Unwant watcher) r lm types rules reads = reads m watcher lm types refl
act_read m act.Stop r lm types rules reads = reads m lm refl
act_read m _ r lm types rules reads = absurd (cc)

pub step_read : (number : ℕ) (line : List ℕ) (s : Step) (r : Result Step LineError) → Spells number line s → ReadsLine line r → Gives s r
step_read number line s r h reads = act_read s.moment s.act r h.types.0 h.types.1 h.rules (subst (λ (l : List ℕ). ReadsLine l r) h.text reads)

pub is_text : (line : List ℕ) → is_printable line ≡ true → IsUtf8 line
is_text line h = IsUtf8-from_ascii line (λ i. below line h i)
  where
    below : (bs : List ℕ) → is_printable bs ≡ true → (i : ℕ) → get_or bs i 0 < 128
    below [] h i = omega arith
    below (b ∷ bs) h zero = let le : b ≤ 126 = leb-true b 126 (and_parts (leb 32 b) (leb b 126) (and_parts (leb 32 b && leb b 126) (is_printable bs) h).0).1 in omega arith
    below (b ∷ bs) h (suc i) = below bs (and_parts (leb 32 b && leb b 126) (is_printable bs) h).1 i

-- reading what spells an act may give that act
act_reads : (m : ℕ) (a : Act) → m < 2 ^ 64 → IsActOfTypes a → is_act m a ≡ true → ReadsLine (act_text m a) (Ok (record { moment = m; act = a }))
unfolding until beyond kind_of caller_kind connection_kind monitor_kind topology_kind
act_reads m (act.Open o) lm types rules =
    let p = and_parts (eqb m 0) (are_options o) rules in
    subst (λ (n : ℕ). ReadsLine (act_text n (act.Open o)) (Ok (record { moment = n; act = act.Open o }))) (sym (eqb-true m 0 p.0)) (open_same o types p.1)
act_reads m (act.Request party a) lm types rules = asked_same (λ r b. act.Request r b) m party a lm types rules
act_reads m (act.Warm party a) lm types rules = asked_same (λ r b. act.Warm r b) m party a lm types rules
act_reads m (act.Collect party) lm types rules = party_same (λ r. act.Collect r) m party lm types
act_reads m act.Claim lm types rules = moment_same act.Claim m lm
act_reads m (act.GiveUp party) lm types rules = party_same (λ r. act.GiveUp r) m party lm types
act_reads m (act.Established p c e) lm types rules = established_same m p c e lm types.0 types.1 types.2 rules
act_reads m (act.Return party used) lm types rules = return_same m party used lm types
act_reads m (act.Pin party) lm types rules = party_same (λ r. act.Pin r) m party lm types
act_reads m (act.Replicate p c) lm types rules = place_same (λ q k. act.Replicate q k) m p c lm types.0 types.1
act_reads m (act.Take party p c) lm types rules = take_same m party p c lm types.0 types.1 types.2
act_reads m (act.Unpin p c) lm types rules = place_same (λ q k. act.Unpin q k) m p c lm types.0 types.1
act_reads m (act.Maintain a) lm types rules = address_line_same (λ b. act.Maintain b) m a lm rules
act_reads m (act.Expire a) lm types rules = address_line_same (λ b. act.Expire b) m a lm rules
act_reads m (act.Failed p c at e) lm types rules = failed_same m p c at e lm types.0 types.1 types.2 types.3 rules
act_reads m (act.Error party e) lm types rules = error_line_same m party e lm types.0 types.1 rules
act_reads m (act.Hello a p came) lm types rules = let h = and_parts (is_address a) (is_hello came) rules in hello_same m p a came lm types.0 h.0 types.1 h.1
act_reads m (act.Beaten a p n came) lm types rules = let h = and_parts (is_address a) (is_beaten came) rules in beaten_same m p n a came lm types.0 types.1 h.0 types.2 h.1
act_reads m (act.Beat a p) lm types rules = beat_same m p a lm types rules
act_reads m (act.Rtt a p n) lm types rules = rtt_same m p n a lm types.0 types.1 rules
act_reads m (act.Hosts hosts) lm types rules = let h = host_rules hosts rules in hosts_same m hosts lm h.0 h.1
act_reads m (act.ClusterTime time) lm types rules = time_same m time lm types
act_reads m (act.Want watcher) lm types rules = party_same (λ w. act.Want w) m watcher lm types
act_reads m (act.Unwant watcher) lm types rules = party_same (λ w. act.Unwant w) m watcher lm types
act_reads m act.Stop lm types rules = moment_same act.Stop m lm
act_reads m _ lm types rules = absurd (cc)

-- a line spells one step
pub spells_one : (n : ℕ) (line : List ℕ) (s t : Step) → Spells n line s → Spells n line t → s ≡ t
spells_one n line s t hs ht =
    let reads = act_reads s.moment s.act hs.types.0 hs.types.1 hs.rules in
    step_read n line t (Ok s) ht (subst (λ (l : List ℕ). ReadsLine l (Ok s)) (sym hs.text) reads)

pub line_same : (n : ℕ) (s t : Step) → Spells n (spelling s) s → Spells n (spelling t) t → line_of s ≡ line_of t → s ≡ t
line_same n s t hs ht e =
    let text : spelling s ≡ spelling t = append_cancel_right (spelling s) (spelling t) (codes "\n") e in
    spells_one n (spelling t) s t (subst (λ (l : List ℕ). Spells n l s) text hs) ht
