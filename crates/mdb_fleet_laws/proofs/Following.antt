-- After each event of a run the description follows the replies that were applied.
use Rattle.std.proofs.Common.{◌≡◌, ℕ, ◌+◌, ◌-◌, ◌<◌, ◌≤◌, ◌^◌, true, false, ◌&&◌, inl, inr, List, [], ◌∷◌, ◌++◌, length, get_or, Option, Some, None, refl, sym, ap, ◌∙◌, subst, arith, append_assoc, length-append}
use Rattle.std.specs.Prelude.{slice_get, replicate, is_some, if◌then◌else◌, nat_lt}
use Rattle.std.proofs.Math.ListN.{set}
use Rattle.std.proofs.lemmas.Bool.{cases_Bool, cases_eq, ltb-true}
use Rattle.std.proofs.lemmas.List.{append-nil, length-set, length-replicate, get_or-set_same, get_or-set_other}
use Rattle.std.proofs.lemmas.List.Elements.{All-get_or, All-replicate}
use Rattle.mdb_base.specs.declared.options.Options.{Options}
use Rattle.mdb_hello.specs.declared.response.HelloCommandResponse.{HelloCommandResponse}
use Rattle.mdb_describe.specs.declared.description.ServerDescription.{ServerDescription}
use Rattle.mdb_describe.specs.declared.topology.TopologyDescription.{TopologyDescription}
use Rattle.mdb_describe.specs.Descriptions.{failed, from_reply}
use Rattle.mdb_describe.specs.Servers.{addresses_of, is_known}
use Rattle.mdb_describe.specs.Update.{updated, is_new}
use Rattle.mdb_log.specs.History.{Item, history_of, open_pool, with_answer}
use Rattle.mdb_log.specs.LegalLog.{OpensSeeds}
use Rattle.mdb_log.specs.declared.checked.HelloResult.{HelloResult}
use Rattle.mdb_log.specs.declared.checked.HelloResult.TheVariants as hello
use Rattle.mdb_log.specs.declared.step.Step.{Step}
use Rattle.mdb_log.proofs.Later.{with_entries-append}
use Rattle.mdb_driver_rules.specs.Answer.{answer}
use Rattle.mdb_driver_rules.specs.Description.{description_of, is_stopped}
use Rattle.mdb_driver_rules.specs.Lines.{entry_after}
use Rattle.mdb_topology.specs.Logging.{Stood}
use Rattle.mdb_driver_rules.specs.Monitors.{hello_reply}
use Rattle.mdb_fleets.specs.declared.member.Member.{Member}
use Rattle.mdb_fleets.specs.declared.member.Sent.{Sent}
use Rattle.mdb_fleets.specs.Members.{new_member, is_primary, winner, greatest_version, stepped_down, reconfigured}
use Rattle.mdb_fleets.specs.MemberReplies.{address_of, reply_of}
use Rattle.mdb_fleets.specs.ReplicaSet.{member_at, elected, demoted, reconfigured_at, asked}
use Rattle.mdb_failover.specs.Elections.{Pair}
use Rattle.mdb_failover.specs.Followed.{Won, IsHonest, pair_of, Follows}
use Rattle.mdb_failover.specs.Says.{Says}
use Rattle.mdb_failover.proofs.Growing.{honest-more, more-winners}
use Rattle.mdb_failover.proofs.Lists.{known-address}
use Rattle.mdb_failover.proofs.Opening.{listed-known, opening}
use Rattle.mdb_failover.proofs.Says.{says}
use Rattle.mdb_failover.proofs.Takes.{failing, taking}
use Rattle.mdb_fleet_runs.specs.declared.event.Event.{Event}
use Rattle.mdb_fleet_runs.specs.declared.event.FleetAct.{FleetAct}
use Rattle.mdb_fleet_runs.specs.declared.event.FleetAct.TheVariants as act
use Rattle.mdb_fleet_runs.specs.declared.answers.FleetAnswer.TheVariants as told
use Rattle.mdb_fleet_runs.specs.Trials.{Trial, Outcome, fleet_options, opened, log_in, history_in, description_in, hello_step, lost, refuses, with_set, steps, delivers, by_member, by_primary, happens, outcome, after, begun}
use Rattle.mdb_fleet_runs.specs.FleetRuns.{StoodFrom, StoodEach}
use Rattle.mdb_fleet_laws.specs.Failover.{won_by, accepts, is_not_above, version_of, applied_reply, applied_by, winners_from, pairs_from}
use Rattle.mdb_fleet_laws.proofs.Parts.{last-is, one-more, new-is}
use Rattle.mdb_fleet_laws.proofs.Opened.{opening-taken}
use Rattle.mdb_fleet_laws.proofs.Steps.{described-after, runs-on, reply-rule, error-rule}

-- a reply on the wire is what its member said, and the election that it names was won
pub record IsSent (n : ℕ) (ws : List ℕ) (x : Sent) : Type 0 where
  pub there : x.member < n
  pub response : x.response ≡ reply_of n x.member x.said
  pub honest : IsHonest ws x.member x.said

-- what holds after some events, of which there are at most j
pub record Stage (n : ℕ) (t : Trial) (ws : List ℕ) (ps : List Pair) (j : ℕ) : Type 0 where
  pub size : length t.set.members ≡ n
  pub follows : Follows n ws ps (description_in n t)
  pub honest : (k : ℕ) → k < n → IsHonest ws k (member_at t.set k)
  pub count : t.set.elections ≡ length ws
  pub wire : (i : ℕ) (x : Sent) → slice_get t.set.wire i ≡ Some x → IsSent n ws x
  pub running : is_stopped (history_in n t) ≡ false
  pub early : length ws ≤ j

module _ (n : ℕ) (some : 1 ≤ n) (few : n ≤ 50) where
  later : (t : Trial) (ws : List ℕ) (ps : List Pair) (j : ℕ) → Stage n t ws ps j → Stage n t ws ps (j + 1)
  later t ws ps j s = record { size = s.size; follows = s.follows; honest = s.honest; count = s.count; wire = s.wire; running = s.running; early = omega (arith, s.early) }

  -- nothing more was won, and nothing was applied
  as-is : (t : Trial) (ws : List ℕ) (ps : List Pair) (j : ℕ) → Stage n t ws ps j → Stage n t (ws ++ []) (ps ++ []) (j + 1)
  as-is t ws ps j s =
      subst (λ (w : List ℕ). Stage n t w (ps ++ []) (j + 1)) (sym (append-nil ws)) (subst (λ (p : List Pair). Stage n t ws p (j + 1)) (sym (append-nil ps)) (later t ws ps j s))

  module _ (t : Trial) (ws : List ℕ) (ps : List Pair) (j : ℕ) (s : Stage n t ws ps j) where
    -- changes of the replica set

    sent-more : (k : ℕ) (x : Sent) → IsSent n ws x → IsSent n (ws ++ k ∷ []) x
    sent-more k x h = record { there = h.there; response = h.response; honest = honest-more ws x.member k x.said h.honest }

    -- members of which one changed
    changed-honest : (w : List ℕ) (k : ℕ) (m : Member) → k < length t.set.members → ((i : ℕ) → i < n → IsHonest w i (member_at t.set i)) → IsHonest w k m → (i : ℕ) → i < n → IsHonest w i (get_or (set t.set.members k m) i new_member)
    changed-honest w k m there all own i less = elim (cases_eq i k) [
      | inl same ↦ subst (λ (x : ℕ). IsHonest w x (get_or (set t.set.members k m) x new_member)) (sym same) (subst (IsHonest w k) (sym (get_or-set_same t.set.members k m new_member there)) own)
      | inr other ↦ subst (IsHonest w i) (sym (get_or-set_other t.set.members k i m new_member other)) (all i less)
    ]

    wins : (k : ℕ) → k < length t.set.members → j + 1 < 2 ^ 64 → Stage n (record t { set = elected t.set k }) (ws ++ k ∷ []) ps (j + 1)
    wins k there small =
        let m = winner (t.set.elections + 1) (greatest_version t.set.members) (member_at t.set k) in
        let place : t.set.elections + 1 - 1 ≡ length ws = omega (arith, s.count) in
        let own : Won (ws ++ k ∷ []) (t.set.elections + 1) k = record { counted = omega arith; small = omega (arith, s.count, s.early, small); winner = ap (slice_get (ws ++ k ∷ [])) place ∙ last-is ws k } in
        record {
          size = length-set t.set.members k m ∙ s.size;
          follows = more-winners n ws k ps (description_in n t) s.follows;
          honest = changed-honest (ws ++ k ∷ []) k m there (λ i less. honest-more ws i k (member_at t.set i) (s.honest i less)) own;
          count = omega (arith, s.count, length-append ws (k ∷ []));
          wire = λ i x at. sent-more k x (s.wire i x at);
          running = s.running;
          early = omega (arith, s.early, length-append ws (k ∷ []));
        }

    -- a member becomes another that names no election that it did not win
    becomes : (k : ℕ) (m : Member) → k < length t.set.members → IsHonest ws k m → Stage n (record t { set = record t.set { members = set t.set.members k m } }) ws ps (j + 1)
    becomes k m there own = record {
      size = length-set t.set.members k m ∙ s.size;
      follows = s.follows;
      honest = changed-honest ws k m there s.honest own;
      count = s.count;
      wire = s.wire;
      running = s.running;
      early = omega (arith, s.early);
    }

    plain : (u : Trial) → Stage n u ws ps (j + 1) → Stage n u (ws ++ []) (ps ++ []) (j + 1)
    plain u h = subst (λ (w : List ℕ). Stage n u w (ps ++ []) (j + 1)) (sym (append-nil ws)) (subst (λ (p : List Pair). Stage n u ws p (j + 1)) (sym (append-nil ps)) h)

    demotes : (k : ℕ) → k < length t.set.members → Stage n (record t { set = demoted t.set k }) ws ps (j + 1)
    demotes k there = elim (cases_Bool (is_primary (member_at t.set k))) [
      | inl primary ↦ rw primary (becomes k (stepped_down (member_at t.set k)) there tt)
      | inr other ↦ rw other (later t ws ps j s)
    ]

    reconfigures : (k : ℕ) → k < length t.set.members → Stage n (record t { set = reconfigured_at t.set k }) ws ps (j + 1)
    reconfigures k there = elim (cases_Bool (is_primary (member_at t.set k))) [
      | inl primary ↦ rw primary (becomes k (reconfigured (member_at t.set k)) there (s.honest k (subst (λ (x : ℕ). k < x) s.size there)))
      | inr other ↦ rw other (later t ws ps j s)
    ]

    asks : (k : ℕ) → k < length t.set.members → Stage n (record t { set = asked t.set k }) ws ps (j + 1)
    asks k there =
        let less : k < n = subst (λ (x : ℕ). k < x) s.size there in
        let own : IsSent n ws (record { member = k; said = member_at t.set k; response = reply_of (length t.set.members) k (member_at t.set k) }) =
        record { there = less; response = ap (λ (x : ℕ). reply_of x k (member_at t.set k)) s.size; honest = s.honest k less } in
        record {
          size = s.size;
          follows = s.follows;
          honest = s.honest;
          count = s.count;
          wire = λ i x at. elim (one-more t.set.wire (record { member = k; said = member_at t.set k; response = reply_of (length t.set.members) k (member_at t.set k) }) i x at) [
            | inl before ↦ s.wire i x before
            | inr last ↦ subst (IsSent n ws) (sym last) own
          ];
          running = s.running;
          early = omega (arith, s.early);
        }

    -- steps of the driver, of which some stood for the log

    module _ (stood : Stood (fleet_options n) (log_in n t)) (k m : ℕ) (there : k < n) where
      abbrev o : Options
      o = fleet_options n

      abbrev h : List Item
      h = history_in n t

      abbrev d : TopologyDescription
      d = description_in n t

      known : is_known (address_of k) d.servers ≡ true
      known = known-address (address_of k) d.servers ∙ listed-known n k (addresses_of d.servers) there s.follows.known

      its-description : stood.driver.description ≡ d
      its-description = sym stood.stands.described.known ∙ ap (λ (q : Options). description_of q h) stood.own

      open-pool : is_some (open_pool h (address_of k)) ≡ true
      open-pool = stood.stands.described.open_for (address_of k) ∙ ap (λ (x : TopologyDescription). is_known (address_of k) x.servers) its-description ∙ known

      -- the trial after a hello
      module _ (came : HelloResult) where
        abbrev step : Step
        step = hello_step n t m k came

        abbrev next : Trial
        next = (steps n t step).trial

        grown : history_in n next ≡ with_answer step (answer o h step).reply (answer o h step).facts h
        grown = with_entries-append (log_in n t) (entry_after 0 (log_in n t) step) []

        -- it is as it was but for the description
        steps-on : (qs : List Pair) → Follows n ws qs (description_in n next) → Stage n next ws qs (j + 1)
        steps-on qs f = record {
          size = s.size;
          follows = f;
          honest = s.honest;
          count = s.count;
          wire = s.wire;
          running = ap is_stopped grown ∙ runs-on o h (address_of k) open-pool s.running m came;
          early = omega (arith, s.early);
        }

        described : description_in n next ≡ description_of o (with_answer step (answer o h step).reply (answer o h step).facts h)
        described = ap (description_of o) grown

        refused-is : accepts n t step ≡ false → description_in n next ≡ d
        refused-is no-so = described ∙ described-after o h (address_of k) open-pool s.running m came ∙ rw no-so refl

      loses : Stage n (steps n t (hello_step n t m k (hello.Err lost))).trial ws ps (j + 1)
      loses = elim (cases_Bool (accepts n t (hello_step n t m k (hello.Err lost)))) [
        | inl yes-so ↦
            let is : description_in n (steps n t (hello_step n t m k (hello.Err lost))).trial ≡ updated d (failed (address_of k) lost) =
            described (hello.Err lost) ∙ described-after o h (address_of k) open-pool s.running m (hello.Err lost) ∙ (rw yes-so (error-rule o h (address_of k) open-pool s.running m lost)) in
            steps-on (hello.Err lost) ps (subst (Follows n ws ps) (sym is) (failing n ws ps d s.follows (address_of k) lost refl))
        | inr no-so ↦ steps-on (hello.Err lost) ps (subst (Follows n ws ps) (sym (refused-is (hello.Err lost) no-so)) s.follows)
      ]

      module _ (said : Member) (r : HelloCommandResponse) (is-reply : r ≡ reply_of n k said) (honest : IsHonest ws k said) where
        abbrev came : HelloResult
        came = hello.Ok 0 r

        abbrev new_one : ServerDescription
        new_one = from_reply (address_of k) (hello_reply (address_of k) r) 0 m

        its-says : Says n k said new_one
        its-says = says n k said few there (hello_reply (address_of k) r) is-reply 0 m

        fresh-is : is_new d new_one ≡ is_not_above (version_of d k) said
        fresh-is = new-is n k said (omega (arith, there, few)) d s.follows.processes known new_one its-says

        taken : accepts n t (hello_step n t m k came) ≡ true → description_in n (steps n t (hello_step n t m k came)).trial ≡ updated d new_one
        taken so = described came ∙ described-after o h (address_of k) open-pool s.running m came ∙ (rw so (reply-rule o h (address_of k) open-pool s.running m 0 r))

        arrives : Stage n (steps n t (hello_step n t m k came)).trial ws (ps ++ (if accepts n t (hello_step n t m k came) && is_not_above (version_of d k) said then pair_of said said.election else [])) (j + 1)
        arrives = elim (cases_Bool (accepts n t (hello_step n t m k came))) [
          | inl so ↦ elim (cases_Bool (is_not_above (version_of d k) said)) [
            | inl new ↦
                rw (so, new)
                (steps-on came (ps ++ pair_of said said.election)
                (subst (Follows n ws (ps ++ pair_of said said.election)) (sym (taken so)) (taking n ws ps d s.follows k said new_one (omega (arith, there, few)) its-says (fresh-is ∙ new) honest)))
            | inr old ↦
                let same : updated d new_one ≡ d = rw (fresh-is ∙ old) refl in
                rw (so, old)
                (subst (λ (qs : List Pair). Stage n (steps n t (hello_step n t m k came)).trial ws qs (j + 1)) (sym (append-nil ps)) (steps-on came ps (subst (Follows n ws ps) (sym (taken so ∙ same)) s.follows)))
          ]
          | inr no-so ↦
              rw no-so
              (subst (λ (qs : List Pair). Stage n (steps n t (hello_step n t m k came)).trial ws qs (j + 1)) (sym (append-nil ps)) (steps-on came ps (subst (Follows n ws ps) (sym (refused-is came no-so)) s.follows)))
        ]

  -- one event

  module _ (t : Trial) (ws : List ℕ) (ps : List Pair) (j : ℕ) (s : Stage n t ws ps j) (stood : Stood (fleet_options n) (log_in n t)) (small : j + 1 < 2 ^ 64) (m : ℕ) where
    member-does : (k : ℕ) (o : Outcome) → (k < length t.set.members → Stage n o.trial (ws ++ []) (ps ++ []) (j + 1)) → Stage n (by_member t k o).trial (ws ++ []) (ps ++ []) (j + 1)
    member-does k o f = elim (cases_Bool (nat_lt k (length t.set.members))) [
      | inl there ↦ rw there (f (ltb-true k (length t.set.members) there))
      | inr none ↦ rw none (as-is t ws ps j s)
    ]

    primary-does : (k : ℕ) (o : Outcome) → (k < length t.set.members → Stage n o.trial (ws ++ []) (ps ++ []) (j + 1)) → Stage n (by_primary t k o).trial (ws ++ []) (ps ++ []) (j + 1)
    primary-does k o f = member-does k (if is_primary (member_at t.set k) then o else refuses told.NotPrimary t) (λ there. elim (cases_Bool (is_primary (member_at t.set k))) [
      | inl primary ↦ rw primary (f there)
      | inr other ↦ rw other (as-is t ws ps j s)
    ])

    elects : (k : ℕ) → Stage n (by_member t k (with_set told.Done t (elected t.set k))).trial (ws ++ (if nat_lt k (length t.set.members) then (k ∷ []) else [])) (ps ++ []) (j + 1)
    elects k = elim (cases_Bool (nat_lt k (length t.set.members))) [
      | inl there ↦
          rw there
          (subst (λ (qs : List Pair). Stage n (record t { set = elected t.set k }) (ws ++ k ∷ []) qs (j + 1)) (sym (append-nil ps)) (wins t ws ps j s k (ltb-true k (length t.set.members) there) small))
      | inr none ↦ rw none (as-is t ws ps j s)
    ]

    delivered : (i : ℕ) (x : Option Sent) → slice_get t.set.wire i ≡ x → Stage n (delivers n t m x).trial (ws ++ []) (ps ++ applied_reply n t m x) (j + 1)
    delivered i None at = as-is t ws ps j s
    delivered i (Some x) at =
        let own = s.wire i x at in
        subst (λ (w : List ℕ). Stage n (delivers n t m (Some x)).trial w (ps ++ applied_reply n t m (Some x)) (j + 1)) (sym (append-nil ws)) (arrives t ws ps j s stood x.member m own.there x.said x.response own.response own.honest)

    happening : (a : FleetAct) → Stage n (happens n t m a).trial (ws ++ won_by t a) (ps ++ applied_by n t m a) (j + 1)
    happening (act.Elect k) = elects k
    happening (act.StepDown k) = primary-does k (with_set told.Done t (demoted t.set k)) (λ there. plain t ws ps j s (record t { set = demoted t.set k }) (demotes t ws ps j s k there))
    happening (act.Reconf k) = primary-does k (with_set told.Done t (reconfigured_at t.set k)) (λ there. plain t ws ps j s (record t { set = reconfigured_at t.set k }) (reconfigures t ws ps j s k there))
    happening (act.Ask k) = member-does k (with_set (told.Sent (length t.set.wire)) t (asked t.set k)) (λ there. plain t ws ps j s (record t { set = asked t.set k }) (asks t ws ps j s k there))
    happening (act.Deliver i) = delivered i (slice_get t.set.wire i) refl
    happening (act.Lose k) = member-does k (steps n t (hello_step n t m k (hello.Err lost)))
        (λ there. plain t ws ps j s (steps n t (hello_step n t m k (hello.Err lost))).trial (loses t ws ps j s stood k m (subst (λ (x : ℕ). k < x) s.size there)))

  -- a whole run

  runs : (t : Trial) (ws : List ℕ) (ps : List Pair) (j : ℕ) (es : List Event) → Stage n t ws ps j → StoodFrom n t es → j + length es < 2 ^ 64 → Stage n (after n t es) (ws ++ winners_from n t es) (ps ++ pairs_from n t es) (j + length es)
  runs t ws ps j [] s stood small =
      subst (λ (i : ℕ). Stage n t (ws ++ []) (ps ++ []) i) (omega arith)
      (subst (λ (w : List ℕ). Stage n t w (ps ++ []) j) (sym (append-nil ws)) (subst (λ (p : List Pair). Stage n t ws p j) (sym (append-nil ps)) s))
  runs t ws ps j (e ∷ es) s stood small =
      let next = happening t ws ps j s stood.0 (omega (arith, small)) e.moment e.act in
      let u : Trial = (outcome n t e).trial in
      let whole = runs u (ws ++ won_by t e.act) (ps ++ applied_by n t e.moment e.act) (j + 1) es next stood.1 (omega (arith, small)) in
      subst (λ (i : ℕ). Stage n (after n u es) (ws ++ (won_by t e.act ++ winners_from n u es)) (ps ++ (applied_by n t e.moment e.act ++ pairs_from n u es)) i) (omega arith)
      (subst (λ (w : List ℕ). Stage n (after n u es) w (ps ++ (applied_by n t e.moment e.act ++ pairs_from n u es)) (j + 1 + length es)) (append_assoc ws (won_by t e.act) (winners_from n u es))
      (subst (λ (p : List Pair). Stage n (after n u es) ((ws ++ won_by t e.act) ++ winners_from n u es) p (j + 1 + length es)) (append_assoc ps (applied_by n t e.moment e.act) (pairs_from n u es)) whole))

  starts : OpensSeeds (fleet_options n) (history_of (opened n ∷ [])) → Stage n (begun n) [] [] 0
  starts opens =
      let began = opening-taken n some opens in
      record {
        size = length-replicate n new_member;
        follows = subst (Follows n [] []) (sym began.0) (opening n (fleet_options n) refl refl refl refl);
        honest = λ k less. All-get_or (λ m. IsHonest [] k m) (replicate n new_member) k new_member (subst (λ (x : ℕ). k < x) (sym (length-replicate n new_member)) less) (All-replicate (λ m. IsHonest [] k m) n new_member tt);
        count = refl;
        wire = λ i x at. absurd (cc);
        running = began.1;
        early = omega arith;
      }

  -- the whole run
  pub fails-over : (events : List Event) → length events < 2 ^ 64 → StoodEach n events → Follows n (winners_from n (begun n) events) (pairs_from n (begun n) events) (description_in n (after n (begun n) events))
  fails-over events small stood = (runs (begun n) [] [] 0 events (starts stood.opens) stood.each (omega (arith, small))).follows
