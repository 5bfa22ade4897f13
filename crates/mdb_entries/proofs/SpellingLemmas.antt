-- No line that spells a step has a bar.
use Rattle.std.proofs.Common.{◌≡◌, ℕ, ◌<◌, ◌^◌, ◌&&◌, true, false, Bool, eqb, List, [], ◌∷◌, ◌++◌, Option, Some, None, option_map, is_none, IfSome, refl, arith, decimal, codes, ℤ, FitsSigned}
use Rattle.std.specs.Int.{w32, w64}
use Rattle.std.specs.List.{list_all, flat_map}
use Rattle.std.specs.Fmt.{signed_decimal}
use Rattle.std.proofs.lemmas.Bool.{and_parts}
use Rattle.mdb_base.specs.AddressRule.{is_address}
use Rattle.mdb_base.specs.ErrorText.{version_text, error_text}
use Rattle.mdb_base.specs.OptionRules.{are_seeds, broken_rule}
use Rattle.mdb_base.specs.Spelling.{address, object_id}
use Rattle.mdb_base.specs.Tags.{Tag}
use Rattle.mdb_base.specs.declared.address.ServerAddress.{ServerAddress}
use Rattle.mdb_base.specs.declared.object_id.ObjectId.{ObjectId}
use Rattle.mdb_base.specs.declared.options.Options.{Options}
use Rattle.mdb_base.specs.declared.topology_version.TopologyVersion.{TopologyVersion}
use Rattle.mdb_hello.specs.declared.response.HelloCommandResponse.{HelloCommandResponse}
use Rattle.mdb_event_reading.proofs.BarLemmas.{decimal_no_bar, narrow_no_bar, signed_no_bar, address_no_bar, id_no_bar, error_no_bar}
use Rattle.mdb_lines.specs.Grammar.{are_options, is_zero_id, is_hello, is_beaten, is_act}
use Rattle.mdb_lines.specs.OpenLine.{mode_text, open_parts, open_text}
use Rattle.mdb_lines.specs.Spelling.{use_text, established_parts, failed_at_text, hello_text, beaten_text, act_text, spelling}
use Rattle.mdb_lines.specs.Script.{Spells}
use Rattle.mdb_lines.specs.Types.{AreOptionsOfTypes, IsEstablishedOfTypes, IsHelloOfTypes, IsBeatenOfTypes, IsActOfTypes}
use Rattle.mdb_lines.proofs.OpenLemmas.{open_rules}
use Rattle.mdb_log.specs.declared.checked.HelloResult.{HelloResult}
use Rattle.mdb_log.specs.declared.checked.HelloResult.TheVariants as hello
use Rattle.mdb_log.specs.declared.checked.BeatenResult.{BeatenResult}
use Rattle.mdb_log.specs.declared.checked.BeatenResult.TheVariants as beaten
use Rattle.mdb_log.specs.declared.step.Step.{Step}
use Rattle.mdb_log.specs.declared.step.Act.{Act}
use Rattle.mdb_log.specs.declared.step.Act.TheVariants as act
use Rattle.mdb_log.specs.declared.step.Established.{Established}
use Rattle.mdb_log.specs.declared.step.FailedAt.{FailedAt}
use Rattle.mdb_log.specs.declared.step.FailedAt.TheVariants as at
use Rattle.mdb_log.specs.declared.step.Use.{Use}
use Rattle.mdb_log.specs.declared.step.Use.TheVariants as use_
use Rattle.mdb_parts.specs.ErrorParts.{IsVersionOfTypes}
use Rattle.mdb_parts.specs.Parts.{Part, parts_text, flag, commas, texts, addresses}
use Rattle.mdb_parts.specs.Reading.{lacks}
use Rattle.mdb_parts.specs.WordRule.{is_word, keeps}
use Rattle.mdb_parts.proofs.CommaLemmas.{lacks_append}
use Rattle.mdb_parts.proofs.WordLemmas.{word_lacks}
use Rattle.mdb_replies.specs.ReplyParts.{reply_parts, fields_text, is_reply, IsReplyOfTypes}
use Rattle.mdb_replies.specs.Values.{bool_word, tag_text, tags_text, is_tag, are_tags, are_hosts, is_address_text}
use Rattle.mdb_replies.proofs.ReplyLemmas.{ReplyRules, reply_rules}
use Rattle.mdb_replies.proofs.ValueLemmas.{tag_lacks, tag_rules, text_of, host_rules}

both : (xs ys : List ℕ) → lacks 124 xs ≡ true → lacks 124 ys ≡ true → lacks 124 (xs ++ ys) ≡ true
both = lacks_append 124

-- optional words

abbrev HasNoBar : Option (List ℕ) → Type 0
HasNoBar o = IfSome o (λ w. lacks 124 w ≡ true)

mapped : {A : Type 0} (show : A → List ℕ) (P : A → Type 0) → ((x : A) → P x → lacks 124 (show x) ≡ true) → (o : Option A) → IfSome o P → HasNoBar (option_map show o)
mapped show P clean None h = tt
mapped show P clean (Some x) h = clean x h

kept : {A : Type 0} (show : A → List ℕ) (rule : A → Bool) → ((x : A) → rule x ≡ true → lacks 124 (show x) ≡ true) → (o : Option A) → keeps rule o ≡ true → HasNoBar (option_map show o)
kept show rule clean None h = tt
kept show rule clean (Some x) h = clean x h

kept_word : (rule : List ℕ → Bool) → ((w : List ℕ) → rule w ≡ true → lacks 124 w ≡ true) → (o : Option (List ℕ)) → keeps rule o ≡ true → HasNoBar o
kept_word rule clean None h = tt
kept_word rule clean (Some w) h = clean w h

flagged : (b : Bool) → HasNoBar (flag b)
flagged true = refl
flagged false = tt

narrow : (o : Option ℕ) → IfSome o (λ n. n < 2 ^ 32) → HasNoBar (option_map decimal o)
narrow = mapped decimal (λ n. n < 2 ^ 32) narrow_no_bar

wide : (o : Option ℕ) → IfSome o (λ n. n < 2 ^ 64) → HasNoBar (option_map decimal o)
wide = mapped decimal (λ n. n < 2 ^ 64) decimal_no_bar

widened : (z : ℤ) → FitsSigned w32 z → FitsSigned w64 z
widened z fits = let small = fits.sfits in record { sfits = omega (arith, small) }

signed_32 : (o : Option ℤ) → IfSome o (FitsSigned w32) → HasNoBar (option_map signed_decimal o)
signed_32 = mapped signed_decimal (FitsSigned w32) (λ z fits. signed_no_bar z (widened z fits))

signed_64 : (o : Option ℤ) → IfSome o (FitsSigned w64) → HasNoBar (option_map signed_decimal o)
signed_64 = mapped signed_decimal (FitsSigned w64) signed_no_bar

an_id : (o : Option ObjectId) → HasNoBar (option_map object_id o)
an_id None = tt
an_id (Some id) = id_no_bar id

a_bool : (o : Option Bool) → HasNoBar (option_map bool_word o)
a_bool None = tt
a_bool (Some true) = refl
a_bool (Some false) = refl

a_mode : (o : Option Bool) → HasNoBar (option_map mode_text o)
a_mode None = tt
a_mode (Some true) = refl
a_mode (Some false) = refl

a_name : (o : Option (List ℕ)) → keeps is_word o ≡ true → HasNoBar o
a_name = kept_word is_word (word_lacks 124 refl)

-- parts

abbrev AreClean : List Part → Type 0
AreClean [] = Unit {0}
AreClean (p ∷ ps) = (lacks 124 p.0 ≡ true) × HasNoBar p.1 × AreClean ps

parts_clean : (ps : List Part) → AreClean ps → lacks 124 (parts_text ps) ≡ true
unfolding parts_text
parts_clean [] h = refl
parts_clean ((name, None) ∷ ps) h = parts_clean ps h.2
parts_clean ((name, Some word) ∷ ps) h = both (name ++ word) (parts_text ps) (both name word h.0 h.1) (parts_clean ps h.2)

-- lists with commas

more_clean : {A : Type 0} (show : A → List ℕ) (rule : A → Bool) → ((x : A) → rule x ≡ true → lacks 124 (show x) ≡ true) → (xs : List A) → list_all rule xs ≡ true → lacks 124 (flat_map (λ y. codes "," ++ show y) xs) ≡ true
more_clean show rule clean [] h = refl
more_clean show rule clean (x ∷ xs) h = let p = and_parts (rule x) (list_all rule xs) h in both (show x) (flat_map (λ y. codes "," ++ show y) xs) (clean x p.0) (more_clean show rule clean xs p.1)

commas_clean : {A : Type 0} (show : A → List ℕ) (rule : A → Bool) → ((x : A) → rule x ≡ true → lacks 124 (show x) ≡ true) → (xs : List A) → list_all rule xs ≡ true → lacks 124 (commas show xs) ≡ true
commas_clean show rule clean [] h = refl
commas_clean show rule clean (x ∷ xs) h = let p = and_parts (rule x) (list_all rule xs) h in both (show x) (flat_map (λ y. codes "," ++ show y) xs) (clean x p.0) (more_clean show rule clean xs p.1)

addresses_clean : (seeds : List ServerAddress) → list_all is_address seeds ≡ true → lacks 124 (addresses seeds) ≡ true
addresses_clean = commas_clean address is_address address_no_bar

address_text_clean : (text : List ℕ) → is_address_text text ≡ true → lacks 124 text ≡ true
address_text_clean text h = let p = text_of text h in rw p.1.text_is (address_no_bar p.0 p.1.rule)

hosts_clean : (hosts : List (List ℕ)) → are_hosts hosts ≡ true → lacks 124 (texts hosts) ≡ true
hosts_clean hosts h = commas_clean (λ t. t) is_address_text address_text_clean hosts (host_rules hosts h).own

tag_clean : (t : Tag) → is_tag t ≡ true → lacks 124 (tag_text t) ≡ true
tag_clean t h = tag_lacks 124 refl t h (word_lacks 124 refl)

tags_clean : (tags : List Tag) → are_tags tags ≡ true → lacks 124 (tags_text tags) ≡ true
tags_clean tags h = commas_clean tag_text is_tag tag_clean tags (tag_rules tags h).own

version_clean : (v : TopologyVersion) → IsVersionOfTypes v → lacks 124 (version_text v) ≡ true
version_clean v types = both (object_id v.process_id) (codes "." ++ signed_decimal v.counter) (id_no_bar v.process_id) (signed_no_bar v.counter types.counter)

-- replies

reply_clean : (r : HelloCommandResponse) (more : Bool) → IsReplyOfTypes r → ReplyRules r → AreClean (reply_parts r more)
reply_clean r more types rules = (
  refl,
  a_bool r.is_writable_primary,
  (
    refl,
    a_bool r.is_master,
    (
      refl,
      a_bool r.hello_ok,
      (
        refl,
        kept texts are_hosts hosts_clean r.hosts rules.hosts,
        (
          refl,
          kept texts are_hosts hosts_clean r.passives rules.passives,
          (
            refl,
            kept texts are_hosts hosts_clean r.arbiters rules.arbiters,
            (
              refl,
              a_name r.msg rules.msg,
              (
                refl,
                kept_word is_address_text address_text_clean r.me rules.me,
                (
                  refl,
                  signed_32 r.set_version types.set_version,
                  (
                    refl,
                    a_name r.set_name rules.set_name,
                    (
                      refl,
                      a_bool r.hidden,
                      (
                        refl,
                        a_bool r.secondary,
                        (
                          refl,
                          a_bool r.arbiter_only,
                          (
                            refl,
                            a_bool r.is_replica_set,
                            (
                              refl,
                              wide r.logical_session_timeout_minutes types.timeout,
                              (
                                refl,
                                signed_32 r.min_wire_version types.min_wire,
                                (
                                  refl,
                                  signed_32 r.max_wire_version types.max_wire,
                                  (
                                    refl,
                                    kept tags_text are_tags tags_clean r.tags rules.tags,
                                    (
                                      refl,
                                      an_id r.election_id,
                                      (
                                        refl,
                                        kept_word is_address_text address_text_clean r.primary rules.primary,
                                        (
                                          refl,
                                          mapped version_text IsVersionOfTypes version_clean r.topology_version types.version,
                                          (
                                            refl,
                                            signed_64 r.connection_id types.connection,
                                            (
                                              refl,
                                              flagged more,
                                              tt,
                                            ),
                                          ),
                                        ),
                                      ),
                                    ),
                                  ),
                                ),
                              ),
                            ),
                          ),
                        ),
                      ),
                    ),
                  ),
                ),
              ),
            ),
          ),
        ),
      ),
    ),
  ),
)

fields_clean : (r : HelloCommandResponse) (more : Bool) → IsReplyOfTypes r → is_reply r ≡ true → lacks 124 (fields_text r more) ≡ true
unfolding fields_text
fields_clean r more types rules = parts_clean (reply_parts r more) (reply_clean r more types (reply_rules r rules))

-- steps

use_clean : (u : Use) → lacks 124 (use_text u) ≡ true
use_clean use_.Ok = refl
use_clean use_.Errored = refl
use_clean use_.Dropped = refl
use_clean use_.Streaming = refl

options_clean : (o : Options) → AreOptionsOfTypes o → keeps is_word o.set_name ≡ true → AreClean (open_parts o)
options_clean o types name = (
  refl,
  a_name o.set_name name,
  (
    refl,
    flagged o.direct,
    (
      refl,
      flagged o.load_balanced,
      (
        refl,
        narrow o.max_pool_size types.max,
        (
          refl,
          narrow o.min_pool_size types.min,
          (
            refl,
            narrow o.max_connecting types.connecting,
            (
              refl,
              wide o.max_idle_time types.idle,
              (
                refl,
                wide o.max_wait types.wait,
                (
                  refl,
                  wide o.heartbeat types.heartbeat,
                  (
                    refl,
                    wide o.connect types.connect,
                    (
                      refl,
                      a_mode o.streaming,
                      (
                        refl,
                        narrow o.limit_id types.limit_id,
                        (
                          refl,
                          wide o.limit_generation types.limit_generation,
                          (
                            refl,
                            narrow o.limit_pool types.limit_pool,
                            (
                              refl,
                              narrow o.limit_monitor types.limit_monitor,
                              tt,
                            ),
                          ),
                        ),
                      ),
                    ),
                  ),
                ),
              ),
            ),
          ),
        ),
      ),
    ),
  ),
)

open_name : (o : Options) → are_options o ≡ true → keeps is_word o.set_name ≡ true
unfolding are_options
open_name o h =
    let r3 = keeps is_word o.set_name && is_zero_id o.topology_id in
    let p1 = and_parts (is_none (broken_rule o)) (list_all is_address o.seeds && r3) h in
    let p2 = and_parts (list_all is_address o.seeds) r3 p1.1 in
    (and_parts (keeps is_word o.set_name) (is_zero_id o.topology_id) p2.1).0

open_clean : (o : Options) → AreOptionsOfTypes o → are_options o ≡ true → lacks 124 (open_text o) ≡ true
open_clean o types h =
    both (addresses o.seeds) (parts_text (open_parts o)) (addresses_clean o.seeds (open_rules o h).seeds)
    (parts_clean (open_parts o) (options_clean o types (open_name o h)))

made_clean : (e : Established) → IsEstablishedOfTypes e → lacks 124 (signed_decimal e.wire ++ parts_text (established_parts e)) ≡ true
made_clean e types =
    both (signed_decimal e.wire) (parts_text (established_parts e)) (signed_no_bar e.wire (widened e.wire types.wire))
    (parts_clean (established_parts e) (refl, an_id e.service_id, (refl, signed_64 e.server_id types.server, tt)))

failed_at_clean : (stage : FailedAt) → lacks 124 (failed_at_text stage) ≡ true
failed_at_clean at.Pre = refl
failed_at_clean (at.Post None) = refl
failed_at_clean (at.Post (Some id)) = id_no_bar id

hello_clean : (came : HelloResult) → IsHelloOfTypes came → is_hello came ≡ true → lacks 124 (hello_text came) ≡ true
hello_clean (hello.Ok rtt r) types rules = both (decimal rtt) (fields_text r false) (decimal_no_bar rtt types.0) (fields_clean r false types.1 rules)
hello_clean (hello.Err e) types rules = error_no_bar e types rules

beaten_clean : (came : BeatenResult) → IsBeatenOfTypes came → is_beaten came ≡ true → lacks 124 (beaten_text came) ≡ true
beaten_clean (beaten.Ok r more) types rules = fields_clean r more types rules
beaten_clean (beaten.Err e) types rules = error_no_bar e types rules
beaten_clean (beaten.Cancelled e) types rules = error_no_bar e types rules

-- a moment, a number or an address, and what follows it

timed : (m : ℕ) (rest : List ℕ) → m < 2 ^ 64 → lacks 124 rest ≡ true → lacks 124 (decimal m ++ rest) ≡ true
timed m rest lt l = both (decimal m) rest (decimal_no_bar m lt) l

numbered : (n : ℕ) (rest : List ℕ) → n < 2 ^ 32 → lacks 124 rest ≡ true → lacks 124 (decimal n ++ rest) ≡ true
numbered n rest lt l = both (decimal n) rest (narrow_no_bar n lt) l

placed : (a : ServerAddress) (rest : List ℕ) → is_address a ≡ true → lacks 124 rest ≡ true → lacks 124 (address a ++ rest) ≡ true
placed a rest h l = both (address a) rest (address_no_bar a h) l

pub act_no_bar : (m : ℕ) (a : Act) → m < 2 ^ 64 → IsActOfTypes a → is_act m a ≡ true → lacks 124 (act_text m a) ≡ true
act_no_bar m (act.Open o) lm types rules = open_clean o types (and_parts (eqb m 0) (are_options o) rules).1
act_no_bar m (act.Request r a) lm types rules = timed m _ lm (numbered r _ types (address_no_bar a rules))
act_no_bar m (act.Warm r a) lm types rules = timed m _ lm (numbered r _ types (address_no_bar a rules))
act_no_bar m (act.Collect r) lm types rules = timed m _ lm (narrow_no_bar r types)
act_no_bar m act.Claim lm types rules = decimal_no_bar m lm
act_no_bar m (act.GiveUp r) lm types rules = timed m _ lm (narrow_no_bar r types)
act_no_bar m (act.Established p c e) lm types rules = timed m _ lm (numbered p _ types.0 (numbered c _ types.1 (made_clean e types.2)))
act_no_bar m (act.Return r used) lm types rules = timed m _ lm (numbered r _ types (use_clean used))
act_no_bar m (act.Pin r) lm types rules = timed m _ lm (narrow_no_bar r types)
act_no_bar m (act.Replicate p c) lm types rules = timed m _ lm (numbered p _ types.0 (narrow_no_bar c types.1))
act_no_bar m (act.Take r p c) lm types rules = timed m _ lm (numbered r _ types.0 (numbered p _ types.1 (narrow_no_bar c types.2)))
act_no_bar m (act.Unpin p c) lm types rules = timed m _ lm (numbered p _ types.0 (narrow_no_bar c types.1))
act_no_bar m (act.Maintain a) lm types rules = timed m _ lm (address_no_bar a rules)
act_no_bar m (act.Expire a) lm types rules = timed m _ lm (address_no_bar a rules)
act_no_bar m (act.Failed p c stage e) lm types rules =
    timed m _ lm (numbered p _ types.0 (numbered c _ types.1 (both (failed_at_text stage) (codes " " ++ error_text e) (failed_at_clean stage) (error_no_bar e types.3 rules))))
act_no_bar m (act.Error r e) lm types rules = timed m _ lm (numbered r _ types.0 (error_no_bar e types.1 rules))
act_no_bar m (act.Hello a p came) lm types rules =
    let h = and_parts (is_address a) (is_hello came) rules in
    timed m _ lm (placed a _ h.0 (numbered p (hello_text came) types.0 (hello_clean came types.1 h.1)))
act_no_bar m (act.Beaten a p n came) lm types rules =
    let h = and_parts (is_address a) (is_beaten came) rules in
    timed m _ lm (placed a _ h.0 (numbered p _ types.0 (timed n (beaten_text came) types.1 (beaten_clean came types.2 h.1))))
act_no_bar m (act.Beat a p) lm types rules = timed m _ lm (placed a _ rules (narrow_no_bar p types))
act_no_bar m (act.Rtt a p n) lm types rules = timed m _ lm (placed a _ rules (numbered p _ types.0 (decimal_no_bar n types.1)))
act_no_bar m (act.Hosts hosts) lm types rules = timed m _ lm (addresses_clean hosts (and_parts (are_seeds hosts) (list_all is_address hosts) rules).1)
act_no_bar m (act.ClusterTime time) lm types rules = timed m _ lm (decimal_no_bar time.0 types)
act_no_bar m (act.Want w) lm types rules = timed m _ lm (narrow_no_bar w types)
act_no_bar m (act.Unwant w) lm types rules = timed m _ lm (narrow_no_bar w types)
act_no_bar m act.Stop lm types rules = decimal_no_bar m lm
act_no_bar m _ lm types rules = absurd (cc)

pub step_no_bar : (number : ℕ) (line : List ℕ) (s : Step) → Spells number line s → lacks 124 (spelling s) ≡ true
step_no_bar number line s h = act_no_bar s.moment s.act h.types.0 h.types.1 h.rules
