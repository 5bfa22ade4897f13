-- Why the driver cannot speak to a server after a change, read off the servers before it.
use Rattle.std.proofs.Common.{◌≡◌, ℕ, ◌<◌, ◌≤◌, ◌+◌, zero, suc, Bool, true, false, not, ◌&&◌, ◌||◌, List, [], ◌∷◌, length, get_or, drop, map, filter, if◌then◌else◌, Option, Some, None, refl, sym, ap, subst, ◌∙◌, inl, inr, arith}
use Rattle.std.proofs.lemmas.Bool.{cases_Bool}
use Rattle.std.proofs.lemmas.List.{drop_more}
use Rattle.mdb_base.specs.declared.address.ServerAddress.{ServerAddress}
use Rattle.mdb_base.specs.AddressOrder.{is_before}
use Rattle.mdb_base.specs.Equality.{same_address}
use Rattle.mdb_describe.specs.declared.description.ServerDescription.{ServerDescription}
use Rattle.mdb_describe.specs.declared.change.Fate.{Fate}
use Rattle.mdb_describe.specs.declared.change.Fate.TheVariants.{Stays, Forgotten, Gone}
use Rattle.mdb_describe.specs.declared.change.Change.{Change}
use Rattle.mdb_describe.specs.Descriptions.{unknown}
use Rattle.mdb_describe.specs.Compatibility.{incompatible}
use Rattle.mdb_describe.specs.Servers.{is_known, is_listed, is_primary_type, store, put, add, add_all, keep_listed, forget_where, forget_other_primaries, first_of, first_incompatible}
use Rattle.mdb_describe.specs.Joining.{join_all}
use Rattle.mdb_describe.specs.Changes.{changed_servers, by_fate}
use Rattle.mdb_describe.specs.Kept.{stays, is_kept, first_kept, reason_if, takes_place, standing, stored_unless}

abbrev pub Test : Type 0
Test = ServerDescription → Bool

-- one server and the rest
abbrev pub one_more : Bool → Option (List ℕ) → Option (List ℕ) → Option (List ℕ)
one_more kept reason rest = if kept then first_of reason rest else rest

same_rest : (kept : Bool) (reason a b : Option (List ℕ)) → a ≡ b → one_more kept reason a ≡ one_more kept reason b
same_rest kept reason a b e = ap (one_more kept reason) e

silent : (kept : Bool) (rest : Option (List ℕ)) → one_more kept None rest ≡ rest
silent true rest = refl
silent false rest = refl

pub all_kept : (xs : List ServerDescription) → first_incompatible xs ≡ first_kept (λ s. true) xs
all_kept [] = refl
all_kept (s ∷ xs) = ap (first_of (incompatible s)) (all_kept xs)

same_kept : (q r : Test) → ((s : ServerDescription) → q s ≡ r s) → (xs : List ServerDescription) → first_kept q xs ≡ first_kept r xs
same_kept q r same [] = refl
same_kept q r same (s ∷ xs) = same_rest (q s) (incompatible s) _ _ (same_kept q r same xs) ∙ ap (λ (kept : Bool). one_more kept (incompatible s) (first_kept r xs)) (same s)

-- what joins says nothing
put_silent : (q : Test) (a : ServerAddress) (xs : List ServerDescription) → first_kept q (put (unknown a) xs) ≡ first_kept q xs
put_silent q a [] = silent (q (unknown a)) None
put_silent q a (s ∷ xs) = elim (cases_Bool (is_before a s.address)) [
  | inl before ↦ rw before (silent (q (unknown a)) (first_kept q (s ∷ xs)))
  | inr after ↦ rw after (same_rest (q s) (incompatible s) _ _ (put_silent q a xs))
]

add_silent : (q : Test) (a : ServerAddress) (xs : List ServerDescription) → first_kept q (add a xs) ≡ first_kept q xs
add_silent q a xs = elim (cases_Bool (is_known a xs)) [
  | inl known ↦ rw known refl
  | inr new ↦ rw new (put_silent q a xs)
]

pub all_silent : (q : Test) (hosts : List ServerAddress) (xs : List ServerDescription) → first_kept q (add_all hosts xs) ≡ first_kept q xs
all_silent q [] xs = refl
all_silent q (a ∷ hosts) xs = all_silent q hosts (add a xs) ∙ add_silent q a xs

-- what is forgotten is not kept
forget_step : (q : Test) (s : ServerDescription) (f k : Bool) → q s ≡ k → (a b : Option (List ℕ)) → a ≡ b → one_more (q (if f then unknown s.address else s)) (incompatible (if f then unknown s.address else s)) a ≡ one_more (k && not f) (incompatible s) b
forget_step q s true true e a b h = silent (q (unknown s.address)) a ∙ h
forget_step q s true false e a b h = silent (q (unknown s.address)) a ∙ h
forget_step q s false true e a b h = ap (λ (kept : Bool). one_more kept (incompatible s) a) e ∙ ap (first_of (incompatible s)) h
forget_step q s false false e a b h = ap (λ (kept : Bool). one_more kept (incompatible s) a) e ∙ h

forgotten_out : (q p : Test) (xs : List ServerDescription) → first_kept q (forget_where p xs) ≡ first_kept (λ s. q s && not (p s)) xs
forgotten_out q p [] = refl
forgotten_out q p (s ∷ xs) = forget_step q s (p s) (q s) refl (first_kept q (forget_where p xs)) (first_kept (λ t. q t && not (p t)) xs) (forgotten_out q p xs)

-- what goes is not kept
filter_step : (q : Test) (s : ServerDescription) (xs : List ServerDescription) (f k : Bool) → q s ≡ k → (b : Option (List ℕ)) → first_kept q xs ≡ b → first_kept q (if f then s ∷ xs else xs) ≡ one_more (k && f) (incompatible s) b
filter_step q s xs true true e b h = ap (λ (kept : Bool). one_more kept (incompatible s) (first_kept q xs)) e ∙ ap (first_of (incompatible s)) h
filter_step q s xs true false e b h = ap (λ (kept : Bool). one_more kept (incompatible s) (first_kept q xs)) e ∙ h
filter_step q s xs false true e b h = h
filter_step q s xs false false e b h = h

filtered_out : (q r : Test) (xs : List ServerDescription) → first_kept q (filter r xs) ≡ first_kept (λ s. q s && r s) xs
filtered_out q r [] = refl
filtered_out q r (s ∷ xs) = filter_step q s (filter r xs) (r s) (q s) refl (first_kept (λ t. q t && r t) xs) (filtered_out q r xs)

pub listed_kept : (hosts : List ServerAddress) (xs : List ServerDescription) → first_incompatible (keep_listed hosts xs) ≡ first_kept (λ s. is_listed hosts s.address) xs
listed_kept hosts xs = all_kept (keep_listed hosts xs) ∙ filtered_out (λ s. true) (λ s. is_listed hosts s.address) xs

pub synced_error : (hosts : List ServerAddress) (xs : List ServerDescription) → first_incompatible (keep_listed hosts (add_all hosts xs)) ≡ first_incompatible (keep_listed hosts xs)
synced_error hosts xs = listed_kept hosts (add_all hosts xs) ∙ all_silent (λ s. is_listed hosts s.address) hosts xs ∙ sym (listed_kept hosts xs)

-- The stages of a change, the last one first.

and_yes : (k a : Bool) → k && (not a || true) ≡ k
and_yes true true = refl
and_yes true false = refl
and_yes false a = refl

or_no : (k a : Bool) → k && not a ≡ k && (not a || false)
or_no true true = refl
or_no true false = refl
or_no false a = refl

plain_and : (k : Bool) → k ≡ k && true
plain_and true = refl
plain_and false = refl

double_not : (k a : Bool) → k && a ≡ k && not (not a)
double_not true true = refl
double_not true false = refl
double_not false a = refl

at_fate : (q : Test) (f : Fate) (a : ServerAddress) (xs : List ServerDescription) → first_kept q (by_fate f a xs) ≡ first_kept (λ s. q s && (not (same_address s.address a) || stays f)) xs
at_fate q Stays a xs = same_kept q (λ s. q s && (not (same_address s.address a) || true)) (λ s. sym (and_yes (q s) (same_address s.address a))) xs
at_fate q Forgotten a xs = forgotten_out q (λ s. same_address s.address a) xs ∙ same_kept (λ s. q s && not (same_address s.address a)) (λ s. q s && (not (same_address s.address a) || false)) (λ s. or_no (q s) (same_address s.address a)) xs
at_fate q Gone a xs = filtered_out q (λ s. not (same_address s.address a)) xs ∙ same_kept (λ s. q s && not (same_address s.address a)) (λ s. q s && (not (same_address s.address a) || false)) (λ s. or_no (q s) (same_address s.address a)) xs

at_keeping : (q : Test) (only : Bool) (hosts : List ServerAddress) (xs : List ServerDescription) → first_kept q (if only then keep_listed hosts xs else xs) ≡ first_kept (λ s. q s && not (only && not (is_listed hosts s.address))) xs
at_keeping q true hosts xs = filtered_out q (λ s. is_listed hosts s.address) xs ∙ same_kept (λ s. q s && is_listed hosts s.address) (λ s. q s && not (not (is_listed hosts s.address))) (λ s. double_not (q s) (is_listed hosts s.address)) xs
at_keeping q false hosts xs = same_kept q (λ s. q s && true) (λ s. plain_and (q s)) xs

at_joining : (q : Test) (adds : Bool) (hosts : List ServerAddress) (xs : List ServerDescription) → first_kept q (if adds then add_all hosts xs else xs) ≡ first_kept q xs
at_joining q true hosts xs = all_silent q hosts xs
at_joining q false hosts xs = refl

at_demoting : (q : Test) (demotes : Bool) (a : ServerAddress) (xs : List ServerDescription) → first_kept q (if demotes then forget_other_primaries a xs else xs) ≡ first_kept (λ s. q s && not (demotes && (is_primary_type s.server_type && not (same_address s.address a)))) xs
at_demoting q true a xs = forgotten_out q (λ s. is_primary_type s.server_type && not (same_address s.address a)) xs
at_demoting q false a xs = same_kept q (λ s. q s && true) (λ s. plain_and (q s)) xs

in_turn : (d k f : Bool) → ((true && f) && k) && d ≡ d && (k && f)
in_turn true true true = refl
in_turn true true false = refl
in_turn true false true = refl
in_turn true false false = refl
in_turn false true true = refl
in_turn false true false = refl
in_turn false false true = refl
in_turn false false false = refl

pub after_change : (c : Change) (s : ServerDescription) (hosts : List ServerAddress) (servers : List ServerDescription) → first_incompatible (changed_servers c s hosts servers) ≡ first_kept (is_kept c s.address hosts) (store s servers)
after_change c s hosts servers =
    let a = s.address in
    let stored = store s servers in
    let demoted = (if c.demotes then forget_other_primaries a stored else stored) in
    let joined = (if c.adds then add_all hosts demoted else demoted) in
    let kept = (if c.only_listed then keep_listed hosts joined else joined) in
    let fated : Test = λ t. true && (not (same_address t.address a) || stays c.fate) in
    let listed : Test = λ t. fated t && not (c.only_listed && not (is_listed hosts t.address)) in
    let led : Test = λ t. listed t && not (c.demotes && (is_primary_type t.server_type && not (same_address t.address a))) in
    all_kept (by_fate c.fate a kept)
    ∙ at_fate (λ t. true) c.fate a kept
    ∙ at_keeping fated c.only_listed hosts joined
    ∙ at_joining listed c.adds hosts demoted
    ∙ at_demoting listed c.demotes a stored
    ∙ same_kept led (is_kept c a hosts) (λ t. in_turn (not (c.demotes && (is_primary_type t.server_type && not (same_address t.address a)))) (not (c.only_listed && not (is_listed hosts t.address))) (not (same_address t.address a) || stays c.fate)) stored

-- a step of the walk that stores on its way
pub walk_on : (q : Test) (s : ServerDescription) (met : Bool) (x : ServerDescription) (ys : List ServerDescription) → first_kept q (stored_unless met s (x ∷ ys)) ≡ one_more (q (standing (takes_place met s x) s x)) (incompatible (standing (takes_place met s x) s x)) (first_kept q (stored_unless (met || takes_place met s x) s ys))
walk_on q s true x ys = refl
walk_on q s false x ys = elim (cases_Bool (same_address x.address s.address)) [
  | inl same ↦ rw same refl
  | inr other ↦ rw other refl
]

pub step : (q : Test) (s : ServerDescription) (met : Bool) (xs : List ServerDescription) (i : ℕ) (x : ServerDescription) → i < length xs → x ≡ get_or xs i x
    → first_kept q (stored_unless met s (drop i xs)) ≡ one_more (q (standing (takes_place met s x) s x)) (incompatible (standing (takes_place met s x) s x)) (first_kept q (stored_unless (met || takes_place met s x) s (drop (i + 1) xs)))
step q s met xs i x within is = ap (λ (ys : List ServerDescription). first_kept q (stored_unless met s ys)) (drop_more xs i x within ∙ ap (λ (y : ServerDescription). y ∷ drop (i + 1) xs) (sym is)) ∙ walk_on q s met x (drop (i + 1) xs)

-- Servers of which nothing is known join as their addresses do.
pub joins_as_added : (hosts : List ServerAddress) (xs : List ServerDescription) → join_all (map unknown hosts) xs ≡ add_all hosts xs
joins_as_added [] xs = refl
joins_as_added (a ∷ hosts) xs = joins_as_added hosts (add a xs)

-- The walk that looks for a reason.

go_on : (kept : Bool) (s : ServerDescription) (rest : Option (List ℕ)) → reason_if kept s ≡ None → one_more kept (incompatible s) rest ≡ rest
go_on true s rest e = ap (λ (r : Option (List ℕ)). first_of r rest) e
go_on false s rest e = refl

stop_here : (kept : Bool) (s : ServerDescription) (rest : Option (List ℕ)) (text : List ℕ) → reason_if kept s ≡ Some text → one_more kept (incompatible s) rest ≡ Some text
stop_here true s rest text e = ap (λ (r : Option (List ℕ)). first_of r rest) e
stop_here false s rest text e = absurd (cc)

no_more : (xs : List ServerDescription) (i : ℕ) → length xs ≤ i → drop i xs ≡ []
no_more [] zero h = refl
no_more [] (suc i) h = refl
no_more (x ∷ xs) zero h = absurd (omega arith)
no_more (x ∷ xs) (suc i) h = no_more xs i (omega arith)

none_left : (q : Test) (met : Bool) (s : ServerDescription) → first_kept q (stored_unless met s []) ≡ None
none_left q true s = refl
none_left q false s = refl

-- the walk over the servers before a change has come to the place i
abbrev pub WalkedTo : Change → ServerDescription → List ServerAddress → List ServerDescription → Bool → ℕ → Type 0
WalkedTo c s hosts servers met i = first_kept (is_kept c s.address hosts) (store s servers) ≡ first_kept (is_kept c s.address hosts) (stored_unless met s (drop i servers))

error_later : (c : Change) (s : ServerDescription) (hosts : List ServerAddress) (servers : List ServerDescription) (met : Bool) (i : ℕ) (x : ServerDescription) → i < length servers → x ≡ get_or servers i x → WalkedTo c s hosts servers met i
    → reason_if (is_kept c s.address hosts (standing (takes_place met s x) s x)) (standing (takes_place met s x) s x) ≡ None
    → (now_met : Bool) → now_met ≡ met || takes_place met s x
    → WalkedTo c s hosts servers now_met (i + 1)
error_later c s hosts servers met i x within is walked none now_met e =
    let q = is_kept c s.address hosts in
    let now = standing (takes_place met s x) s x in
    subst (λ (m : Bool). WalkedTo c s hosts servers m (i + 1)) (sym e) (walked ∙ step q s met servers i x within is ∙ go_on (q now) now (first_kept q (stored_unless (met || takes_place met s x) s (drop (i + 1) servers))) none)

error_here : (c : Change) (s : ServerDescription) (hosts : List ServerAddress) (servers : List ServerDescription) (met : Bool) (i : ℕ) (x : ServerDescription) (text : List ℕ) → i < length servers → x ≡ get_or servers i x → WalkedTo c s hosts servers met i
    → reason_if (is_kept c s.address hosts (standing (takes_place met s x) s x)) (standing (takes_place met s x) s x) ≡ Some text
    → Some text ≡ first_incompatible (changed_servers c s hosts servers)
error_here c s hosts servers met i x text within is walked some =
    let q = is_kept c s.address hosts in
    let now = standing (takes_place met s x) s x in
    sym (after_change c s hosts servers ∙ walked ∙ step q s met servers i x within is ∙ stop_here (q now) now (first_kept q (stored_unless (met || takes_place met s x) s (drop (i + 1) servers))) text some)

pub error_nowhere : (c : Change) (s : ServerDescription) (hosts : List ServerAddress) (servers : List ServerDescription) (met : Bool) (i : ℕ) → length servers ≤ i → WalkedTo c s hosts servers met i → None ≡ first_incompatible (changed_servers c s hosts servers)
error_nowhere c s hosts servers met i all walked =
    let q = is_kept c s.address hosts in
    sym (after_change c s hosts servers ∙ walked ∙ ap (λ (ys : List ServerDescription). first_kept q (stored_unless met s ys)) (no_more servers i all) ∙ none_left q met s)

-- what was computed of one server is its reason
reason_is : (q : Test) (s : ServerDescription) (kept : Bool) (o : Option (List ℕ)) → kept ≡ q s → o ≡ reason_if kept s → reason_if (q s) s ≡ o
reason_is q s kept o kept_is o_is = ap (λ (b : Bool). reason_if b s) (sym kept_is) ∙ sym o_is

-- the first incompatible server of those that are listed, from the i-th on
abbrev pub ListedTo : List ServerAddress → List ServerDescription → ℕ → Type 0
ListedTo hosts servers i = first_incompatible (keep_listed hosts servers) ≡ first_kept (λ s. is_listed hosts s.address) (drop i servers)

pub listed_kept_from : (hosts : List ServerAddress) (servers : List ServerDescription) → ListedTo hosts servers 0
listed_kept_from hosts servers = listed_kept hosts servers

onward : (q : Test) (xs : List ServerDescription) (i : ℕ) (x : ServerDescription) → i < length xs → x ≡ get_or xs i x → first_kept q (drop i xs) ≡ one_more (q x) (incompatible x) (first_kept q (drop (i + 1) xs))
onward q xs i x within is = ap (first_kept q) (drop_more xs i x within ∙ ap (λ (y : ServerDescription). y ∷ drop (i + 1) xs) (sym is))

pub listed_later : (hosts : List ServerAddress) (servers : List ServerDescription) (i : ℕ) (x : ServerDescription) → i < length servers → x ≡ get_or servers i x → ListedTo hosts servers i → (kept : Bool) (o : Option (List ℕ)) → kept ≡ is_listed hosts x.address → o ≡ reason_if kept x → o ≡ None → ListedTo hosts servers (i + 1)
listed_later hosts servers i x within is walked kept o kept_is o_is none =
    let q : Test = λ s. is_listed hosts s.address in
    walked ∙ onward q servers i x within is ∙ go_on (q x) x (first_kept q (drop (i + 1) servers)) (reason_is q x kept o kept_is o_is ∙ none)

pub listed_here : (hosts : List ServerAddress) (servers : List ServerDescription) (i : ℕ) (x : ServerDescription) (text : List ℕ) → i < length servers → x ≡ get_or servers i x → ListedTo hosts servers i → (kept : Bool) (o : Option (List ℕ)) → kept ≡ is_listed hosts x.address → o ≡ reason_if kept x → o ≡ Some text → Some text ≡ first_incompatible (keep_listed hosts servers)
listed_here hosts servers i x text within is walked kept o kept_is o_is some =
    let q : Test = λ s. is_listed hosts s.address in
    sym (walked ∙ onward q servers i x within is ∙ stop_here (q x) x (first_kept q (drop (i + 1) servers)) text (reason_is q x kept o kept_is o_is ∙ some))

pub listed_nowhere : (hosts : List ServerAddress) (servers : List ServerDescription) (i : ℕ) → length servers ≤ i → ListedTo hosts servers i → None ≡ first_incompatible (keep_listed hosts servers)
listed_nowhere hosts servers i all walked = sym (walked ∙ ap (first_kept (λ s. is_listed hosts s.address)) (no_more servers i all))

-- what was computed of one server of the walk
now_reason : (c : Change) (s : ServerDescription) (hosts : List ServerAddress) (met : Bool) (x : ServerDescription) (takes : Bool) (now : ServerDescription) (kept : Bool) (o : Option (List ℕ)) → takes ≡ takes_place met s x → now ≡ standing takes s x → kept ≡ is_kept c s.address hosts now → o ≡ reason_if kept now → reason_if (is_kept c s.address hosts (standing (takes_place met s x) s x)) (standing (takes_place met s x) s x) ≡ o
now_reason c s hosts met x takes now kept o takes_is now_is kept_is o_is =
    let q = is_kept c s.address hosts in
    ap (λ (d : ServerDescription). reason_if (q d) d) (ap (λ (b : Bool). standing b s x) (sym takes_is) ∙ sym now_is) ∙ reason_is q now kept o kept_is o_is

pub walk_later : (c : Change) (s : ServerDescription) (hosts : List ServerAddress) (servers : List ServerDescription) (met : Bool) (i : ℕ) (x : ServerDescription) → i < length servers → x ≡ get_or servers i x → WalkedTo c s hosts servers met i
    → (takes : Bool) (now : ServerDescription) (kept : Bool) (o : Option (List ℕ)) → takes ≡ takes_place met s x → now ≡ standing takes s x → kept ≡ is_kept c s.address hosts now → o ≡ reason_if kept now → o ≡ None
    → (now_met : Bool) → now_met ≡ met || takes → WalkedTo c s hosts servers now_met (i + 1)
walk_later c s hosts servers met i x within is walked takes now kept o takes_is now_is kept_is o_is none now_met e =
    error_later c s hosts servers met i x within is walked (now_reason c s hosts met x takes now kept o takes_is now_is kept_is o_is ∙ none) now_met (e ∙ ap (λ (b : Bool). met || b) takes_is)

pub walk_here : (c : Change) (s : ServerDescription) (hosts : List ServerAddress) (servers : List ServerDescription) (met : Bool) (i : ℕ) (x : ServerDescription) (text : List ℕ) → i < length servers → x ≡ get_or servers i x → WalkedTo c s hosts servers met i
    → (takes : Bool) (now : ServerDescription) (kept : Bool) (o : Option (List ℕ)) → takes ≡ takes_place met s x → now ≡ standing takes s x → kept ≡ is_kept c s.address hosts now → o ≡ reason_if kept now → o ≡ Some text
    → Some text ≡ first_incompatible (changed_servers c s hosts servers)
walk_here c s hosts servers met i x text within is walked takes now kept o takes_is now_is kept_is o_is some =
    error_here c s hosts servers met i x text within is walked (now_reason c s hosts met x takes now kept o takes_is now_is kept_is o_is ∙ some)

-- Carrying out a change, a step at a time.
pub carried : (c : Change) (s : ServerDescription) (a : ServerAddress) (hosts : List ServerAddress) (unknowns s0 s1 s2 s3 s4 s5 : List ServerDescription)
    → a ≡ s.address → unknowns ≡ map unknown hosts
    → s1 ≡ store s s0
    → s2 ≡ (if c.demotes then forget_other_primaries a s1 else s1)
    → s3 ≡ (if c.adds then join_all unknowns s2 else s2)
    → s4 ≡ (if c.only_listed then keep_listed hosts s3 else s3)
    → s5 ≡ by_fate c.fate a s4
    → s5 ≡ changed_servers c s hosts s0
carried c s a hosts unknowns s0 s1 s2 s3 s4 s5 own all e1 e2 e3 e4 e5 =
    let demote : List ServerDescription → List ServerDescription = λ xs. if c.demotes then forget_other_primaries s.address xs else xs in
    let join_hosts : List ServerDescription → List ServerDescription = λ xs. if c.adds then add_all hosts xs else xs in
    let keep : List ServerDescription → List ServerDescription = λ xs. if c.only_listed then keep_listed hosts xs else xs in
    let f2 : s2 ≡ demote (store s s0) = e2 ∙ ap (λ (b : ServerAddress). if c.demotes then forget_other_primaries b s1 else s1) own ∙ ap demote e1 in
    let f3 : s3 ≡ join_hosts s2 = e3 ∙ ap (λ (ds : List ServerDescription). if c.adds then join_all ds s2 else s2) all ∙ ap (λ (ys : List ServerDescription). if c.adds then ys else s2) (joins_as_added hosts s2) in
    let f4 : s4 ≡ keep (join_hosts (demote (store s s0))) = e4 ∙ ap keep (f3 ∙ ap join_hosts f2) in
    e5 ∙ ap (λ (b : ServerAddress). by_fate c.fate b s4) own ∙ ap (by_fate c.fate s.address) f4

pub followed : (hosts : List ServerAddress) (unknowns s0 s1 s2 : List ServerDescription) → unknowns ≡ map unknown hosts → s1 ≡ join_all unknowns s0 → s2 ≡ keep_listed hosts s1 → s2 ≡ keep_listed hosts (add_all hosts s0)
followed hosts unknowns s0 s1 s2 all e1 e2 = e2 ∙ ap (keep_listed hosts) (e1 ∙ ap (λ (ds : List ServerDescription). join_all ds s0) all ∙ joins_as_added hosts s0)
