-- Whether an error changes what is known of its server.
use Rattle.std.proofs.Common.{◌≡◌, ◌&&◌, Bool, true, false, not, List, [], ◌∷◌, map, Option, Some, None, is_some, refl, sym, ◌∙◌, ap, subst}
use Rattle.std.specs.Prelude.{filter, Result, Ok, Err}
use Rattle.mdb_base.specs.Equality.{same_address}
use Rattle.mdb_base.specs.declared.address.ServerAddress.{ServerAddress}
use Rattle.mdb_base.specs.declared.error.Error.{Error}
use Rattle.mdb_hello.specs.declared.response.HelloReply.{HelloReply}
use Rattle.mdb_hello.specs.declared.server_type.ServerType.{ServerType}
use Rattle.mdb_hello.specs.declared.server_type.ServerType.TheVariants as Server
use Rattle.mdb_describe.specs.declared.description.ServerDescription.{ServerDescription}
use Rattle.mdb_describe.specs.declared.topology.TopologyDescription.{TopologyDescription}
use Rattle.mdb_describe.specs.Descriptions.{failed}
use Rattle.mdb_describe.specs.Differences.{changed, differs_from, difference, is_empty, missing}
use Rattle.mdb_describe.specs.Same.{same, same_set, same_members, same_abilities, same_error, same_kind, same_option, same_text, same_texts, same_type, same_version}
use Rattle.mdb_describe.specs.Servers.{in_order, is_known, store}
use Rattle.mdb_describe.specs.Topology.{server_at}
use Rattle.mdb_describe.specs.Update.{is_new, is_older, updated}
use Rattle.mdb_describe.specs.Fields.{error, is_known_type, topology_version}
use Rattle.mdb_describe.proofs.Addresses.{own-address, same-address}
use Rattle.mdb_driver_rules.proofs.StaysKnown.{marked-known, new-servers, same-topology}
use Rattle.mdb_describe.proofs.SameAsItself.{none-differs, unchanged}
use Rattle.mdb_describe.proofs.Stored.{none-missing}

-- What is known of a server is that it met an error.

abbrev seven : (a b c d e f g : Bool) → Bool
seven a b c d e f g = a && (b && (c && (d && (e && (f && g)))))

last-false : (a b c d e f : Bool) → seven a b c d e f false ≡ false
last-false false b c d e f = refl
last-false true false c d e f = refl
last-false true true false d e f = refl
last-false true true true false e f = refl
last-false true true true true false f = refl
last-false true true true true true false = refl
last-false true true true true true true = refl

-- a test that is made twice
twice : (v k l m : Bool) → v && (k && (l && (v && m))) ≡ k && (l && (v && m))
twice true k l m = refl
twice false true true m = refl
twice false true false m = refl
twice false false l m = refl

unknown-type : (x : ServerType) → same_type x Server.Unknown ≡ not (is_known_type x)
unknown-type Server.Standalone = refl
unknown-type Server.Mongos = refl
unknown-type Server.RsPrimary = refl
unknown-type Server.RsSecondary = refl
unknown-type Server.RsArbiter = refl
unknown-type Server.RsOther = refl
unknown-type Server.RsGhost = refl
unknown-type Server.LoadBalancer = refl
unknown-type Server.Unknown = refl

-- without an error it is another one
pub same-unfailed : (d : ServerDescription) (e : Error) → error d ≡ None → same d (failed d.address e) ≡ false
same-unfailed d e none =
    let s : ServerDescription = failed d.address e in
    let last : same_option same_error (error d) (error s) ≡ false = rw none refl in
    ap (seven (same_address d.address d.address) (same_type d.server_type Server.Unknown) (same_set d s) (same_members d s) (same_abilities d s) (same_option same_version (topology_version d) (topology_version s))) last
    ∙ last-false (same_address d.address d.address) (same_type d.server_type Server.Unknown) (same_set d s) (same_members d s) (same_abilities d s) (same_option same_version (topology_version d) (topology_version s))

-- with one it is the same where its type is unknown and the errors are the same
pub same-failed : (d : ServerDescription) (own e : Error) → error d ≡ Some own → same d (failed d.address e) ≡ not (is_known_type d.server_type) && same_error own e
same-failed d own e some = on d.reply refl
  where
    on : (r : Result (Option HelloReply) Error) → d.reply ≡ r → same d (failed d.address e) ≡ not (is_known_type d.server_type) && same_error own e
    on (Ok reply) f = let no : error d ≡ None = rw f refl in let none : ◌≡◌ {A = Option Error} None (Some own) = sym no ∙ some in cc
    on (Err met) f =
        let is : ◌≡◌ {A = Option Error} (Some met) (Some own) = sym (rw f refl) ∙ some in
        let met-own : met ≡ own = cc in
        let reply : d.reply ≡ Err own = f ∙ ap Err met-own in
        rw (own-address d.address, reply, unknown-type d.server_type)
        (ap (λ b. not (is_known_type d.server_type) && b)
        (twice (same_option same_version own.topology_version e.topology_version) (same_kind own.kind e.kind) (same_texts own.labels e.labels) (same_text own.message e.message)))

-- the server that is found has the address
pub found-is : (a : ServerAddress) (known : ServerDescription) (xs : List ServerDescription) → server_at a xs ≡ Some known → (known.address ≡ a) × (is_known a xs ≡ true)
found-is a known [] e = cc
found-is a known (x ∷ xs) e = on (same_address x.address a) refl (found-is a known xs)
  where
    on : (b : Bool) → same_address x.address a ≡ b → (server_at a xs ≡ Some known → (known.address ≡ a) × (is_known a xs ≡ true)) → (known.address ≡ a) × (is_known a (x ∷ xs) ≡ true)
    on true f deeper =
        let first : ◌≡◌ {A = Option ServerDescription} (Some x) (Some known) = sym (rw f refl) ∙ e in
        let is : x ≡ known = cc in
        (subst (λ (y : ServerDescription). y.address ≡ a) is (same-address x.address a f), rw f refl)
    on false f deeper = let more = deeper (sym (rw f refl) ∙ e) in (more.0, rw f more.1)

module _ (a : ServerAddress) (e : Error) (t : TopologyDescription) (ordered : in_order t.servers ≡ true) where
  abbrev s : ServerDescription
  s = failed a e

  abbrev u : TopologyDescription
  u = updated t s

  -- the servers of a list that are known otherwise
  abbrev others : List ServerDescription → List ServerDescription
  others xs = filter (differs_from t.servers) xs

  abbrev places : List ServerDescription → List ServerAddress
  places xs = map (λ (x : ServerDescription). x.address) xs

  -- where no other one differs, whether one differs is whether the marked one does
  stored-differs : (b : Bool) → differs_from t.servers s ≡ b → (xs : List ServerDescription) → others xs ≡ [] → is_known a xs ≡ true → is_empty (places (others (store s xs))) ≡ not b
  stored-differs b is [] none known = cc
  stored-differs b is (x ∷ xs) none known = at_x (differs_from t.servers x) refl (stored-differs b is xs)
    where
      at_s : (c : Bool) → b ≡ c → others xs ≡ [] → is_empty (places (others (s ∷ xs))) ≡ not b
      at_s true f rest = let w : differs_from t.servers s ≡ true = is ∙ f in rw (w, f) refl
      at_s false f rest = let w : differs_from t.servers s ≡ false = is ∙ f in rw (w, f, rest) refl

      at_a : (c : Bool) → same_address x.address a ≡ c → differs_from t.servers x ≡ false → others xs ≡ [] → (others xs ≡ [] → is_known a xs ≡ true → is_empty (places (others (store s xs))) ≡ not b) → is_empty (places (others (store s (x ∷ xs)))) ≡ not b
      at_a true f g rest deeper = rw f (at_s b refl rest)
      at_a false f g rest deeper = let k : is_known a xs ≡ true = sym (rw f refl) ∙ known in rw (f, g) (deeper rest k)

      at_x : (c : Bool) → differs_from t.servers x ≡ c → (others xs ≡ [] → is_known a xs ≡ true → is_empty (places (others (store s xs))) ≡ not b) → is_empty (places (others (store s (x ∷ xs)))) ≡ not b
      at_x true f deeper = let w : ◌≡◌ {A = List ServerDescription} (x ∷ others xs) [] = sym (rw f refl) ∙ none in cc
      at_x false f deeper = at_a (same_address x.address a) refl f (sym (rw f refl) ∙ none) deeper

  nothing-else : is_some (difference t.servers t.servers) ≡ false
  nothing-else = rw (unchanged t.servers ordered, none-missing t.servers t.servers (λ b k. k)) refl

  -- the server is not known
  pub unknown-same : server_at a t.servers ≡ None → is_some (difference t.servers u.servers) ≡ false
  unknown-same f =
      let old : is_new t s ≡ false = rw f refl in
      ap (λ (v : TopologyDescription). is_some (difference t.servers v.servers)) (same-topology a e t old) ∙ nothing-else

  module _ (known : ServerDescription) (here : server_at a t.servers ≡ Some known) (listed : is_known a t.servers ≡ true) where
    new-is : is_new t s ≡ not (is_older e.topology_version (topology_version known))
    new-is = rw here refl

    differs-is : differs_from t.servers s ≡ not (same known s)
    differs-is = rw here refl

    changed-is : is_new t s ≡ true → is_empty (changed t.servers u.servers) ≡ not (differs_from t.servers s)
    changed-is f =
        ap (λ xs. is_empty (changed t.servers xs)) (new-servers a e t f)
        ∙ stored-differs (differs_from t.servers s) refl t.servers (none-differs t.servers ordered) listed

    some-difference : (b : Bool) → is_empty (changed t.servers u.servers) ≡ not b → is_some (difference t.servers u.servers) ≡ b
    some-difference b f =
        let gone : missing t.servers u.servers ≡ [] = none-missing t.servers u.servers (λ c k. marked-known a e t c ∙ k) in
        let come : missing u.servers t.servers ≡ [] = none-missing u.servers t.servers (λ c k. sym (marked-known a e t c) ∙ k) in
        on b f gone come
      where
        on : (b : Bool) → is_empty (changed t.servers u.servers) ≡ not b → missing t.servers u.servers ≡ [] → missing u.servers t.servers ≡ [] → is_some (difference t.servers u.servers) ≡ b
        on true f gone come = rw f refl
        on false f gone come = rw (f, gone, come) refl

    -- a known server: the error is not older than what is known, and is not what is known
    pub known-differs : is_some (difference t.servers u.servers) ≡ not (is_older e.topology_version (topology_version known)) && not (same known s)
    known-differs = on (is_older e.topology_version (topology_version known)) refl
      where
        on : (b : Bool) → is_older e.topology_version (topology_version known) ≡ b → is_some (difference t.servers u.servers) ≡ not b && not (same known s)
        on true f =
            let old : is_new t s ≡ false = new-is ∙ ap not f in
            ap (λ (v : TopologyDescription). is_some (difference t.servers v.servers)) (same-topology a e t old) ∙ nothing-else
        on false f =
            let new : is_new t s ≡ true = new-is ∙ ap not f in
            some-difference (not (same known s)) (changed-is new ∙ ap not differs-is)
