-- A member's reply is described as it says.
use Rattle.std.proofs.Common.{◌≡◌, ℕ, zero, suc, ◌+◌, ◌^◌, ◌<◌, ◌≤◌, Bool, true, false, not, ◌&&◌, map, drop, Some, refl, sym, ap, ◌∙◌, arith}
use Rattle.std.specs.Prelude.{is_some, pos, int_lt, if◌then◌else◌}
use Rattle.std.specs.List.{range_with_len}
use Rattle.std.proofs.lemmas.List.{append-nil}
use Rattle.mdb_base.specs.declared.address.ServerAddress.{ServerAddress}
use Rattle.mdb_base.specs.Spelling.{address}
use Rattle.mdb_hello.specs.declared.response.HelloReply.{HelloReply}
use Rattle.mdb_hello.specs.declared.response.HelloCommandResponse.{HelloCommandResponse}
use Rattle.mdb_describe.specs.declared.description.ServerDescription.{ServerDescription}
use Rattle.mdb_describe.specs.Descriptions.{from_reply, listed_texts, lowered}
use Rattle.mdb_describe.specs.Listed.{lower, addresses, are_addresses}
use Rattle.mdb_describe.proofs.Parsed.{own_bytes}
use Rattle.mdb_fleets.specs.declared.member.Member.{Member}
use Rattle.mdb_fleets.specs.MemberReplies.{address_of, address_text, address_texts, process_of, reply_of}
use Rattle.mdb_fleets.specs.Members.{is_primary}
use Rattle.mdb_hello.specs.ServerTypes.{type_of as server_type_of}
use Rattle.mdb_hello.specs.declared.server_type.ServerType.TheVariants.{RsPrimary, RsSecondary}
use Rattle.mdb_describe.specs.Compatibility.{version_or_0}
use Rattle.mdb_describe.specs.Fields.{names}
use Rattle.std.proofs.lemmas.Fmt.{decimal_injective}
use Rattle.mdb_base.specs.declared.topology_version.TopologyVersion.{TopologyVersion}
use Rattle.mdb_failover.specs.Followed.{OwnProcess}
use Rattle.mdb_failover.specs.Says.{Says}
use Rattle.mdb_failover.proofs.Texts.{text-is, text-low, text-parsed}

-- texts of members with numbers from a on

low-texts : (n a : ℕ) → a + n ≤ 50 → map lower (map address_text (range_with_len a n)) ≡ map address_text (range_with_len a n)
low-texts zero a few = refl
low-texts (suc n) a few = rw (text-low a (omega arith), low-texts n (a + 1) (omega arith)) refl

parsed-texts : (n a : ℕ) → a + n ≤ 50 → addresses (map address_text (range_with_len a n)) ≡ map address_of (range_with_len a n)
parsed-texts zero a few = refl
parsed-texts (suc n) a few = rw (text-parsed a (omega arith), parsed-texts n (a + 1) (omega arith)) refl

all-parsed : (n a : ℕ) → a + n ≤ 50 → are_addresses (map address_text (range_with_len a n)) ≡ true
all-parsed zero a few = refl
all-parsed (suc n) a few = rw (text-parsed a (omega arith), all-parsed n (a + 1) (omega arith)) refl

module _ (n k : ℕ) (m : Member) (few : n ≤ 50) (there : k < n) where
  texts : listed_texts (reply_of n k m) ≡ address_texts n
  texts = append-nil (address_texts n)

  -- its texts are in small letters
  low : lowered (reply_of n k m) ≡ reply_of n k m
  low = rw (low-texts n 0 (omega arith), text-low k (omega arith)) refl

  taken : are_addresses (listed_texts (reply_of n k m)) ≡ true
  taken = rw texts (all-parsed n 0 (omega arith))

  kinds : (b : Bool) → server_type_of (record (reply_of n k m) { is_writable_primary = Some b; secondary = Some (not b) }) ≡ (if b then RsPrimary else RsSecondary)
  kinds true = refl
  kinds false = refl

  -- its own address is the one that it names
  own-name : names (address (address_of k)) (Some (address_text k)) ≡ true
  own-name = rw (text-low k (omega arith)) (own_bytes (address_text k) (address (address_of k)) (text-is k (omega arith)))

  pub says : (r : HelloReply) → r.command_response ≡ reply_of n k m → (rtt at : ℕ) → Says n k m (from_reply (address_of k) r rtt at)
  says r same rtt at =
      let low-too : lowered r.command_response ≡ reply_of n k m = ap lowered same ∙ low in
      let all : are_addresses (listed_texts r.command_response) ≡ true = ap (λ (x : HelloCommandResponse). are_addresses (listed_texts x)) same ∙ taken in
      rw all (record {
        address = refl;
        kind = ap server_type_of same ∙ kinds (is_primary m);
        listed = ap (λ (x : HelloCommandResponse). addresses (listed_texts x)) low-too ∙ rw texts (parsed-texts n 0 (omega arith));
        own = ap (λ (x : HelloCommandResponse). is_some x.me && not (names (address (address_of k)) x.me)) low-too ∙ rw own-name refl;
        named = ap (λ (x : HelloCommandResponse). x.set_name) low-too;
        modern = ap (λ (x : HelloCommandResponse). not (int_lt (version_or_0 x.max_wire_version) (pos 17))) low-too;
        election = ap (λ (x : HelloCommandResponse). x.election_id) low-too;
        version = ap (λ (x : HelloCommandResponse). x.set_version) low-too;
        topology = ap (λ (x : HelloCommandResponse). x.topology_version) low-too;
      })

-- members with one address are one
same-member : (k j : ℕ) → k < 2 ^ 64 → j < 2 ^ 64 → address_of k ≡ address_of j → k ≡ j
same-member k j h l same = decimal_injective k j h l (ap (λ (a : ServerAddress). drop 1 a.host) same)

-- so the version of a reply is of its own process
pub own-process : (n k : ℕ) (m : Member) (s : ServerDescription) → k < 2 ^ 64 → Says n k m s → OwnProcess s
own-process n k m s small says j v few at is =
    let one = same-member k j small few (sym says.address ∙ at) in
    let same : Some v ≡ Some (record { process_id = process_of k; counter = pos m.counter }) = sym is ∙ says.topology in
    let whole : v ≡ record { process_id = process_of k; counter = pos m.counter } = cc in
    ap (λ (w : TopologyVersion). w.process_id) whole ∙ ap process_of one
