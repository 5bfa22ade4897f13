-- Which servers keep what is said of them in a change. The contracts inside the crate speak by these words, and no public one does.
use Rattle.std.specs.Prelude.{ℕ, List, [], ◌∷◌, Bool, true, false, not, ◌&&◌, ◌||◌, if◌then◌else◌, Option, None}
use Rattle.mdb_base.specs.declared.address.ServerAddress.{ServerAddress}
use Rattle.mdb_base.specs.Equality.{same_address}
use Rattle.mdb_describe.specs.declared.change.Fate.{Fate}
use Rattle.mdb_describe.specs.declared.change.Fate.TheVariants.{Stays, Forgotten, Gone}
use Rattle.mdb_describe.specs.declared.change.Change.{Change}
use Rattle.mdb_describe.specs.declared.description.ServerDescription.{ServerDescription}
use Rattle.mdb_describe.specs.Servers.{store, is_listed, is_primary_type, first_of}
use Rattle.mdb_describe.specs.Compatibility.{incompatible}

abbrev pub stays : Fate → Bool
stays Stays = true
stays Forgotten = false
stays Gone = false

-- a server is not kept where it is another primary, where it is not listed, or where its own fate is another one
abbrev pub is_kept : Change → ServerAddress → List ServerAddress → ServerDescription → Bool
is_kept c a hosts s =
    not (c.demotes && (is_primary_type s.server_type && not (same_address s.address a)))
    && (not (c.only_listed && not (is_listed hosts s.address))
    && (not (same_address s.address a) || stays c.fate))

-- why the driver cannot speak to the first of the kept servers to which it cannot
abbrev pub first_kept : (ServerDescription → Bool) → List ServerDescription → Option (List ℕ)
first_kept kept [] = None
first_kept kept (s ∷ servers) = if kept s then first_of (incompatible s) (first_kept kept servers) else first_kept kept servers

-- why the driver cannot speak to a server, where it is kept
abbrev pub reason_if : Bool → ServerDescription → Option (List ℕ)
reason_if kept s = if kept then incompatible s else None

-- the description that stands at a place of the list, where it is the first one of its address
abbrev pub takes_place : Bool → ServerDescription → ServerDescription → Bool
takes_place met s old = not met && same_address old.address s.address

abbrev pub standing : Bool → ServerDescription → ServerDescription → ServerDescription
standing takes s old = if takes then s else old

-- the servers from a place on, with the description stored unless that was before
abbrev pub stored_unless : Bool → ServerDescription → List ServerDescription → List ServerDescription
stored_unless met s servers = if met then servers else store s servers
