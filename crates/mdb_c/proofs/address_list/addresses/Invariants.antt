use Rattle.std.proofs.Common.{map, take}
use Rattle.std.specs.List.{AllZip}
use Rattle.mdb_base.specs.AddressRule.{IsAddressText}
use Rattle.mdb_c.proofs.address_list.addresses.Given as goal

abbrev pub invariant-loop-text : goal.invariant-loop-text
invariant-loop-text l = AllZip IsAddressText (take l.text-index (map (λ text. text.now) l.texts)) l.hosts.items
