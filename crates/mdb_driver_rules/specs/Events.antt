-- The facts of a publication that are of no pool.
use Rattle.mdb_base.specs.declared.address.ServerAddress.{ServerAddress}
use Rattle.mdb_base.specs.declared.options.Options.{Options}
use Rattle.mdb_describe.specs.declared.description.ServerDescription.{ServerDescription}
use Rattle.mdb_describe.specs.declared.topology.TopologyDescription.{TopologyDescription}
use Rattle.mdb_events.specs.declared.fact.Fact.{Fact}
use Rattle.mdb_events.specs.declared.fact.Fact.TheVariants.{Sdam}
use Rattle.mdb_events.specs.declared.sdam.SdamEvent.TheVariants.{ServerDescriptionChanged, ServerClosed, TopologyDescriptionChanged, TopologyOpening}

-- what is known of a server changed
abbrev pub changed_fact : Options → ServerAddress → ServerDescription → ServerDescription → Fact
changed_fact o a old new = Sdam (ServerDescriptionChanged (record { address = a; topology_id = o.topology_id; previous_description = old; new_description = new }))

-- a server goes
abbrev pub gone_fact : Options → ServerAddress → Fact
gone_fact o a = Sdam (ServerClosed (record { address = a; topology_id = o.topology_id }))

-- what is known of the topology changed
abbrev pub topology_fact : Options → TopologyDescription → TopologyDescription → Fact
topology_fact o t u = Sdam (TopologyDescriptionChanged (record { topology_id = o.topology_id; previous_description = t; new_description = u }))

-- the topology is monitored from now on
abbrev pub opening_fact : Options → Fact
opening_fact o = Sdam (TopologyOpening (record { topology_id = o.topology_id }))
