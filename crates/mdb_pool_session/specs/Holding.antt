-- What a word of C's owns. Assumes nothing: this is a definition.
use base.Fml.{Fml, ftrue}
use denote.RawPtr.{Ptr}
use Rattle.std.specs.declared.alloc.Global.{Global}
use Rattle.std.specs.declared.option.Option.{Option}
use Rattle.std.specs.declared.option.Option.TheVariants.{None, Some}
use Rattle.std.specs.contracts.impls.GlobalAllocator.TheImpl.{ghosts}
use Rattle.std_alloc.specs.Box.Ownership.{box_owns}
use Rattle.mdb_pool_session.specs.PoolLogs.{PoolLog}
use Rattle.mdb_pool_session.specs.contracts.pool_session.PoolSession.{the_row}

-- the box at p, whose session has this log, or nothing
abbrev pub held : Option PoolLog → Global → Ptr → Fml
held None a p = ftrue
held (Some log) a p = box_owns (ghosts.dealloc_token a) the_row p log
