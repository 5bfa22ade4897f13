-- What a word owns says the same to every thread.
use mir.Raw.{raw}
use base.Shift.{Keyless}
use denote.Memory.{lone}
use denote.Builtin.{RawPtr}
use denote.RawPtr.{Ptr}
use denote.Param.Send.{IsSend, owning_send, struct_send, sendable}
use denote.Struct.Struct.{exits_of}
use denote.Struct.Owning.{shape, fields, to}
use Rattle.std.specs.declared.option.Option.{Option}
use Rattle.std.specs.declared.option.Option.TheVariants.{None, Some}
use Rattle.std.specs.declared.alloc.Global.{Global}
use Rattle.std.proofs.alloc.Global.TheSendSync as heap
use Rattle.std.proofs.Crossing.{frees}
use Rattle.std_alloc.proofs.SendSync.{quiet, lies}
use Rattle.mdb_pool_session.specs.PoolLogs.{PoolLog}
use Rattle.mdb_pool_session.specs.contracts.pool_session.PoolSession as session
use Rattle.mdb_pool_session.proofs.Crossing.{session as crosses}
use Rattle.mdb_pool_session.specs.Holding.{held}
use Rattle.mdb_pool_session.specs.contracts.pool_word.PoolWord.{the_row, the_type}

held_keyless : (v : Option PoolLog) (a : Global) (p : Ptr) → Keyless (held v a p)
held_keyless None a p = tt
held_keyless (Some x) a p = (lies session.the_row crosses p x, frees.frees a (raw (lone (session.the_row).mir)) p)

pub send : IsSend the_row
send = let O = the_type in let ps : IsSend RawPtr = search sendable in
    owning_send O (ps, (heap.the_field_send, tt)) (λ d. held_keyless d.value d.alloc d.at) (λ k. quiet (to O) (exits_of k (fields O)) ((struct_send (shape O) (ps, (heap.the_field_send, tt))).leaving k))
