use Rattle.std.proofs.Common.{Ok, Err, string_bytes}
use Rattle.mdb_c.proofs.found_hosts.mdb_srv_hosts.Goals as goal

pub returns-in-Ok-Ok-clause-room : goal.returns-in-Ok-Ok-clause-room
returns-in-Ok-Ok-clause-room c = λ full.
    let told = rw c.in-Ok-Ok.field-0-is at c.in-Ok-Ok.ensures.told in
    let lacks = rw (c.as_str.ensures.value, told.2) at (c.give_as.ensures.room full).0 in
    (Ok told.0, told.1, lacks)

pub returns-in-Ok-Err-clause-room : goal.returns-in-Ok-Err-clause-room
returns-in-Ok-Err-clause-room c = λ full.
    let told = rw c.in-Ok-Err.field-0-is at c.in-Ok-Err.ensures.told in
    let lacks = rw c.as_str-in-Ok-Err.ensures.value at (c.give_as-in-Ok-Err.ensures.room full).0 in
    (Err (string_bytes c.in-Ok-Err.why), told, lacks)
