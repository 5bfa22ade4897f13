use Rattle.std.proofs.Common.{arith}
use Rattle.mdb_fleets.specs.MemberReplies.{address_of}
use Rattle.mdb_describe.specs.Descriptions.{from_reply}
use Rattle.mdb_failover.proofs.Says.{says}
use Rattle.mdb_failover.proofs.Takes.{taking}
use Rattle.mdb_failover.proofs.laws.replies_are_followed.Goals as goal

pub returns : goal.returns
returns c = λ n winners pairs d f few k m r rtt at there honest is new.
    taking n winners pairs d f k m (from_reply (address_of k) r rtt at) (omega (arith, there, few)) (says n k m few there r is rtt at) new honest
