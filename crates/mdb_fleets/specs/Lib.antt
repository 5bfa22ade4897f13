pub mod Members
pub mod ReplicaSet
pub mod MemberReplies
pub mod FleetLinks
