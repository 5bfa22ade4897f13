pub mod Failover
