pub mod ProxyScripts
pub mod ProxyRuns
pub mod ProxyEnds
pub mod ProxyWrites
