pub mod FallLaws
pub mod Differences
pub mod PartsLaws
pub mod BothWays
pub mod WriteLaws
pub mod Prefixes
