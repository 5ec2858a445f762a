pub mod Tables
pub mod PartsLaws
pub mod BothWays
pub mod Prefixes
pub mod WriteLaws
pub mod Rows
pub mod HintLaws
pub mod HintRows
