pub mod Worlds
pub mod Views
pub mod LiveWorlds
pub mod LiveViews
pub mod Progress
pub mod Talks
