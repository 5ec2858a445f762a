pub mod Meant
pub mod Laws
pub mod CodeUses
pub mod Permits
