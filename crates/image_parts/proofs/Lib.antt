pub mod ReadsBack
pub mod Tests
pub mod SpanLaws
pub mod BytesLaws
pub mod RightsLaws
pub mod Loading
pub mod Placed
mod Clashing
mod Appending
mod Found
pub mod Sizes
mod Making
pub mod Rows
