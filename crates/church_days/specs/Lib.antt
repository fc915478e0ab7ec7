pub mod DayNames
pub mod Names
pub mod Laws
pub mod Computed
pub mod Cells
pub mod Texts
pub mod private
