pub mod OptionValues
pub mod WordLists
pub mod ThreeColumns
pub mod Requests
pub mod private
