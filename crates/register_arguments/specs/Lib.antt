pub mod OptionValues
pub mod Fittings
pub mod Requests
pub mod private
