pub mod Islamic
pub mod Hebrew
pub mod private
