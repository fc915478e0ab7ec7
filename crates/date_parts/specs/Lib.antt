pub mod JoinedDates
pub mod private
