pub mod Lines
pub mod DateValues
pub mod Trees
pub mod TextViews
pub mod DateViews
pub mod TreeSheets
pub mod OwnDates
pub mod private
