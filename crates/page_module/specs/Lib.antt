pub mod Reports
pub mod SheetReports
pub mod DateReports
pub mod DayReports
pub mod SheetChoices
pub mod SheetTables
pub mod private
