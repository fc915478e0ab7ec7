pub mod ProgramFaults
pub mod Reports
pub mod Namings
pub mod Answers
