pub mod Rounds
pub mod Places
pub mod LongCounts
pub mod HaabNames
pub mod TzolkinNames
pub mod Laws
