pub mod TwoQueries
pub mod Laws
