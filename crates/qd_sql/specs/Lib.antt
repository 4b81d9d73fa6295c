pub mod Exprs
pub mod Nests
pub mod Queries
pub mod Statement
pub mod Laws
