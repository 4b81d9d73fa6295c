pub mod Met
pub mod Literals
pub mod Placing
pub mod Filling
pub mod Answers
