pub mod Rises
pub mod FirstOnes
pub mod Standing
pub mod Positions
pub mod Reading
pub mod OrderLaws
