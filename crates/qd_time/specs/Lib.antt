pub mod Buckets
pub mod Calendar
pub mod Fields
pub mod Printed
pub mod Reading
pub mod Spelled
pub mod Units
