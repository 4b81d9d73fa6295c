pub mod Steps
pub mod SchemaLaws
