pub mod NameLemmas
pub mod SchemaLaws
pub mod PartLaws
pub mod ManifestLaws
pub mod WriteLaws
