pub mod PartLemmas
mod StepLemmas
mod ChainLemmas
mod ListLemmas
mod ScopeLemmas
mod ApartLemmas
mod TimeLemmas
mod FoldLemmas
mod DeepLemmas
