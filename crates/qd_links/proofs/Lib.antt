pub mod CallerLemmas
mod EditLemmas
mod GrowLemmas
mod InsertLemmas
mod JoinLemmas
mod NeighbourLemmas
mod PlaceLemmas
mod ReadLemmas
mod RemoveLemmas
mod SlotLemmas
