mod Going
mod Memory
mod Ruling
mod Backing
mod Written
mod Applied
mod Pinned
mod Asked
