pub mod Items
mod Taken
mod Held
mod Committing
mod Rows
mod Turning
mod Desking
mod Passing
mod SameLists
mod Seated
mod Sweeping
mod Thinning
mod Showing
mod Merging
mod Closing
mod Applying
mod Purging
