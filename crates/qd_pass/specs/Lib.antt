pub mod Passed
pub mod Shared
pub mod Memos
pub mod Reading
pub mod Backs
pub mod Replies
