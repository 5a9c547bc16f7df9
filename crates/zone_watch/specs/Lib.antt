pub mod Watched
pub mod Counting
pub mod StatusCounts
pub mod RefusedCounts
pub mod Notices
pub mod Telling
