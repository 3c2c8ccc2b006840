pub mod Guard
pub mod Search
pub mod Acceptance
