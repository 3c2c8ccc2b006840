pub mod Keys
pub mod Places
pub mod Tables
pub mod Changes
