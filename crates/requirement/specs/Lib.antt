pub mod Limits
pub mod Rules
pub mod Requirements
pub mod Making
pub mod Keys
