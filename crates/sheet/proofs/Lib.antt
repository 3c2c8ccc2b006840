pub mod Lookups
mod Adding
