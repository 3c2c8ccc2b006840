mod Widths
pub mod FirstHits
