mod Once
mod Columns
mod Turning
mod Classes
mod Taking
mod Whole
