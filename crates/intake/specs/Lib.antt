pub mod Faults
pub mod Items
pub mod Intake
