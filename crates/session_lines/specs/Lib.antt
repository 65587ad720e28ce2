pub mod Reported
pub mod SameRecords
pub mod Readings
pub mod Values
pub mod Example
pub mod OneReport
pub mod OneJson
