pub mod Beats
pub mod Online
pub mod Kept
pub mod Stands
pub mod Laws
pub mod Changes
pub mod Renewals
pub mod Told
