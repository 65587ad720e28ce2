pub mod Help
pub mod Table
pub mod Overview
pub mod Laws
