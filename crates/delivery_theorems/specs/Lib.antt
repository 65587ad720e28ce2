pub mod Due
pub mod Raw
pub mod Report
pub mod Selected
