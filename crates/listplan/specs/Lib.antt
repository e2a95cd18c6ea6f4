pub mod Tables
pub mod Making
