pub mod Quotient
pub mod Figures
