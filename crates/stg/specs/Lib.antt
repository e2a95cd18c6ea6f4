pub mod Numbers
pub mod LinesRead
pub mod RowsRead
