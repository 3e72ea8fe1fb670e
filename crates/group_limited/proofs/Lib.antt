pub mod MarkedRows
pub mod RowsOneMore
pub mod ToldByRows
pub mod RowsInPlaces
pub mod NamedInTurn
