pub mod ListOverEdits
pub mod OtherBoxes
pub mod WorkedCases
