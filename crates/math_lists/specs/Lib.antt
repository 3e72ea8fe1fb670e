pub mod NumbersBelow
pub mod SortedLists
pub mod Rearranged
