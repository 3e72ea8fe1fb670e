pub mod OldForm
