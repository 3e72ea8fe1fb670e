pub mod PutApart
pub mod StepApart
pub mod StepCovered
