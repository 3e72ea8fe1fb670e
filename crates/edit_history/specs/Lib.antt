pub mod EditsHeld
pub mod Answers2to5
pub mod Answer16
pub mod SurveyForms
