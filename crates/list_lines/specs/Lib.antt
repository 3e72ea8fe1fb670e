pub mod List
pub mod LineByNumber
pub mod LinesForms
