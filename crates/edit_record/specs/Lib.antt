pub mod Layout
pub mod RecordBytes
pub mod Answer1
