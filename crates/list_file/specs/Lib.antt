pub mod PrintedFile
