pub mod CreateHeld
