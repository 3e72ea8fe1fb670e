pub mod Sound
pub mod SoundnessForms
