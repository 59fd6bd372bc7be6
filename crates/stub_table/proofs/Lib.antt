pub mod ReasonLaws
pub mod SoundLaws
