pub mod ExactlyOne
pub mod OneGathering
pub mod SomeGathering
pub mod SomeReading
