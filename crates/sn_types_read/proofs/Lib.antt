pub mod RealFaults
pub mod OneReading
pub mod SomeReading
