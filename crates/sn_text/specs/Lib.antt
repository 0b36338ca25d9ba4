pub mod Cutting
pub mod Lexing
pub mod Answers
pub mod Writing
pub mod Reading
pub mod Stands
