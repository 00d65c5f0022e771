-- Laws of lists of tests, of the numbers they give, of lines of a text, and of constructors that differ.
pub mod Clashes
pub mod Given
pub mod Lines
pub mod Members
pub mod Tests
