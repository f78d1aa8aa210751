-- Parts of bytes, and the numbers that they are.
pub mod LittleLaws
