pub mod ListedLines
pub mod LineNumbers
