pub mod FirstOfWord
