pub mod SumsLeft
