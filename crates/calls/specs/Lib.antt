pub mod PlainValue
