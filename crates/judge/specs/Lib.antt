pub mod HeadBook
