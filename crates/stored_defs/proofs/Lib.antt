pub mod ReadingRows
