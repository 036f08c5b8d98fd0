pub mod SeriesLaws
pub mod ShuntLaws
