pub mod LayoutLemmas
pub mod LayoutRows
pub mod NamedVersions
mod OneStream
mod PieceLemmas
pub mod PieceSizes
pub mod ReadPrograms
pub mod RowLemmas
pub mod StreamSize
mod WriteLemmas
