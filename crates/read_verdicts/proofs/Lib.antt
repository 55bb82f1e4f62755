pub mod ByNumberLaws
