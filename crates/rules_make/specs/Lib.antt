pub mod MakeSet
