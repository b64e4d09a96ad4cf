pub mod SideLaws
pub mod OwnLaws
pub mod StoresLaws
pub mod CallsLaws
pub mod SolvedLaws
pub mod AloneLaws
