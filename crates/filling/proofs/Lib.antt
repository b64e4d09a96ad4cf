pub mod FillLaws
pub mod ChooseLaws
pub mod FillingLaws
pub mod ReadFilled
pub mod HandedBackLaws
