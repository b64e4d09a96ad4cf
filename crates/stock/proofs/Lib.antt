pub mod ResultLaws
pub mod PricesLaws
pub mod StockLaws
