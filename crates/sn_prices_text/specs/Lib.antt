pub mod PricesTexts
pub mod PricesPrinting
pub mod Announced
