pub mod PricesGrammar
