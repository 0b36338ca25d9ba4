pub mod Grammar
pub mod TreeGrammar
