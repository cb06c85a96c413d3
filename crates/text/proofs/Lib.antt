pub mod NumeralLaws
pub mod LineLaws
pub mod TermLaws
pub mod PolynomialLaws
pub mod SplitLaws
