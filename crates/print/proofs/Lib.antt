pub mod Each
pub mod WriteLaws
pub mod PageLaws
pub mod DecimalLaws
pub mod JoinedLaws
pub mod PrintingLaws
pub mod BackLaws
pub mod RoundTrip
