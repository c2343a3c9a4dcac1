pub mod DigitLaws
pub mod NumberLaws
pub mod DecimalLaws
pub mod NumberTrip
pub mod AsTyped
pub mod CountLaws
pub mod WordLaws
pub mod Examples
