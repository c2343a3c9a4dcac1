pub mod SeenLaws
pub mod PrintLaws
pub mod SightForm
pub mod SightTrip
pub mod ShownLaws
pub mod AnswerLaws
pub mod Promises
