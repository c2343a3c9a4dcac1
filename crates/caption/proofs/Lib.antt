pub mod PlaceLaws
pub mod RoomLaws
pub mod CaptionLaws
pub mod CaptionPart
pub mod Promises
