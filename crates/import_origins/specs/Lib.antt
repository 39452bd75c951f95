pub mod PlaceText
pub mod Included
pub mod Origins
pub mod OriginObjects
pub mod inner
