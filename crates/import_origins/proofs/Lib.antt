mod PlaceLaws
mod MarkLaws
mod PartLaws
mod NoFloats
