pub mod DeedLaws
