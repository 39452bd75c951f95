pub mod HitLaws
pub mod IdleStandIns
