pub mod FollowedScripts
