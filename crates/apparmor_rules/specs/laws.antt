pub mod RestatedPerms
