mod SeenWalks
mod SharesKept
mod KeptRight
