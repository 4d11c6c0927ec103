mod Feeds
mod Wraps
