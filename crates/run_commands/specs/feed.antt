pub mod Feeds
pub mod FeedEvents
