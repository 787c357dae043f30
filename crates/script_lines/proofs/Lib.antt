pub mod Parts
pub mod ItemLaws
pub mod WordsRead
pub mod EntryRead
pub mod LineRead
pub mod PublishText
