pub mod AnswerLaws
pub mod CountLemmas
pub mod FileLemmas
pub mod FolderLemmas
pub mod SinkLemmas
