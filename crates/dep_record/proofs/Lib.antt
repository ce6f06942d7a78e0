mod AppendLaws
mod CutLaws
mod DepsLaws
mod EdgeLaws
mod EdgeCount
pub mod FieldLaws
mod FoundLaws
mod GivenFields
pub mod GivenLaws
pub mod HashLaws
mod JsonLaws
mod LineLaws
mod ListedLaws
pub mod NumberLaws
mod SaidLaws
mod TextLaws
