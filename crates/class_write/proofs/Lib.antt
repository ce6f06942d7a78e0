pub mod PartLaw
pub mod MapLaw
pub mod CodeLaw
pub mod OperandLaw
pub mod WriteLaw
