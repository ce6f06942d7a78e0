pub mod Pick
pub mod Form
pub mod ImpactText
pub mod ByName
pub mod Carried
pub mod Unpicked
pub mod ImpactLaw
