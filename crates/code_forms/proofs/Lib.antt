-- the form of each instruction, case by case
pub mod FormCases
-- what Linked asks of a form, from what its target keeps
pub mod FormFacts
-- what the reading of code gives of an instruction
pub mod ShapeFacts
