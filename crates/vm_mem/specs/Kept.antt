-- What a memory is seen as.
use Rattle.jvm_model.specs.{declared.program.Program.Program, World.World}

-- the program that it was opened for, and the world that it stands for
pub record Kept : Type 0 where
  pub program : Program
  pub world : World
