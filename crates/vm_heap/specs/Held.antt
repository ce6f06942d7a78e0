-- What a heap is seen as.
use Rattle.std.specs.Prelude.{List}
use Rattle.jvm_model.specs.{declared.program.Program.Program, World.Object}

-- the program that it was made for, and its objects
pub record Held : Type 0 where
  pub program : Program
  pub objects : List Object
