use Rattle.std.proofs.Common.{refl}
use Rattle.class_write.proofs.names.names_in.Goals as goal

pub returns : goal.returns
returns c = rw (c.index_of.ensures, c.index_of-2.ensures, c.index_of-3.ensures) refl
