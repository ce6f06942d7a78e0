use Rattle.std.proofs.Common.{◌≡◌, ◌++◌, drop}
use Rattle.std.specs.Prelude.{flat_map}
use Rattle.type_frames.specs.Descriptors.{types_of}
use Rattle.type_frames.proofs.descriptors.push_all_types.Given as goal

abbrev pub invariant-loop-text : goal.invariant-loop-text
invariant-loop-text l = l.types ++ flat_map types_of (drop l.text-index l.texts) ≡ l.initial.types ++ flat_map types_of l.texts
