use Rattle.std.proofs.Common.{◌≡◌, drop}
use Rattle.type_frames.specs.{Given.all_types, MapReading.prefixed}
use Rattle.type_frames.proofs.given.with_types.Given as goal

abbrev pub invariant-loop-entry : goal.invariant-loop-entry
invariant-loop-entry l = prefixed l.all (all_types (drop l.entry-index l.entries)) ≡ prefixed l.fn.types (all_types l.entries)
