use Rattle.std.proofs.Common.{◌≡◌, drop}
use Rattle.outside.specs.Depot.{content, files_of}
use Rattle.outside.proofs.files.find.Given as goal

abbrev pub invariant-loop-key : goal.invariant-loop-key
invariant-loop-key l = content (files_of (drop l.key-index l.files)) l.name ≡ content (files_of l.files) l.name
