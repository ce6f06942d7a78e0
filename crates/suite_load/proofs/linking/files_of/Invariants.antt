use Rattle.std.proofs.Common.{◌≡◌, map, take}
use Rattle.suite_load.proofs.linking.files_of.Given as goal

abbrev pub invariant-loop-file : goal.invariant-loop-file
invariant-loop-file l = l.made ≡ map (λ f. (f.name, f.content)) (take l.file-index l.files)
