use Rattle.std.proofs.Common.{◌≡◌, take}
use Rattle.class_link.proofs.linking.copies.Given as goal

-- the copies so far
abbrev pub invariant-loop-file : goal.invariant-loop-file
invariant-loop-file l = l.made ≡ take l.file-index l.files
