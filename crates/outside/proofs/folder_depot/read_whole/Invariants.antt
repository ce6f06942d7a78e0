use Rattle.outside.proofs.FolderLemmas.{Read}
use Rattle.outside.proofs.folder_depot.read_whole.Given as goal

abbrev pub invariant-loop-taken : goal.invariant-loop-taken
invariant-loop-taken g l = Read g.F.Read.remaining l.fn.file l.file l.bytes.items l.limit l.left

abbrev pub decreases-loop-taken : goal.decreases-loop-taken
decreases-loop-taken g l = l.left
