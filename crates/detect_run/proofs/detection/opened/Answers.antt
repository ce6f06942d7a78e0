use Rattle.std.proofs.Common.{[], ap, subst, sym}
use Rattle.vm_mem.specs.Trace.{empty_trace}
use Rattle.test_run.specs.Running.{Machined}
use Rattle.access_tags.specs.declared.memory.TaggedMemory.{TaggedMemory}
use Rattle.access_tags.specs.Followed.{Follows}
use Rattle.detect_run.proofs.detection.opened.Goals as goal

pub returns-clause-follows : goal.returns-clause-follows
returns-clause-follows g c =
    subst (λ (m : TaggedMemory g.row.WALKS). Follows m empty_trace []) (sym (ap (λ (m : Machined (TaggedMemory g.row.WALKS)). m.memory) c.in_ok-machine.ensures)) c.in_ok-memory.ensures.follows
