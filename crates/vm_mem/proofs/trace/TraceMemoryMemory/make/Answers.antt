use Rattle.vm_mem.proofs.Laid.{made_there, blank_text, blank_few}
use Rattle.vm_mem.proofs.trace.TraceMemoryMemory.make.Goals as goal

pub note_made-requires-clause-text : goal.note_made-requires-clause-text
note_made-requires-clause-text c = blank_text _ _ _ (made_there _ _ _ _ _ c.in_ok-object.ensures.gives c.in_ok-object.ensures.set c.object.ensures)

pub note_made-requires-clause-few : goal.note_made-requires-clause-few
note_made-requires-clause-few c = blank_few _ _ _ (made_there _ _ _ _ _ c.in_ok-object.ensures.gives c.in_ok-object.ensures.set c.object.ensures)
