use Rattle.access_tags.proofs.Ending.{store_put}
use Rattle.access_tags.proofs.memory.TaggedMemoryMemory.put_store.Goals as goal

pub returns-clause-told : goal.returns-clause-told
returns-clause-told g c h ts f = store_put c.note_name.new.self c.put_store.new.self c.args.part c.args.name c.args.content h _ c.in_ok-put_store.ensures.of c.in_ok-put_store.ensures.set (c.in_ok-note_name.ensures.told h ts f)
