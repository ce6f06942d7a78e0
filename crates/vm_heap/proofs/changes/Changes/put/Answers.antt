use Rattle.vm_heap.proofs.Overlay.{apart_put, put_changed}
use Rattle.vm_heap.proofs.changes.Changes.put.Goals as goal

pub invariant_of-self : goal.invariant_of-self
invariant_of-self c = apart_put c.args.part c.put.result c.self.inside.changed c.put.new.self c.args.name c.args.content c.put.ensures.put c.put.ensures.kept c.self.invariant

pub returns-clause-put : goal.returns-clause-put
returns-clause-put c = put_changed c.args.part c.put.result c.self.inside.opening c.self.inside.changed c.put.new.self c.args.self.now c.args.name c.args.content c.put.ensures.put c.self.invariant c.self.view_is
