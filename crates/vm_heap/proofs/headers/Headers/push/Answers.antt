use Rattle.std.proofs.Common.{ap, ◌∙◌, ◌++◌, ◌∷◌, [], None, List}
use Rattle.vm_heap.specs.{declared.header.Header.Header, Entries.Entry, Entries.entry, Entries.entries}
use Rattle.vm_heap.proofs.Entries.{entries_last}
use Rattle.vm_heap.proofs.headers.Headers.push.Goals as goal

pub returns-clause-pushed : goal.returns-clause-pushed
returns-clause-pushed c =
    let xs = c.self.inside.headers.items in
    let ts = c.self.inside.texts.items in
    ap (λ (t : List Header). entries t ts) c.in_ok-push.ensures.items ∙ entries_last xs ts c.args.header c.self.invariant.0
    ∙ ap (λ (t : List Entry). t ++ entry c.args.header None ∷ []) c.self.view_is
