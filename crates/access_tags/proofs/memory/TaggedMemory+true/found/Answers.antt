use Rattle.std.proofs.Common.{List, sym, subst}
use Rattle.order_law.specs.declared.edges.Edge.{Edge}
use Rattle.order_law.specs.{Pairing.PairedList, Walk.IsShownIn}
use Rattle.access_tags.specs.Ran.{owner_by}
use Rattle.access_tags.proofs.memory.TaggedMemory+true.found.Goals as goal

pub returns-clause-shown : goal.returns-clause-shown
returns-clause-shown c T f w =
    let p = c.args.p.now in
    subst (λ (es : List Edge). PairedList (IsShownIn p T (owner_by p T)) es c.in_ok-shown.shown) (sym (c.in_ok-edges.ensures.edges T f)) (c.in_ok-shown.ensures T f w)
