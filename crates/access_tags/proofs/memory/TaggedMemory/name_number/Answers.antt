use Rattle.std.proofs.Common.{◌≡◌, ◌<◌, List, length, subst, sym, arith}
use Rattle.jvm_model.specs.declared.values.Location.{Location}
use Rattle.vm_mem.specs.Stores.{place_in}
use Rattle.access_tags.specs.Followed.{Follows, IsNamed}
use Rattle.access_tags.proofs.Ending.{after_name, named_found, named_last}
use Rattle.access_tags.proofs.memory.TaggedMemory.name_number.Goals as goal

pub returns-then-at-len-clause-number : goal.returns-then-at-len-clause-number
returns-then-at-len-clause-number g c =
    let l : c.find-at.result < length c.args.self.now.names = omega arith in
    named_found c.args.self.now.names (place_in c.args.part c.args.name.now) c.find-at.result c.find-at.ensures.number l

pub returns-clause-number : goal.returns-clause-number
returns-clause-number g c =
    let l : c.find-at.result ≡ length c.args.self.now.names = omega arith in
    subst (λ (ls : List Location). IsNamed ls (place_in c.args.part c.args.name.now) c.find-at.result) (sym c.in_ok-push.ensures)
    (named_last c.args.self.now.names (place_in c.args.part c.args.name.now) c.find-at.result c.find-at.ensures.number l)

pub returns-clause-told : goal.returns-clause-told
returns-clause-told g c h ts f =
    let m = c.args.self.now in let g = c.grow_names.new.self in
    subst (λ (ls : List Location). Follows (record m { tags = g; names = ls }) h ts) (sym c.in_ok-push.ensures)
    (after_name m g (place_in c.args.part c.args.name.now) h ts c.in_ok-grow_names.ensures.cells c.in_ok-grow_names.ensures.named c.in_ok-grow_names.ensures.stands f)
