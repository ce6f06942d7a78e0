use Rattle.std.proofs.Common.{◌++◌, true, slice_set, arith, sym, subst}
use Rattle.std.specs.Option.{option_to_list}
use Rattle.class_link.specs.Marks.{Lists}
use Rattle.class_link.proofs.MentionLaws.{lists_none, lists_more, lists_past}
use Rattle.class_link.proofs.mentions.list.Goals as goal

pub returns-then-place-len : goal.returns-then-place-len
returns-then-place-len c = λ n is h. subst (λ o. Lists (slice_set c.args.table.now.items c.in-Some.number true) n (is ++ option_to_list o)) (sym c.in-Some.is) (lists_more c.args.table.now.items n c.in-Some.number is (let ok = c.args.table.now.ok in let e = c.len.ensures in let t = c.if-place-len.true in omega arith) h)

pub returns-else-place-len : goal.returns-else-place-len
returns-else-place-len c = λ n is h. subst (λ o. Lists c.args.table.now.items n (is ++ option_to_list o)) (sym c.in-Some.is) (lists_past c.args.table.now.items n c.in-Some.number is (let ok = c.args.table.now.ok in let e = c.len.ensures in let t = c.if-place-len.false in omega arith) h)

pub returns-in_default : goal.returns-in_default
returns-in_default c = λ n is h. lists_none _ n is c.args.number c.in_default.not-Some h
