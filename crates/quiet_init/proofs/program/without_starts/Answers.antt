use Rattle.std.proofs.Common.{◌≤◌, ◌∙◌, ap, List, get_or, length, cond, false, None, arith}
use Rattle.jvm_model.specs.{declared.program.ClassRec.ClassRec, Classes.no_class}
use Rattle.quiet_init.proofs.Lists.{all_set}
use Rattle.quiet_init.proofs.program.without_starts.Goals as goal

pub returns : goal.returns
returns c =
    let t = c.loop-class-test.false in
    let e = c.len-class-end.ensures in
    let f = ap (λ (xs : List ClassRec). length xs) c.into_vec-classes.ensures in
    let n : length c.args.classes ≤ c.loop-class.class = omega arith in
    c.from_vec.ensures ∙ all_set no_class (λ i. cond (get_or c.args.quiet.now i false) (record (get_or c.args.classes i no_class) { initialiser = None }) (get_or c.args.classes i no_class)) c.args.classes c.loop-class.class c.loop-class.classes.items n c.loop-class.invariant
