use Rattle.std.proofs.Common.{◌≡◌, ◌<◌, ◌∙◌, sym, arith, rules}
use Rattle.std.proofs.Math.Facts.{to_z-of_z}
use mir.Syntax.{w32}
use mir.Val.{SFits}
use Rattle.vm_objects.specs.Forms.{count_of}
use Rattle.vm_objects.proofs.Lengths.{length_taken}
use Rattle.vm_objects.proofs.nesting.+take_lengths.Goals as goal

pub returns-in-Some-clause-same : goal.returns-in-Some-clause-same
returns-in-Some-clause-same t c = λ p k s.
    let some : 0 < c.args.dims = omega arith in
    let begun : 0 < c.args.start = omega (arith, c.requires.enough) in
    let fits : SFits w32 c.pop_int.result = search rules in
    let count : c.count_of.result ≡ count_of c.pop_int.result = simp to_z-of_z at c.count_of.ensures in
    length_taken p k s c.args.dims c.args.start c.in-Some.n c.pop_int.result c.args.stack.now c.pop_int.new.self c.args.negative c.args.lengths.now
    some begun c.requires.within c.pop_int.ensures.popped (sym count ∙ c.in-Some.is)
    ∙ c.take_lengths.ensures.same p k s
