use Rattle.std.proofs.Common.{◌≡◌, ◌-◌, ◌==◌, not, length, take, drop, refl, arith, w64}
use Rattle.std.specs.List.{suffix_len}
use Rattle.std.proofs.lemmas.{Int.to_z-of_z, List.take_all, List.length-drop}
use Rattle.suite_load.specs.SuiteForm.{test_from, test_class, test_method}
use Rattle.suite_load.proofs.test_line.test_from.Goals as goal

pub returns : goal.returns
unfolding test_from test_class test_method
returns c =
    let name = c.args.name.now in
    let k = length name - suffix_len (λ b. not (b == 46)) name in
    let e : c.after_last_dot-n.result ≡ k = omega arith in
    let m : take (length name - k) (drop k name) ≡ drop k name = take_all _ _ (omega (arith, length-drop k name)) in
    rw (c.in_ok-name.ensures, c.in_ok-class.ensures, c.in_ok-method.ensures, to_z-of_z w64 c.args.clock c.ranges.clock, c.saturating_sub.ensures, e, m) refl
