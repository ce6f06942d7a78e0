use Rattle.std.proofs.Common.{◌≡◌, ◌≤◌, ◌*◌, [], length, take, flat_map}
use Rattle.class_link.specs.Literals.{strings_of, noted}
use Rattle.class_link.proofs.literals.literals_of.Given as goal

-- the texts of the classes so far
abbrev pub invariant-loop-class : goal.invariant-loop-class
invariant-loop-class l = record {
  texts : l.texts ≡ noted [] (flat_map (λ c. strings_of c.pool) (take l.class-index l.classes));
  few : length l.texts ≤ 65536 * l.class-index;
}
