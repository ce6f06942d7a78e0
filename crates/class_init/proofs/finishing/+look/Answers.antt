use Rattle.std.proofs.Common.{◌≡◌, ◌∷◌, ◌-◌, map, refl, subst, rules}
use Rattle.jvm_model.specs.{Initialise.looks, View.IsSafe, View.IsRow}
use Rattle.vm_tables.specs.Starts.{part_of}
use Rattle.class_init.proofs.Starts.{too_dear_at}
use Rattle.class_init.proofs.finishing.+look.Goals as goal

pub returns-then-spare-part : goal.returns-then-spare-part
returns-then-spare-part g t c =
    let part = c.in-Some.part.now in
    let rest = c.in-Some.rest.now in
    let split : c.args.parts.now ≡ part ∷ rest = search rules in
    record {
      made = (
        c.in_ok-state.ensures.of,
        (
          too_dear_at (g.M.Memory.program c.args.memory.now) c.args.parts.now part rest c.args.spare c.args.stack.now (g.M.Memory.world c.args.memory.now) c.args.left.now split c.requires.spare c.if-spare-part.true
              (subst (λ p. IsSafe IsRow (looks p (map part_of c.args.parts.now) (c.args.left.now - c.args.spare) c.args.stack.now) (g.M.Memory.world c.args.memory.now)) c.requires.row.0 c.requires.row.1),
          λ n. absurd (n refl),
        ),
      );
    }
