-- From the row of a form to its step.
use Rattle.std.proofs.Common.{◌≡◌, ◌≢◌, ℕ, refl, sym, ap, ◌∙◌, subst}
use Rattle.jvm_model.specs.declared.{instr.Instr.Instr, outcome.Next.Next}
use Rattle.jvm_model.specs.declared.instr.Instr.TheVariants as form
use Rattle.jvm_model.specs.declared.outcome.Next.TheVariants.{Go, Fault, Raise, Enter, Leave, Over}
use Rattle.jvm_model.specs.{Entries.Entries, Entries.with_place, Step.row, View.counted, View.ended, Rows.answer}
use Rattle.vm_arith.specs.Pure.{GoesOn, GoesTo, GoesFrom, Ends, IsStep}

pub same_form : (i j : Instr) (s u : Entries) → i ≡ j → GoesOn j s u → GoesOn i s u
same_form i j s u e h = subst (λ (k : Instr). GoesOn k s u) (sym e) h

-- where a row goes to is its place, whatever comes next
pub at_target : (i j : Instr) (next n : ℕ) (s u : Entries) → i ≡ j → GoesTo j n s u → GoesFrom i next n s u
at_target i j next n s u e h = subst (λ (k : Instr). GoesFrom k next n s u) (sym e) (record { frame = h.frame; row = λ p q k. h.row p q })

-- a row that doesn't go on throws, and counts nothing
pub thrown : (i : Instr) (next left : ℕ) (x : Next) (s u : Entries) → Ends i x s u → x ≢ Go → IsStep i next left x s u left
thrown i next left Go s u h d = absurd (d refl)
thrown i next left (Fault c) s u h d = λ p w k.
    ap (λ t. counted t w left) (h.row p s.top.pc) ∙ ap (λ n. ended (answer (Fault c) (with_place u n)) w left) (sym h.frame.pc)
thrown i next left (Raise v) s u h d = absurd h
thrown i next left (Enter m) s u h d = absurd h
thrown i next left Leave s u h d = absurd h
thrown i next left Over s u h d = absurd h
