-- Steps of the pass over instructions that looks where they lead.
use Rattle.std.proofs.Common.{◌≡◌, ℕ, ◌+◌, ◌<◌, Bool, true, false, List, [], ◌∷◌, length, map, get_or, drop, Option, Some, Result, Ok, refl, sym, ap, ◌∙◌, arith}
use Rattle.std.specs.Prelude.{ℤ, not, ◌&&◌, ◌||◌}
use Rattle.std.specs.List.{list_all, enumerate_from, range_with_len}
use Rattle.std.proofs.lemmas.List.{drop_more, FromFn.get_or-map-range_with_len}
use Rattle.class_pool.specs.{declared.fault.Fault.Fault, declared.fault.Fault.TheVariants.BadTarget, declared.fault.ReadError.ReadError, Reading.named}
use Rattle.class_pool.specs.declared.fault.ReadError.TheVariants as errors
use Rattle.et_base.specs.Answers.{◌>>=◌, Fails, tested}
use Rattle.code_decode.specs.declared.{instructions.RawOp.RawOp, opcodes.Shape.Shape}
use Rattle.code_decode.specs.declared.opcodes.Shape.TheVariants as shape
use Rattle.code_decode.specs.{Opcodes.shape_of, Targets.is_place, Targets.names_places, Targets.leads_to, Targets.targets_fit}

-- ---- opcodes that lead nowhere

abbrev has_places : Option Shape → Bool
has_places (Some shape.Branch) = true
has_places (Some shape.FarBranch) = true
has_places (Some shape.Table) = true
has_places (Some shape.Lookup) = true
has_places _ = false

places_are : map names_places (range_with_len 0 256) ≡ map (λ n. has_places (shape_of n)) (range_with_len 0 256)
unfolding shape_of
places_are = refl

places_of : (n : ℕ) → n < 256 → names_places n ≡ has_places (shape_of n)
places_of n h =
    sym (get_or-map-range_with_len names_places 0 256 n n false h (omega arith)) ∙ ap (λ t. get_or t n false) places_are
    ∙ get_or-map-range_with_len (λ n. has_places (shape_of n)) 0 256 n n false h (omega arith)

no_place : (form : Option Shape) (i : ℕ) → has_places form ≡ false → is_place form i ≡ false
no_place (Some shape.Branch) i h = absurd cc
no_place (Some shape.FarBranch) i h = absurd cc
no_place (Some shape.Table) i h = absurd cc
no_place (Some shape.Lookup) i h = absurd cc
no_place _ i h = refl

no_places : (form : Option Shape) (test : ℤ → Bool) (i : ℕ) (args : List ℤ) → has_places form ≡ false → list_all (λ p. not (is_place form p.0) || test p.1) (enumerate_from i args) ≡ true
no_places form test i [] h = refl
no_places form test i (a ∷ args) h = ap (λ b. (not b || test a) && list_all (λ p. not (is_place form p.0) || test p.1) (enumerate_from (i + 1) args)) (no_place form i h) ∙ no_places form test (i + 1) args h

pub leads_nowhere : (test : ℤ → Bool) (o : RawOp) → o.opcode < 256 → names_places o.opcode ≡ false → leads_to test o ≡ true
leads_nowhere test o lt h = no_places (shape_of o.opcode) test 0 o.args (sym (places_of o.opcode lt) ∙ h)

-- ---- one instruction after the other

abbrev judged_op : ℕ → (ℤ → Bool) → RawOp → Result (Unit {0}) Fault
judged_op method test o = tested (leads_to test o) (BadTarget method o.pc)

here : (method : ℕ) (test : ℤ → Bool) (ops : List RawOp) (i : ℕ) (o : RawOp) → i < length ops → o ≡ get_or ops i o
    → targets_fit method test (drop i ops) ≡ (judged_op method test o >>= λ _. targets_fit method test (drop (i + 1) ops))
here method test ops i o lt e = ap (targets_fit method test) (drop_more ops i o lt ∙ ap (λ x. x ∷ drop (i + 1) ops) (sym e))

pub fit_on : (method : ℕ) (test : ℤ → Bool) (ops : List RawOp) (i : ℕ) (o : RawOp) (total : Result (Unit {0}) Fault) → i < length ops → o ≡ get_or ops i o
    → judged_op method test o ≡ Ok tt → targets_fit method test (drop i ops) ≡ total → targets_fit method test (drop (i + 1) ops) ≡ total
fit_on method test ops i o total lt e fits so_far = sym (ap (λ r. r >>= λ _. targets_fit method test (drop (i + 1) ops)) fits) ∙ sym (here method test ops i o lt e) ∙ so_far

pub fit_fails : (error : ReadError) (method : ℕ) (test : ℤ → Bool) (ops : List RawOp) (i : ℕ) (o : RawOp) (total : Result (Unit {0}) Fault) → i < length ops → o ≡ get_or ops i o
    → Fails (named error) (judged_op method test o) → targets_fit method test (drop i ops) ≡ total → Fails (named error) total
fit_fails errors.Memory method test ops i o total lt e fails so_far = tt
fit_fails (errors.Fault f) method test ops i o total lt e fails so_far = sym so_far ∙ here method test ops i o lt e ∙ ap (λ r. r >>= λ _. targets_fit method test (drop (i + 1) ops)) fails

-- What fails still fails with more after it.
pub fails_then : {A B : Type 0} (error : ReadError) (read : Result A Fault) (next : A → Result B Fault) → Fails (named error) read → Fails (named error) (read >>= next)
fails_then errors.Memory read next fails = tt
fails_then (errors.Fault f) read next fails = ap (λ r. r >>= next) fails
