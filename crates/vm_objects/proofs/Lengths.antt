-- The lengths of an array of arrays as they're taken off the operands.
use Rattle.std.proofs.Common.{◌≡◌, ◌<◌, ◌≤◌, ◌+◌, ◌-◌, ℕ, ℤ, zero, suc, pos, negsuc, List, [], ◌∷◌, Bool, true, false, Option, Some, Result, refl, sym, ap, ◌∙◌, subst, arith}
use Rattle.std.specs.Prelude.{take, drop, length, slice_set}
use Rattle.std.proofs.lemmas.{Result.IfOk-weaker, List.drop-set, List.take_all, List.length-drop}
use Rattle.jvm_model.specs.declared.{values.Value.Value, values.Kind.Kind, values.Touch.Touch, outcome.Next.Next, program.Program.Program}
use Rattle.jvm_model.specs.declared.values.Value.TheVariants.{Int, Long, Null, Lit, Obj}
use Rattle.jvm_model.specs.declared.instr.Instr.TheVariants as form
use Rattle.jvm_model.specs.{World.World, Entries.Entries, Entries.with_stack, RowsCreate.row_create, RowsCreate.sized, RowsCreate.nested}
use Rattle.jvm_model.specs.View.{IsSafe, IsRow, counted, paid, counts_one, touched}
use Rattle.vm_mem.specs.{Trace.Trace, Refines.Row, Refines.Refines, Refines.Traces, Refines.Makes}
use Rattle.vm_objects.specs.{Forms.create_row, Forms.count_of, Nests.HasInts, Nests.nested_row, Nests.taken}

module _ (p : Program) (k : Kind) (s : Entries) (w : World) where
  -- where there is a row, the lengths are ints
  pub ints_there : (d : ℕ) (vs : List Value) (bad : Bool) (ns : List ℕ) → IsSafe IsRow (sized p k s d vs bad ns) w → HasInts d vs
  ints_there zero vs bad ns h = tt
  ints_there (suc d) [] bad ns h = absurd h
  ints_there (suc d) (Int (pos n) ∷ vs) bad ns h = (tt, ints_there d vs bad (n ∷ ns) h)
  ints_there (suc d) (Int (negsuc n) ∷ vs) bad ns h = (tt, ints_there d vs true ns h)
  ints_there (suc d) (Long n ∷ vs) bad ns h = absurd h
  ints_there (suc d) (Null ∷ vs) bad ns h = absurd h
  ints_there (suc d) (Lit n ∷ vs) bad ns h = absurd h
  ints_there (suc d) (Obj o ∷ vs) bad ns h = absurd h

-- a length is taken
length_step : (p : Program) (k : Kind) (s : Entries) (d : ℕ) (m : ℤ) (n : ℕ) (vs : List Value) (bad : Bool) (ns : List ℕ) → count_of m ≡ Some n → sized p k s (suc d) (Int m ∷ vs) bad ns ≡ sized p k s d vs bad (n ∷ ns)
length_step p k s d (pos j) n vs bad ns h = let q : j ≡ n = cc in ap (λ x. sized p k s d vs bad (x ∷ ns)) q
length_step p k s d (negsuc j) n vs bad ns h = absurd (cc)

before_start : (xs : List ℕ) (i n : ℕ) → 0 < i → i ≤ length xs → drop (i - 1) (slice_set xs (i - 1) n) ≡ n ∷ drop i xs
before_start xs i n a b =
    let lt : i - 1 < length xs = omega arith in
    let back : (i - 1) + 1 ≡ i = omega arith in
    drop-set xs (i - 1) n lt ∙ ap (λ j. n ∷ drop j xs) back

pub length_taken : (p : Program) (k : Kind) (s : Entries) (d i n : ℕ) (m : ℤ) (old new : Entries) (bad : Bool) (xs : List ℕ) → 0 < d → 0 < i → i ≤ length xs → old ≡ with_stack new (Int m ∷ new.top.stack) → count_of m ≡ Some n →
    sized p k s d old.top.stack bad (drop i xs) ≡ sized p k s (d - 1) new.top.stack bad (drop (i - 1) (slice_set xs (i - 1) n))
length_taken p k s d i n m old new bad xs some begun within popped count =
    let less : d ≡ suc (d - 1) = omega arith in
    ap (λ x. sized p k s x old.top.stack bad (drop i xs)) less
    ∙ ap (λ (z : Entries). sized p k s (suc (d - 1)) z.top.stack bad (drop i xs)) popped
    ∙ length_step p k s (d - 1) m n new.top.stack bad (drop i xs) count
    ∙ ap (λ ys. sized p k s (d - 1) new.top.stack bad ys) (sym (before_start xs i n begun within))

pub row_multi : (p : Program) (k : Kind) (d : ℕ) (s : Entries) → row_create p (form.MultiNewArray k d) s ≡ sized p k s d s.top.stack false []
unfolding row_create
row_multi p k d s = refl

-- what is left of the row looks at no other operands than those that are left
other_stack : (p : Program) (k : Kind) (s : Entries) (vs : List Value) (ns : List ℕ) → nested p k s vs ns ≡ nested p k (with_stack s vs) vs ns
other_stack p k s vs [] = refl
other_stack p k s vs (n ∷ ns) = refl

lengths_taken : (p : Program) (k : Kind) (s s' : Entries) (ns : List ℕ) → s' ≡ with_stack s s'.top.stack → nested p k s s'.top.stack ns ≡ nested_row k ns p s'
lengths_taken p k s s' ns e = other_stack p k s s'.top.stack ns ∙ ap (λ z. nested p k z s'.top.stack ns) (sym e)

-- from a place of a list up to its end
to_end : (ns : List ℕ) (i n : ℕ) → length ns ≡ n → take (n - i) (drop i ns) ≡ drop i ns
to_end ns i n h =
    let e = length-drop i ns in
    let k : length (drop i ns) ≤ n - i = omega arith in
    take_all (n - i) (drop i ns) k

pub row_taken : (p : Program) (k : Kind) (d : ℕ) (s s' : Entries) (ns : List ℕ) (n : ℕ) (r : Option ℕ) (i : ℕ) → length ns ≡ n → sized p k s d s.top.stack false [] ≡ taken p k s s'.top.stack ns r → r ≡ Some i → s' ≡ with_stack s s'.top.stack →
    create_row (form.MultiNewArray k d) p s ≡ nested_row k (take (n - i) (drop i ns)) p s'
row_taken p k d s s' ns n r i long e q kept =
    row_multi p k d s ∙ e ∙ ap (λ x. taken p k s s'.top.stack ns x) q ∙ lengths_taken p k s s' (drop i ns) kept ∙ ap (λ x. nested_row k x p s') (sym (to_end ns i n long))

-- a row that is another one's on what it works on
module _ {M : Type 0} (t u : Row Entries) (program : M → Program) (world : M → World) (follows : M → Trace → List Touch → Type 0) (m0 : M) (s s' : Entries) (e : t (program m0) s ≡ u (program m0) s') where
  pub same_makes : {E : Type 0} (m1 : M) (left : ℕ) (r : Result Next E) (s2 : Entries) (left2 : ℕ) → Makes u program world follows m0 m1 s' left r s2 left2 → Makes t program world follows m0 m1 s left r s2 left2
  same_makes m1 left r s2 left2 h = (
    h.0,
    IfOk-weaker r
        (λ y. Refines u (program m0) (world m0) s' left y s2 (world m1) left2 × Traces u (program m0) (world m0) s' y follows m0 m1)
        (λ y. Refines t (program m0) (world m0) s left y s2 (world m1) left2 × Traces t (program m0) (world m0) s y follows m0 m1)
        (λ y k. (ap (λ z. counted (paid (counts_one (program m0) y) z) (world m0) left) e ∙ k.0, λ n q ts f. subst (λ z. follows m1 q z) (sym (ap (λ z. touched z (world m0) ts) e)) (k.1 n q ts f))) h.1,
  )
