-- Returns touch nothing, and take the value on top.
use Rattle.std.proofs.Common.{◌≡◌, ℕ, List, [], ◌∷◌, ◌<◌, length, get_or, drop, Option, Some, None, refl, sym, ◌∙◌, ap, subst, arith}
use Rattle.jvm_model.specs.declared.{values.Value.Value, values.Touch.Touch, instr.Sort.Sort}
use Rattle.jvm_model.specs.declared.values.Value.TheVariants.{Int, Long, Null, Lit, Obj}
use Rattle.jvm_model.specs.declared.instr.Instr.TheVariants as form
use Rattle.jvm_model.specs.declared.state.{EntryKind.EntryKind, EntryKind.TheVariants.Absent, EntryKind.TheVariants.InMethod, EntryKind.TheVariants.InClass}
use Rattle.jvm_model.specs.declared.{outcome.Next.Next, program.Program.Program}
use Rattle.jvm_model.specs.{World.World, Access.Access, Classes.method_at, Descriptors.return_type, Narrow.narrow, Narrow.narrowed, Rows.Answer, Rows.popping}
use Rattle.jvm_model.specs.{Entries.Entries, Entries.popped_entry, Entries.with_stack, RowsReturn.row_return, RowsReturn.hands_on, RowsReturn.handed_on}
use Rattle.jvm_model.specs.View.{counted, counts_one, outcome, paid, touched, IsSafe, IsRow}
use Rattle.vm_mem.specs.{Refines.IsReady, Refines.Refines, Refines.Traces, Trace.Trace}
use Rattle.vm_calls.specs.Calls.{hands_row, return_row}
use Rattle.vm_tables.specs.Methods.{return_unit}
use Rattle.vm_tables.proofs.FieldUnits.{narrow_first}

handed_touches : (k : EntryKind) (p : Program) (vs : List Value) (s : Entries) (w : World) (ts : List Touch) → touched (handed_on k p vs s) w ts ≡ ts
handed_touches Absent p vs s w ts = refl
handed_touches InMethod p [] s w ts = refl
handed_touches InMethod p (v ∷ vs) s w ts = refl
handed_touches (InClass b) p vs s w ts = refl

hands_touches : (p : Program) (vs : List Value) (s : Entries) (w : World) (ts : List Touch) → touched (hands_on p vs s) w ts ≡ ts
unfolding hands_on
hands_touches p vs s w ts = handed_touches (popped_entry s).top.kind p vs (popped_entry s) w ts

popping_touches : (vs : List Value) (k : Value → List Value → Access (Answer Entries)) (w : World) (ts : List Touch) → ((v : Value) (us : List Value) → touched (k v us) w ts ≡ ts) → touched (popping vs k) w ts ≡ ts
popping_touches [] k w ts f = refl
popping_touches (v ∷ vs) k w ts f = f v vs

pub return_touches : (p : Program) (o : Option Sort) (s : Entries) (w : World) (ts : List Touch) → touched (row_return p (form.Return o) s) w ts ≡ ts
unfolding row_return
return_touches p None s w ts = hands_touches p [] s w ts
return_touches p (Some x) s w ts = popping_touches s.top.stack _ w ts (λ v us. hands_touches p _ s w ts)

there : (vs : List Value) (k : Value → List Value → Access (Answer Entries)) (w : World) → IsSafe IsRow (popping vs k) w → 0 < length vs
there [] k w h = absurd h
there (v ∷ vs) k w h = omega arith

-- where a value is returned there is one
pub value_there : (p : Program) (x : Sort) (s : Entries) (w : World) → IsSafe IsRow (row_return p (form.Return (Some x)) s) w → 0 < length s.top.stack
unfolding row_return
value_there p x s w h = there s.top.stack _ w h

taken : (vs : List Value) (k : Value → Access (Answer Entries)) → 0 < length vs → popping vs (λ u us. k u) ≡ k (get_or vs 0 Null)
taken [] k h = let none : ⊥ = omega arith in absurd none
taken (u ∷ us) k h = refl

-- the value on top is narrowed and handed on
pub value_handed : (p : Program) (x : Sort) (s : Entries) → 0 < length s.top.stack → row_return p (form.Return (Some x)) s ≡ hands_on p (narrow (return_unit p s.top.number) (get_or s.top.stack 0 Null) ∷ []) s
unfolding row_return
value_handed p x s h =
    taken s.top.stack (λ u. hands_on p (narrowed (return_type (method_at p s.top.number).descriptor) u ∷ []) s) h
    ∙ ap (λ u. hands_on p (u ∷ []) s) (sym (narrow_first (return_type (method_at p s.top.number).descriptor) (get_or s.top.stack 0 Null)))

pub none_handed : (p : Program) (s : Entries) → row_return p (form.Return None) s ≡ hands_on p [] s
unfolding row_return
none_handed p s = refl

-- 73 is the letter of int
narrow_int_kept : (v : Value) → narrow 73 v ≡ v
unfolding narrow
narrow_int_kept (Int n) = refl
narrow_int_kept (Long n) = refl
narrow_int_kept Null = refl
narrow_int_kept (Lit n) = refl
narrow_int_kept (Obj o) = refl

apart : (vs : List Value) → 0 < length vs → get_or vs 0 Null ∷ drop 1 vs ≡ vs
apart [] h = let none : ⊥ = omega arith in absurd none
apart (v ∷ vs) h = refl

-- what goes to an int stays as it is
pub int_kept : (s : Entries) (u : ℕ) → u ≡ 73 → 0 < length s.top.stack → s ≡ with_stack s (narrow u (get_or s.top.stack 0 Null) ∷ drop 1 s.top.stack)
int_kept s u e h =
    ap (with_stack s) (sym (ap (λ (v : Value). v ∷ drop 1 s.top.stack) (ap (λ (n : ℕ). narrow n (get_or s.top.stack 0 Null)) e ∙ narrow_int_kept (get_or s.top.stack 0 Null)) ∙ apart s.top.stack h))

-- a value that was handed on is returned, over any memory
pub value_made : {M : Type 0} (program : M → Program) (world : M → World) (follows : M → Trace → List Touch → Type 0) (p : Program) (o : Option Sort) (x : Sort) (u : ℕ) (k : M) (s s' : Entries) (left left' : ℕ) (r : Next)
    → IsReady (return_row (form.Return o)) p program world k s → o ≡ Some x → u ≡ return_unit p s.top.number
    → ((w : World) → Refines (hands_row (narrow u (get_or s.top.stack 0 Null) ∷ [])) p w s left r s' w left')
    → (program k ≡ program k) × (Refines (return_row (form.Return o)) (program k) (world k) s left r s' (world k) left' × Traces (return_row (form.Return o)) (program k) (world k) s r follows k k)
value_made program world follows p o x u k s s' left left' r ready e g h =
    let safe = subst (λ (z : Option Sort). IsSafe IsRow (row_return p (form.Return z) s) (world k)) e ready.1 in
    let row : row_return p (form.Return o) s ≡ hands_on p (narrow u (get_or s.top.stack 0 Null) ∷ []) s =
    ap (λ (z : Option Sort). row_return p (form.Return z) s) e ∙ value_handed p x s (value_there p x s (world k) safe) ∙ ap (λ (z : ℕ). hands_on p (narrow z (get_or s.top.stack 0 Null) ∷ []) s) (sym g) in
    let refines : Refines (return_row (form.Return o)) p (world k) s left r s' (world k) left' =
    subst (λ (z : Access (Answer Entries)). counted (paid (counts_one p r) z) (world k) left ≡ outcome r s' (world k) left') (sym row) (h (world k)) in (
      refl,
      (
        subst (λ (q : Program). Refines (return_row (form.Return o)) q (world k) s left r s' (world k) left') ready.0 refines,
        λ n t ts f. subst (λ (us : List Touch). follows k t us) (sym (return_touches (program k) o s (world k) ts)) f,
      ),
    )
