-- new, newarray, anewarray and multianewarray (JVMS 6.5). Making an object writes its head and all its cells.
use Rattle.std.specs.Prelude.{ℕ, zero, suc, ℤ, pos, negsuc, List, [], ◌∷◌, length, ◌+◌, ◌*◌, ◌-◌, ◌^◌, min, Bool, true, false, ◌||◌, cond}
use Rattle.jvm_model.specs.declared.{values.Value.Value, values.Value.TheVariants.Obj, values.Kind.Kind, values.Head.Head, instr.Instr.Instr}
use Rattle.jvm_model.specs.declared.values.Location.TheVariants as place
use Rattle.jvm_model.specs.declared.instr.Instr.TheVariants as form
use Rattle.jvm_model.specs.declared.program.Program.{Program}
use Rattle.jvm_model.specs.Access.{Access, done, write, make, spend, bind}
use Rattle.jvm_model.specs.{Builtin.instantiation_error, Builtin.negative_size_exception, Entries.Entries, Entries.with_stack, Kinds.element_kind}
use Rattle.jvm_model.specs.Classes.{class_at, is_interface, is_abstract, layout, blank, instance_head}
use Rattle.jvm_model.specs.Rows.{Answer, none_here, faults, goes_on, popping, on_int, using}

-- what comes once the class may be used
unfoldable pub new_object : Program → ℕ → Entries → Access (Answer Entries)
new_object p c s = spend (1 + length (layout p c)) (make (blank p (instance_head c)) (λ o. goes_on p s (Obj o ∷ s.top.stack)))

-- whether a class has no instances
abbrev pub is_bare : Program → ℕ → Bool
is_bare p c = is_abstract (class_at p c).flags || is_interface (class_at p c).flags

abbrev pub array_head : Kind → ℕ → Head
array_head k n = record { kind = k; length = n }

abbrev pub new_array : Program → Kind → Entries → List Value → ℤ → Access (Answer Entries)
new_array p k s vs (pos n) = spend (1 + n) (make (blank p (array_head k n)) (λ o. goes_on p s (Obj o ∷ vs)))
new_array p k s vs (negsuc n) = faults negative_size_exception (with_stack s vs)

-- n cells of the array o, from i on, each get an array of their own, by `one`
unfoldable pub children : ℕ → ℕ → ℕ → Access ℕ → Access ℕ
children zero i o one = done o
children (suc n) i o one = bind one (λ q. write (place.Elem o i) (Obj q) (children n (i + 1) o one))

-- an array of arrays of these sizes, outer first; the answer is the outer one
unfoldable pub nest : Program → Kind → ℕ → List ℕ → Access ℕ
nest p k n [] = make (blank p (array_head k n)) (λ o. done o)
nest p k n (m ∷ ms) = make (blank p (array_head k n)) (λ o. children n 0 o (nest p (element_kind k) m ms))

-- what it costs: 1 and the length for each array; a size 0 has nothing below it
abbrev pub nest_sum : ℕ → List ℕ → ℕ
nest_sum n [] = 1 + n
nest_sum n (m ∷ ms) = 1 + n + n * nest_sum m ms

-- with the 1 of its step a sum of costs stays at the greatest 64-bit number
unfoldable pub nest_cost : ℕ → List ℕ → ℕ
nest_cost n ms = min (nest_sum n ms) (2 ^ 64 - 2)

abbrev pub nested : Program → Kind → Entries → List Value → List ℕ → Access (Answer Entries)
nested p k s vs [] = none_here
nested p k s vs (n ∷ ms) = spend (nest_cost n ms) (bind (nest p k n ms) (λ o. goes_on p s (Obj o ∷ vs)))

-- The sizes are taken off from the innermost on; whether one is negative, and the sizes so far, outer first.
abbrev pub sized : Program → Kind → Entries → ℕ → List Value → Bool → List ℕ → Access (Answer Entries)
sized p k s zero vs bad ns = cond bad (faults negative_size_exception (with_stack s vs)) (nested p k s vs ns)
sized p k s (suc d) vs bad ns = popping vs (λ v rest. on_int v (λ n. elim n [ pos m ↦ sized p k s d rest bad (m ∷ ns) | negsuc m ↦ sized p k s d rest true ns ]))

unfoldable pub row_create : Program → Instr → Entries → Access (Answer Entries)
row_create p (form.New c) s = cond (is_bare p c) (faults instantiation_error s) (using p c s (new_object p c s))
row_create p (form.NewArray k) s = popping s.top.stack (λ v vs. on_int v (λ n. new_array p k s vs n))
row_create p (form.MultiNewArray k d) s = sized p k s d s.top.stack false []
row_create p _ s = none_here
