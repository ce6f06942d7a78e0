-- Array loads and stores and arraylength (JVMS 6.5). The array's head is read first, for its length.
use Rattle.std.specs.Prelude.{ℕ, ℤ, pos, negsuc, ◌∷◌, List, Bool, true, false, cond, nat_lt}
use Rattle.jvm_model.specs.declared.{values.Value.Value, values.Base.Base, values.Kind.Kind, values.Head.Head, instr.Cell.Cell, instr.Instr.Instr}
use Rattle.jvm_model.specs.declared.values.Value.TheVariants.{Int, Long, Null, Lit, Obj}
use Rattle.jvm_model.specs.declared.values.Base.TheVariants as base
use Rattle.jvm_model.specs.declared.values.Kind.TheVariants as kind
use Rattle.jvm_model.specs.declared.values.Location.TheVariants as place
use Rattle.jvm_model.specs.declared.instr.Cell.TheVariants as cell
use Rattle.jvm_model.specs.declared.instr.Instr.TheVariants as form
use Rattle.jvm_model.specs.{declared.program.Program.Program, Access.Access, Access.read, Access.write}
use Rattle.jvm_model.specs.{Builtin.array_index_exception, Builtin.array_store_exception, Entries.Entries, Entries.with_stack}
use Rattle.jvm_model.specs.{Kinds.element_kind, Kinds.kind_fits, Narrow.narrow}
use Rattle.et_base.specs.Numbers.{l2i}
use Rattle.jvm_model.specs.Rows.{Answer, none_here, faults, goes_on, popping, on_int, on_object, with_kind}

-- what comes at an array
abbrev pub on_array : Kind → Access (Answer Entries) → Access (Answer Entries)
on_array (kind.Class c) k = none_here
on_array (kind.Array d b) k = k

-- what comes at an index in range; another throws, with these entries
abbrev pub in_range : Entries → ℤ → ℕ → (ℕ → Access (Answer Entries)) → Access (Answer Entries)
in_range s (pos i) n k = cond (nat_lt i n) (k i) (faults array_index_exception s)
in_range s (negsuc i) n k = faults array_index_exception s

-- the first unit of the descriptor of an array's elements, where it has one dimension
abbrev pub base_letter : Base → ℕ
base_letter base.Boolean = 90
base_letter base.Byte = 66
base_letter base.Char = 67
base_letter base.Short = 83
base_letter base.Int = 73
base_letter base.Long = 74
base_letter (base.Class c) = 76

abbrev pub element_letter : Kind → ℕ
element_letter (kind.Class c) = 76
element_letter (kind.Array d b) = base_letter b

abbrev pub holds_references : Cell → Bool
holds_references cell.Ref = true
holds_references _ = false

-- a nonnull value that is stored into an array of references has to be of the elements' type
abbrev pub checked : Program → Kind → Entries → Value → Access (Answer Entries) → Access (Answer Entries)
checked p k s (Int n) rest = none_here
checked p k s (Long n) rest = none_here
checked p k s Null rest = rest
checked p k s (Lit n) rest = with_kind (Lit n) (λ x. cond (kind_fits p x (element_kind k)) rest (faults array_store_exception s))
checked p k s (Obj o) rest = with_kind (Obj o) (λ x. cond (kind_fits p x (element_kind k)) rest (faults array_store_exception s))

abbrev pub stored_in : Program → Cell → Entries → ℕ → ℤ → Value → List Value → Head → Access (Answer Entries)
stored_in p c s o i v vs h = on_array h.kind (in_range (with_stack s vs) i h.length (λ n. cond (holds_references c)
    (checked p h.kind (with_stack s vs) v (write (place.Elem o n) v (goes_on p s vs)))
    (write (place.Elem o n) (narrow (element_letter h.kind) v) (goes_on p s vs))))

abbrev pub loaded_from : Program → Entries → ℕ → ℤ → List Value → Head → Access (Answer Entries)
loaded_from p s o i vs h = on_array h.kind (in_range (with_stack s vs) i h.length (λ n. read (place.Elem o n) (λ v. goes_on p s (v ∷ vs))))

unfoldable pub row_arrays : Program → Instr → Entries → Access (Answer Entries)
row_arrays p (form.ArrayLoad c) s = popping s.top.stack (λ v vs. popping vs (λ r rest. on_int v (λ i. on_object (with_stack s rest) r (λ o. read (place.Head o) (λ h. loaded_from p s o i rest h)))))
row_arrays p (form.ArrayStore c) s = popping s.top.stack (λ v vs. popping vs (λ j ws. popping ws (λ r rest. on_int j (λ i. on_object (with_stack s rest) r (λ o. read (place.Head o) (λ h. stored_in p c s o i v rest h))))))
row_arrays p form.ArrayLength s = popping s.top.stack (λ r vs. on_object (with_stack s vs) r (λ o. read (place.Head o) (λ h. on_array h.kind (goes_on p s (Int (l2i (pos h.length)) ∷ vs)))))
row_arrays p _ s = none_here
