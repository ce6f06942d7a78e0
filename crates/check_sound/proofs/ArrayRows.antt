-- The rows of array loads, array stores and arraylength.
use Rattle.std.proofs.Common.{◌≡◌, ℕ, ℤ, ◌<◌, List, [], ◌∷◌, ◌++◌, true, ◌||◌, cond, pos, negsuc, nat_eq, nat_lt, refl, sym, ◌∙◌, ap, subst, inl, inr}
use Rattle.std.specs.Prelude.{slice_index_or}
use Rattle.std.proofs.lemmas.Bool.{and_parts, or_cases, eqb-true, ltb-true}
use Rattle.jvm_model.specs.declared.{values.Value.Value, values.Kind.Kind, values.Base.Base, values.Head.Head, instr.Cell.Cell, instr.Instr.Instr}
use Rattle.jvm_model.specs.declared.values.Value.TheVariants as value
use Rattle.jvm_model.specs.declared.values.Kind.TheVariants as kind
use Rattle.jvm_model.specs.declared.values.Location.TheVariants as place
use Rattle.jvm_model.specs.declared.instr.Cell.TheVariants as cell
use Rattle.jvm_model.specs.declared.instr.Instr.TheVariants as form
use Rattle.jvm_model.specs.{declared.outcome.Next.TheVariants.Fault, declared.program.Program.Program, World.World, World.size, Classes.member}
use Rattle.jvm_model.specs.{Entries.Entries, Entries.with_stack, Kinds.element_kind, Kinds.kind_fits, Access.Access, Access.read, Access.write}
use Rattle.jvm_model.specs.Builtin.{object_class, null_pointer_exception, array_index_exception, array_store_exception}
use Rattle.jvm_model.specs.{Linked.Linked, Linked.IsKind, Narrow.narrow, Step.group_of, Step.arrays}
use Rattle.et_base.specs.Numbers.{l2i}
use Rattle.jvm_model.specs.Rows.{Answer, answer, popping, on_int, on_object, goes_on, constant_kind}
use Rattle.jvm_model.specs.RowsArrays.{on_array, in_range, element_letter, holds_references, checked, stored_in, loaded_from, row_arrays}
use Rattle.type_frames.specs.declared.{stack_effect.OperandConstraint.TheVariants.Fits, stack_effect.OperandConstraint.TheVariants.Array, vtype.VType.VType}
use Rattle.type_frames.specs.declared.vtype.VType.TheVariants.{Top, Int, Long, Null, Object}
use Rattle.type_frames.specs.{Frames.Slots, Environment.Environment, Assign.is_array, Assign.assignable, Typing.IsTyped}
use Rattle.type_frames.specs.{Descriptors.types_of, Descriptors.name_of, Descriptors.kind_name, Rules.meets, Rules.is_any_array, Rules.is_small}
use Rattle.type_frames.specs.StackEffect.{sides, array_need, element_type, loaded, place_of, objects_text}
use Rattle.type_frames.specs.TypedState.{kind_at, IsInstance, RefersTo, HasType, IsDeclared, IsReferenceOf, element_text}
use Rattle.type_frames.proofs.AssignLaws.{assignable_trans}
use Rattle.check_sound.proofs.Tree.{head_at, typed_done, typed_read, typed_write}
use Rattle.check_sound.proofs.Held.{Is, Held, int_on, is_fits, refers_fits}
use Rattle.check_sound.proofs.Operands.{Operands, IsPop, rest_of, popping-seen, popping-typed, popping-fits, popping-long, on_int-typed, on_object-typed, head-typed, choose-typed}
use Rattle.check_sound.proofs.Ready.{Ends, Row, Ready, here, rest, operands, on}
use Rattle.check_sound.proofs.{Ends.fault_typed, CallEffects.Result, CallEffects.push, DeclaredValues.declared_result, LibraryTypes.constant_is_kind}
use Rattle.check_sound.proofs.{Thrown.thrown, KindNames.kind_instance}
use Rattle.jvm_model.proofs.NarrowedFits.{narrowed_fits, smalls}
use Rattle.check_sound.proofs.ArrayKinds.{Plain, Refs, array_below, array_kind, plain_cells, ref_cells}

-- ---- arrays on the stack

-- null, or an instance of an array type
data Pointed (p : Program) (w : World) (t : VType) (v : Value) : Type 0 where
  at_null : v ≡ value.Null → Pointed p w t v
  at_array : (a : List ℕ) → t ≡ Object a → is_array a ≡ true → RefersTo p w a v → Pointed p w t v

pointed : (p : Program) (w : World) (e : Environment) (t : VType) (v : Value) → is_any_array t ≡ true → HasType p w e t v → Pointed p w t v
pointed p w e Null value.Null m h = at_null refl
pointed p w e Null _ m h = absurd h
pointed p w e (Object a) v m h = at_array a refl m h
pointed p w e t v m h = absurd (cc)

-- each need of an array is met by null and arrays alone
array_met : (p : Program) (lk : Linked p) (b : List ℕ) (t : VType) → is_array b ≡ true → meets p (Fits (Object b)) t ≡ true → is_any_array t ≡ true
array_met p lk b Null f m = refl
array_met p lk b (Object a) f m = array_below p lk a b f m
array_met p lk b t f m = absurd (cc)

small_met : (t : VType) → is_small t ≡ true → is_any_array t ≡ true
small_met Null m = refl
small_met (Object (u ∷ x ∷ [])) m = (and_parts (nat_eq u 91) (nat_eq x 66 || nat_eq x 90) m).0
small_met t m = absurd (cc)

needed : (p : Program) (lk : Linked p) (c : Cell) (t : VType) → meets p (array_need p c) t ≡ true → is_any_array t ≡ true
needed p lk cell.Int t m = array_met p lk (91 ∷ 73 ∷ []) t refl m
needed p lk cell.Long t m = array_met p lk (91 ∷ 74 ∷ []) t refl m
needed p lk cell.Ref t m = array_met p lk (objects_text p) t refl m
needed p lk cell.Byte t m = small_met t m
needed p lk cell.Char t m = array_met p lk (91 ∷ 67 ∷ []) t refl m
needed p lk cell.Short t m = array_met p lk (91 ∷ 83 ∷ []) t refl m

array_pops : (p : Program) (c : Cell) → IsPop (array_need p c)
array_pops p cell.Int = tt
array_pops p _ = tt

-- ---- what the elements are

-- an array of ints, or of narrower ones
record Ints (p : Program) (x : Kind) : Type 0 where
  unit : ℕ
  small : member unit smalls ≡ true
  types : types_of (unit ∷ []) ≡ Int ∷ []
  plain : Plain p x unit

abbrev Cells : Program → Cell → List ℕ → Kind → Type 0
Cells p cell.Long a x = Plain p x 74
Cells p cell.Ref a x = Refs p a x
Cells p _ a x = Ints p x

module _ (p : Program) (lk : Linked p) where
  trans : (x : Kind) (a b : List ℕ) → IsInstance p x a → assignable p (Object a) (Object b) ≡ true → IsInstance p x b
  trans x a b h g = assignable_trans p lk (Object (kind_name p x)) (Object a) (Object b) h g

  small_cells : (x : Kind) (a : List ℕ) → IsKind p x → is_small (Object a) ≡ true → IsInstance p x a → Ints p x
  small_cells x (u ∷ y ∷ []) h m i =
      let q = and_parts (nat_eq u 91) (nat_eq y 66 || nat_eq y 90) m in
      let j : IsInstance p x (91 ∷ y ∷ []) = subst (λ (k : ℕ). IsInstance p x (k ∷ y ∷ [])) (eqb-true u 91 q.0) i in
      elim (or_cases (nat_eq y 66) (nat_eq y 90) q.1) [
        | inl e ↦ record { unit = 66; small = refl; types = refl; plain = plain_cells p lk x 66 h refl refl (subst (λ (k : ℕ). IsInstance p x (91 ∷ k ∷ [])) (eqb-true y 66 e) j) }
        | inr e ↦ record { unit = 90; small = refl; types = refl; plain = plain_cells p lk x 90 h refl refl (subst (λ (k : ℕ). IsInstance p x (91 ∷ k ∷ [])) (eqb-true y 90 e) j) }
      ]
  small_cells x a h m i = absurd (cc)

  cells : (c : Cell) (a : List ℕ) (x : Kind) → is_array a ≡ true → meets p (array_need p c) (Object a) ≡ true → IsKind p x → IsInstance p x a → Cells p c a x
  cells cell.Int a x f m h i = record { unit = 73; small = refl; types = refl; plain = plain_cells p lk x 73 h refl refl (trans x a (91 ∷ 73 ∷ []) i m) }
  cells cell.Char a x f m h i = record { unit = 67; small = refl; types = refl; plain = plain_cells p lk x 67 h refl refl (trans x a (91 ∷ 67 ∷ []) i m) }
  cells cell.Short a x f m h i = record { unit = 83; small = refl; types = refl; plain = plain_cells p lk x 83 h refl refl (trans x a (91 ∷ 83 ∷ []) i m) }
  cells cell.Byte a x f m h i = small_cells x a h m i
  cells cell.Long a x f m h i = plain_cells p lk x 74 h refl refl (trans x a (91 ∷ 74 ∷ []) i m)
  cells cell.Ref a x f m h i = ref_cells p lk x a (name_of p object_class ++ 59 ∷ []) h f m i

-- the text of the elements
plain_text : (p : Program) (x : Kind) (u : ℕ) → Plain p x u → element_text p x ≡ u ∷ []
plain_text p x u q = ap (element_text p) q.is ∙ q.text

plain_letter : (p : Program) (x : Kind) (u : ℕ) → Plain p x u → element_letter x ≡ u
plain_letter p x u q = ap element_letter q.is ∙ q.letter

-- ---- elements as operands

module _ (p : Program) (lk : Linked p) (w : World) (e : Environment) where
  int_loaded : (x : Kind) → Ints p x → (us : List VType) (v : Value) (vs : List Value) → IsDeclared p w (element_text p x) v → Held p w e us vs → Held p w e (Int ∷ us) (v ∷ vs)
  int_loaded x q us v vs d h =
      push p w e (Int ∷ []) us (v ∷ []) vs (subst (λ (ts : List VType). Result p w ts (v ∷ [])) q.types
      (declared_result p w (q.unit ∷ []) v (subst (λ (t : List ℕ). IsDeclared p w t v) (plain_text p x q.unit q.plain) d))) h

  long_loaded : (x : Kind) → Plain p x 74 → (us : List VType) (v : Value) (vs : List Value) → IsDeclared p w (element_text p x) v → Held p w e us vs → Held p w e (Top ∷ Long ∷ us) (v ∷ vs)
  long_loaded x q us v vs d h =
      push p w e (Long ∷ []) us (v ∷ []) vs (declared_result p w (74 ∷ []) v (subst (λ (t : List ℕ). IsDeclared p w t v) (plain_text p x 74 q) d)) h

  ref_loaded : (a : List ℕ) (x : Kind) → Refs p a x → (us : List VType) (v : Value) (vs : List Value) → IsDeclared p w (element_text p x) v → Held p w e us vs → Held p w e (element_type (Object a) ∷ us) (v ∷ vs)
  ref_loaded a x q us v vs d h =
      let r : Result p w (Object (kind_name p q.element) ∷ []) (v ∷ []) = subst (λ (ts : List VType). Result p w ts (v ∷ [])) q.references.types (declared_result p w (element_text p x) v d) in
      subst (λ (t : VType). Held p w e (t ∷ us) (v ∷ vs)) (sym q.type)
      (push p w e (Object q.named ∷ []) us (v ∷ []) vs (refers_fits p lk w e (kind_name p q.element) q.named v q.fits r.0, r.1) h)

  cell_loaded : (c : Cell) (a : List ℕ) (x : Kind) → Cells p c a x → (f : Slots) → place_of f 1 ≡ Object a → (us : List VType) (v : Value) (vs : List Value) → IsDeclared p w (element_text p x) v → Held p w e us vs → Held p w e (loaded f c ++ us) (v ∷ vs)
  cell_loaded cell.Long a x q f g us v vs d h = long_loaded x q us v vs d h
  cell_loaded cell.Ref a x q f g us v vs d h = subst (λ (t : VType). Held p w e (element_type t ∷ us) (v ∷ vs)) (sym g) (ref_loaded a x q us v vs d h)
  cell_loaded _ a x q f g us v vs d h = int_loaded x q us v vs d h

  -- ---- operands as elements

  int_stored : (x : Kind) (v : Value) → Ints p x → Is p w e Int v → IsDeclared p w (element_text p x) (narrow (element_letter x) v)
  unfolding narrow
  int_stored x v q i = subst (λ (t : List ℕ). IsDeclared p w t (narrow (element_letter x) v)) (sym (plain_text p x q.unit q.plain))
      (subst (λ (u : ℕ). IsDeclared p w (q.unit ∷ []) (narrow u v)) (sym (plain_letter p x q.unit q.plain)) (by v i))
    where
      by : (v : Value) → Is p w e Int v → IsDeclared p w (q.unit ∷ []) (narrow q.unit v)
      by (value.Int n) i = narrowed_fits q.unit n q.small
      by _ i = absurd i.type

  long_stored : (x : Kind) (v : Value) → Plain p x 74 → Is p w e Long v → IsDeclared p w (element_text p x) (narrow (element_letter x) v)
  unfolding narrow
  long_stored x v q i = subst (λ (t : List ℕ). IsDeclared p w t (narrow (element_letter x) v)) (sym (plain_text p x 74 q)) (by v i)
    where
      by : (v : Value) → Is p w e Long v → IsDeclared p w (74 ∷ []) (narrow (element_letter x) v)
      by (value.Long n) i = refl
      by _ i = absurd i.type

  ref_stored : (a : List ℕ) (x : Kind) (q : Refs p a x) → (v : Value) → RefersTo p w (kind_name p q.element) v → IsDeclared p w (element_text p x) v
  ref_stored a x q (value.Int n) h = absurd h
  ref_stored a x q (value.Long n) h = absurd h
  ref_stored a x q v h = subst (λ (ts : List VType). IsReferenceOf p w ts v) (sym q.references.types) h

-- ---- the rows

-- an operand that a store takes
abbrev Storable : (p : Program) → World → Environment → Cell → Value → Type 0
Storable p w e cell.Long v = Is p w e Long v
Storable p w e cell.Ref v = Is p w e (Object (name_of p object_class)) v
Storable p w e _ v = Is p w e Int v

module _ (p : Program) (ty : IsTyped p) (w : World) where
  no_constant : (n : ℕ) (a : List ℕ) → is_array a ≡ true → IsInstance p (constant_kind n) a → ⊥
  no_constant n a m i = let q = array_kind p ty.linked (constant_kind n) a (constant_is_kind p ty.linked n) m i in let e = q.2 in absurd (cc)

  -- what comes at the head of an array, where null throws
  on_pointed : (t : Entries) (x : VType) (v : Value) (k : ℕ → Head → Access (Answer Entries)) → Pointed p w x v → Ends p w (answer (Fault null_pointer_exception) t)
      → ((a : List ℕ) (o : ℕ) → x ≡ Object a → is_array a ≡ true → o < size w → IsKind p (kind_at w o) → IsInstance p (kind_at w o) a → Row p w (k o (head_at w o)))
      → Row p w (on_object t v (λ o. read (place.Head o) (λ h. k o h)))
  on_pointed t x v k (at_null e) f r = subst (λ (y : Value). Row p w (on_object t y (λ o. read (place.Head o) (λ h. k o h)))) (sym e) (typed_done f)
  on_pointed t x v k (at_array a e m h) f r = on_object-typed p (Ends p) w t a v h (λ n i. no_constant n a m i) f (λ o lt i. head-typed p (Ends p) w o lt (λ q. r a o e m lt q i))

  on_array-typed : (x : Kind) (d : ℕ) (b : Base) {k : Access (Answer Entries)} → x ≡ kind.Array d b → Row p w k → Row p w (on_array x k)
  on_array-typed x d b {k = k} e r = subst (λ (y : Kind). Row p w (on_array y k)) (sym e) r

  in_range-typed : (t : Entries) (i : ℤ) (n : ℕ) {k : ℕ → Access (Answer Entries)} → Ends p w (answer (Fault array_index_exception) t) → ((j : ℕ) → j < n → Row p w (k j)) → Row p w (in_range t i n k)
  in_range-typed t (pos i) n f r = choose-typed p (Ends p) w (nat_lt i n) (λ q. r i (ltb-true i n q)) (λ q. typed_done f)
  in_range-typed t (negsuc i) n f r = typed_done f

module _ (p : Program) (ty : IsTyped p) {w : World} {s : Entries} where
  -- loads

  element_read : (c : Cell) (r : Ready p w s (form.ArrayLoad c)) (j : ℤ) (vs : List Value) (a : List ℕ) (o d : ℕ) (b : Base) → place_of r.types 1 ≡ Object a → Cells p c a (kind_at w o) → kind_at w o ≡ kind.Array d b → o < size w → Held p w (here r) (rest r) vs → Row p w (loaded_from p s o j vs (head_at w o))
  unfolding sides
  element_read c r j vs a o d b q cs e lt h = on_array-typed p ty w (kind_at w o) d b e
      (in_range-typed p ty w (with_stack s vs) j (head_at w o).length (fault_typed p ty r array_index_exception vs (thrown p ty.linked array_index_exception refl) h.range)
      (λ n l. typed_read (d, b, lt, e, l) (λ v f. on p ty r refl r.locals (cell_loaded p ty.linked w (here r) c a (kind_at w o) cs r.types q (rest r) v vs f h))))

  pub load : (c : Cell) → Ready p w s (form.ArrayLoad c) → Row p w (row_arrays p (form.ArrayLoad c) s)
  unfolding row_arrays sides
  load c r = popping-seen p (Ends p) w (Fits Int) tt (operands r) (λ v vs t us q i sv m o. popping-seen p (Ends p) w (array_need p c) (array_pops p c) o (λ b ws u ts z g sb n l.
      on_int-typed p (Ends p) w v (is_fits p ty.linked w (here r) t Int v m i) (λ j.
      on_pointed p ty w (with_stack s ws) u b (λ k h. loaded_from p s k j ws h) (pointed p w (here r) u b (needed p ty.linked c u n) g.type) (fault_typed p ty r null_pointer_exception ws (thrown p ty.linked null_pointer_exception refl) (rest_of l).range)
      (λ a k e x lt h y.
      let f = array_kind p ty.linked (kind_at w k) a h x y in
      element_read c r j ws a k f.0 f.1 (ap (λ (xs : List VType). slice_index_or xs 1 Top) (q ∙ ap {B = List VType} (λ xs. t ∷ xs) z) ∙ e)
      (cells p ty.linked c a (kind_at w k) x (subst (λ (y : VType). meets p (array_need p c) y ≡ true) e n) h y) f.2 lt (rest_of l)))))

  -- stores

  ref_checked : (r : Ready p w s (form.ArrayStore cell.Ref)) (v : Value) (vs : List Value) (a : List ℕ) (o d n : ℕ) (b : Base) → Is p w (here r) (Object (name_of p object_class)) v → Refs p a (kind_at w o) → kind_at w o ≡ kind.Array d b → o < size w → n < (head_at w o).length → Held p w (here r) (rest r) vs
      → Row p w (checked p (head_at w o).kind (with_stack s vs) v (write (place.Elem o n) v (goes_on p s vs)))
  unfolding sides
  ref_checked r v vs a o d n b i q e lt l h = by v i
    where
      puts : (v : Value) → RefersTo p w (kind_name p q.element) v → Row p w (write (place.Elem o n) v (goes_on p s vs))
      puts v j = typed_write tt (d, b, lt, e, l) (ref_stored p ty.linked w (here r) a (kind_at w o) q v j) (on p ty r refl r.locals h)

      fits : (y : Kind) → IsKind p y → kind_fits p y (element_kind (kind_at w o)) ≡ true → IsInstance p y (kind_name p q.element)
      fits y k f = kind_instance p ty.linked y q.element k q.references.is_kind (subst (λ (x : Kind). kind_fits p y x ≡ true) q.references.element f)

      bad : Ends p w (answer (Fault array_store_exception) (with_stack s vs))
      bad = fault_typed p ty r array_store_exception vs (thrown p ty.linked array_store_exception refl) h.range

      by : (v : Value) → Is p w (here r) (Object (name_of p object_class)) v → Row p w (checked p (head_at w o).kind (with_stack s vs) v (write (place.Elem o n) v (goes_on p s vs)))
      by value.Null i = puts value.Null tt
      by (value.Lit k) i = choose-typed p (Ends p) w (kind_fits p (constant_kind k) (element_kind (kind_at w o))) (λ f. puts (value.Lit k) (i.range, fits (constant_kind k) (constant_is_kind p ty.linked k) f)) (λ f. typed_done bad)
      by (value.Obj k) i = head-typed p (Ends p) w k i.range (λ y. choose-typed p (Ends p) w (kind_fits p (kind_at w k) (element_kind (kind_at w o))) (λ f. puts (value.Obj k) (i.range, fits (kind_at w k) y f)) (λ f. typed_done bad))
      by _ i = absurd i.type

  -- the element is written, of any sort of cells
  cell_written : (c : Cell) (r : Ready p w s (form.ArrayStore c)) (v : Value) (vs : List Value) (a : List ℕ) (o d n : ℕ) (b : Base) → Storable p w (here r) c v → Cells p c a (kind_at w o) → kind_at w o ≡ kind.Array d b → o < size w → n < (head_at w o).length → Held p w (here r) (rest r) vs
      → Row p w (cond (holds_references c) (checked p (head_at w o).kind (with_stack s vs) v (write (place.Elem o n) v (goes_on p s vs))) (write (place.Elem o n) (narrow (element_letter (head_at w o).kind) v) (goes_on p s vs)))
  unfolding sides
  cell_written cell.Ref r v vs a o d n b i q e lt l h = ref_checked r v vs a o d n b i q e lt l h
  cell_written cell.Long r v vs a o d n b i q e lt l h = typed_write tt (d, b, lt, e, l) (long_stored p ty.linked w (here r) (kind_at w o) v q i) (on p ty r refl r.locals h)
  cell_written _ r v vs a o d n b i q e lt l h = typed_write tt (d, b, lt, e, l) (int_stored p ty.linked w (here r) (kind_at w o) v q i) (on p ty r refl r.locals h)

  element_write : (c : Cell) (r : Ready p w s (form.ArrayStore c)) (j : ℤ) (v : Value) (vs : List Value) (a : List ℕ) (o d : ℕ) (b : Base) → Storable p w (here r) c v → Cells p c a (kind_at w o) → kind_at w o ≡ kind.Array d b → o < size w → Held p w (here r) (rest r) vs → Row p w (stored_in p c s o j v vs (head_at w o))
  element_write c r j v vs a o d b i q e lt h = on_array-typed p ty w (kind_at w o) d b e
      (in_range-typed p ty w (with_stack s vs) j (head_at w o).length (fault_typed p ty r array_index_exception vs (thrown p ty.linked array_index_exception refl) h.range) (λ n l. cell_written c r v vs a o d n b i q e lt l h))

  stores : (c : Cell) (r : Ready p w s (form.ArrayStore c)) (v : Value) (vs : List Value) (us : List VType) → Storable p w (here r) c v → Operands p w (here r) (Fits Int ∷ array_need p c ∷ []) us (rest r) vs
      → Row p w (popping vs (λ j ws. popping ws (λ b xs. on_int j (λ i. on_object (with_stack s xs) b (λ o. read (place.Head o) (λ h. stored_in p c s o i v xs h))))))
  stores c r v vs us i o = popping-fits p (Ends p) w ty.linked Int tt o (λ x ws ts g sx n. popping-typed p (Ends p) w (array_need p c) (array_pops p c) n (λ b xs u zs f sb m l.
      on_int-typed p (Ends p) w x g (λ j.
      on_pointed p ty w (with_stack s xs) u b (λ k h. stored_in p c s k j v xs h) (pointed p w (here r) u b (needed p ty.linked c u m) f.type) (fault_typed p ty r null_pointer_exception xs (thrown p ty.linked null_pointer_exception refl) (rest_of l).range)
      (λ a k e y lt h z.
      let q = array_kind p ty.linked (kind_at w k) a h y z in
      element_write c r j v xs a k q.0 q.1 i (cells p ty.linked c a (kind_at w k) y (subst (λ (t : VType). meets p (array_need p c) t ≡ true) e m) h z) q.2 lt (rest_of l)))))

  pub store : (c : Cell) → Ready p w s (form.ArrayStore c) → Row p w (row_arrays p (form.ArrayStore c) s)
  unfolding row_arrays sides
  store cell.Long r = popping-long p (Ends p) w (operands r) (λ v vs us i o. stores cell.Long r v vs us i o)
  store cell.Ref r = popping-fits p (Ends p) w ty.linked (Object (name_of p object_class)) tt (operands r) (λ v vs us i sv o. stores cell.Ref r v vs us i o)
  store c r = popping-fits p (Ends p) w ty.linked Int tt (operands r) (λ v vs us i sv o. stores c r v vs us i o)

  -- the length

  pub array_length : Ready p w s form.ArrayLength → Row p w (row_arrays p form.ArrayLength s)
  unfolding row_arrays sides
  array_length r = popping-typed p (Ends p) w Array tt (operands r) (λ v vs t us i sv m o.
      on_pointed p ty w (with_stack s vs) t v (λ k h. on_array h.kind (goes_on p s (value.Int (l2i (pos h.length)) ∷ vs))) (pointed p w (here r) t v m i.type) (fault_typed p ty r null_pointer_exception vs (thrown p ty.linked null_pointer_exception refl) (rest_of o).range)
      (λ a k e x lt h y.
      let q = array_kind p ty.linked (kind_at w k) a h x y in
      on_array-typed p ty w (kind_at w k) q.0 q.1 q.2 (on p ty r refl r.locals (int_on (rest_of o)))))

  pub arrays-typed : (i : Instr) → group_of i ≡ arrays → Ready p w s i → Row p w (row_arrays p i s)
  arrays-typed (form.ArrayLoad c) g r = load c r
  arrays-typed (form.ArrayStore c) g r = store c r
  arrays-typed form.ArrayLength g r = array_length r
  arrays-typed _ g r = absurd (cc)
