-- The row of multianewarray: arrays of arrays, from the outermost in.
use Rattle.std.proofs.Common.{◌≡◌, ℕ, ℤ, zero, suc, ◌+◌, ◌<◌, ◌≤◌, List, [], ◌∷◌, length, replicate, Bool, true, false, pos, negsuc, refl, sym, ◌∙◌, ap, subst, arith}
use Rattle.jvm_model.specs.declared.{values.Value.Value, values.Kind.Kind, values.Base.Base, values.Head.Head, instr.Instr.Instr, program.Program.Program}
use Rattle.jvm_model.specs.declared.values.Value.TheVariants as value
use Rattle.jvm_model.specs.declared.values.Kind.TheVariants as kind
use Rattle.jvm_model.specs.declared.values.Location.TheVariants as place
use Rattle.jvm_model.specs.declared.instr.Instr.TheVariants as form
use Rattle.jvm_model.specs.{World.World, World.size, World.make_object, Linked.IsKind, Linked.IsArray, Linked.dims_of}
use Rattle.jvm_model.specs.{World.Object as Made, Access.Access, Builtin.negative_size_exception, Classes.blank, Entries.Entries, Kinds.element_kind}
use Rattle.jvm_model.specs.{Rows.Answer, Step.group_of, Step.create as of_create}
use Rattle.jvm_model.specs.RowsCreate.{array_head, children, nest, nested, sized, row_create}
use Rattle.jvm_model.proofs.Locations.{at_make_new, size_make}
use Rattle.type_frames.specs.declared.{stack_effect.OperandConstraint.TheVariants.Fits, vtype.VType.VType, vtype.VType.TheVariants.Int}
use Rattle.type_frames.specs.{Descriptors.kind_name, StackEffect.sides, Typing.IsTyped}
use Rattle.type_frames.specs.TypedState.{kind_at, IsInstance, IsReferenceOf, IsDeclared, element_text}
use Rattle.check_sound.proofs.Tree.{head_at, Tree, typed_done, typed_write, typed_make, typed_spend, Over}
use Rattle.check_sound.proofs.{TreeRuns.tree_bind, Grow.kind_over, Onward.grows_make, Onward.ready_grows, Ends.fault_typed, Thrown.thrown}
use Rattle.check_sound.proofs.Held.{Held, on_top, locals_over, held_over}
use Rattle.check_sound.proofs.Operands.{Operands, rest_of, popping-fits, on_int-typed, choose-typed}
use Rattle.check_sound.proofs.Ready.{Grows, Ends, Row, Ready, here, rest, operands, on, is_form, names_form}
use Rattle.check_sound.proofs.{Blank.blank_new, KindNames.kind_itself, ArrayKinds.References, ArrayKinds.of_arrays, CreateRows.new, CreateRows.new_array-typed}

grows_then : {u v w : World} → Grows u v → Grows v w → Grows u w
grows_then {u = u} {v = v} {w = w} g h = record {
  over = record { sizes = (let a = g.over.sizes in let b = h.over.sizes in omega arith); heads = λ o l. h.over.heads o (let a = g.over.sizes in omega arith) ∙ g.over.heads o l };
  running = λ c e. h.running c (g.running c e);
}

-- from world u on, an object of the kind
abbrev Makes : World → Kind → World → ℕ → Type 0
Makes u k v o = Grows u v × (o < size v) × (kind_at v o ≡ k)

-- an array of so many elements stands
abbrev Stood : World → ℕ → Kind → ℕ → Type 0
Stood v o k n = (o < size v) × (kind_at v o ≡ k) × ((head_at v o).length ≡ n)

stood_over : (p : Program) (v w : World) (o : ℕ) (k : Kind) (n : ℕ) → Over v w → Stood v o k n → Stood w o k n
stood_over p v w o k n g h = ((let a = g.sizes in let b = h.0 in omega arith), sym (kind_over p v w g o h.0) ∙ h.1, ap (λ (z : Head). z.length) (g.heads o h.0) ∙ h.2)

newest : (w : World) (x : Made) → Stood (make_object w x) (size w) x.head.kind x.head.length
newest w x =
    let e : head_at (make_object w x) (size w) ≡ x.head = at_make_new w x (place.Head (size w)) refl in
    ((let z = size_make w x in omega arith), ap (λ (z : Head). z.kind) e, ap (λ (z : Head). z.length) e)

module _ (p : Program) (ty : IsTyped p) where
  -- a reference to an object of the kind of an array's elements
  element_given : (w : World) (k e : Kind) (q : ℕ) → References p k e → q < size w → kind_at w q ≡ e → IsDeclared p w (element_text p k) (value.Obj q)
  element_given w k e q r h i = subst (λ (ts : List VType). IsReferenceOf p w ts (value.Obj q)) (sym r.types)
      (h, subst (λ (y : Kind). IsInstance p y (kind_name p e)) (sym i) (kind_itself p ty.linked e r.is_kind))

  children-typed : (d : ℕ) (b : Base) (e : Kind) → References p (kind.Array d b) e → (one : Access ℕ) → ((v : World) → Tree p (Makes v e) v one)
      → (u v : World) (n i o len : ℕ) → Grows u v → Stood v o (kind.Array d b) len → i + n ≤ len → Tree p (Makes u (kind.Array d b)) v (children n i o one)
  unfolding children
  children-typed d b e r one f u v zero i o len g h le = typed_done (g, h.0, h.1)
  children-typed d b e r one f u v (suc n) i o len g h le = tree_bind p (Makes v e) (Makes u (kind.Array d b)) one _ v (f v) (λ x q m.
      let t = stood_over p v x o (kind.Array d b) len m.0.over h in
      typed_write tt (d, b, t.0, t.1, (let z = t.2 in omega arith))
      (subst (λ (k : Kind). IsDeclared p x (element_text p k) (value.Obj q)) (sym t.1) (element_given x (kind.Array d b) e q r m.1 m.2))
      (children-typed d b e r one f u x n (i + 1) o len (grows_then g m.0) t (omega arith)))

  nest-typed : (ms : List ℕ) (n d : ℕ) (b : Base) → IsKind p (kind.Array d b) → length ms < d → (w : World) → Tree p (Makes w (kind.Array d b)) w (nest p (kind.Array d b) n ms)
  unfolding nest blank
  nest-typed [] n d b h l w =
      let x = blank p (array_head (kind.Array d b) n) in
      let t = newest w x in
      typed_make (blank_new p ty w (array_head (kind.Array d b) n) h) (typed_done (grows_make p w x, t.0, t.1))
  nest-typed (m ∷ ms) n (suc (suc d)) b h l w =
      let x = blank p (array_head (kind.Array (suc (suc d)) b) n) in
      let r = of_arrays p d b h in
      typed_make (blank_new p ty w (array_head (kind.Array (suc (suc d)) b) n) h)
      (children-typed (suc (suc d)) b (kind.Array (suc d) b) r (nest p (element_kind (kind.Array (suc (suc d)) b)) m ms)
      (λ v. subst (λ (k : Kind). Tree p (Makes v (kind.Array (suc d) b)) v (nest p k m ms)) (sym r.element) (nest-typed ms m (suc d) b r.is_kind (omega arith) v))
      w (make_object w x) n 0 (size w) n (grows_make p w x) (newest w x) (omega arith))
  nest-typed (m ∷ ms) n _ b h l w = absurd (omega arith)

module _ (p : Program) (w : World) where
  at_size : (s : Entries) (k : Kind) (d : ℕ) (vs : List Value) (bad : Bool) (ns : List ℕ) (i : ℤ) → ((b : Bool) (ms : List ℕ) → (b ≡ false → (bad ≡ false) × (length ms ≡ suc (length ns))) → Row p w (sized p k s d vs b ms))
      → Row p w (elim i as (λ z. Access (Answer Entries)) [ pos m ↦ sized p k s d vs bad (m ∷ ns) | negsuc m ↦ sized p k s d vs true ns ])
  at_size s k d vs bad ns (pos m) f = f bad (m ∷ ns) (λ e. (e, refl))
  at_size s k d vs bad ns (negsuc m) f = f true ns (λ e. absurd (cc))

module _ (p : Program) (ty : IsTyped p) {w : World} {s : Entries} where
  nested-typed : (k : Kind) (d : ℕ) (r : Ready p w s (form.MultiNewArray k d)) (vs : List Value) (ns : List ℕ) → length ns ≡ d → IsArray p k → 0 < d → d ≤ dims_of k → Held p w (here r) (rest r) vs → Row p w (nested p k s vs ns)
  unfolding sides ready_grows
  nested-typed (kind.Class c) d r vs ns e h a b g = absurd h
  nested-typed (kind.Array m t) d r vs [] e h a b g = absurd (omega arith)
  nested-typed (kind.Array m t) d r vs (n ∷ ms) e h a b g = typed_spend (tree_bind p (Makes w (kind.Array m t)) (Ends p) (nest p (kind.Array m t) n ms) _ w (nest-typed p ty ms n m t h (omega arith) w) (λ v o q.
      on p ty (ready_grows q.0 r) refl (locals_over q.0.over r.locals)
      (on_top tt (record { type = (q.1, subst (λ (y : Kind). IsInstance p y (kind_name p (kind.Array m t))) (sym q.2) (kind_itself p ty.linked (kind.Array m t) h)); range = q.1 }) (held_over q.0.over g))))

  sized-typed : (k : Kind) (dims : ℕ) (r : Ready p w s (form.MultiNewArray k dims)) → IsArray p k → 0 < dims → dims ≤ dims_of k → (d : ℕ) (bad : Bool) (ns : List ℕ) (ts : List VType) (vs : List Value) → (bad ≡ false → d + length ns ≡ dims)
      → Operands p w (here r) (replicate d (Fits Int)) ts (rest r) vs → Row p w (sized p k s d vs bad ns)
  sized-typed k dims r h a b zero bad ns ts vs f o = choose-typed p (Ends p) w bad
      (λ e. typed_done (fault_typed p ty r negative_size_exception vs (thrown p ty.linked negative_size_exception refl) (rest_of o).range))
      (λ e. nested-typed k dims r vs ns (let q = f e in omega arith) h a b (rest_of o))
  sized-typed k dims r h a b (suc d) bad ns ts vs f o = popping-fits p (Ends p) w ty.linked Int tt o (λ v ws us i sv q. on_int-typed p (Ends p) w v i (λ n.
      at_size p w s k d ws bad ns n (λ c ms g. sized-typed k dims r h a b d c ms us ws (λ z. let y = g z in let x = f y.0 in let l = y.1 in omega arith) q)))

  pub multi_new_array : (k : Kind) (d : ℕ) → Ready p w s (form.MultiNewArray k d) → Row p w (row_create p (form.MultiNewArray k d) s)
  unfolding row_create sides
  multi_new_array k d r = let z = is_form p ty r in sized-typed k d r (names_form p ty r) z.0 z.1 d false [] r.types.stack s.top.stack (λ e. omega arith) (operands r)

  pub create-typed : (i : Instr) → group_of i ≡ of_create → Ready p w s i → Row p w (row_create p i s)
  create-typed (form.New c) g r = new p ty c r
  create-typed (form.NewArray k) g r = new_array-typed p ty k r
  create-typed (form.MultiNewArray k d) g r = multi_new_array k d r
  create-typed _ g r = absurd (cc)
