-- Rows that make objects touch no more than they pay for: each array of a multianewarray touches its head, its cells, and once
-- more each cell that gets an array.
use Rattle.std.proofs.Common.{◌≡◌, ℕ, ℤ, zero, suc, pos, negsuc, min, ◌+◌, ◌-◌, ◌*◌, ◌^◌, ◌<◌, ◌≤◌, List, [], ◌∷◌, length, Bool, true, false, cond, nat_eq, suc-mul, refl, sym, ap, subst, arith, inl, inr}
use Rattle.std.proofs.lemmas.{Bool.cases_lt, Bool.eqb-true, List.length-replicate}
use Rattle.jvm_model.specs.declared.{values.Value.Value, values.Kind.Kind, instr.Instr.Instr, program.Program.Program}
use Rattle.jvm_model.specs.declared.values.Value.TheVariants as value
use Rattle.jvm_model.specs.declared.values.Base.TheVariants as base
use Rattle.jvm_model.specs.declared.values.Kind.TheVariants as kind
use Rattle.jvm_model.specs.declared.values.Location.TheVariants as place
use Rattle.jvm_model.specs.declared.instr.Instr.TheVariants as form
use Rattle.jvm_model.specs.{Access.Access, Access.write, Builtin.instantiation_error, Builtin.negative_size_exception, Classes.element_default, Classes.blank}
use Rattle.jvm_model.specs.{Entries.Entries, Kinds.element_kind, Linked.Linked, Linked.dims_of}
use Rattle.jvm_model.specs.Rows.{Answer, faults, goes_on, popping, on_int, using}
use Rattle.jvm_model.specs.RowsCreate.{new_object, is_bare, array_head, new_array, children, nest, nest_sum, nest_cost, nested, sized, row_create}
use Rattle.check_sound.specs.PaceLaw.{sizes_taken, sizes_sum, array_sum}
use Rattle.check_sound.proofs.Paced.{Limits, cells, Paced, either, paced_done, paced_write, paced_make, paced_spend, paced_bind, paced_map, Bounded, Cut, CutRow, pays_cut, PacedRow, popping-paced, on_int-paced}
use Rattle.check_sound.proofs.Light.{instance_cells, light, null_light}
use Rattle.check_sound.proofs.PacedRows.{none, one, NamesAllowed, using-paced}

array_cells : (p : Program) (k : Kind) (n : ℕ) → 0 < dims_of k → cells (blank p (array_head k n)) ≡ suc n
unfolding blank
array_cells p (kind.Class c) n h = absurd (omega arith)
array_cells p (kind.Array d b) n h = let a = length-replicate n (element_default d b) in omega arith

element_dims : (k : Kind) (n : ℕ) → suc n < dims_of k → n < dims_of (element_kind k)
element_dims (kind.Class c) n h = absurd (omega arith)
element_dims (kind.Array d (base.Class c)) n h = by (nat_eq d 1) refl
  where
    by : (b : Bool) → nat_eq d 1 ≡ b → n < dims_of (cond b (kind.Class c) (kind.Array (d - 1) (base.Class c)))
    by true e = absurd (let q : d ≡ 1 = eqb-true d 1 e in omega arith)
    by false e = omega arith
element_dims _ n h = omega arith

-- what the arrays of these sizes touch
abbrev nest_touches : ℕ → List ℕ → ℕ
nest_touches n [] = suc n
nest_touches n (m ∷ ms) = suc n + n * suc (nest_touches m ms)

times : (n a b : ℕ) → a ≤ 2 * b → n * a ≤ 2 * (n * b)
times zero a b h = omega arith
times (suc n) a b h =
    let q = times n a b h in
    let x : suc n * a ≡ n * a + a = suc-mul n a in
    let y : suc n * b ≡ n * b + b = suc-mul n b in
    omega arith

nest_bound : (n : ℕ) (ms : List ℕ) → nest_touches n ms + suc n ≤ 2 * nest_sum n ms
nest_bound n [] = omega arith
nest_bound n (m ∷ ms) =
    let q = nest_bound m ms in
    let t = times n (suc (nest_touches m ms)) (nest_sum m ms) (omega arith) in
    omega arith

-- so much was paid and touched in the end
abbrev Counts : ℕ → ℕ → ℕ → ℕ → ℕ → Type 0
Counts c e x y o = (x ≡ c) × (y ≡ e)

module _ (p : Program) {M : Limits} where
  moved : {t : Access ℕ} (c x d y e z : ℕ) → x ≡ c → y ≡ d → z ≡ e → Paced M (Counts c e) c d t → Paced M (Counts c z) x y t
  moved {t = t} c x d y e z hc hd he h =
      subst (λ (a : ℕ). Paced M (Counts c z) a y t) (sym hc) (subst (λ (a : ℕ). Paced M (Counts c z) c a t) (sym hd) (subst (λ (a : ℕ). Paced M (Counts c a) c d t) (sym he) h))

  children-paced : (n i o : ℕ) (one : Access ℕ) (c d t : ℕ) → ((d : ℕ) → Paced M (Counts c (d + t)) c d one) → Paced M (Counts c (d + n * suc t)) c d (children n i o one)
  unfolding children
  children-paced zero i o one c d t r = paced_done (refl, omega arith)
  children-paced (suc n) i o one c d t r =
      paced_bind M (Counts c (d + t)) (Counts c (d + suc n * suc t)) one (λ q. write (place.Elem o i) (value.Obj q) (children n (i + 1) o one)) c d (r d)
      (λ x y q h. paced_write tt (moved c x (suc (d + t)) (suc y) (suc (d + t) + n * suc t) (d + suc n * suc t) h.0 (ap suc h.1) (let e : suc n * suc t ≡ n * suc t + suc t = suc-mul n (suc t) in omega arith)
      (children-paced n (i + 1) o one c (suc (d + t)) t r)))

  nest-paced : (k : Kind) (n : ℕ) (ms : List ℕ) (c d : ℕ) → length ms < dims_of k → Paced M (Counts c (d + nest_touches n ms)) c d (nest p k n ms)
  unfolding nest
  nest-paced k n [] c d h = paced_make (λ o. paced_done (refl, ap (λ x. d + x) (array_cells p k n (omega arith))))
  nest-paced k n (m ∷ ms) c d h = paced_make (λ o.
      let e = array_cells p k n (omega arith) in
      let u = d + cells (blank p (array_head k n)) in
      moved c c u u (u + n * suc (nest_touches m ms)) (d + nest_touches n (m ∷ ms)) refl refl (omega arith)
      (children-paced n 0 o (nest p (element_kind k) m ms) c u (nest_touches m ms) (λ d. nest-paced (element_kind k) m ms c d (element_dims k (length ms) h))))

-- what code has of dimensions
abbrev pub HasDims : Instr → Type 0
HasDims (form.NewArray k) = 0 < dims_of k
HasDims (form.MultiNewArray k d) = d ≤ dims_of k
HasDims i = Unit {0}

module _ (p : Program) (lk : Linked p) {M : Limits} where
  pub new-paced : {d : ℕ} (c : ℕ) (s : Entries) → d ≤ 4 → PacedRow p M 4 d (new_object p c s)
  unfolding new_object
  new-paced c s e = paced_spend (paced_make (λ o. paced_done ((let q = instance_cells p c in omega arith), tt)))

  array-paced : (k : Kind) (s : Entries) (vs : List Value) (n : ℤ) → 0 < dims_of k → PacedRow p M 4 0 (new_array p k s vs n)
  array-paced k s vs (pos n) h = paced_spend (paced_make (λ o. paced_done ((let q = array_cells p k n h in omega arith), tt)))
  array-paced k s vs (negsuc n) h = paced_done (none, light p lk negative_size_exception (omega arith))

  nested-paced : {B : Type 0} (k : Kind) (s : Entries) (vs : List Value) (ns : List ℕ) → length ns ≤ dims_of k → (2 ^ 64 - 2 < sizes_sum ns → B) → CutRow p M B (nested p k s vs ns)
  unfolding nest_cost
  nested-paced k s vs [] h b = paced_done none
  nested-paced {B = B} k s vs (n ∷ ms) h b =
      let c = 4 + 4 * nest_cost n ms in
      paced_spend (paced_bind M (Counts c (0 + nest_touches n ms)) (λ c d a. Cut p B c d a) (nest p k n ms) (λ o. goes_on p s (value.Obj o ∷ vs)) c 0
      (nest-paced p k n ms c 0 (omega arith)) (λ x d o q. paced_done (within x d (nest_touches n ms) (nest_sum n ms) q.0 q.1 (nest_bound n ms) b)))
    where
      within : (c d t u : ℕ) → c ≡ 4 + 4 * min u (2 ^ 64 - 2) → d ≡ 0 + t → t + suc n ≤ 2 * u → (2 ^ 64 - 2 < u → B) → Bounded B c d
      within c d t u x y q f = elim (cases_lt (2 ^ 64 - 2) u) [
        | inl g ↦ inr (f g, omega arith)
        | inr g ↦ inl (omega arith)
      ]

  bad-paced : {B : Type 0} (k : Kind) (s : Entries) (d : ℕ) (vs : List Value) (ns : List ℕ) → CutRow p M B (sized p k s d vs true ns)
  bad-paced k s zero vs ns = paced_done (none, light p lk negative_size_exception (omega arith))
  bad-paced k s (suc d) (value.Int (pos m) ∷ vs) ns = bad-paced k s d vs (m ∷ ns)
  bad-paced k s (suc d) (value.Int (negsuc m) ∷ vs) ns = bad-paced k s d vs ns
  bad-paced k s (suc d) _ ns = paced_done none

  sized-paced : {B : Type 0} (k : Kind) (s : Entries) (d : ℕ) (vs : List Value) (ns : List ℕ) → length ns + d ≤ dims_of k → (2 ^ 64 - 2 < sizes_sum (sizes_taken d vs ns) → B) → CutRow p M B (sized p k s d vs false ns)
  sized-paced k s zero vs ns h b = nested-paced k s vs ns (omega arith) b
  sized-paced k s (suc d) (value.Int (pos m) ∷ vs) ns h b = sized-paced k s d vs (m ∷ ns) (omega arith) b
  sized-paced k s (suc d) (value.Int (negsuc m) ∷ vs) ns h b = bad-paced k s d vs ns
  sized-paced k s (suc d) _ ns h b = paced_done none

  pub cut : {B : Type 0} (t : Access (Answer Entries)) → PacedRow p M 4 0 t → CutRow p M B t
  cut {B = B} t h = paced_map (λ c d a q. pays_cut p B c d a q) t 4 0 h

  made-paced : (c : ℕ) (s : Entries) → M.states c → PacedRow p M 4 0 (cond (is_bare p c) (faults instantiation_error s) (using p c s (new_object p c s)))
  made-paced c s m = either (is_bare p c) (paced_done (none, light p lk instantiation_error (omega arith))) (using-paced p lk c s (new_object p c s) m (λ e. new-paced c s none) (λ e. new-paced c s one))

  sized_one-paced : (k : Kind) (s : Entries) → 0 < dims_of k → PacedRow p M 4 0 (popping s.top.stack (λ v vs. on_int v (λ n. new_array p k s vs n)))
  sized_one-paced k s h = popping-paced p (null_light p lk) none s.top.stack (λ v vs. on_int-paced p (null_light p lk) none v (λ n. array-paced k s vs n h))

  pub create-paced : {B : Type 0} (i : Instr) (s : Entries) → NamesAllowed p M i → HasDims i → (2 ^ 64 - 2 < array_sum i s.top.stack → B) → CutRow p M B (row_create p i s)
  unfolding row_create
  create-paced (form.New c) s m h b = cut _ (made-paced c s m)
  create-paced (form.NewArray k) s m h b = cut _ (sized_one-paced k s h)
  create-paced (form.MultiNewArray k d) s m h b = sized-paced k s d s.top.stack [] (omega arith) b
  create-paced _ s m h b = paced_done none
