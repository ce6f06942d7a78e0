-- What a linked program asks of an instruction's form, by what its pool entry stands for.
use Rattle.std.proofs.Common.{◌≡◌, ℕ, ◌+◌, ◌%◌, ◌<◌, ◌≤◌, min, Bool, true, false, eqb, not, [], length, Option, Some, sym, ap, subst, ◌∙◌, arith, inl, inr}
use Rattle.std.specs.Prelude.{IfSome}
use Rattle.class_pool.specs.declared.pool.Entry.{Entry}
use Rattle.class_pool.specs.declared.pool.Entry.TheVariants as entry
use Rattle.std.proofs.lemmas.Bool.{eqb-true, leb-true, not-true, and_parts, or_cases, eqb-false, cases_lt, cond_both}
use Rattle.std.proofs.lemmas.Bool.Decides.{nat_tests}
use Rattle.code_decode.specs.declared.instructions.RawOp.{RawOp}
use Rattle.jvm_model.specs.declared.{values.Value.Value, values.Base.Base, values.Kind.Kind, instr.Instr.Instr, program.Program.Program, program.Body.Body}
use Rattle.jvm_model.specs.declared.values.Value.TheVariants.{Int, Long, Null, Lit, Obj}
use Rattle.jvm_model.specs.declared.values.Base.TheVariants as base
use Rattle.jvm_model.specs.declared.values.Kind.TheVariants as kind
use Rattle.jvm_model.specs.declared.instr.Instr.TheVariants as form
use Rattle.jvm_model.specs.{Classes.method_at, Classes.is_static, Selection.named_class}
use Rattle.jvm_model.specs.Linked.{IsClass, IsField, IsMethod, IsLiteral, IsBase, IsKind, IsArray, NamesForm, IsFormKind, IsFormFound, IsForm, IsFoundIn, IsFoundField, IsPlainField, IsStaticMethod, IsPlainMethod, IsStaticCall, IsSpecialCall, is_interface_at, dims_of}
use Rattle.code_forms.specs.{declared.references.Use.Use, declared.references.Target.Target, Operands.number_in}
use Rattle.code_forms.specs.declared.references.Use.TheVariants as used
use Rattle.code_forms.specs.declared.references.Target.TheVariants as target
use Rattle.code_forms.specs.Uses.{use_of, fits_sort, method_fits, field_fits, fits}
use Rattle.code_forms.specs.Forms.{field_form, method_form, array_of, number_array, form_of}
use Rattle.code_forms.proofs.FormCases.{is_plain, is_single, IsTyped, form_case, field_case, method_case, type_case}
use Rattle.et_base.proofs.Cases.{by_test}

-- ---- plain forms

-- the numbers in a form name entries, what it names is of its kind, and a member is the one that the look-up finds
abbrev pub IsRight : Program → ℕ → Instr → Type 0
IsRight p c f = NamesForm p f × IsFormKind p c f × IsFormFound p f

-- nothing is asked of a plain form
pub plain_form : (b : Body) (p : Program) (c : ℕ) (f : Instr) → is_plain f ≡ true → IsForm b f × IsRight p c f
plain_form b p c (form.Const (Int n)) h = (tt, (tt, tt, tt))
plain_form b p c (form.Const (Long n)) h = (tt, (tt, tt, tt))
plain_form b p c (form.Const Null) h = (tt, (tt, tt, tt))
plain_form b p c form.Nop h = (tt, (tt, tt, tt))
plain_form b p c (form.Load s n) h = (tt, (tt, tt, tt))
plain_form b p c (form.Store s n) h = (tt, (tt, tt, tt))
plain_form b p c (form.ArrayLoad a) h = (tt, (tt, tt, tt))
plain_form b p c (form.ArrayStore a) h = (tt, (tt, tt, tt))
plain_form b p c form.Pop h = (tt, (tt, tt, tt))
plain_form b p c form.Pop2 h = (tt, (tt, tt, tt))
plain_form b p c form.Dup h = (tt, (tt, tt, tt))
plain_form b p c form.DupX1 h = (tt, (tt, tt, tt))
plain_form b p c form.DupX2 h = (tt, (tt, tt, tt))
plain_form b p c form.Dup2 h = (tt, (tt, tt, tt))
plain_form b p c form.Dup2X1 h = (tt, (tt, tt, tt))
plain_form b p c form.Dup2X2 h = (tt, (tt, tt, tt))
plain_form b p c form.Swap h = (tt, (tt, tt, tt))
plain_form b p c (form.Binary x w) h = (tt, (tt, tt, tt))
plain_form b p c (form.Neg w) h = (tt, (tt, tt, tt))
plain_form b p c (form.Inc n z) h = (tt, (tt, tt, tt))
plain_form b p c (form.Convert v) h = (tt, (tt, tt, tt))
plain_form b p c form.Compare h = (tt, (tt, tt, tt))
plain_form b p c (form.Return s) h = (tt, (tt, tt, tt))
plain_form b p c form.ArrayLength h = (tt, (tt, tt, tt))
plain_form b p c form.Throw h = (tt, (tt, tt, tt))
plain_form b p c form.Monitor h = (tt, (tt, tt, tt))
plain_form b p c _ h = absurd cc

-- a body without code
abbrev no_code : Body
no_code = record { max_stack = 0; max_locals = 0; length = 0; code = []; handlers = []; frames = []; malformed = false }

-- ---- numbers

-- a constant that code may push
abbrev pub IsConstant : Program → Value → Type 0
IsConstant p (Lit n) = IsLiteral p n
IsConstant p (Obj o) = ⊥
IsConstant p _ = Unit {0}

-- what an entry stands for is in the program: its numbers name entries, and a member is the one that the look-up finds
abbrev pub IsTarget : Program → Target → Type 0
IsTarget p (target.Constant v) = IsConstant p v
IsTarget p (target.Type k) = IsKind p k
IsTarget p (target.Field c f) = IsClass p c × IsField p f × IsFoundField p c f
IsTarget p (target.Method k m) = IsKind p k × IsMethod p m × IsFoundIn p k m

constant_right : (p : Program) (c : ℕ) (v : Value) → IsConstant p v → IsRight p c (form.Const v)
constant_right p c (Lit n) h = (h, tt, tt)
constant_right p c _ h = (tt, tt, tt)

class_of_kind : (p : Program) (k : Kind) → 0 < length p.classes → IsKind p k → IsClass p (named_class k)
class_of_kind p (kind.Class c) some h = h
class_of_kind p (kind.Array d b) some h = some

array_dims : (d : ℕ) → (0 < min (d + 1) 255) × (min (d + 1) 255 ≤ 255)
array_dims d = (omega arith, omega arith)

array_of_kind : (p : Program) (k : Kind) → IsKind p k → IsArray p (array_of k)
array_of_kind p (kind.Class c) h = (omega arith, omega arith, h)
array_of_kind p (kind.Array d b) h = let a = array_dims d in (a.0, a.1, h.2)

-- a type with dimensions is an array
pub array_if : (p : Program) (k : Kind) → 0 < dims_of k → IsKind p k → IsArray p k
array_if p (kind.Class c) some h = absurd (omega (arith, some))
array_if p (kind.Array d b) some h = h

one_array : (p : Program) (b : Base) → IsBase p b → IsArray p (kind.Array 1 b)
one_array p b h = (omega arith, omega arith, h)

numbers_array : (p : Program) (n : ℕ) → IsArray p (number_array n)
numbers_array p n =
    cond_both (eqb n 4) _ _ (IsArray p) (λ _. one_array p base.Boolean tt) (λ _.
    cond_both (eqb n 5) _ _ (IsArray p) (λ _. one_array p base.Char tt) (λ _.
    cond_both (eqb n 8) _ _ (IsArray p) (λ _. one_array p base.Byte tt) (λ _.
    cond_both (eqb n 9) _ _ (IsArray p) (λ _. one_array p base.Short tt) (λ _.
    cond_both (eqb n 10) _ _ (IsArray p) (λ _. one_array p base.Int tt) (λ _.
    one_array p base.Long tt)))))

-- what the entry of an instruction stands for, where its form makes arrays of several dimensions
abbrev pub MakesNested : RawOp → Option Target → Type 0
MakesNested o t = IsTyped o.opcode → is_single o.opcode ≡ false → (k : Kind) → t ≡ Some (target.Type k) → (0 < number_in o 1 % 256) × (number_in o 1 % 256 ≤ dims_of k)

some_is : {A : Type 0} (P : A → Type 0) (o : Option A) (x : A) → IfSome o P → o ≡ Some x → P x
some_is P o x h e = subst (λ u. IfSome u P) e h

-- ---- kinds

-- what an instruction's entry stands for fits its use by the class c
abbrev pub FitsUse : Program → ℕ → Option Entry → RawOp → Option Target → Type 0
FitsUse p c e o t = (u : Use) → use_of o.opcode ≡ Some u → IfSome t (λ x. fits p c e x u ≡ true)

-- invokevirtual names a Methodref, invokeinterface an InterfaceMethodref
pub record CallsBySort (o : RawOp) (e : Option Entry) : Type 0 where
  pub virtual : o.opcode ≡ 182 → (class : ℕ) × (pair : ℕ) × (e ≡ Some (entry.Method class pair))
  pub interface : o.opcode ≡ 185 → (class : ℕ) × (pair : ℕ) × (e ≡ Some (entry.InterfaceMethod class pair))

-- a static method of an interface is found from an interface
abbrev pub OwnsStatics : Program → Option Target → Type 0
OwnsStatics p t = (k : Kind) (m : ℕ) → t ≡ Some (target.Method k m) → is_static (method_at p m).flags ≡ true → is_interface_at p (method_at p m).class ≡ true → is_interface_at p (named_class k) ≡ true

plain_field : (p : Program) (f : ℕ) → field_fits p used.InstanceField f ≡ true → IsPlainField p f
plain_field p f h = let b = and_parts _ _ h in (not-true _ b.0, not-true _ b.1)

static_use : (n : ℕ) → 178 ≤ n → n ≤ 179 → use_of n ≡ Some used.StaticField
unfolding use_of
static_use n low high = grind (arith, nat_tests)

instance_use : (n : ℕ) → 180 ≤ n → n ≤ 181 → use_of n ≡ Some used.InstanceField
unfolding use_of
instance_use n low high = grind (arith, nat_tests)

no_use : {X : Type 0} → false ≡ true → X
no_use h = absurd cc

-- no call uses a field
no_field : {X : Type 0} (p : Program) (f n : ℕ) → 182 ≤ n → n ≤ 185 → ((u : Use) → use_of n ≡ Some u → field_fits p u f ≡ true) → X
unfolding use_of
no_field p f n low high fits =
    by_test (eqb n 182) (λ h. no_use (fits used.Virtual (ap use_of (eqb-true n 182 h)))) (λ h1.
    by_test (eqb n 183) (λ h. no_use (fits used.Special (ap use_of (eqb-true n 183 h)))) (λ h2.
    by_test (eqb n 184) (λ h. no_use (fits used.StaticCall (ap use_of (eqb-true n 184 h)))) (λ h3.
    let is : n ≡ 185 = omega (arith, low, high, eqb-false n 182 h1, eqb-false n 183 h2, eqb-false n 184 h3) in no_use (fits used.Interface (ap use_of is)))))

field_right : (p : Program) (c : ℕ) (n d f : ℕ) → 178 ≤ n → n ≤ 185 → IsTarget p (target.Field d f) → ((u : Use) → use_of n ≡ Some u → field_fits p u f ≡ true) → IsRight p c (field_form n d f)
field_right p c n d f low high is fits = field_case (IsRight p c) n d f
    (λ at. (is.1, fits used.StaticField (static_use n low (omega (arith, at))), tt))
    (λ at. (is.1, fits used.StaticField (static_use n low (omega (arith, at))), tt))
    (λ at. ((is.0, is.1), plain_field p f (fits used.InstanceField (instance_use n (omega (arith, at)) (omega (arith, at)))), is.2))
    (λ a b d. (
      (is.0, is.1),
      elim (cases_lt n 182) [
        | inl l ↦ plain_field p f (fits used.InstanceField (instance_use n (omega (arith, low, a, b, d)) (omega (arith, l))))
        | inr call ↦ no_field p f n call high fits
      ],
      is.2,
    ))

unlike : (a : Bool) → not a ≡ true → a ≡ true → ⊥
unlike true h e = cc
unlike false h e = cc

virtual_kind : (p : Program) (c : ℕ) (e : Option Entry) (k : Kind) (m class pair : ℕ) → e ≡ Some (entry.Method class pair) → method_fits p c e used.Virtual k m ≡ true → IsPlainMethod p m × (is_interface_at p (named_class k) ≡ false)
virtual_kind p c e k m class pair is h =
    let b = and_parts _ _ h in (not-true _ b.0, not-true _ (sym (ap (λ x. fits_sort p x k) is) ∙ b.1))

interface_kind : (p : Program) (c : ℕ) (e : Option Entry) (k : Kind) (m class pair : ℕ) → e ≡ Some (entry.InterfaceMethod class pair) → method_fits p c e used.Interface k m ≡ true → IsPlainMethod p m × (is_interface_at p (named_class k) ≡ true)
interface_kind p c e k m class pair is h =
    let b = and_parts _ _ h in (not-true _ b.0, sym (ap (λ x. fits_sort p x k) is) ∙ b.1)

special_kind : (p : Program) (c : ℕ) (e : Option Entry) (k : Kind) (m : ℕ) → method_fits p c e used.Special k m ≡ true → IsPlainMethod p m × IsSpecialCall p c (named_class k)
special_kind p c e k m h =
    let b = and_parts _ _ h in let d = and_parts _ _ b.1 in (
      not-true _ b.0,
      λ interface. elim (or_cases _ _ d.1) [
        | inl none ↦ absurd (unlike _ none interface)
        | inr near ↦ let g = and_parts _ _ near in (leb-true _ _ g.0, elim (or_cases _ _ g.1) [ inl same ↦ inl (eqb-true _ _ same) | inr direct ↦ inr direct ])
      ],
    )

static_kind : (p : Program) (c : ℕ) (e : Option Entry) (k : Kind) (m : ℕ) → (is_static (method_at p m).flags ≡ true → is_interface_at p (method_at p m).class ≡ true → is_interface_at p (named_class k) ≡ true) → method_fits p c e used.StaticCall k m ≡ true → IsStaticMethod p m × IsStaticCall p c m
static_kind p c e k m owns h =
    let b = and_parts _ _ h in let d = and_parts _ _ b.1 in
    (b.0, λ interface. elim (or_cases _ _ d.1) [ inl none ↦ absurd (unlike _ none (owns b.0 interface)) | inr late ↦ leb-true _ _ late ])

method_right : (p : Program) (c : ℕ) (e : Option Entry) (o : RawOp) (k : Kind) (m : ℕ) → 178 ≤ o.opcode → o.opcode ≤ 185 → 0 < length p.classes → IsTarget p (target.Method k m) → CallsBySort o e
    → (is_static (method_at p m).flags ≡ true → is_interface_at p (method_at p m).class ≡ true → is_interface_at p (named_class k) ≡ true) → ((u : Use) → use_of o.opcode ≡ Some u → method_fits p c e u k m ≡ true) → IsRight p c (method_form o.opcode k m)
unfolding use_of
method_right p c e o k m low high some is sorts owns fits = let n = o.opcode in method_case (IsRight p c) n k m
    (λ at. let s = sorts.virtual at in ((is.0, is.1), virtual_kind p c e k m s.0 s.1 s.2 (fits used.Virtual (ap use_of at)), is.2))
    (λ at. ((is.0, is.1), special_kind p c e k m (fits used.Special (ap use_of at)), is.2))
    (λ at. (is.1, static_kind p c e k m owns (fits used.StaticCall (ap use_of at)), tt))
    (λ a b d. (
      (class_of_kind p k some is.0, is.1),
      elim (cases_lt n 180) [
        | inl l ↦ no_use (fits used.StaticField (static_use n low (omega (arith, l))))
        | inr g ↦ elim (cases_lt n 182) [
          | inl l ↦ no_use (fits used.InstanceField (instance_use n g (omega (arith, l))))
          | inr h ↦ let at : n ≡ 185 = omega (arith, h, high, a, b, d) in let s = sorts.interface at in interface_kind p c e k m s.0 s.1 s.2 (fits used.Interface (ap use_of at))
        ]
      ],
      is.2.1,
    ))

-- ---- the whole

-- an instruction's form is right where its target is in the program and fits its use
pub form_right : (p : Program) (c : ℕ) (e : Option Entry) (t : Option Target) (o : RawOp) → 0 < length p.classes → IfSome t (IsTarget p) → MakesNested o t → FitsUse p c e o t → CallsBySort o e → OwnsStatics p t → IsRight p c (form_of t o)
unfolding fits
form_right p c e t o some h nested fit sorts owns = form_case (IsRight p c) t o (record {
  plain = λ f is. (plain_form no_code p c f is).1;
  constant = λ _ _ v at. constant_right p c v (some_is (IsTarget p) t (target.Constant v) h at);
  if_zero = λ _ _. (tt, tt, tt);
  if_ints = λ _ _. (tt, tt, tt);
  if_refs = λ _ _. (tt, tt, tt);
  if_null = λ _ _. (tt, tt, tt);
  goto = λ _. (tt, tt, tt);
  table = λ _. (tt, tt, tt);
  look_up = λ _. (tt, tt, tt);
  field = λ low high d f at. field_right p c o.opcode d f low high (some_is (IsTarget p) t (target.Field d f) h at) (λ u is. some_is (λ x. fits p c e x u ≡ true) t (target.Field d f) (fit u is) at);
  method = λ low high k m at. method_right p c e o k m low high some (some_is (IsTarget p) t (target.Method k m) h at) sorts (owns k m at) (λ u is. some_is (λ x. fits p c e x u ≡ true) t (target.Method k m) (fit u is) at);
  numbers = λ _. (numbers_array p (number_in o 0), tt, tt);
  type = λ typed k at. let is = some_is (IsTarget p) t (target.Type k) h at in type_case (IsRight p c) o k (class_of_kind p k some is, tt, tt) (array_of_kind p k is, tt, tt) (is, tt, tt) (is, tt, tt)
      (λ single. let m = nested typed single k at in (array_if p k (omega (arith, m.0, m.1)) is, tt, tt));
})
