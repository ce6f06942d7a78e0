-- The form of an instruction, case by case.
use Rattle.std.proofs.Common.{◌≡◌, ◌≢◌, ◌⊎◌, ℕ, suc, ◌+◌, ◌-◌, ◌%◌, ◌≤◌, pos, ◌-ℤ◌, Bool, true, false, eqb, leb, ◌&&◌, ◌||◌, Option, Some, None, refl, arith, inl, inr}
use Rattle.std.proofs.lemmas.Bool.{eqb-true, leb-true, leb-false, and_parts, or_cases, eqb-false, cond_both}
use Rattle.code_decode.specs.declared.instructions.RawOp.{RawOp}
use Rattle.jvm_model.specs.declared.values.{Value.TheVariants.Int, Value.TheVariants.Long, Value.TheVariants.Null, Value.Value, Kind.Kind}
use Rattle.jvm_model.specs.{declared.instr.Instr.Instr, Selection.named_class}
use Rattle.jvm_model.specs.declared.instr.Instr.TheVariants as form
use Rattle.jvm_model.specs.declared.instr.Sort.TheVariants as sort
use Rattle.code_forms.specs.{declared.references.Target.Target, Operands.operand, Operands.number_in}
use Rattle.code_forms.specs.declared.references.Target.TheVariants as target
use Rattle.code_forms.specs.Forms.{constant_form, constants, loads, stores, moves, numbers, conversions, test_of, table, look_up, branches, field_form, method_form, members, array_of, number_array, type_form, types, others, form_of}

-- a form without a place, a number of the program or an object
abbrev pub is_plain : Instr → Bool
is_plain (form.Const (Int n)) = true
is_plain (form.Const (Long n)) = true
is_plain (form.Const Null) = true
is_plain form.Nop = true
is_plain (form.Load s n) = true
is_plain (form.Store s n) = true
is_plain (form.ArrayLoad c) = true
is_plain (form.ArrayStore c) = true
is_plain form.Pop = true
is_plain form.Pop2 = true
is_plain form.Dup = true
is_plain form.DupX1 = true
is_plain form.DupX2 = true
is_plain form.Dup2 = true
is_plain form.Dup2X1 = true
is_plain form.Dup2X2 = true
is_plain form.Swap = true
is_plain (form.Binary x w) = true
is_plain (form.Neg w) = true
is_plain (form.Inc n z) = true
is_plain (form.Convert c) = true
is_plain form.Compare = true
is_plain (form.Return s) = true
is_plain form.ArrayLength = true
is_plain form.Throw = true
is_plain form.Monitor = true
is_plain _ = false

-- the opcodes of newarray, of ifnull, ifnonnull and goto_w, and those of the plain forms arraylength, athrow and the monitors
abbrev pub is_untyped : ℕ → Bool
is_untyped n = eqb n 188 || (eqb n 190 || (eqb n 191 || ((eqb n 194 || eqb n 195) || ((eqb n 198 || eqb n 199) || eqb n 200))))

-- an opcode whose form comes of a type, where it is that of an instruction
pub record IsTyped (n : ℕ) : Type 0 where
  pub high : 186 ≤ n
  pub typed : is_untyped n ≡ false

-- the opcodes of new, anewarray, checkcast and instanceof
abbrev pub is_single : ℕ → Bool
is_single n = eqb n 187 || (eqb n 189 || (eqb n 192 || eqb n 193))

-- What has to be shown of an instruction's forms for something to hold of its form: of the plain ones, and of those with
-- places, constants and numbers of the program.
pub record FormCases (P : Instr → Type 0) (t : Option Target) (o : RawOp) : Type 0 where
  pub plain : (f : Instr) → is_plain f ≡ true → P f
  pub constant : 18 ≤ o.opcode → o.opcode ≤ 20 → (v : Value) → t ≡ Some (target.Constant v) → P (form.Const v)
  pub if_zero : 153 ≤ o.opcode → o.opcode ≤ 158 → P (form.IfZero (test_of (o.opcode - 153)) (number_in o 0))
  pub if_ints : 159 ≤ o.opcode → o.opcode ≤ 164 → P (form.IfInts (test_of (o.opcode - 159)) (number_in o 0))
  pub if_refs : 165 ≤ o.opcode → o.opcode ≤ 166 → P (form.IfRefs (eqb o.opcode 165) (number_in o 0))
  pub if_null : 198 ≤ o.opcode → o.opcode ≤ 199 → P (form.IfNull (eqb o.opcode 198) (number_in o 0))
  pub goto : (o.opcode ≡ 167) ⊎ (o.opcode ≡ 200) → P (form.Goto (number_in o 0))
  pub table : o.opcode ≡ 170 → P (table o)
  pub look_up : o.opcode ≡ 171 → P (look_up o)
  pub field : 178 ≤ o.opcode → o.opcode ≤ 185 → (c f : ℕ) → t ≡ Some (target.Field c f) → P (field_form o.opcode c f)
  pub method : 178 ≤ o.opcode → o.opcode ≤ 185 → (k : Kind) (m : ℕ) → t ≡ Some (target.Method k m) → P (method_form o.opcode k m)
  pub numbers : o.opcode ≡ 188 → P (form.NewArray (number_array (number_in o 0)))
  pub type : IsTyped o.opcode → (k : Kind) → t ≡ Some (target.Type k) → P (type_form o k)

-- ---- plain groups

pub loads_plain : (o : RawOp) → is_plain (loads o) ≡ true
unfolding loads
loads_plain o = grind arith

pub stores_plain : (o : RawOp) → is_plain (stores o) ≡ true
unfolding stores
stores_plain o = grind arith

pub moves_plain : (n : ℕ) → is_plain (moves n) ≡ true
unfolding moves
moves_plain n = grind arith

pub numbers_plain : (o : RawOp) → is_plain (numbers o) ≡ true
unfolding numbers
numbers_plain o = grind arith

pub conversions_plain : (n : ℕ) → is_plain (conversions n) ≡ true
unfolding conversions
conversions_plain n = grind arith

-- ---- all together

within : (a b n : ℕ) → (leb a n && leb n b) ≡ true → (a ≤ n) × (n ≤ b)
within a b n h = let c = and_parts _ _ h in (leb-true _ _ c.0, leb-true _ _ c.1)

one_of : (a b n : ℕ) → b ≡ a + 1 → (eqb n a || eqb n b) ≡ true → (a ≤ n) × (n ≤ b)
one_of a b n next h = elim (or_cases (eqb n a) (eqb n b) h) [
  | inl e ↦ (omega (arith, next, eqb-true n a e), omega (arith, next, eqb-true n a e))
  | inr e ↦ (omega (arith, next, eqb-true n b e), omega (arith, next, eqb-true n b e))
]

-- what a target gives, where nothing is plain
constant_of : (P : Instr → Type 0) (t : Option Target) → ((v : Value) → t ≡ Some (target.Constant v) → P (form.Const v)) → P form.Nop → P (constant_form t)
constant_of P (Some (target.Constant v)) f nothing = f v refl
constant_of P _ f nothing = nothing

member_of : (P : Instr → Type 0) (t : Option Target) (n : ℕ) → ((c f : ℕ) → t ≡ Some (target.Field c f) → P (field_form n c f)) → ((k : Kind) (m : ℕ) → t ≡ Some (target.Method k m) → P (method_form n k m)) → P form.Nop → P (members t n)
unfolding members
member_of P (Some (target.Field c d)) n f g nothing = f c d refl
member_of P (Some (target.Method k m)) n f g nothing = g k m refl
member_of P _ n f g nothing = nothing

type_of : (P : Instr → Type 0) (t : Option Target) (o : RawOp) → ((k : Kind) → t ≡ Some (target.Type k) → P (type_form o k)) → P form.Nop → P (types t o)
unfolding types
type_of P (Some (target.Type k)) o f nothing = f k refl
type_of P _ o f nothing = nothing

constants_case : (P : Instr → Type 0) (t : Option Target) (o : RawOp) → FormCases P t o → P (constants t o)
unfolding constants
constants_case P t o c = let n = o.opcode in
    cond_both (eqb n 1) _ _ P (λ _. c.plain (form.Const Null) refl) (λ _.
    cond_both (leb 2 n && leb n 8) _ _ P (λ _. c.plain (form.Const (Int (pos n -ℤ pos 3))) refl) (λ _.
    cond_both (eqb n 9 || eqb n 10) _ _ P (λ _. c.plain (form.Const (Long (pos n -ℤ pos 9))) refl) (λ _.
    cond_both (eqb n 16 || eqb n 17) _ _ P (λ _. c.plain (form.Const (Int (operand o 0))) refl) (λ _.
    cond_both (leb 18 n && leb n 20) _ _ P (λ h. let w = within 18 20 n h in constant_of P t (c.constant w.0 w.1) (c.plain form.Nop refl)) (λ _.
    c.plain form.Nop refl)))))

branches_case : (P : Instr → Type 0) (t : Option Target) (o : RawOp) → FormCases P t o → P (branches o)
unfolding branches
branches_case P t o c = let n = o.opcode in
    cond_both (leb 153 n && leb n 158) _ _ P (λ h. let w = within 153 158 n h in c.if_zero w.0 w.1) (λ _.
    cond_both (leb 159 n && leb n 164) _ _ P (λ h. let w = within 159 164 n h in c.if_ints w.0 w.1) (λ _.
    cond_both (eqb n 165 || eqb n 166) _ _ P (λ h. let w = one_of 165 166 n refl h in c.if_refs w.0 w.1) (λ _.
    cond_both (eqb n 167) _ _ P (λ h. c.goto (inl (eqb-true n 167 h))) (λ _.
    cond_both (eqb n 170) _ _ P (λ h. c.table (eqb-true n 170 h)) (λ _.
    cond_both (eqb n 171) _ _ P (λ h. c.look_up (eqb-true n 171 h)) (λ _.
    cond_both (eqb n 172) _ _ P (λ _. c.plain (form.Return (Some sort.Int)) refl) (λ _.
    cond_both (eqb n 173) _ _ P (λ _. c.plain (form.Return (Some sort.Long)) refl) (λ _.
    cond_both (eqb n 176) _ _ P (λ _. c.plain (form.Return (Some sort.Ref)) refl) (λ _.
    cond_both (eqb n 177) _ _ P (λ _. c.plain (form.Return None) refl) (λ _.
    c.plain form.Nop refl))))))))))

others_case : (P : Instr → Type 0) (t : Option Target) (o : RawOp) → 186 ≤ o.opcode → FormCases P t o → P (others t o)
unfolding others
others_case P t o high c = let n = o.opcode in
    cond_both (eqb n 188) _ _ P (λ h. c.numbers (eqb-true n 188 h)) (λ h1.
    cond_both (eqb n 190) _ _ P (λ _. c.plain form.ArrayLength refl) (λ h2.
    cond_both (eqb n 191) _ _ P (λ _. c.plain form.Throw refl) (λ h3.
    cond_both (eqb n 194 || eqb n 195) _ _ P (λ _. c.plain form.Monitor refl) (λ h4.
    cond_both (eqb n 198 || eqb n 199) _ _ P (λ h. let w = one_of 198 199 n refl h in c.if_null w.0 w.1) (λ h5.
    cond_both (eqb n 200) _ _ P (λ h. c.goto (inr (eqb-true n 200 h))) (λ h6.
    type_of P t o (c.type (record { high = high; typed = rw (h1, h2, h3, h4, h5, h6) refl })) (c.plain form.Nop refl)))))))

pub above : (n m : ℕ) → leb n m ≡ false → suc m ≤ n
above n m h = omega (arith, leb-false n m h)

-- what holds of each of these forms holds of the instruction's
pub form_case : (P : Instr → Type 0) (t : Option Target) (o : RawOp) → FormCases P t o → P (form_of t o)
unfolding form_of
form_case P t o c = let n = o.opcode in
    cond_both (leb n 20) _ _ P (λ _. constants_case P t o c) (λ _.
    cond_both (leb n 53) _ _ P (λ _. c.plain (loads o) (loads_plain o)) (λ _.
    cond_both (leb n 86) _ _ P (λ _. c.plain (stores o) (stores_plain o)) (λ _.
    cond_both (leb n 95) _ _ P (λ _. c.plain (moves n) (moves_plain n)) (λ _.
    cond_both (leb n 132) _ _ P (λ _. c.plain (numbers o) (numbers_plain o)) (λ _.
    cond_both (leb n 148) _ _ P (λ _. c.plain (conversions n) (conversions_plain n)) (λ _.
    cond_both (leb n 177) _ _ P (λ _. branches_case P t o c) (λ low.
    cond_both (leb n 185) _ _ P (λ h. let from = above n 177 low in let to = leb-true n 185 h in member_of P t n (c.field from to) (c.method from to) (c.plain form.Nop refl)) (λ high.
    others_case P t o (above n 185 high) c))))))))

-- ---- forms of a field, a method and a type

pub field_case : (P : Instr → Type 0) (n c f : ℕ) → (n ≡ 178 → P (form.GetStatic f)) → (n ≡ 179 → P (form.PutStatic f)) → (n ≡ 180 → P (form.GetField c f)) → (n ≢ 178 → n ≢ 179 → n ≢ 180 → P (form.PutField c f)) → P (field_form n c f)
field_case P n c f a b d e =
    cond_both (eqb n 178) _ _ P (λ h. a (eqb-true n 178 h)) (λ h1.
    cond_both (eqb n 179) _ _ P (λ h. b (eqb-true n 179 h)) (λ h2.
    cond_both (eqb n 180) _ _ P (λ h. d (eqb-true n 180 h)) (λ h3.
    e (eqb-false n 178 h1) (eqb-false n 179 h2) (eqb-false n 180 h3))))

pub method_case : (P : Instr → Type 0) (n : ℕ) (k : Kind) (m : ℕ) → (n ≡ 182 → P (form.InvokeVirtual k m)) → (n ≡ 183 → P (form.InvokeSpecial k m)) → (n ≡ 184 → P (form.InvokeStatic m)) → (n ≢ 182 → n ≢ 183 → n ≢ 184 → P (form.InvokeInterface (named_class k) m)) → P (method_form n k m)
method_case P n k m a b d e =
    cond_both (eqb n 182) _ _ P (λ h. a (eqb-true n 182 h)) (λ h1.
    cond_both (eqb n 183) _ _ P (λ h. b (eqb-true n 183 h)) (λ h2.
    cond_both (eqb n 184) _ _ P (λ h. d (eqb-true n 184 h)) (λ h3.
    e (eqb-false n 182 h1) (eqb-false n 183 h2) (eqb-false n 184 h3))))

pub type_case : (P : Instr → Type 0) (o : RawOp) (k : Kind) → P (form.New (named_class k)) → P (form.NewArray (array_of k)) → P (form.CheckCast k) → P (form.InstanceOf k)
    → (is_single o.opcode ≡ false → P (form.MultiNewArray k (number_in o 1 % 256))) → P (type_form o k)
type_case P o k a b d e f = let n = o.opcode in
    cond_both (eqb n 187) _ _ P (λ _. a) (λ h1.
    cond_both (eqb n 189) _ _ P (λ _. b) (λ h2.
    cond_both (eqb n 192) _ _ P (λ _. d) (λ h3.
    cond_both (eqb n 193) _ _ P (λ _. e) (λ h4.
    f (rw (h1, h2, h3, h4) refl)))))
