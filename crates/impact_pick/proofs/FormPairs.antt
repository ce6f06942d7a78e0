-- The forms of one instruction by two targets: what holds of each pair of forms that have to be shown holds of its two forms.
use Rattle.std.proofs.Common.{◌≡◌, ℕ, ◌≤◌, pos, ◌-ℤ◌, Bool, true, false, eqb, leb, ◌&&◌, ◌||◌, Option, refl, cond}
use Rattle.std.proofs.lemmas.Bool.{leb-true}
use Rattle.code_decode.specs.declared.instructions.RawOp.{RawOp}
use Rattle.jvm_model.specs.declared.{values.Value.TheVariants.Int, values.Value.TheVariants.Long, values.Value.TheVariants.Null, instr.Instr.Instr}
use Rattle.jvm_model.specs.declared.instr.Instr.TheVariants as form
use Rattle.code_forms.specs.{declared.references.Target.Target, Operands.operand, Operands.number_in}
use Rattle.code_forms.specs.Forms.{constant_form, constants, loads, stores, moves, numbers, conversions, branches, members, number_array, types, others, form_of}
use Rattle.code_forms.proofs.FormCases.{IsTyped, is_plain, above}

-- one choice on both sides
pub cond_two : {A B : Type 0} (b : Bool) (x y : A) (u v : B) (R : A → B → Type 0) → (b ≡ true → R x u) → (b ≡ false → R y v) → R (cond b x y) (cond b u v)
cond_two true x y u v R f g = f refl
cond_two false x y u v R f g = g refl

-- What has to be shown: of forms that are one and the same, and of those that the two targets give.
pub record FormPairs (R : Instr → Instr → Type 0) (t u : Option Target) (o : RawOp) : Type 0 where
  pub alone : (f : Instr) → is_plain f ≡ true → R f f
  pub constant : R (constant_form t) (constant_form u)
  pub branch : R (branches o) (branches o)
  pub member : 178 ≤ o.opcode → o.opcode ≤ 185 → R (members t o.opcode) (members u o.opcode)
  pub numbers : R (form.NewArray (number_array (number_in o 0))) (form.NewArray (number_array (number_in o 0)))
  pub if_null : (b : Bool) (to : ℕ) → R (form.IfNull b to) (form.IfNull b to)
  pub goto : (to : ℕ) → R (form.Goto to) (form.Goto to)
  pub type : IsTyped o.opcode → R (types t o) (types u o)

module _ (R : Instr → Instr → Type 0) (t u : Option Target) (o : RawOp) (c : FormPairs R t u o)
    (loads_alone : is_plain (loads o) ≡ true) (stores_alone : is_plain (stores o) ≡ true) (moves_alone : is_plain (moves o.opcode) ≡ true) (numbers_alone : is_plain (numbers o) ≡ true) (conversions_alone : is_plain (conversions o.opcode) ≡ true) where
  constants_pair : R (constants t o) (constants u o)
  unfolding constants
  constants_pair =
      cond_two (eqb o.opcode 1) _ _ _ _ R (λ _. c.alone (form.Const Null) refl) (λ _.
      cond_two (leb 2 o.opcode && leb o.opcode 8) _ _ _ _ R (λ _. c.alone (form.Const (Int (pos o.opcode -ℤ pos 3))) refl) (λ _.
      cond_two (eqb o.opcode 9 || eqb o.opcode 10) _ _ _ _ R (λ _. c.alone (form.Const (Long (pos o.opcode -ℤ pos 9))) refl) (λ _.
      cond_two (eqb o.opcode 16 || eqb o.opcode 17) _ _ _ _ R (λ _. c.alone (form.Const (Int (operand o 0))) refl) (λ _.
      cond_two (leb 18 o.opcode && leb o.opcode 20) _ _ _ _ R (λ _. c.constant) (λ _.
      c.alone form.Nop refl)))))

  others_pair : 186 ≤ o.opcode → R (others t o) (others u o)
  unfolding others
  others_pair high =
      cond_two (eqb o.opcode 188) _ _ _ _ R (λ _. c.numbers) (λ h1.
      cond_two (eqb o.opcode 190) _ _ _ _ R (λ _. c.alone form.ArrayLength refl) (λ h2.
      cond_two (eqb o.opcode 191) _ _ _ _ R (λ _. c.alone form.Throw refl) (λ h3.
      cond_two (eqb o.opcode 194 || eqb o.opcode 195) _ _ _ _ R (λ _. c.alone form.Monitor refl) (λ h4.
      cond_two (eqb o.opcode 198 || eqb o.opcode 199) _ _ _ _ R (λ _. c.if_null _ _) (λ h5.
      cond_two (eqb o.opcode 200) _ _ _ _ R (λ _. c.goto _) (λ h6.
      c.type (record { high = high; typed = rw (h1, h2, h3, h4, h5, h6) refl })))))))

  pub form_pair : R (form_of t o) (form_of u o)
  unfolding form_of
  form_pair =
      cond_two (leb o.opcode 20) _ _ _ _ R (λ _. constants_pair) (λ _.
      cond_two (leb o.opcode 53) _ _ _ _ R (λ _. c.alone (loads o) loads_alone) (λ _.
      cond_two (leb o.opcode 86) _ _ _ _ R (λ _. c.alone (stores o) stores_alone) (λ _.
      cond_two (leb o.opcode 95) _ _ _ _ R (λ _. c.alone (moves o.opcode) moves_alone) (λ _.
      cond_two (leb o.opcode 132) _ _ _ _ R (λ _. c.alone (numbers o) numbers_alone) (λ _.
      cond_two (leb o.opcode 148) _ _ _ _ R (λ _. c.alone (conversions o.opcode) conversions_alone) (λ _.
      cond_two (leb o.opcode 177) _ _ _ _ R (λ _. c.branch) (λ low.
      cond_two (leb o.opcode 185) _ _ _ _ R (λ h. c.member (above o.opcode 177 low) (leb-true o.opcode 185 h)) (λ high.
      others_pair (above o.opcode 185 high)))))))))
