-- The row of the instruction at the top frame's place touches no more than it pays for, or its cost is cut to the greatest
-- number.
use Rattle.std.proofs.Common.{◌≡◌, ℕ, suc, ◌-◌, ◌^◌, ◌<◌, List, [], ◌∷◌, Bool, true, false, nat_eq, Option, Some, None, All, IfSome, refl, subst, arith}
use Rattle.jvm_model.specs.declared.values.Kind.TheVariants as kind
use Rattle.jvm_model.specs.declared.{instr.Instr.Instr, program.Body.Body, program.Placed.Placed, program.Program.Program}
use Rattle.jvm_model.specs.declared.instr.Instr.TheVariants as form
use Rattle.jvm_model.specs.Classes.{method_at, form_at, Found, place_after, found_in, found_of}
use Rattle.jvm_model.specs.Entries.{Entries}
use Rattle.jvm_model.specs.Linked.{Linked, NamesForm, NamesBody, IsForm, IsBody}
use Rattle.jvm_model.specs.Step.{Group, moves, arith as of_arith, branches, statics, fields, create, arrays, casts, calls, returns, throw, group_of, row_of, row, row_or_none, row_here}
use Rattle.check_sound.specs.PaceLaw.{array_sum, sum_of, sum_here}
use Rattle.check_sound.proofs.{Arrive.has_number, PacedCalls.calls-row}
use Rattle.check_sound.proofs.{Paced.Limits, Paced.paced_done, Paced.CutRow, PacedCreate.HasDims, PacedCreate.cut, PacedCreate.create-paced}
use Rattle.check_sound.proofs.PacedRows.{none, NamesAllowed, moves-paced, arith-paced, branches-paced, statics-paced, fields-paced, arrays-paced, casts-paced, returns-paced, throw-paced}

abbrev form_of : Option Found → Option Instr
form_of o = elim o [ None ↦ None | Some x ↦ Some x.form ]

-- what each instruction of the code keeps, the one that is found keeps
kept : (P : Instr → Type 0) (xs : List Placed) (end pc : ℕ) (i : Instr) → All (λ x. P x.form) xs → form_of (found_in xs end pc) ≡ Some i → P i
kept P [] end pc i a e = absurd (cc)
kept P (x ∷ xs) end pc i a e = by (nat_eq x.pc pc) e (λ q. kept P xs end pc i (λ k d g. a (suc k) d (omega arith)) q)
  where
    by : (b : Bool) → form_of (elim b [ true ↦ Some (record { form = x.form; after = place_after xs end }) | false ↦ found_in xs end pc ]) ≡ Some i → (form_of (found_in xs end pc) ≡ Some i → P i) → P i
    by true q r = subst P (let z : x.form ≡ i = cc in z) (a 0 x (omega arith))
    by false q r = r q

module _ (p : Program) (lk : Linked p) where
  dims_there : (b : Body) (i : Instr) → NamesForm p i → IsForm b i → HasDims i
  dims_there b (form.NewArray (kind.Class c)) n f = absurd n
  dims_there b (form.NewArray (kind.Array d e)) n f = n.0
  dims_there b (form.MultiNewArray k d) n f = f.1
  dims_there b _ n f = tt

  has_dims : (m pc : ℕ) (i : Instr) → form_at p m pc ≡ Some i → HasDims i
  unfolding form_at
  has_dims m pc i e = by (method_at p m).body refl e
    where
      by : (o : Option Body) → (method_at p m).body ≡ o → form_of (found_of o pc) ≡ Some i → HasDims i
      by None q e = absurd (cc)
      by (Some b) q e =
          let l = has_number p m b q in
          let n = subst (λ (o : Option Body). IfSome o (λ b. NamesBody p b)) q (lk.numbers.bodies m l) in
          let k = subst (λ (o : Option Body). IfSome o (λ b. IsBody b)) q (lk.bodies m l) in
          dims_there b i (kept (λ i. NamesForm p i) b.code b.length pc i n.forms e) (kept (λ i. IsForm b i) b.code b.length pc i k.forms e)

module _ (p : Program) (lk : Linked p) {M : Limits} where
  row-paced : {B : Type 0} (i : Instr) (s : Entries) → NamesAllowed p M i → HasDims i → (2 ^ 64 - 2 < array_sum i s.top.stack → B) → CutRow p M B (row p i s)
  unfolding row
  row-paced {B = B} i s m h b = by (group_of i)
    where
      by : (g : Group) → CutRow p M B (row_of g p i s)
      by moves = cut p lk _ (moves-paced p lk i s)
      by of_arith = cut p lk _ (arith-paced p lk i s)
      by branches = cut p lk _ (branches-paced p lk i s)
      by statics = cut p lk _ (statics-paced p lk i s m)
      by fields = cut p lk _ (fields-paced p lk i s)
      by create = create-paced p lk i s m h b
      by arrays = cut p lk _ (arrays-paced p lk i s)
      by casts = cut p lk _ (casts-paced p lk i s)
      by calls = cut p lk _ (calls-row p lk i s m)
      by returns = cut p lk _ (returns-paced p lk i s)
      by throw = cut p lk _ (throw-paced p lk s)

  -- the row of the instruction at the top, where what it names is allowed; where its cost is cut, B
  pub here-paced : {B : Type 0} (s : Entries) → ((i : Instr) → form_at p s.top.number s.top.pc ≡ Some i → NamesAllowed p M i) → (2 ^ 64 - 2 < sum_here p s → B) → CutRow p M B (row_here p s)
  unfolding row_here
  here-paced {B = B} s m b = by (form_at p s.top.number s.top.pc) refl b
    where
      by : (o : Option Instr) → form_at p s.top.number s.top.pc ≡ o → (2 ^ 64 - 2 < sum_of o s.top.stack → B) → CutRow p M B (row_or_none p o s)
      by None e b = paced_done none
      by (Some i) e b = row-paced i s (m i e) (has_dims p lk s.top.number s.top.pc i e) b
