-- What counting down a test says of it.
use Rattle.std.proofs.Common.{◌≡◌, ℕ, ◌-◌, ◌≤◌, List, Bool, true, false, nat_le, refl, sym, ◌∙◌, inl, inr, arith, Some, None}
use Rattle.std.proofs.lemmas.Bool.{cases_Bool, leb-true}
use Rattle.jvm_model.specs.{declared.values.Touch.Touch, declared.outcome.Verdict.Verdict, declared.program.Program.Program, World.World}
use Rattle.jvm_model.specs.{Access.Ran, Access.run, View.over, View.ended, View.counted}
use Rattle.jvm_model.specs.Suite.{End, finished, stuck, out_of_steps, tree, given_at, one_test}
use Rattle.jvm_model.proofs.Bridges.{compared, counted_is}

-- a run that ended under a number of units
record Ends {A : Type 0} (r : Ran A) (b : ℕ) (a : A) (w : World) (left : ℕ) : Type 0 where
  pub value : r.value ≡ a
  pub world : r.world ≡ w
  pub units : r.units ≡ b - left
  pub within : r.units ≤ b

ends_of : {A : Type 0} (r : Ran A) (b : ℕ) (a : A) (w : World) (left : ℕ) → compared r b ≡ ended a w left → Ends r b a w left
ends_of r b a w left e = elim (cases_Bool (nat_le r.units b)) [
  | inr h ↦ let z : over ≡ ended a w left = sym (rw h refl) ∙ e in absurd (cc)
  | inl h ↦
      let z : ended r.value r.world (b - r.units) ≡ ended a w left = sym (rw h refl) ∙ e in
      let n : b - r.units ≡ left = cc in
      let k = leb-true r.units b h in
      record { value = (cc); world = (cc); units = omega arith; within = k }
]

-- A test that was counted to its end, each access of a location that stands, gives this outcome.
pub one_test_ended : (p : Program) (w : World) (t b : ℕ) (v : Verdict) (output : List ℕ) (w' : World) (left : ℕ) → (run (tree p t b) w).sound ≡ true →
    counted (tree p t b) w b ≡ ended (finished v output) w' left →
    one_test p w t b ≡ Some (record { outcome = record { verdict = v; output = output; units = b - left }; world = w'; touches = (run (tree p t b) w).touches })
unfolding one_test
one_test_ended p w t b v output w' left s e =
    let r = run (tree p t b) w in
    let x = ends_of r b (finished v output) w' left (sym (counted_is (tree p t b) w b) ∙ e) in
    let y = x.within in
    let q : nat_le r.units b ≡ true = grind arith in
    let f : given_at b r.sound r.value r.world r.touches r.units ≡ given_at b true (finished v output) w' r.touches (b - left) = rw (s, x.value, x.world, x.units) refl in
    let g : nat_le (b - left) b ≡ true = grind arith in
    f ∙ rw g refl

by_end : (b : ℕ) (s : Bool) (e : End) (w : World) (ts : List Touch) (u : ℕ) → nat_le u b ≡ false → given_at b s e w ts u ≡ None
by_end b false e w ts u h = refl
by_end b true (finished v o) w ts u h = rw h refl
by_end b true stuck w ts u h = refl
by_end b true out_of_steps w ts u h = refl

over_above : {A : Type 0} (r : Ran A) (b : ℕ) → compared r b ≡ over → nat_le r.units b ≡ false
over_above r b e = elim (cases_Bool (nat_le r.units b)) [
  | inr h ↦ h
  | inl h ↦ let z : ended r.value r.world (b - r.units) ≡ over = sym (rw h refl) ∙ e in absurd (cc)
]

-- A test that comes to a cost above what is left gives nothing.
pub one_test_over : (p : Program) (w : World) (t b : ℕ) → counted (tree p t b) w b ≡ over → one_test p w t b ≡ None
unfolding one_test
one_test_over p w t b e = let r = run (tree p t b) w in by_end b r.sound r.value r.world r.touches r.units (over_above r b (sym (counted_is (tree p t b) w b) ∙ e))
