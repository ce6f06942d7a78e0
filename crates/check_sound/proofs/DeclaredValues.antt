-- Values of a declared type: as operands, and as what is stored of an operand.
use Rattle.std.proofs.Common.{◌≡◌, ℕ, ℤ, List, [], ◌∷◌, ◌++◌, Bool, true, false, nat_eq, refl, sym, subst, arith, inl, inr, append-nil}
use Rattle.std.proofs.lemmas.Bool.{cases_Bool, or_cases, eqb-true}
use Rattle.et_base.specs.Names.{after_type, is_field_descriptor}
use Rattle.et_base.proofs.Cases.{ends_some}
use Rattle.jvm_model.specs.declared.{values.Value.Value, program.Program.Program}
use Rattle.jvm_model.specs.declared.values.Value.TheVariants as value
use Rattle.jvm_model.specs.{World.World, Access.Access, Classes.member, Narrow.narrow, Narrow.narrowed, Rows.Answer, Rows.popping, Linked.fits_int}
use Rattle.jvm_model.proofs.NarrowedFits.{narrowed_fits, smalls}
use Rattle.type_frames.specs.declared.{vtype.VType.VType, stack_effect.OperandConstraint.OperandConstraint}
use Rattle.type_frames.specs.declared.vtype.VType.TheVariants.{Top, Int, Long, Object}
use Rattle.type_frames.specs.{Environment.Environment, Descriptors.types_of, Descriptors.class_name, StackEffect.needs_of, Typing.IsTyped}
use Rattle.type_frames.specs.TypedState.{IsInRange, RefersTo, IsReferenceOf, IsDeclared}
use Rattle.check_sound.proofs.{Tree.Tree, ParameterTexts.one_type, Operands.Operands, Ready.HasPlain, CallEffects.Result, ParameterTexts.IsText}
use Rattle.check_sound.proofs.Arguments.{Argument, Arguments, take_args}

-- ---- texts of fields

pub text_of_field : (d : List ℕ) → is_field_descriptor d ≡ true → IsText d
unfolding is_field_descriptor
text_of_field d h = (one_type d [] (ends_some (after_type d) h)).begins

-- the first unit of an int's text
int_unit : (u : ℕ) (us : List ℕ) → IsText (u ∷ us) → types_of (u ∷ us) ≡ Int ∷ [] → member u smalls ≡ true
int_unit u us h e = elim (or_cases (nat_eq u 66) _ h) [
  | inl a ↦ rw (eqb-true u 66 a) refl
  | inr h ↦ elim (or_cases (nat_eq u 67) _ h) [
    | inl a ↦ rw (eqb-true u 67 a) refl
    | inr h ↦ elim (or_cases (nat_eq u 68) _ h) [
      | inl a ↦ absurd (let z : types_of (68 ∷ us) ≡ Int ∷ [] = subst (λ (k : ℕ). types_of (k ∷ us) ≡ Int ∷ []) (eqb-true u 68 a) e in cc)
      | inr h ↦ elim (or_cases (nat_eq u 70) _ h) [
        | inl a ↦ absurd (let z : types_of (70 ∷ us) ≡ Int ∷ [] = subst (λ (k : ℕ). types_of (k ∷ us) ≡ Int ∷ []) (eqb-true u 70 a) e in cc)
        | inr h ↦ elim (or_cases (nat_eq u 73) _ h) [
          | inl a ↦ rw (eqb-true u 73 a) refl
          | inr h ↦ elim (or_cases (nat_eq u 74) _ h) [
            | inl a ↦ absurd (let z : types_of (74 ∷ us) ≡ Int ∷ [] = subst (λ (k : ℕ). types_of (k ∷ us) ≡ Int ∷ []) (eqb-true u 74 a) e in cc)
            | inr h ↦ elim (or_cases (nat_eq u 76) _ h) [
              | inl a ↦ absurd (let z : types_of (76 ∷ us) ≡ Int ∷ [] = subst (λ (k : ℕ). types_of (k ∷ us) ≡ Int ∷ []) (eqb-true u 76 a) e in cc)
              | inr h ↦ elim (or_cases (nat_eq u 83) _ h) [
                | inl a ↦ rw (eqb-true u 83 a) refl
                | inr h ↦ elim (or_cases (nat_eq u 90) _ h) [
                  | inl a ↦ rw (eqb-true u 90 a) refl
                  | inr h ↦ elim (or_cases (nat_eq u 91) false h) [
                    | inl a ↦ absurd (let z : types_of (91 ∷ us) ≡ Int ∷ [] = subst (λ (k : ℕ). types_of (k ∷ us) ≡ Int ∷ []) (eqb-true u 91 a) e in cc)
                    | inr a ↦ absurd cc
                  ]
                ]
              ]
            ]
          ]
        ]
      ]
    ]
  ]
]

-- ---- a declared value as an operand

refers_range : (p : Program) (w : World) (a : List ℕ) (v : Value) → RefersTo p w a v → IsInRange p w v
refers_range p w a (value.Lit n) h = h.0
refers_range p w a (value.Obj o) h = h.0
refers_range p w a _ h = tt

reference_result : (p : Program) (w : World) (ts : List VType) (v : Value) → IsReferenceOf p w ts v → Result p w ts (v ∷ [])
reference_result p w (Object a ∷ []) v h = (h, refers_range p w a v h)
reference_result p w _ v h = absurd h

int_result : (p : Program) (w : World) (u : ℕ) (us : List ℕ) (n : ℤ) → fits_int u n ≡ true → Result p w (types_of (u ∷ us)) (value.Int n ∷ [])
int_result p w u us n h = elim (cases_Bool (nat_eq u 90)) [
  | inl a ↦ is 90 a (tt, tt)
  | inr a ↦ elim (cases_Bool (nat_eq u 66)) [
    | inl b ↦ is 66 b (tt, tt)
    | inr b ↦ elim (cases_Bool (nat_eq u 67)) [
      | inl c ↦ is 67 c (tt, tt)
      | inr c ↦ elim (cases_Bool (nat_eq u 83)) [
        | inl d ↦ is 83 d (tt, tt)
        | inr d ↦ is 73 (let z = rw (a, b, c, d) at h in z) (tt, tt)
      ]
    ]
  ]
]
  where
    is : (k : ℕ) → nat_eq u k ≡ true → Result p w (types_of (k ∷ us)) (value.Int n ∷ []) → Result p w (types_of (u ∷ us)) (value.Int n ∷ [])
    is k e r = subst (λ (x : ℕ). Result p w (types_of (x ∷ us)) (value.Int n ∷ [])) (sym (eqb-true u k e)) r

pub declared_result : (p : Program) (w : World) (d : List ℕ) (v : Value) → IsDeclared p w d v → Result p w (types_of d) (v ∷ [])
declared_result p w [] (value.Int n) h = absurd cc
declared_result p w (u ∷ us) (value.Int n) h = int_result p w u us n h
declared_result p w [] (value.Long n) h = absurd (let z : 0 ≡ 74 = h in omega arith)
declared_result p w (u ∷ us) (value.Long n) h = subst (λ (x : ℕ). Result p w (types_of (x ∷ us)) (value.Long n ∷ [])) (sym h) (tt, tt)
declared_result p w d v h = reference_result p w (types_of d) v h

-- ---- what is stored of an operand

-- what the types of a text are, by the tests on its first unit
abbrev types_by : Bool → Bool → Bool → Bool → Bool → Bool → ℕ → List ℕ → List VType
types_by a b c d f g u us = elim a [
  | true ↦ Long ∷ []
  | false ↦ elim b [
    | true ↦ Object (class_name us) ∷ []
    | false ↦ elim c [ true ↦ Object (u ∷ us) ∷ [] | false ↦ elim d [ true ↦ [] | false ↦ elim f [ true ↦ Top ∷ [] | false ↦ elim g [ true ↦ Top ∷ Top ∷ [] | false ↦ Int ∷ [] ] ] ] ]
  ]
]

no_long : (b c d f g : Bool) (u : ℕ) (us : List ℕ) → types_by false b c d f g u us ≡ Long ∷ [] → ⊥
no_long true c d f g u us q = cc
no_long false true d f g u us q = cc
no_long false false true f g u us q = cc
no_long false false false true g u us q = cc
no_long false false false false true u us q = cc
no_long false false false false false u us q = cc

long_by : (a : Bool) (u : ℕ) (us : List ℕ) → nat_eq u 74 ≡ a → types_by a (nat_eq u 76) (nat_eq u 91) (nat_eq u 86) (nat_eq u 70) (nat_eq u 68) u us ≡ Long ∷ [] → u ≡ 74
long_by true u us q e = eqb-true u 74 q
long_by false u us q e = absurd (no_long (nat_eq u 76) (nat_eq u 91) (nat_eq u 86) (nat_eq u 70) (nat_eq u 68) u us e)

long_unit : (u : ℕ) (us : List ℕ) → types_of (u ∷ us) ≡ Long ∷ [] → u ≡ 74
long_unit u us e = long_by (nat_eq u 74) u us refl e

stored_plain : (p : Program) (w : World) (u : ℕ) (us : List ℕ) (t : VType) (v : Value) → IsText (u ∷ us) → types_of (u ∷ us) ≡ t ∷ [] → HasPlain p w t v → IsDeclared p w (u ∷ us) (narrow u v)
unfolding narrow
stored_plain p w u us Int (value.Int n) h e q = narrowed_fits u n (int_unit u us h e)
stored_plain p w u us Long (value.Long n) h e q = long_unit u us e
stored_plain p w u us (Object a) value.Null h e q = subst (λ (ts : List VType). IsReferenceOf p w ts value.Null) (sym e) q
stored_plain p w u us (Object a) (value.Lit n) h e q = subst (λ (ts : List VType). IsReferenceOf p w ts (value.Lit n)) (sym e) q
stored_plain p w u us (Object a) (value.Obj o) h e q = subst (λ (ts : List VType). IsReferenceOf p w ts (value.Obj o)) (sym e) q
stored_plain p w u us _ _ h e q = absurd q

pub argument_stored : (p : Program) (w : World) (d : List ℕ) (v : Value) → IsText d → Argument p w d v → IsDeclared p w d (narrowed d v)
argument_stored p w [] v h a = absurd cc
argument_stored p w (u ∷ us) v h a = stored_plain p w u us a.type v h a.is_type a.plain

-- a value of a text's type is popped
pub popping-declared : (p : Program) (ty : IsTyped p) {w : World} {e : Environment} {S : Type 0} (P : World → Answer S → Type 0) (d : List ℕ) → IsText d → {ns : List OperandConstraint} {ts rest : List VType} {vs : List Value} {k : Value → List Value → Access (Answer S)}
    → Operands p w e (needs_of d ++ ns) ts rest vs → ((v : Value) (ws : List Value) (us : List VType) → Argument p w d v → Operands p w e ns us rest ws → Tree p P w (k v ws)) → Tree p P w (popping vs k)
popping-declared p ty {w = w} {e = e} P d h {ns = ns} {ts = ts} {rest = rest} {vs = vs} {k = k} o f =
    let t = take_args p ty w e (d ∷ []) (h, tt) ns ts rest vs (subst (λ (xs : List OperandConstraint). Operands p w e (xs ++ ns) ts rest vs) (sym (append-nil (needs_of d))) o) in
    by t.args t.below t.split t.typed t.types t.operands
  where
    by : (args below : List Value) → vs ≡ args ++ below → Arguments p w (d ∷ []) args → (us : List VType) → Operands p w e ns us rest below → Tree p P w (popping vs k)
    by (v ∷ []) below q a us o = subst (λ (xs : List Value). Tree p P w (popping xs k)) (sym q) (f v below us a.0 o)
    by (v ∷ x ∷ xs) below q a us o = absurd a.1
    by [] below q a us o = absurd a
