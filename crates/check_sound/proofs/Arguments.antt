-- The arguments of a call: what is taken of the operands, and the locals with which a method is entered.
use Rattle.std.proofs.Common.{◌≡◌, ℕ, zero, suc, ◌-◌, ◌≤◌, List, [], ◌∷◌, ◌++◌, length, drop, reverse, replicate, true, false, nat_eq, Option, Some, None, is_some, refl, sym, ◌∙◌, ap, subst, arith, inl, inr}
use Rattle.std.specs.Prelude.{flat_map}
use Rattle.std.proofs.{lemmas.Bool.cases_Bool, lemmas.Bool.and_parts, lemmas.Bool.eqb-true, lemmas.List.reverse-append, lemmas.Grind.flat_map-append, Math.Seq.drop-nil}
use Rattle.jvm_model.specs.{declared.values.Value.Value, declared.program.Program.Program, declared.program.Body.Body, World.World, Classes.method_at}
use Rattle.jvm_model.specs.declared.values.Value.TheVariants as value
use Rattle.jvm_model.specs.{Descriptors.parameters, Linked.IsMethod, Entries.slots_of, Entries.filled, Entries.frame_of}
use Rattle.type_frames.specs.declared.{vtype.VType.VType, stack_effect.OperandConstraint.OperandConstraint}
use Rattle.type_frames.specs.declared.vtype.VType.TheVariants.{Top, Int, Long, Object}
use Rattle.type_frames.specs.declared.stack_effect.OperandConstraint.TheVariants.{Fits, Half, Never}
use Rattle.type_frames.specs.{Frames.spread, Frames.padded, Descriptors.types_of, Descriptors.class_name, Given.entry_types, Given.given_frames}
use Rattle.type_frames.specs.{Environment.Environment, Environment.environment_of, StackEffect.needs_of, Rules.opening, Rules.meet_all, Typing.IsTyped}
use Rattle.type_frames.specs.TypedState.{IsInRange, HaveTypes, Goes}
use Rattle.check_sound.proofs.{Grow.Ranged, Arrive.typed_method, Arrive.arrived_first, Ready.HasPlain, Ready.Takes, MoveRows.as_many}
use Rattle.check_sound.proofs.{Held.Is, Held.Locals, Held.is_fits, Held.nothing_held, ReturnRows.plain_int, ReturnRows.plain_long}
use Rattle.check_sound.proofs.Operands.{Operands, IsPop, popped, long_popped, none_there}
use Rattle.check_sound.proofs.ParameterTexts.{IsText, AreTexts, parameters_formed}

-- ---- texts of parameters

-- a text's need is of an int, of a long or of an object, or it is one that nothing meets
data SortOfText (t : List ℕ) : Type 0 where
  int_text : needs_of t ≡ Fits Int ∷ [] → types_of t ≡ Int ∷ [] → SortOfText t
  long_text : needs_of t ≡ Half ∷ Fits Long ∷ [] → types_of t ≡ Long ∷ [] → SortOfText t
  object_text : (a : List ℕ) → needs_of t ≡ Fits (Object a) ∷ [] → types_of t ≡ Object a ∷ [] → SortOfText t
  never_text : (ns : List OperandConstraint) → needs_of t ≡ Never ∷ ns → SortOfText t

sort_of_text : (t : List ℕ) → IsText t → SortOfText t
sort_of_text [] h = absurd (cc)
sort_of_text (u ∷ us) h = elim (cases_Bool (nat_eq u 74)) [
  | inl a ↦ long_text (rw (needs_of, a) refl) (rw (types_of, a) refl)
  | inr a ↦ elim (cases_Bool (nat_eq u 76)) [
    | inl b ↦ object_text (class_name us) (rw (needs_of, a, b) refl) (rw (types_of, a, b) refl)
    | inr b ↦ elim (cases_Bool (nat_eq u 91)) [
      | inl c ↦ object_text (u ∷ us) (rw (needs_of, a, b, c) refl) (rw (types_of, a, b, c) refl)
      | inr c ↦ elim (cases_Bool (nat_eq u 86)) [
        | inl d ↦ absurd (let z : IsText (86 ∷ us) = subst (λ (n : ℕ). IsText (n ∷ us)) (eqb-true u 86 d) h in cc)
        | inr d ↦ elim (cases_Bool (nat_eq u 70)) [
          | inl e ↦ never_text [] (rw (needs_of, a, b, c, d, e) refl)
          | inr e ↦ elim (cases_Bool (nat_eq u 68)) [
            | inl f ↦ never_text (Never ∷ []) (rw (needs_of, a, b, c, d, e, f) refl)
            | inr f ↦ int_text (rw (needs_of, a, b, c, d, e, f) refl) (rw (types_of, a, b, c, d, e, f) refl)
          ]
        ]
      ]
    ]
  ]
]

reverse_texts : (ts : List (List ℕ)) → AreTexts ts → AreTexts (reverse ts)
reverse_texts [] h = tt
reverse_texts (t ∷ ts) h = subst AreTexts (sym (reverse-append (t ∷ []) ts)) (both (reverse ts) (reverse_texts ts h.1))
  where
    both : (xs : List (List ℕ)) → AreTexts xs → AreTexts (xs ++ t ∷ [])
    both [] g = (h.0, tt)
    both (x ∷ xs) g = (g.0, both xs g.1)

pub method_texts : (p : Program) (ty : IsTyped p) (m : ℕ) → IsMethod p m → AreTexts (reverse (parameters (method_at p m).descriptor))
method_texts p ty m h = reverse_texts (parameters (method_at p m).descriptor) (parameters_formed (method_at p m).descriptor (ty.linked.listed.method_names m h).1)

-- ---- values of texts

pub record Argument (p : Program) (w : World) (t : List ℕ) (v : Value) : Type 0 where
  pub type : VType
  pub is_type : types_of t ≡ type ∷ []
  pub plain : HasPlain p w type v
  pub range : IsInRange p w v

abbrev pub Arguments : Program → World → List (List ℕ) → List Value → Type 0
Arguments p w [] [] = Unit {0}
Arguments p w (t ∷ ts) (v ∷ vs) = Argument p w t v × Arguments p w ts vs
Arguments p w _ _ = ⊥

arguments_append : (p : Program) (w : World) (ts us : List (List ℕ)) (vs ws : List Value) → Arguments p w ts vs → Arguments p w us ws → Arguments p w (ts ++ us) (vs ++ ws)
arguments_append p w [] us [] ws h g = g
arguments_append p w (t ∷ ts) us (v ∷ vs) ws h g = (h.0, arguments_append p w ts us vs ws h.1 g)
arguments_append p w _ us _ ws h g = absurd h

pub arguments_reverse : (p : Program) (w : World) (ts : List (List ℕ)) (vs : List Value) → Arguments p w ts vs → Arguments p w (reverse ts) (reverse vs)
arguments_reverse p w [] [] h = tt
arguments_reverse p w (t ∷ ts) (v ∷ vs) h =
    subst (λ (xs : List (List ℕ)). Arguments p w xs (reverse (v ∷ vs))) (sym (reverse-append (t ∷ []) ts))
    (subst (λ (xs : List Value). Arguments p w (reverse ts ++ t ∷ []) xs) (sym (reverse-append (v ∷ []) vs))
    (arguments_append p w (reverse ts) (t ∷ []) (reverse vs) (v ∷ []) (arguments_reverse p w ts vs h.1) (h.0, tt)))
arguments_reverse p w _ _ h = absurd h

-- ---- taking arguments off the operands

pub record Taken (p : Program) (w : World) (e : Environment) (ns : List OperandConstraint) (start rest : List VType) (texts : List (List ℕ)) (vs : List Value) : Type 0 where
  pub args : List Value
  pub below : List Value
  pub types : List VType
  pub split : vs ≡ args ++ below
  pub count : length args ≡ length texts
  pub typed : Arguments p w texts args
  pub operands : Operands p w e ns types rest below
  pub dropped : drop (length (flat_map needs_of texts)) start ≡ types

drop_sum : (ns ms : List OperandConstraint) (ts : List VType) → drop (length (ns ++ ms)) ts ≡ drop (length ms) (drop (length ns) ts)
drop_sum [] ms ts = refl
drop_sum (n ∷ ns) ms [] = sym (drop-nil (length ms))
drop_sum (n ∷ ns) ms (t ∷ ts) = drop_sum ns ms ts

module _ (p : Program) (ty : IsTyped p) (w : World) (e : Environment) where
  more_taken : (ns : List OperandConstraint) (rest : List VType) (t : List ℕ) (texts : List (List ℕ)) (v : Value) (vs : List Value) (ts us : List VType) → Argument p w t v → drop (length (needs_of t)) ts ≡ us → Taken p w e ns us rest texts vs → Taken p w e ns ts rest (t ∷ texts) (v ∷ vs)
  more_taken ns rest t texts v vs ts us a d k = record { dropped = drop_sum (needs_of t) (flat_map needs_of texts) ts ∙ (ap (drop (length (flat_map needs_of texts))) d ∙ k.dropped); args = v ∷ k.args; below = k.below; types = k.types; split = ap {B = List Value} (λ xs. v ∷ xs) k.split; count = ap suc k.count; typed = (a, k.typed); operands = k.operands }

  one_fits : (u : VType) (ns : List OperandConstraint) (ts rest : List VType) (v : Value) (vs : List Value) → IsPop (Fits u) → Operands p w e (Fits u ∷ ns) ts rest (v ∷ vs) → (us : List VType) × Is p w e u v × Operands p w e ns us rest vs × (drop 1 ts ≡ us)
  one_fits u ns ts rest v vs i o = let x = popped p w e (Fits u) ns ts rest v vs i o in (x.below, is_fits p ty.linked w e x.type u v x.met x.is, x.operands, ap (drop 1) x.seen)

  never_met : (ns : List OperandConstraint) (ts rest : List VType) (vs : List Value) → Operands p w e (Never ∷ ns) ts rest vs → ⊥
  never_met ns [] rest vs o = let q : suc (length ns) ≤ 0 = o.enough in omega arith
  never_met ns (t ∷ ts) rest vs o = let q : false ≡ true = (and_parts false (meet_all p ns ts) o.met).0 in cc

  pub take_args : (texts : List (List ℕ)) → AreTexts texts → (ns : List OperandConstraint) (ts rest : List VType) (vs : List Value) → Operands p w e (flat_map needs_of texts ++ ns) ts rest vs → Taken p w e ns ts rest texts vs
  take_args [] k ns ts rest vs o = record { args = []; below = vs; types = ts; split = refl; count = refl; typed = tt; operands = o; dropped = refl }
  take_args (t ∷ texts) k ns ts rest vs o = by (sort_of_text t k.0) vs o (λ us ws q. take_args texts k.1 ns us rest ws q)
    where
      as_needs : (xs : List OperandConstraint) (vs : List Value) → needs_of t ≡ xs → Operands p w e (flat_map needs_of (t ∷ texts) ++ ns) ts rest vs → Operands p w e ((xs ++ flat_map needs_of texts) ++ ns) ts rest vs
      as_needs xs vs q o = subst (λ (ys : List OperandConstraint). Operands p w e ((ys ++ flat_map needs_of texts) ++ ns) ts rest vs) q o

      by : SortOfText t → (vs : List Value) → Operands p w e (flat_map needs_of (t ∷ texts) ++ ns) ts rest vs
          → ((us : List VType) (ws : List Value) → Operands p w e (flat_map needs_of texts ++ ns) us rest ws → Taken p w e ns us rest texts ws) → Taken p w e ns ts rest (t ∷ texts) vs
      by (int_text q g) [] o f = absurd (none_there p w e (Fits Int) (flat_map needs_of texts ++ ns) ts rest (as_needs (Fits Int ∷ []) [] q o))
      by (int_text q g) (v ∷ ws) o f =
          let x = one_fits Int (flat_map needs_of texts ++ ns) ts rest v ws tt (as_needs (Fits Int ∷ []) (v ∷ ws) q o) in
          more_taken ns rest t texts v ws ts x.0 (record { type = Int; is_type = g; plain = plain_int v x.1; range = x.1.range }) (ap (λ (ys : List OperandConstraint). drop (length ys) ts) q ∙ x.3) (f x.0 ws x.2)
      by (object_text a q g) [] o f = absurd (none_there p w e (Fits (Object a)) (flat_map needs_of texts ++ ns) ts rest (as_needs (Fits (Object a) ∷ []) [] q o))
      by (object_text a q g) (v ∷ ws) o f =
          let x = one_fits (Object a) (flat_map needs_of texts ++ ns) ts rest v ws tt (as_needs (Fits (Object a) ∷ []) (v ∷ ws) q o) in
          more_taken ns rest t texts v ws ts x.0 (record { type = Object a; is_type = g; plain = x.1.type; range = x.1.range }) (ap (λ (ys : List OperandConstraint). drop (length ys) ts) q ∙ x.3) (f x.0 ws x.2)
      by (long_text q g) [] o f = absurd (none_there p w e Half (Fits Long ∷ (flat_map needs_of texts ++ ns)) ts rest (as_needs (Half ∷ Fits Long ∷ []) [] q o))
      by (long_text q g) (v ∷ ws) o f =
          let x = long_popped p w e (flat_map needs_of texts ++ ns) ts rest v ws (as_needs (Half ∷ Fits Long ∷ []) (v ∷ ws) q o) in
          more_taken ns rest t texts v ws ts x.below (record { type = Long; is_type = g; plain = plain_long v x.is; range = x.is.range }) (ap (λ (ys : List OperandConstraint). drop (length ys) ts) q ∙ ap (drop 2) x.seen) (f x.below ws x.operands)
      by (never_text xs q) vs o f = absurd (never_met (xs ++ flat_map needs_of texts ++ ns) ts rest vs (as_needs (Never ∷ xs) vs q o))

-- ---- the locals of a method that is entered

-- values slot by slot
pub text_slots : (p : Program) (w : World) (e : Environment) (ts : List (List ℕ)) (vs : List Value) → Arguments p w ts vs → HaveTypes p w e (spread (flat_map types_of ts)) (slots_of vs)
text_slots p w e [] [] h = tt
text_slots p w e (t ∷ ts) (v ∷ vs) h = subst (λ (xs : List VType). HaveTypes p w e (spread (xs ++ flat_map types_of ts)) (slots_of (v ∷ vs))) (sym h.0.is_type) (by h.0.type v h.0.plain (text_slots p w e ts vs h.1))
  where
    by : (x : VType) (v : Value) → HasPlain p w x v → HaveTypes p w e (spread (flat_map types_of ts)) (slots_of vs) → HaveTypes p w e (spread (x ∷ flat_map types_of ts)) (slots_of (v ∷ vs))
    by Int (value.Int n) q r = (tt, r)
    by Long (value.Long n) q r = (tt, (tt, r))
    by (Object a) value.Null q r = (q, r)
    by (Object a) (value.Lit n) q r = (q, r)
    by (Object a) (value.Obj n) q r = (q, r)
    by _ _ q r = absurd q
text_slots p w e _ _ h = absurd h

slots_range : (p : Program) (w : World) (vs : List Value) → Ranged p w vs → Ranged p w (slots_of vs)
slots_range p w [] h = tt
slots_range p w (value.Int n ∷ vs) h = (tt, slots_range p w vs h.1)
slots_range p w (value.Long n ∷ vs) h = (tt, (tt, slots_range p w vs h.1))
slots_range p w (value.Null ∷ vs) h = (tt, slots_range p w vs h.1)
slots_range p w (value.Lit n ∷ vs) h = (h.0, slots_range p w vs h.1)
slots_range p w (value.Obj n ∷ vs) h = (h.0, slots_range p w vs h.1)

nulls_range : (p : Program) (w : World) (n : ℕ) (vs : List Value) → Ranged p w vs → Ranged p w (vs ++ replicate n value.Null)
nulls_range p w zero [] h = tt
nulls_range p w (suc n) [] h = (tt, nulls_range p w n [] tt)
nulls_range p w n (v ∷ vs) h = (h.0, nulls_range p w n vs h.1)

more_tops : (p : Program) (w : World) (e : Environment) (n : ℕ) (ts : List VType) (vs : List Value) → HaveTypes p w e ts vs → HaveTypes p w e (ts ++ replicate n Top) (vs ++ replicate n value.Null)
more_tops p w e zero [] [] h = tt
more_tops p w e (suc n) [] [] h = (tt, more_tops p w e n [] [] tt)
more_tops p w e n (t ∷ ts) (v ∷ vs) h = (h.0, more_tops p w e n ts vs h.1)
more_tops p w e n _ _ h = absurd h

filled_types : (p : Program) (w : World) (e : Environment) (n : ℕ) (ts : List VType) (vs : List Value) → HaveTypes p w e ts vs → HaveTypes p w e (padded n ts) (filled n vs)
filled_types p w e n ts vs h = subst (λ (k : ℕ). HaveTypes p w e (padded n ts) (vs ++ replicate (n - k) value.Null)) (as_many p w e ts vs h) (more_tops p w e (n - length ts) ts vs h)

-- the types, slot by slot, of what a method is entered with
abbrev pub EntersWith : Program → World → ℕ → List Value → Type 0
EntersWith p w m vs = (e : Environment) → e.class ≡ (method_at p m).class → HaveTypes p w e (spread (entry_types p (method_at p m))) (slots_of vs)

pub record EnteredFrame (p : Program) (w : World) (b : Body) (m : ℕ) (vs : List Value) : Type 0 where
  pub goes : Goes p w (frame_of b m vs)
  pub range : Ranged p w (filled b.max_locals (slots_of vs))

some_of : {A : Type 0} (o : Option A) → is_some o ≡ true → (x : A) × (o ≡ Some x)
some_of None e = absurd (cc)
some_of (Some x) e = (x, refl)

-- the frame of a method that is entered with values of its types
pub entered_frame : (p : Program) (ty : IsTyped p) (w : World) (m : ℕ) (b : Body) (vs : List Value) → (method_at p m).body ≡ Some b → EntersWith p w m vs → Ranged p w vs → EnteredFrame p w b m vs
entered_frame p ty w m b vs hb h g =
    let gs = some_of (given_frames p (method_at p m)) ((typed_method p ty m b hb).frames b hb) in
    let e = environment_of p (method_at p m) b gs.0 in
    let r : Ranged p w (filled b.max_locals (slots_of vs)) = nulls_range p w (b.max_locals - length (slots_of vs)) (slots_of vs) (slots_range p w vs g) in
    let ls : Locals p w e (opening e).locals (filled b.max_locals (slots_of vs)) = record { types = filled_types p w e b.max_locals (spread (entry_types p (method_at p m))) (slots_of vs) (h e refl); range = r } in
    record { goes = arrived_first p ty m b gs.0 hb gs.1 w (filled b.max_locals (slots_of vs)) ls nothing_held; range = r }

-- ---- operands by type, for built-in methods

pub takes_args : (p : Program) (w : World) (ts : List (List ℕ)) (vs ws : List Value) → Arguments p w ts vs → Takes p w (flat_map types_of ts) (vs ++ ws) ws
takes_args p w [] [] ws h = refl
takes_args p w (t ∷ ts) (v ∷ vs) ws h = subst (λ (xs : List VType). Takes p w (xs ++ flat_map types_of ts) (v ∷ vs ++ ws) ws) (sym h.0.is_type) (h.0.plain, h.0.range, takes_args p w ts vs ws h.1)
takes_args p w _ _ ws h = absurd h

pub takes_append : (p : Program) (w : World) (ts us : List VType) (vs xs ws : List Value) → Takes p w ts vs xs → Takes p w us xs ws → Takes p w (ts ++ us) vs ws
takes_append p w [] us vs xs ws h g = subst (λ (ys : List Value). Takes p w us ys ws) (sym h) g
takes_append p w (t ∷ ts) us [] xs ws h g = absurd h
takes_append p w (t ∷ ts) us (v ∷ vs) xs ws h g = (h.0, h.1, takes_append p w ts us vs xs ws h.2 g)

-- each text has one type, so their order may be turned before or after
pub one_each_reverse : (p : Program) (w : World) (ts : List (List ℕ)) (vs : List Value) → Arguments p w ts vs → flat_map types_of (reverse ts) ≡ reverse (flat_map types_of ts)
one_each_reverse p w [] [] h = refl
one_each_reverse p w (t ∷ ts) (v ∷ vs) h =
    ap (flat_map types_of) (reverse-append (t ∷ []) ts) ∙ (flat_map-append types_of (reverse ts) (t ∷ []) ∙ (ap (λ (xs : List VType). xs ++ (types_of t ++ [])) (one_each_reverse p w ts vs h.1)
    ∙ (ap (λ (xs : List VType). reverse (flat_map types_of ts) ++ (xs ++ [])) h.0.is_type ∙ (sym (reverse-append (h.0.type ∷ []) (flat_map types_of ts)) ∙ ap (λ (xs : List VType). reverse (xs ++ flat_map types_of ts)) (sym h.0.is_type)))))
one_each_reverse p w _ _ h = absurd h
