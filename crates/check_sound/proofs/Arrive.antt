-- In a typed program no rule is broken at a frame, and where an instruction leads a frame stands.
use Rattle.std.proofs.Common.{◌≡◌, ℕ, zero, suc, ◌+◌, ◌-◌, ◌<◌, ◌≤◌, List, [], ◌∷◌, ◌++◌, length, drop, map, Bool, true, false, ◌&&◌, ◌||◌, not, cond, nat_eq, nat_lt, nat_le, Option, Some, None, IfSome, slice_get, get_or, refl, sym, ◌∙◌, ap, subst, arith, inl, inr, is_some, is_none, add-one}
use Rattle.std.specs.List.{list_any, list_all, position_from}
use Rattle.std.specs.Prelude.{flat_map}
use Rattle.std.proofs.lemmas.Bool.{and_parts, cases_Bool, cases_lt, ltb-false, eqb-true, ltb-true, leb-true, or_left, or_right}
use Rattle.std.proofs.lemmas.List.{length-append, length-drop, length-reverse, get_or_past, Folds.list_any-append}
use Rattle.std.specs.Prelude.{reverse}
use Rattle.check_sound.proofs.{Wide.turned_length, Held.Locals, Held.Held, Held.locals_fit, Held.held_fits}
use Rattle.std.proofs.lemmas.Option.{slice_get-get_or, slice_get_within, get_or_from_slice_get}
use Rattle.jvm_model.specs.declared.{values.Value.Value, state.EntryKind.TheVariants.InMethod, program.Program.Program, program.MethodRec.MethodRec}
use Rattle.jvm_model.specs.declared.instr.Instr.TheVariants as form
use Rattle.jvm_model.specs.{declared.program.Body.Body, declared.program.Placed.Placed, World.World, Builtin.builtin_count}
use Rattle.jvm_model.specs.{Library.builtin_defs, Library.builtin_classes, Library.builtin_methods, Linked.IsBody, Linked.IsPlace, Linked.count}
use Rattle.jvm_model.specs.Classes.{no_class, no_method, class_at, method_at, form_at, next_place}
use Rattle.jvm_model.proofs.Places as places
use Rattle.jvm_model.proofs.BuiltinRules.{class_keeps, method_keeps}
use Rattle.type_frames.specs.{declared.vtype.Frame.Frame, declared.stack_effect.StackEffect.StackEffect, Frames.Slots, Frames.slots_of, Frames.index_of}
use Rattle.type_frames.specs.{Given.given_frames, StackEffect.sides, TypedState.Goes}
use Rattle.type_frames.specs.Environment.{Environment, environment_of, given_at, is_target, leads, targets}
use Rattle.type_frames.specs.Rules.{turned, is_sound, all_made, rule_1, rule_2, rule_3, rule_4, rule_5, rule_6, rule_7, rule_9, rule_10, rule_11, Test, first_broken, tests, broken, after, opening, fits_given, fits_at, fits_next, slots_fit}
use Rattle.type_frames.specs.Typing.{passed_on, taken_by, incoming, before, breach_of, judged, breach_at, IsTypedMethod, IsTyped}

-- ---- all rules are kept

pub record Kept (p : Program) (e : Environment) (k : ℕ) (x : Placed) (f : Slots) (s : StackEffect) : Type 0 where
  pub one : rule_1 e f s ≡ true
  pub two : rule_2 p f s ≡ true
  pub three : rule_3 p e f s ≡ true
  pub four : rule_4 p e k x f s ≡ true
  pub five : rule_5 e k s ≡ true
  pub six : rule_6 s ≡ true
  pub seven : rule_7 s ≡ true
  pub nine : rule_9 p e x f ≡ true
  pub ten : rule_10 e k ≡ true
  pub eleven : rule_11 s ≡ true

abbrev AreKept : List Test → Type 0
AreKept [] = Unit {0}
AreKept (t ∷ ts) = (t.kept ≡ true) × AreKept ts

are_kept : (ts : List Test) → first_broken ts ≡ None → AreKept ts
are_kept [] e = tt
are_kept (t ∷ ts) e = by t.kept refl e (are_kept ts)
  where
    by : (b : Bool) → t.kept ≡ b → elim b as (λ x. Option ℕ) [ true ↦ first_broken ts | false ↦ Some t.rule ] ≡ None → (first_broken ts ≡ None → AreKept ts) → AreKept (t ∷ ts)
    by true q e k = (q, k e)
    by false q e k = absurd (cc)

all_kept : (p : Program) (e : Environment) (k : ℕ) (x : Placed) (f : Slots) (s : StackEffect) → broken p e k x f s ≡ None → Kept p e k x f s
unfolding broken
all_kept p e k x f s n =
    let a = are_kept (tests p e k x f s) n in
    record { one = a.0; two = a.1.0; three = a.1.1.0; four = a.1.1.1.0; five = a.1.1.1.1.0; six = a.1.1.1.1.1.0; seven = a.1.1.1.1.1.1.0; nine = a.1.1.1.1.1.1.1.0; ten = a.1.1.1.1.1.1.1.1.0; eleven = a.1.1.1.1.1.1.1.1.1.0 }

no_breach : (o : Option ℕ) → breach_of o ≡ None → o ≡ None
no_breach None e = refl
no_breach (Some r) e = absurd (cc)

-- ---- each method with code is of a given class

bodiless : list_all (λ m. is_none m.body) builtin_methods ≡ true
unfolding builtin_methods builtin_defs
bodiless = refl

pub own_methods : list_all (λ c. list_all (λ x. nat_lt x 102) c.methods) builtin_classes ≡ true
unfolding builtin_classes builtin_defs
own_methods = refl

pub counted_at : (n : ℕ) (xs : List ℕ) → count n xs ≡ 1 → (k : ℕ) × (slice_get xs k ≡ Some n)
counted_at n [] e = absurd (cc)
counted_at n (x ∷ xs) e = elim (cases_Bool (nat_eq n x)) [
  | inl q ↦ (0, ap {B = Option ℕ} (λ y. Some y) (sym (eqb-true n x q)))
  | inr q ↦ let r = counted_at n xs (rw q at e) in (suc r.0, r.1)
]

pub slice_get_drop : {X : Type 0} (xs : List X) (n k : ℕ) → slice_get (drop n xs) k ≡ slice_get xs (n + k)
slice_get_drop xs zero k = let z : 0 + k ≡ k = omega arith in ap (slice_get xs) (sym z)
slice_get_drop [] (suc n) k = refl
slice_get_drop (x ∷ xs) (suc n) k = let z : suc n + k ≡ suc (n + k) = omega arith in slice_get_drop xs n k ∙ ap (slice_get (x ∷ xs)) (sym z)

no_body : {A : Type 0} {b : A} (o : Option A) → is_none o ≡ true → o ≡ Some b → ⊥
no_body None e q = cc
no_body (Some x) e q = cc

pub all_at_index : (f : ℕ → Bool) (xs : List ℕ) (k n : ℕ) → list_all f xs ≡ true → slice_get xs k ≡ Some n → f n ≡ true
all_at_index f [] k n e q = absurd (cc)
all_at_index f (x ∷ xs) zero n e q = let z : x ≡ n = cc in subst (λ (y : ℕ). f y ≡ true) z (and_parts _ _ e).0
all_at_index f (x ∷ xs) (suc k) n e q = all_at_index f xs k n (and_parts _ _ e).1 q

pub has_number : (p : Program) (n : ℕ) (b : Body) → (method_at p n).body ≡ Some b → n < length p.methods
has_number p n b e = elim (cases_lt n (length p.methods)) [ inl l ↦ l | inr g ↦ absurd (let z : None ≡ Some b = sym (ap (λ (m : MethodRec). m.body) (get_or_past p.methods n no_method g)) ∙ e in cc) ]

module _ (p : Program) (ty : IsTyped p) where
  pub typed_method : (n : ℕ) (b : Body) → (method_at p n).body ≡ Some b → IsTypedMethod p (method_at p n)
  typed_method n b e =
      let lk = ty.linked in
      let h = has_number p n b e in
      let c = (method_at p n).class in
      let i = lk.numbers.methods n h in
      let k = counted_at n (class_at p c).methods (lk.listed.methods n h) in
      elim (cases_Bool (nat_lt c builtin_count)) [
        | inl q ↦ absurd (
            let m = ltb-true n 102 (all_at_index (λ x. nat_lt x 102) (class_at p c).methods k.0 n (class_keeps p lk.builtins (λ c. list_all (λ x. nat_lt x 102) c.methods) own_methods c (ltb-true c builtin_count q)) k.1) in
            no_body (method_at p n).body (method_keeps p lk.builtins (λ m. is_none m.body) bodiless n m) e)
        | inr q ↦ by c q i k
      ]
    where
      by : (c : ℕ) → nat_lt c builtin_count ≡ false → c < length p.classes → ((k : ℕ) × (slice_get (class_at p c).methods k ≡ Some n)) → IsTypedMethod p (method_at p n)
      by c q i k =
          let d : c ≡ builtin_count + (c - builtin_count) = (let z = ltb-false c builtin_count q in omega arith) in
          ty.methods (c - builtin_count) k.0 n (class_at p c) (slice_get_drop p.classes builtin_count (c - builtin_count) ∙ (ap (slice_get p.classes) (sym d) ∙ slice_get-get_or p.classes c no_class i)) k.1

-- ---- arriving

any_place : (n k : ℕ) (ns : List ℕ) → list_any (λ m. nat_eq m n) ns ≡ true → is_some (position_from (λ m. nat_eq m n) k ns) ≡ true
any_place n k [] e = absurd (cc)
any_place n k (x ∷ ns) e = by (nat_eq x n) e (any_place n (k + 1) ns)
  where
    by : (b : Bool) → (b || list_any (λ m. nat_eq m n) ns) ≡ true → (list_any (λ m. nat_eq m n) ns ≡ true → is_some (position_from (λ m. nat_eq m n) (k + 1) ns) ≡ true) → is_some (cond b (Some k) (position_from (λ m. nat_eq m n) (k + 1) ns)) ≡ true
    by true e f = refl
    by false e f = f e

pub any_append_left : (n : ℕ) (xs ys : List ℕ) → list_any (λ m. nat_eq m n) xs ≡ true → list_any (λ m. nat_eq m n) (xs ++ ys) ≡ true
any_append_left n xs ys e = list_any-append (λ m. nat_eq m n) xs ys ∙ or_left (list_any (λ m. nat_eq m n) xs) (list_any (λ m. nat_eq m n) ys) e

pub any_append_right : (n : ℕ) (xs ys : List ℕ) → list_any (λ m. nat_eq m n) ys ≡ true → list_any (λ m. nat_eq m n) (xs ++ ys) ≡ true
any_append_right n xs ys e = list_any-append (λ m. nat_eq m n) xs ys ∙ or_right (list_any (λ m. nat_eq m n) xs) (list_any (λ m. nat_eq m n) ys) e

leads_in : (to : ℕ) (code : List Placed) (k : ℕ) (x : Placed) → slice_get code k ≡ Some x → list_any (λ m. nat_eq m to) (leads x.form) ≡ true → list_any (λ m. nat_eq m to) (flat_map (λ y. leads y.form) code) ≡ true
leads_in to [] k x e l = absurd (cc)
leads_in to (y ∷ code) zero x e l = let s : y ≡ x = cc in any_append_left to (leads y.form) (flat_map (λ z. leads z.form) code) (subst (λ (z : Placed). list_any (λ m. nat_eq m to) (leads z.form) ≡ true) (sym s) l)
leads_in to (y ∷ code) (suc k) x e l = any_append_right to (leads y.form) (flat_map (λ z. leads z.form) code) (leads_in to code k x e l)

pub leads_target : (e : Environment) (to k : ℕ) (x : Placed) → slice_get e.body.code k ≡ Some x → list_any (λ m. nat_eq m to) (leads x.form) ≡ true → is_target e to ≡ true
unfolding is_target index_of
leads_target e to k x s l = any_place to 0 (targets e.body) (any_append_left to (flat_map (λ y. leads y.form) e.body.code) (map (λ h. h.at) e.body.handlers) (leads_in to e.body.code k x s l))

pub handler_target : (e : Environment) (to : ℕ) → list_any (λ m. nat_eq m to) (map (λ h. h.at) e.body.handlers) ≡ true → is_target e to ≡ true
unfolding is_target index_of
handler_target e to l = any_place to 0 (targets e.body) (any_append_right to (flat_map (λ y. leads y.form) e.body.code) (map (λ h. h.at) e.body.handlers) l)

pub or_second : (a b : Bool) → a ≡ true → (not a || b) ≡ true → b ≡ true
or_second true b e h = h
or_second false b e h = absurd (cc)

-- the instruction at a place of the code
pub placed_at : (b : Body) (to : ℕ) → IsPlace b to → (k : ℕ) × (x : Placed) × (slice_get b.code k ≡ Some x) × (x.pc ≡ to)
placed_at b to h =
    let d : Placed = record { pc = 0; form = form.Nop } in
    let i = places.index_of b.code to d h in
    (i.index, get_or b.code i.index d, slice_get-get_or b.code i.index d i.within, i.place)

module _ (p : Program) (ty : IsTyped p) (n : ℕ) (b : Body) (gs : List Frame) (hc : (method_at p n).body ≡ Some b) (hf : given_frames p (method_at p n) ≡ Some gs) where
  abbrev pub env : Environment
  env = environment_of p (method_at p n) b gs

  breach_free : (k : ℕ) (x : Placed) → slice_get b.code k ≡ Some x → judged p env k x (before p env k x.pc) ≡ None
  unfolding breach_at
  breach_free k x s = (typed_method p ty n b hc).each b gs k x hc hf s

  pub kept_at : (k : ℕ) (x : Placed) (f : Slots) → slice_get b.code k ≡ Some x → before p env k x.pc ≡ Some f → Kept p env k x f (sides p env x.pc f x.form)
  kept_at k x f s e = all_kept p env k x f (sides p env x.pc f x.form) (no_breach _ (subst (λ (o : Option Slots). judged p env k x o ≡ None) e (breach_free k x s)))

  pub some_frame : (k : ℕ) (x : Placed) → slice_get b.code k ≡ Some x → before p env k x.pc ≡ None → ⊥
  some_frame k x s e = let q : judged p env k x None ≡ None = subst (λ (o : Option Slots). judged p env k x o ≡ None) e (breach_free k x s) in cc

  pub is_body : IsBody b
  is_body = subst (λ (o : Option Body). IfSome o (λ x. IsBody x)) hc (ty.linked.bodies n (has_number p n b hc))

  -- the instruction, and the place of the next one
  pub form_here : (k : ℕ) (x : Placed) → slice_get b.code k ≡ Some x → form_at p n x.pc ≡ Some x.form
  form_here k x s =
      let g = get_or_from_slice_get b.code k x x s in
      subst (λ (y : Placed). form_at p n y.pc ≡ Some y.form) g (places.form_at_index p n b k x hc is_body.ascending (slice_get_within b.code k x s))

  pub next_here : (k : ℕ) (x y : Placed) → slice_get b.code k ≡ Some x → slice_get b.code (k + 1) ≡ Some y → next_place p n x.pc ≡ y.pc
  next_here k x y s t =
      let g = get_or_from_slice_get b.code k x x s in
      let h = get_or_from_slice_get b.code (k + 1) y x t in
      subst (λ (z : Placed). next_place p n z.pc ≡ y.pc) g (places.next_place_index p n b k x hc is_body.ascending (slice_get_within b.code k x s)
      ∙ (places.place_beyond_next b.code b.length k x (slice_get_within b.code (k + 1) y t) ∙ ap (λ (z : Placed). z.pc) h))

  module _ (w : World) where
    -- values that have the types that come to a place have those of the frame there
    arrived : (k : ℕ) (x : Placed) (f : Slots) (ls vs : List Value) → slice_get b.code k ≡ Some x → fits_given p env f (given_at env x.pc) ≡ true → (given_at env x.pc ≡ None → (before p env k x.pc ≡ Some f) × (length f.stack ≤ b.max_stack)) → Locals p w env f.locals ls → Held p w env f.stack vs
        → Goes p w (record { kind = InMethod; number = n; pc = x.pc; stack = vs; locals = ls })
    arrived k x f ls vs s e none hl hv = by (given_at env x.pc) refl
      where
        given_fits : (g : Frame) → is_sound env g ≡ true → length (reverse g.stack) ≤ b.max_stack
        given_fits g h =
            let q = and_parts (nat_le (length g.stack) b.max_stack) (all_made env g.locals && all_made env g.stack) (and_parts (nat_le (length g.locals) b.max_locals) (nat_le (length g.stack) b.max_stack && (all_made env g.locals && all_made env g.stack)) h).1 in
            let n = leb-true (length g.stack) b.max_stack q.0 in
            let l = length-reverse g.stack in omega arith

        given_there : (g : Frame) → given_at env x.pc ≡ Some g → before p env k x.pc ≡ Some (slots_of g)
        given_there g q = ap (λ (o : Option Frame). elim o [ Some g ↦ Some (slots_of g) | None ↦ cond (is_target env x.pc) None (incoming p env k) ]) q

        by : (o : Option Frame) → given_at env x.pc ≡ o → Goes p w (record { kind = InMethod; number = n; pc = x.pc; stack = vs; locals = ls })
        by None q = record { stands = record { body = b; given = gs; index = k; instruction = x; types = f; fits = (none q).1; has_code = hc; has_frames = hf; there = s; place = refl; known = (none q).0; locals = hl.types }; operands = hv.types }
        by (Some g) q =
            let h : fits_given p env f (Some g) ≡ true = subst (λ (o : Option Frame). fits_given p env f o ≡ true) q e in
            let l = and_parts _ _ (and_parts _ _ h).1 in
            let r = and_parts _ _ l.1 in
            record {
              stands = record { body = b; given = gs; index = k; instruction = x; types = slots_of g; fits = given_fits g (and_parts (is_sound env g) (slots_fit p f (slots_of g)) h).0; has_code = hc; has_frames = hf; there = s; place = refl; known = given_there g q; locals = (locals_fit p ty.linked w env f.locals g.locals ls l.0 hl).types };
              operands = (held_fits p ty.linked w env f.stack (slots_of g).stack vs r.0 hv).types;
            }

    none_given : (k : ℕ) (pc : ℕ) → given_at env pc ≡ None → before p env k pc ≡ cond (is_target env pc) None (incoming p env k)
    none_given k pc q = ap (λ (o : Option Frame). elim o [ Some g ↦ Some (slots_of g) | None ↦ cond (is_target env pc) None (incoming p env k) ]) q

    -- at a target
    pub arrived_at : (k : ℕ) (x : Placed) (f : Slots) (ls vs : List Value) → slice_get b.code k ≡ Some x → is_target env x.pc ≡ true → fits_at p env f x.pc ≡ true → Locals p w env f.locals ls → Held p w env f.stack vs
        → Goes p w (record { kind = InMethod; number = n; pc = x.pc; stack = vs; locals = ls })
    arrived_at k x f ls vs s t e hl hv = arrived k x f ls vs s e (λ q. absurd (some_frame k x s (none_given k x.pc q ∙ ap (λ (c : Bool). cond c None (incoming p env k)) t))) hl hv

    came : (k : ℕ) (x : Placed) (f : Slots) → slice_get b.code k ≡ Some x → before p env k x.pc ≡ Some f → (sides p env x.pc f x.form).falls ≡ true → incoming p env (k + 1) ≡ Some (after f (sides p env x.pc f x.form))
    unfolding incoming
    came k x f s e fl =
        ap (incoming p env) (add-one k)
        ∙ (ap (λ (o : Option Placed). passed_on p env (taken_by env o (incoming p env k)) o) s
        ∙ (ap (λ (o : Option Slots). passed_on p env o (Some x)) e
        ∙ ap (λ (c : Bool). cond c (Some (after f (sides p env x.pc f x.form))) None) fl))

    -- at the next place
    pub arrived_next : (k : ℕ) (x : Placed) (f : Slots) (ls vs : List Value) → slice_get b.code k ≡ Some x → before p env k x.pc ≡ Some f → (sides p env x.pc f x.form).falls ≡ true
        → Locals p w env (after f (sides p env x.pc f x.form)).locals ls → Held p w env (after f (sides p env x.pc f x.form)).stack vs
        → Goes p w (record { kind = InMethod; number = n; pc = next_place p n x.pc; stack = vs; locals = ls })
    arrived_next k x f ls vs s e fl hl hv =
        let q = kept_at k x f s e in
        let lt = ltb-true (k + 1) (length b.code) (or_second _ _ fl q.five) in
        let y = get_or b.code (k + 1) x in
        let t = slice_get-get_or b.code (k + 1) x lt in
        let g = subst (λ (o : Option Placed). fits_next p env (after f (sides p env x.pc f x.form)) o ≡ true) t (or_second _ _ fl (and_parts _ _ (and_parts _ _ q.four).1).1) in
        subst (λ (pc : ℕ). Goes p w (record { kind = InMethod; number = n; pc = pc; stack = vs; locals = ls })) (sym (next_here k x y s t))
        (arrived (k + 1) y (after f (sides p env x.pc f x.form)) ls vs t g (λ z. (on (is_target env y.pc) refl z, after_fits)) hl hv)
      where
        after_fits : length (after f (sides p env x.pc f x.form)).stack ≤ b.max_stack
        after_fits =
            let o = sides p env x.pc f x.form in
            let r = leb-true _ _ (and_parts (nat_le (length o.takes) (length f.stack)) (nat_le (length o.gives + (length f.stack - length o.takes)) b.max_stack) (kept_at k x f s e).one).1 in
            let l = length-append o.gives (turned o.turn (drop (length o.takes) f.stack)) in
            let t = turned_length o.turn (drop (length o.takes) f.stack) in
            let d = length-drop (length o.takes) f.stack in omega arith

        on : (c : Bool) → is_target env (get_or b.code (k + 1) x).pc ≡ c → given_at env (get_or b.code (k + 1) x).pc ≡ None → before p env (k + 1) (get_or b.code (k + 1) x).pc ≡ Some (after f (sides p env x.pc f x.form))
        on true t z = absurd (
            let q = kept_at k x f s e in
            let lt = ltb-true (k + 1) (length b.code) (or_second _ _ fl q.five) in
            some_frame (k + 1) (get_or b.code (k + 1) x) (slice_get-get_or b.code (k + 1) x lt) (none_given (k + 1) (get_or b.code (k + 1) x).pc z ∙ ap (λ (c : Bool). cond c None (incoming p env (k + 1))) t))
        on false t z = none_given (k + 1) (get_or b.code (k + 1) x).pc z ∙ (ap (λ (c : Bool). cond c None (incoming p env (k + 1))) t ∙ came k x f s e fl)

    -- at the head of the method
    first_in : incoming p env 0 ≡ Some (opening env)
    unfolding incoming
    first_in = refl

    pub arrived_first : (ls : List Value) → Locals p w env (opening env).locals ls → Held p w env [] [] → Goes p w (record { kind = InMethod; number = n; pc = 0; stack = []; locals = ls })
    arrived_first ls hl hv =
        let d : Placed = record { pc = 0; form = form.Nop } in
        let x = get_or b.code 0 d in
        let s = slice_get-get_or b.code 0 d is_body.some in
        subst (λ (pc : ℕ). Goes p w (record { kind = InMethod; number = n; pc = pc; stack = []; locals = ls })) is_body.first
        (arrived 0 x (opening env) ls [] s (enters x s (before p env 0 x.pc) refl) (λ z. (on x s (is_target env x.pc) refl z, omega arith)) hl hv)
      where
        enters : (x : Placed) → slice_get b.code 0 ≡ Some x → (o : Option Slots) → before p env 0 x.pc ≡ o → fits_given p env (opening env) (given_at env x.pc) ≡ true
        enters x s None q = absurd (some_frame 0 x s q)
        enters x s (Some f) q = (and_parts _ _ (kept_at 0 x f s q).four).0

        on : (x : Placed) → slice_get b.code 0 ≡ Some x → (c : Bool) → is_target env x.pc ≡ c → given_at env x.pc ≡ None → before p env 0 x.pc ≡ Some (opening env)
        on x s true t z = absurd (some_frame 0 x s (none_given 0 x.pc z ∙ ap (λ (c : Bool). cond c None (incoming p env 0)) t))
        on x s false t z = none_given 0 x.pc z ∙ (ap (λ (c : Bool). cond c None (incoming p env 0)) t ∙ first_in)
