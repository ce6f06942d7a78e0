-- In a linked program a test has a walk to each earlier object of which it touches something. Each reference in its state is
-- of a new object or was given by a read, and a read gives it from a static or from a cell of an object that it had.
use Rattle.std.proofs.Common.{◌≡◌, ◌⊎◌, ℕ, zero, suc, ◌≤◌, List, [], ◌∷◌, ◌++◌, true, cond, nat_eq, get_or, refl, sym, ◌∙◌, ap, subst, inl, inr, arith, Option, Some, None}
use Rattle.std.proofs.lemmas.{Bool.cases_Bool, Bool.eqb-true, Bool.eq-eqb, Bool.and_parts, List.append_assoc, Option.same_Some}
use Rattle.jvm_model.specs.declared.{values.Value.Value, values.Location.Location, values.Touch.Touch, program.Program.Program}
use Rattle.jvm_model.specs.declared.values.Value.TheVariants.{Int, Long, Null, Lit, Obj}
use Rattle.jvm_model.specs.declared.values.Location.TheVariants as place
use Rattle.jvm_model.specs.World.{Object, World, Content, size, at, put, make_object, has, same, place_of, part, look, no_object}
use Rattle.jvm_model.specs.Access.{Access, read_of, write_of, given, given_by, made, fields_made, elems_made, text_made, run}
use Rattle.jvm_model.specs.{State.test_at, Suite.tree, Suite.Given, Linked.Linked}
use Rattle.jvm_model.proofs.Locations.{same_true, same_false, at_put_same, at_put_other, size_put, size_make, IsOf, is_of_cases, at_make_new, at_make_other, at_past}
use Rattle.order_law.specs.Pairing.{Matching, OneToOne, PairedList, no_more, one_more, PairedValue, ints, longs, nulls, literals, objects, PairedLocation, statics, inits, heads, at_field, at_elem, texts, files, props, PairedContent, PairedCell, PairedObject, Paired, both_done, both_read, both_write, both_make, both_spend}
use Rattle.order_law.specs.{Numbers.same_numbers, Numbers.with_places, Conflicts.Member, Matched.PairedTest}
use Rattle.order_law.specs.Walk.{gives, is_given, first_giving, Walk, from_static, through, WalkLaw}
use Rattle.order_law.proofs.{Same.self_kind, Same.self_matched, Steps.tree-paired, FrameLaw.ran_as, Walks.walk_one}

-- the first read that gives an object, in longer lists
first_at : (ts : List Touch) (x : Touch) (us : List Touch) (o : ℕ) → first_giving ts o ≡ None → gives x o ≡ true → first_giving (ts ++ (x ∷ us)) o ≡ Some x
first_at [] x us o e g = rw g refl
first_at (t ∷ ts) x us o e g = elim (cases_Bool (gives t o)) [
  | inl h ↦ let z : Some t ≡ None = sym (rw h refl) ∙ e in absurd (cc)
  | inr h ↦ rw h (first_at ts x us o (sym (rw h refl) ∙ e) g)
]

first_of_one : (ts : List Touch) (x : Touch) (o : ℕ) (y : Touch) → first_giving (ts ++ (x ∷ [])) o ≡ Some y → (first_giving ts o ≡ Some y) ⊎ (gives x o ≡ true)
first_of_one [] x o y e = elim (cases_Bool (gives x o)) [
  | inl h ↦ inr h
  | inr h ↦ let z : None ≡ Some y = sym (rw h refl) ∙ e in absurd (cc)
]
first_of_one (t ∷ ts) x o y e = elim (cases_Bool (gives t o)) [
  | inl h ↦ inl (rw h (sym (rw h refl) ∙ e))
  | inr h ↦ elim (first_of_one ts x o y (sym (rw h refl) ∙ e)) [ inl k ↦ inl (rw h k) | inr k ↦ inr k ]
]

-- touches that are writes
abbrev pub AllWrites : List Touch → Type 0
AllWrites [] = Unit {0}
AllWrites (x ∷ ts) = (x.write ≡ true) × AllWrites ts

writes_give : (us : List Touch) (o : ℕ) → AllWrites us → first_giving us o ≡ None
writes_give [] o a = refl
writes_give (x ∷ us) o a = rw a.0 (writes_give us o a.1)

first_before : (ts us : List Touch) (o : ℕ) → AllWrites us → first_giving (ts ++ us) o ≡ first_giving ts o
first_before [] us o a = writes_give us o a
first_before (t ∷ ts) us o a = ap (λ (z : Option Touch). cond (gives t o) (Some t) z) (first_before ts us o a)

writes_append : (ts us : List Touch) → AllWrites ts → AllWrites us → AllWrites (ts ++ us)
writes_append [] us a b = b
writes_append (x ∷ ts) us a b = (a.0, writes_append ts us a.1 b)

fields_write : (o : ℕ) (xs : List (ℕ × Value)) → AllWrites (fields_made o xs)
fields_write o [] = tt
fields_write o (x ∷ xs) = (refl, fields_write o xs)

elems_write : (o i : ℕ) (xs : List Value) → AllWrites (elems_made o i xs)
elems_write o i [] = tt
elems_write o i (x ∷ xs) = (refl, elems_write o (suc i) xs)

text_write : (o : ℕ) (t : Option (List ℕ)) → AllWrites (text_made o t)
text_write o None = tt
text_write o (Some t) = (refl, tt)

made_write : (o : ℕ) (x : Object) → AllWrites (made o x)
made_write o x = (refl, writes_append (fields_made o x.fields) _ (fields_write o x.fields) (writes_append (elems_made o 0 x.elems) _ (elems_write o 0 x.elems) (text_write o x.text)))

-- the run's touches are T, and it began with `base` objects
module _ (base : ℕ) (T : List Touch) where
  -- an object is new or has a walk
  abbrev pub Known : ℕ → Type 0
  Known a = (base ≤ a) ⊎ ((xs : List Touch) × Walk T a xs)

  abbrev pub Itself : ℕ → ℕ → Type 0
  Itself a b = (a ≡ b) × Known a

  pub one_itself : OneToOne Itself
  one_itself = record { from_left = λ a b c x y. sym x.0 ∙ y.0; from_right = λ a b c x y. x.0 ∙ sym y.0 }

  abbrev m : Matching
  m = with_places same_numbers Itself

  -- all references in a content are known
  abbrev Fits : (L : Location) → Content L → Type 0
  Fits L c = PairedContent m L L c c

  left_value : {v w : Value} → PairedValue m v w → PairedValue m v v
  left_value (ints n) = ints n
  left_value (longs n) = longs n
  left_value nulls = nulls
  left_value (literals {n = n} e) = literals (eq-eqb n n refl)
  left_value (objects {a} {b} r) = objects (refl, r.1)

  -- a value whose reference is known
  known_value : (v : Value) → ((o : ℕ) → given_by v ≡ Some o → Known o) → PairedValue m v v
  known_value (Int n) h = ints n
  known_value (Long n) h = longs n
  known_value Null h = nulls
  known_value (Lit n) h = literals (eq-eqb n n refl)
  known_value (Obj o) h = objects (refl, h o refl)

  value_known : {v w : Value} → PairedValue m v w → (o : ℕ) → is_given (given_by v) o ≡ true → Known o
  value_known (ints n) o e = absurd (cc)
  value_known (longs n) o e = absurd (cc)
  value_known nulls o e = absurd (cc)
  value_known (literals {n = n} r) o e = absurd (cc)
  value_known (objects {a} {b} r) o e = subst (λ (z : ℕ). Known z) (eqb-true a o e) r.1

  left_content : {L M : Location} → PairedLocation m L M → (c : Content L) (d : Content M) → PairedContent m L M c d → Fits L c
  left_content (statics e) c d r = left_value r
  left_content (heads p) c d r = record { kind = self_kind c.kind; length = refl }
  left_content (at_field p e) c d r = left_value r
  left_content (at_elem i p) c d r = left_value r
  left_content _ c d r = refl

  right_content : {L M : Location} → PairedLocation m L M → (c : Content L) → Fits L c → (d : Content M) × PairedContent m L M c d
  right_content (statics e) c r = (c, r)
  right_content _ c r = (c, r)

  place_known : {L M : Location} → PairedLocation m L M → (o : ℕ) → place_of L ≡ Some o → Known o
  place_known (heads {a} p) o h = subst (λ (z : ℕ). Known z) (same_Some _ _ h) p.1
  place_known (at_field {a} p e) o h = subst (λ (z : ℕ). Known z) (same_Some _ _ h) p.1
  place_known (at_elem {a} i p) o h = subst (λ (z : ℕ). Known z) (same_Some _ _ h) p.1
  place_known (texts {a} p) o h = subst (λ (z : ℕ). Known z) (same_Some _ _ h) p.1
  place_known _ o h = absurd (cc)

  -- what new objects hold is known
  abbrev Held : World → Type 0
  Held w = (L : Location) (o : ℕ) → IsOf L o → base ≤ o → Fits L (at w L)

  -- so is what these touches gave
  abbrev AllKnown : List Touch → Type 0
  AllKnown ts = (o : ℕ) (x : Touch) → first_giving ts o ≡ Some x → Known o

  -- each touched object is known
  abbrev pub Met : List Touch → Type 0
  Met [] = Unit {0}
  Met (x ∷ ts) = ((o : ℕ) → place_of x.location ≡ Some o → Known o) × Met ts

  met_append : (ts us : List Touch) → Met ts → Met us → Met (ts ++ us)
  met_append [] us a b = b
  met_append (x ∷ ts) us a b = (a.0, met_append ts us a.1 b)

  read_gives : (L : Location) (c : Content L) (o : ℕ) → given L c ≡ Some o → gives (read_of L c) o ≡ true
  read_gives L c o e = rw e (eq-eqb o o refl)

  -- a read that gives an object that no earlier one gave
  module _ (ts rest : List Touch) (known : AllKnown ts) where
    first_read : (L : Location) (c : Content L) → T ≡ ts ++ (read_of L c ∷ rest) → (o : ℕ) → given L c ≡ Some o → (first_giving T o ≡ Some (read_of L c) → Known o) → Known o
    first_read L c t o e f = elim (known_or (first_giving ts o) refl) [
      | inl k ↦ known o k.0 k.1
      | inr k ↦ f (ap (λ (z : List Touch). first_giving z o) t ∙ first_at ts (read_of L c) rest o k (read_gives L c o e))
    ]
      where
        known_or : (y : Option Touch) → first_giving ts o ≡ y → ((x : Touch) × (first_giving ts o ≡ Some x)) ⊎ (first_giving ts o ≡ None)
        known_or None h = inr h
        known_or (Some x) h = inl (x, h)

    read_fits : {L M : Location} → PairedLocation m L M → (w : World) → Held w → T ≡ ts ++ (read_of L (at w L) ∷ rest) → Fits L (at w L)
    read_fits (statics {f} e) w held t = known_value (at w (place.Static f)) (λ o g. first_read (place.Static f) (at w (place.Static f)) t o g (λ h. inr (_, from_static h refl)))
    read_fits (heads {a} p) w held t = record { kind = self_kind (at w (place.Head a)).kind; length = refl }
    read_fits (at_field {a} {b} {f} p e) w held t = elim p.1 [
      | inl own ↦ held (place.Field a f) a refl own
      | inr walk ↦ known_value (at w (place.Field a f)) (λ o g. first_read (place.Field a f) (at w (place.Field a f)) t o g (λ h. inr (_, through h refl walk.1)))
    ]
    read_fits (at_elem {a} {b} i p) w held t = elim p.1 [
      | inl own ↦ held (place.Elem a i) a refl own
      | inr walk ↦ known_value (at w (place.Elem a i)) (λ o g. first_read (place.Elem a i) (at w (place.Elem a i)) t o g (λ h. inr (_, through h refl walk.1)))
    ]
    read_fits _ w held t = refl

  -- what a read gives is known
  read_known : {L M : Location} → PairedLocation m L M → (c : Content L) → Fits L c → (o : ℕ) → gives (read_of L c) o ≡ true → Known o
  read_known (statics e) c r o g = value_known r o g
  read_known (at_field p e) c r o g = value_known r o g
  read_known (at_elem i p) c r o g = value_known r o g
  read_known _ c r o g = absurd (cc)

  given_read : (ts : List Touch) {L M : Location} → PairedLocation m L M → (c : Content L) → Fits L c → AllKnown ts → AllKnown (ts ++ (read_of L c ∷ []))
  given_read ts {L} p c r known o x e = elim (first_of_one ts (read_of L c) o x e) [ inl h ↦ known o x h | inr h ↦ read_known p c r o h ]

  given_writes : (ts us : List Touch) → AllWrites us → AllKnown ts → AllKnown (ts ++ us)
  given_writes ts us a known o x e = known o x (sym (first_before ts us o a) ∙ e)

  held_put : (w : World) (L : Location) (c : Content L) → has w L ≡ true → Fits L c → Held w → Held (put w L c)
  held_put w L c there r held M o e own = elim (cases_Bool (same M L)) [
    | inl h ↦ subst (λ (z : Location). Fits z (at (put w L c) z)) (sym (same_true M L h)) (subst (λ (z : Content L). Fits L z) (sym (at_put_same w L c there)) r)
    | inr h ↦ subst (λ (z : Content M). Fits M z) (sym (at_put_other w L M c (same_false M L h))) (held M o e own)
  ]

  cells_known : {xs ys : List (ℕ × Value)} → PairedList (PairedCell m) xs ys → (f : ℕ) → PairedValue m (look nat_eq Null xs f) (look nat_eq Null xs f)
  cells_known no_more f = nulls
  cells_known (one_more {x = x} {xs = xs} r rs) f = elim (cases_Bool (nat_eq f x.0)) [
    | inl h ↦ rw h (left_value r.value)
    | inr h ↦ rw h (cells_known rs f)
  ]

  elems_known : {xs ys : List Value} → PairedList (PairedValue m) xs ys → (i : ℕ) → PairedValue m (get_or xs i Null) (get_or xs i Null)
  elems_known no_more i = nulls
  elems_known (one_more r rs) zero = left_value r
  elems_known (one_more r rs) (suc i) = elems_known rs i

  part_fits : {x y : Object} → PairedObject m x y → (L : Location) → Fits L (part x L)
  part_fits r (place.Static f) = nulls
  part_fits r (place.Init c) = refl
  part_fits {x} r (place.Head o) = record { kind = self_kind x.head.kind; length = refl }
  part_fits r (place.Field o f) = cells_known r.fields f
  part_fits r (place.Elem o i) = elems_known r.elems i
  part_fits r _ = refl

  held_make : (w : World) {x y : Object} → PairedObject m x y → Held w → Held (make_object w x)
  held_make w {x} r held M o e own = elim (is_of_cases M (size w)) [
    | inl h ↦ subst (λ (z : Content M). Fits M z) (sym (at_make_new w x M h)) (part_fits r M)
    | inr h ↦ subst (λ (z : Content M). Fits M z) (sym (at_make_other w x M h)) (held M o e own)
  ]

  -- all that making an object touches is of it
  fields_met : (o : ℕ) (xs : List (ℕ × Value)) → base ≤ o → Met (fields_made o xs)
  fields_met o [] h = tt
  fields_met o (x ∷ xs) h = (λ a e. inl (let g : o ≡ a = same_Some _ _ e in omega arith), fields_met o xs h)

  elems_met : (o i : ℕ) (xs : List Value) → base ≤ o → Met (elems_made o i xs)
  elems_met o i [] h = tt
  elems_met o i (x ∷ xs) h = (λ a e. inl (let g : o ≡ a = same_Some _ _ e in omega arith), elems_met o (suc i) xs h)

  text_met : (o : ℕ) (t : Option (List ℕ)) → base ≤ o → Met (text_made o t)
  text_met o None h = tt
  text_met o (Some t) h = (λ a e. inl (let g : o ≡ a = same_Some _ _ e in omega arith), tt)

  made_met : (o : ℕ) (x : Object) → base ≤ o → Met (made o x)
  made_met o x h = (
    λ a e. inl (let g : o ≡ a = same_Some _ _ e in omega arith),
    met_append (fields_made o x.fields) _ (fields_met o x.fields h) (met_append (elems_made o 0 x.elems) _ (elems_met o 0 x.elems h) (text_met o x.text h)),
  )

  pub all_met : {A B : Type 0} {R : A → B → Type 0} {a : Access A} {b : Access B} → Paired m R a b → (w : World) (ts : List Touch) → T ≡ ts ++ (run a w).touches → (run a w).sound ≡ true → base ≤ size w → Held w → AllKnown ts → Met (run a w).touches
  all_met (both_done r) w ts t ok low held known = tt
  all_met (both_read {L} {L'} {k} {k'} p f) w ts t ok low held known =
      let c : Content L = at w L in
      let r : Fits L (at w L) = read_fits ts (run (k (at w L)) w).touches known p w held t in
      let d = right_content p (at w L) r in (
        place_known p,
        all_met (f (at w L) d.0 d.1) w (ts ++ (read_of L (at w L) ∷ [])) (t ∙ sym (append_assoc ts (read_of L (at w L) ∷ []) _)) (and_parts (has w L) _ ok).1 low held (given_read ts p (at w L) r known),
      )
  all_met (both_write {L} {L'} {c} {d} {r} {r'} p pc h) w ts t ok low held known =
      let hs = and_parts (has w L) _ ok in
      let z = size_put w L c in (
        place_known p,
        all_met h (put w L c) (ts ++ (write_of L ∷ [])) (t ∙ sym (append_assoc ts (write_of L ∷ []) _)) hs.1 (omega arith) (held_put w L c hs.0 (left_content p c d pc) held)
            (given_writes ts (write_of L ∷ []) (refl, tt) known),
      )
  all_met (both_make {x} {y} {k} {k'} ph f) w ts t ok low held known =
      let z = size_make w x in
      met_append (made (size w) x) _ (made_met (size w) x low)
      (all_met (f (size w) (size w) (refl, inl low)) (make_object w x) (ts ++ made (size w) x) (t ∙ sym (append_assoc ts (made (size w) x) _)) ok (omega arith) (held_make w ph held)
      (given_writes ts (made (size w) x) (made_write (size w) x) known))
  all_met (both_spend n h) w ts t ok low held known = all_met h w ts t ok low held known

-- where nothing was made nothing is held
nothing_held : (base : ℕ) (T : List Touch) (w : World) → base ≡ size w → (L : Location) (o : ℕ) → IsOf L o → base ≤ o → PairedContent (with_places same_numbers (Itself base T)) L L (at w L) (at w L)
nothing_held base T w e L o i h = subst (λ (c : Content L). PairedContent (with_places same_numbers (Itself base T)) L L c c) (sym (at_past w L o i (omega arith))) (no_part L)
  where
    no_part : (L : Location) → PairedContent (with_places same_numbers (Itself base T)) L L (part no_object L) (part no_object L)
    no_part (place.Static f) = nulls
    no_part (place.Head o) = record { kind = self_kind no_object.head.kind; length = refl }
    no_part (place.Field o f) = nulls
    no_part (place.Elem o i) = nulls
    no_part _ = refl

met_at : (base : ℕ) (T ts : List Touch) (y : Touch) (o : ℕ) → Met base T ts → Member y ts → place_of y.location ≡ Some o → Known base T o
met_at base T [] y o m i e = absurd i
met_at base T (x ∷ ts) y o m (inl h) e = m.0 o (ap (λ (z : Touch). place_of z.location) (sym h) ∙ e)
met_at base T (x ∷ ts) y o m (inr i) e = met_at base T ts y o m.1 i e

-- all that the test touches is known
test_met : (p : Program) (w : World) (t b : ℕ) → Linked p → (run (tree p t b) w).sound ≡ true → Met (size w) (run (tree p t b) w).touches (run (tree p t b) w).touches
test_met p w t b linked ok =
    let T = (run (tree p t b) w).touches in
    let itself : PairedTest same_numbers (test_at p t) (test_at p t) = record { class = eq-eqb _ _ refl; method = eq-eqb _ _ refl; clock = refl; seed = refl } in
    all_met (size w) T
    (tree-paired (record { numbers = same_numbers; place = Itself (size w) T; one = one_itself (size w) T; left = p; right = p; matched = (self_matched p linked).code }) (self_matched p linked).starts t t b itself) w [] refl ok (omega arith)
    (nothing_held (size w) T w refl) (λ o x e. absurd (cc))

pub walk_law : WalkLaw
walk_law p w t b o x y linked e low i at_o =
    let r = run (tree p t b) w in
    let f = ran_as p w t b x e in
    let same_touches : r.touches ≡ x.touches = ap (λ (z : Given). z.touches) f.is in
    elim (met_at (size w) r.touches r.touches y o (test_met p w t b linked f.sound) (subst (λ (z : List Touch). Member y z) (sym same_touches) i) at_o) [
      | inl h ↦ absurd (omega arith)
      | inr k ↦ (k.0, subst (λ (z : List Touch). Walk z o k.0) same_touches k.1, λ ys v. walk_one x.touches v (subst (λ (z : List Touch). Walk z o k.0) same_touches k.1))
    ]
