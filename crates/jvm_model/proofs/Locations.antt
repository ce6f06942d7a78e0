-- The laws of the world: what is at a location after a write and after an object was made.
use Rattle.std.proofs.Common.{◌≡◌, ◌≢◌, ◌⊎◌, ℕ, zero, suc, ◌≤◌, Bool, true, false, List, [], ◌∷◌, ◌++◌, length, get_or, set, refl, sym, ◌∙◌, ap, subst, inl, inr, arith, rules, eqb, nat_eq, Some, None, get_or-set_same}
use Rattle.std.proofs.lemmas.Bool.{cases_eq, cases_Bool, eqb-true, eq-eqb, and_parts, and_from, ltb-true, false_from_ne_true}
use Rattle.std.proofs.{lemmas.List.get_or_past, lemmas.Grind.common_steps, lemmas.Grind.elements, Math.Seq.get_or-append_seam}
use Rattle.jvm_model.specs.declared.values.{Value.TheVariants.Null, InitState.TheVariants.Idle, Location.Location}
use Rattle.jvm_model.specs.declared.values.Location.TheVariants as place
use Rattle.std.specs.Str.{bytes_eq}
use Rattle.et_base.proofs.Texts.{units_true, units_refl}
use Rattle.jvm_model.specs.World.{Content, Object, World, no_object, size, object_at, put_at, look, keep, text_or_empty, at, with_object, put, make_object, place_of, has, part, same}

pub same_true : (L M : Location) → same L M ≡ true → L ≡ M
same_true (place.Static f) (place.Static g) e = ap place.Static (eqb-true f g e)
same_true (place.Init f) (place.Init g) e = ap place.Init (eqb-true f g e)
same_true (place.Head f) (place.Head g) e = ap place.Head (eqb-true f g e)
same_true (place.Text f) (place.Text g) e = ap place.Text (eqb-true f g e)
same_true (place.File f) (place.File g) e = ap place.File (units_true f g e)
same_true (place.Prop f) (place.Prop g) e = ap place.Prop (units_true f g e)
same_true (place.Field a i) (place.Field b j) e = let p = and_parts (eqb a b) (eqb i j) e in let q = eqb-true a b p.0 in let r = eqb-true i j p.1 in cc
same_true (place.Elem a i) (place.Elem b j) e = let p = and_parts (eqb a b) (eqb i j) e in let q = eqb-true a b p.0 in let r = eqb-true i j p.1 in cc
same_true _ _ e = absurd (cc)

pub same_refl : (L : Location) → same L L ≡ true
same_refl (place.Static f) = eq-eqb f f refl
same_refl (place.Init f) = eq-eqb f f refl
same_refl (place.Head f) = eq-eqb f f refl
same_refl (place.Text f) = eq-eqb f f refl
same_refl (place.File n) = units_refl n
same_refl (place.Prop n) = units_refl n
same_refl (place.Field a i) = and_from (eqb a a) (eqb i i) (eq-eqb a a refl) (eq-eqb i i refl)
same_refl (place.Elem a i) = and_from (eqb a a) (eqb i i) (eq-eqb a a refl) (eq-eqb i i refl)

pub same_false : (L M : Location) → same L M ≡ false → L ≢ M
same_false L M e p = let q : same L M ≡ true = subst (λ N. same L N ≡ true) p (same_refl L) in cc

put_at_same : {A : Type 0} (d : A) (xs : List A) (i : ℕ) (v : A) → get_or (put_at d xs i v) i d ≡ v
put_at_same d [] zero v = refl
put_at_same d [] (suc i) v = put_at_same d [] i v
put_at_same d (x ∷ xs) zero v = refl
put_at_same d (x ∷ xs) (suc i) v = put_at_same d xs i v

put_at_other : {A : Type 0} (d : A) (xs : List A) (i j : ℕ) (v : A) → j ≢ i → get_or (put_at d xs i v) j d ≡ get_or xs j d
put_at_other d [] zero zero v n = absurd (n refl)
put_at_other d [] zero (suc j) v n = refl
put_at_other d [] (suc i) zero v n = refl
put_at_other d [] (suc i) (suc j) v n = put_at_other d [] i j v (λ e. n (ap suc e))
put_at_other d (x ∷ xs) zero zero v n = absurd (n refl)
put_at_other d (x ∷ xs) zero (suc j) v n = refl
put_at_other d (x ∷ xs) (suc i) zero v n = refl
put_at_other d (x ∷ xs) (suc i) (suc j) v n = put_at_other d xs i j v (λ e. n (ap suc e))

module _ {K : Type 0} (e : K → K → Bool) (e-true : (x y : K) → e x y ≡ true → x ≡ y) (e-refl : (x : K) → e x x ≡ true) where
  keep_same : {A : Type 0} (d : A) (xs : List (K × A)) (k : K) (v : A) → look e d (keep e xs k v) k ≡ v
  keep_same d [] k v = rw (e-refl k)
  keep_same d (x ∷ xs) k v = elim (cases_Bool (e k x.0)) [ inl b ↦ rw b (rw b) | inr b ↦ rw b (rw b (keep_same d xs k v)) ]

  keep_other : {A : Type 0} (d : A) (xs : List (K × A)) (k j : K) (v : A) → j ≢ k → look e d (keep e xs k v) j ≡ look e d xs j
  keep_other d [] k j v n = let b : e j k ≡ false = false_from_ne_true (e j k) (λ t. n (e-true j k t)) in rw b
  keep_other d (x ∷ xs) k j v n = elim (cases_Bool (e k x.0)) [
    | inl b ↦ let g : k ≡ x.0 = e-true k x.0 b in let c : e j x.0 ≡ false = false_from_ne_true (e j x.0) (λ t. n (e-true j x.0 t ∙ sym g)) in rw b (rw c)
    | inr b ↦ rw b (elim (cases_Bool (e j x.0)) [ inl c ↦ rw c | inr c ↦ rw c (keep_other d xs k j v n) ])
  ]

-- what stands at place b after place a was set
still : {X : Type 0} (view : Object → X) (xs : List Object) (a b : ℕ) (x : Object) → (a ≡ b → view x ≡ view (get_or xs b no_object)) → view (get_or (set xs a x) b no_object) ≡ view (get_or xs b no_object)
still view [] a b x e = refl
still view (y ∷ xs) zero zero x e = e refl
still view (y ∷ xs) zero (suc b) x e = refl
still view (y ∷ xs) (suc a) zero x e = refl
still view (y ∷ xs) (suc a) (suc b) x e = still view xs a b x (λ q. e (ap suc q))

-- an object that keeps its part at M keeps what stands at M, whichever object M is of
elsewhere : (w : World) (a : ℕ) (x : Object) (M : Location) → part x M ≡ part (object_at w a) M → at (with_object w a x) M ≡ at w M
elsewhere w a x (place.Head b) p = still (λ x. x.head) w.objects a b x (λ e. rw (← e) p)
elsewhere w a x (place.Field b g) p = still (λ x. look nat_eq Null x.fields g) w.objects a b x (λ e. rw (← e) p)
elsewhere w a x (place.Elem b g) p = still (λ x. get_or x.elems g Null) w.objects a b x (λ e. rw (← e) p)
elsewhere w a x (place.Text b) p = still (λ x. text_or_empty x.text) w.objects a b x (λ e. rw (← e) p)
elsewhere w a x _ p = refl

pub at_put_same : (w : World) (L : Location) (c : Content L) → has w L ≡ true → at (put w L c) L ≡ c
at_put_same w (place.Static f) c h = put_at_same Null w.statics f c
at_put_same w (place.Init f) c h = put_at_same Idle w.states f c
at_put_same w (place.Head o) c h = ap (λ (x : Object). x.head) (get_or-set_same w.objects o (record (object_at w o) { head = c }) no_object (ltb-true o (size w) h))
at_put_same w (place.Field o f) c h = ap (λ (x : Object). look nat_eq Null x.fields f) (get_or-set_same w.objects o (record (object_at w o) { fields = keep nat_eq (object_at w o).fields f c }) no_object (ltb-true o (size w) h)) ∙ keep_same nat_eq eqb-true (λ x. eq-eqb x x refl) Null (object_at w o).fields f c
at_put_same w (place.Elem o i) c h = ap (λ (x : Object). get_or x.elems i Null) (get_or-set_same w.objects o (record (object_at w o) { elems = put_at Null (object_at w o).elems i c }) no_object (ltb-true o (size w) h)) ∙ put_at_same Null (object_at w o).elems i c
at_put_same w (place.Text o) c h = ap (λ (x : Object). text_or_empty x.text) (get_or-set_same w.objects o (record (object_at w o) { text = Some c }) no_object (ltb-true o (size w) h))
at_put_same w (place.File n) c h = keep_same bytes_eq units_true units_refl None w.files n c
at_put_same w (place.Prop n) c h = keep_same bytes_eq units_true units_refl None w.props n c

pub at_put_other : (w : World) (L M : Location) (c : Content L) → M ≢ L → at (put w L c) M ≡ at w M
at_put_other w (place.Static f) (place.Static g) c n = put_at_other Null w.statics f g c (λ e. n (ap place.Static e))
at_put_other w (place.Init f) (place.Init g) c n = put_at_other Idle w.states f g c (λ e. n (ap place.Init e))
at_put_other w (place.File f) (place.File g) c n = keep_other bytes_eq units_true units_refl None w.files f g c (λ e. n (ap place.File e))
at_put_other w (place.Prop f) (place.Prop g) c n = keep_other bytes_eq units_true units_refl None w.props f g c (λ e. n (ap place.Prop e))
at_put_other w (place.Head a) (place.Head b) c n = still (λ x. x.head) w.objects a b _ (λ e. absurd (n (ap place.Head (sym e))))
at_put_other w (place.Text a) (place.Text b) c n = still (λ x. text_or_empty x.text) w.objects a b _ (λ e. absurd (n (ap place.Text (sym e))))
at_put_other w (place.Field a f) (place.Field b g) c n = still (λ x. look nat_eq Null x.fields g) w.objects a b _ (λ e. rw e (keep_other nat_eq eqb-true (λ x. eq-eqb x x refl) Null (object_at w b).fields f g c (λ q. n (let k : b ≡ a = sym e in cc))))
at_put_other w (place.Elem a f) (place.Elem b g) c n = still (λ x. get_or x.elems g Null) w.objects a b _ (λ e. rw e (put_at_other Null (object_at w b).elems f g c (λ q. n (let k : b ≡ a = sym e in cc))))
at_put_other w (place.Head a) M c n = elsewhere w a (record (object_at w a) { head = c }) M refl
at_put_other w (place.Text a) M c n = elsewhere w a (record (object_at w a) { text = Some c }) M refl
at_put_other w (place.Field a f) M c n = elsewhere w a (record (object_at w a) { fields = keep nat_eq (object_at w a).fields f c }) M refl
at_put_other w (place.Elem a f) M c n = elsewhere w a (record (object_at w a) { elems = put_at Null (object_at w a).elems f c }) M refl
at_put_other w _ _ c n = refl

pub size_put : (w : World) (L : Location) (c : Content L) → size (put w L c) ≡ size w
size_put w (place.Head o) c = search (rules, elements)
size_put w (place.Field o f) c = search (rules, elements)
size_put w (place.Elem o f) c = search (rules, elements)
size_put w (place.Text o) c = search (rules, elements)
size_put w _ c = refl

pub size_make : (w : World) (x : Object) → size (make_object w x) ≡ suc (size w)
size_make w x = grind (arith, common_steps, elements)

abbrev pub IsOf : Location → ℕ → Type 0
IsOf L n = place_of L ≡ Some n

of_number : (o n : ℕ) → (Some o ≡ Some n) ⊎ (Some o ≡ Some n → ⊥)
of_number o n = elim (cases_eq o n) [ inl e ↦ inl (ap Some e) | inr ne ↦ inr (λ e. ne (cc)) ]

object_make : (xs : List Object) (x : Object) (o : ℕ) → o ≢ length xs → get_or (xs ++ (x ∷ [])) o no_object ≡ get_or xs o no_object
object_make [] x zero ne = absurd (ne refl)
object_make [] x (suc o) ne = refl
object_make (y ∷ xs) x zero ne = refl
object_make (y ∷ xs) x (suc o) ne = object_make xs x o (λ e. ne (ap suc e))

pub at_make_other : (w : World) (x : Object) (L : Location) → (IsOf L (size w) → ⊥) → at (make_object w x) L ≡ at w L
at_make_other w x (place.Head o) n = ap (λ (y : Object). y.head) (object_make w.objects x o (λ e. n (ap Some e)))
at_make_other w x (place.Field o f) n = ap (λ (y : Object). look nat_eq Null y.fields f) (object_make w.objects x o (λ e. n (ap Some e)))
at_make_other w x (place.Elem o f) n = ap (λ (y : Object). get_or y.elems f Null) (object_make w.objects x o (λ e. n (ap Some e)))
at_make_other w x (place.Text o) n = ap (λ (y : Object). text_or_empty y.text) (object_make w.objects x o (λ e. n (ap Some e)))
at_make_other w x _ n = refl

-- the new object's parts, and where no object is
pub at_make_new : (w : World) (x : Object) (L : Location) → IsOf L (size w) → at (make_object w x) L ≡ part x L
at_make_new w x (place.Head o) e = let g : o ≡ size w = cc in rw g (ap (λ (y : Object). y.head) (get_or-append_seam w.objects x [] no_object))
at_make_new w x (place.Field o f) e = let g : o ≡ size w = cc in rw g (ap (λ (y : Object). look nat_eq Null y.fields f) (get_or-append_seam w.objects x [] no_object))
at_make_new w x (place.Elem o f) e = let g : o ≡ size w = cc in rw g (ap (λ (y : Object). get_or y.elems f Null) (get_or-append_seam w.objects x [] no_object))
at_make_new w x (place.Text o) e = let g : o ≡ size w = cc in rw g (ap (λ (y : Object). text_or_empty y.text) (get_or-append_seam w.objects x [] no_object))
at_make_new w x (place.Static f) e = absurd (cc)
at_make_new w x (place.Init f) e = absurd (cc)
at_make_new w x (place.File f) e = absurd (cc)
at_make_new w x (place.Prop f) e = absurd (cc)

pub at_past : (w : World) (L : Location) (o : ℕ) → IsOf L o → size w ≤ o → at w L ≡ part no_object L
at_past w (place.Head o) k e h = let g : o ≡ k = cc in ap (λ (y : Object). y.head) (get_or_past w.objects o no_object (omega arith))
at_past w (place.Field o f) k e h = let g : o ≡ k = cc in ap (λ (y : Object). look nat_eq Null y.fields f) (get_or_past w.objects o no_object (omega arith))
at_past w (place.Elem o f) k e h = let g : o ≡ k = cc in ap (λ (y : Object). get_or y.elems f Null) (get_or_past w.objects o no_object (omega arith))
at_past w (place.Text o) k e h = let g : o ≡ k = cc in ap (λ (y : Object). text_or_empty y.text) (get_or_past w.objects o no_object (omega arith))
at_past w (place.Static f) k e h = absurd (cc)
at_past w (place.Init f) k e h = absurd (cc)
at_past w (place.File f) k e h = absurd (cc)
at_past w (place.Prop f) k e h = absurd (cc)

pub is_of_cases : (L : Location) (n : ℕ) → IsOf L n ⊎ (IsOf L n → ⊥)
is_of_cases (place.Head o) n = of_number o n
is_of_cases (place.Field o f) n = of_number o n
is_of_cases (place.Elem o f) n = of_number o n
is_of_cases (place.Text o) n = of_number o n
is_of_cases (place.Static f) n = inr (λ e. cc)
is_of_cases (place.Init f) n = inr (λ e. cc)
is_of_cases (place.File f) n = inr (λ e. cc)
is_of_cases (place.Prop f) n = inr (λ e. cc)
