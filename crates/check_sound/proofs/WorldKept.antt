-- A typed world stays typed over writes and new objects.
use Rattle.std.proofs.Common.{◌≡◌, ◌≢◌, ℕ, ◌<◌, [], length, true, refl, sym, ◌∙◌, ap, subst, inl, inr, arith, Some}
use Rattle.std.proofs.{lemmas.Bool.cases_Bool, lemmas.Option.same_Some, Math.Seq.get_or-append_seam}
use Rattle.jvm_model.specs.declared.values.{Kind.Kind, Head.Head, InitState.InitState, Location.Location}
use Rattle.jvm_model.specs.declared.values.Location.TheVariants as place
use Rattle.jvm_model.specs.{declared.program.Program.Program, Classes.field_at, Classes.member, Linked.IsKind, View.Exists, View.keys}
use Rattle.jvm_model.specs.World.{Content, Object, World, no_object, size, object_at, at, put, make_object, part, same}
use Rattle.jvm_model.proofs.Locations.{same_true, same_false, at_put_same, at_put_other, at_make_new, at_make_other, size_put, size_make, IsOf, is_of_cases}
use Rattle.jvm_model.proofs.{Bridges.exists_has, Standing.exists_put, Standing.exists_make}
use Rattle.type_frames.specs.TypedState.{kind_at, IsDeclared, element_text, TypedWorld}
use Rattle.check_sound.proofs.Tree.{IsSpot, FitsSpot, IsPlainSpot, IsNew, Over, Alike}
use Rattle.check_sound.proofs.Grow.{alike_over, alike_back, kind_over, declared_over}

-- all locations are there, and each holds what it should
pub record Whole (p : Program) (w : World) : Type 0 where
  pub there : (l : Location) → IsSpot p w l → Exists w l
  pub fits : (l : Location) → IsSpot p w l → FitsSpot p w l (at w l)

pub whole : (p : Program) (w : World) → TypedWorld p w → Whole p w
whole p w t = record { there = there; fits = fits }
  where
    there : (l : Location) → IsSpot p w l → Exists w l
    there (place.Static f) i = (t.statics f i).0
    there (place.Init c) i = t.states c i
    there (place.Field o f) i = (t.fields o i.0 f i.1 i.2 i.3).0
    there (place.Elem o k) i = (t.elements o i.0 k i.1 i.2 i.3 i.4).0
    there _ i = i

    fits : (l : Location) → IsSpot p w l → FitsSpot p w l (at w l)
    fits (place.Static f) i = (t.statics f i).1
    fits (place.Init c) i = refl
    fits (place.Head o) i = (refl, t.kinds o i)
    fits (place.Field o f) i = (t.fields o i.0 f i.1 i.2 i.3).1
    fits (place.Elem o k) i = subst (λ (x : Kind). IsDeclared p w (element_text p x) (at w (place.Elem o k))) (sym i.3) (t.elements o i.0 k i.1 i.2 i.3 i.4).1
    fits _ i = tt

pub typed_world : (p : Program) (w : World) → Whole p w → TypedWorld p w
typed_world p w t = record {
  statics = λ f i. (t.there (place.Static f) i, t.fits (place.Static f) i);
  states = λ c i. t.there (place.Init c) i;
  kinds = λ o i. (t.fits (place.Head o) i).1;
  fields = λ o c f i e m. (t.there (place.Field o f) (c, i, e, m), t.fits (place.Field o f) (c, i, e, m));
  elements = λ o d k b i e h. (
    t.there (place.Elem o k) (d, b, i, e, h),
    subst (λ (x : Kind). IsDeclared p w (element_text p x) (at w (place.Elem o k))) e (t.fits (place.Elem o k) (d, b, i, e, h)),
  );
}

module _ (p : Program) where
  -- a location of a world is one of a world over it
  pub spot_over : (u w : World) → Over u w → (l : Location) → IsSpot p u l → IsSpot p w l
  spot_over u w g (place.Head o) i = let s = g.sizes in omega arith
  spot_over u w g (place.Field o f) i = let s = g.sizes in let lt = i.1 in (i.0, omega arith, sym (kind_over p u w g o i.1) ∙ i.2, i.3)
  spot_over u w g (place.Elem o k) i = let s = g.sizes in let lt = i.2 in
      (i.0, i.1, omega arith, sym (kind_over p u w g o i.2) ∙ i.3, subst (λ (n : ℕ). k < n) (ap (λ (z : Head). z.length) (sym (g.heads o i.2))) i.4)
  spot_over u w g (place.Text o) i = let s = g.sizes in omega arith
  spot_over u w g _ i = i

  -- a content that is neither a head nor a state keeps its type
  pub plain_over : (u w : World) → Over u w → (l : Location) → IsPlainSpot l → IsSpot p u l → (c : Content l) → FitsSpot p u l c → FitsSpot p w l c
  plain_over u w g (place.Static f) n i v h = declared_over p u w g (field_at p f).descriptor v h
  plain_over u w g (place.Field o f) n i v h = declared_over p u w g (field_at p f).descriptor v h
  plain_over u w g (place.Elem o k) n i v h = declared_over p u w g (element_text p (kind_at w o)) v (subst (λ (x : Kind). IsDeclared p u (element_text p x) v) (kind_over p u w g o i.2) h)
  plain_over u w g (place.Init c) n i v h = absurd n
  plain_over u w g (place.Head o) n i v h = absurd n
  plain_over u w g _ n i v h = tt

  pub fits_alike : (u w : World) → Alike u w → (l : Location) → IsSpot p u l → (c : Content l) → FitsSpot p u l c → FitsSpot p w l c
  fits_alike u w a (place.Init c) i s h = h ∙ a.states c
  fits_alike u w a (place.Head o) i s h = (h.0 ∙ a.heads o, h.1)
  fits_alike u w a l i v h = plain_over u w (alike_over u w a) l tt i v h

  -- what stays at a location stays good
  kept_at : (u w : World) → Over u w → (l : Location) → IsSpot p u l → at w l ≡ at u l → FitsSpot p u l (at u l) → FitsSpot p w l (at w l)
  kept_at u w g (place.Init c) i e h = refl
  kept_at u w g (place.Head o) i e h = (refl, subst (λ (z : Head). IsKind p z.kind) (sym e) h.1)
  kept_at u w g l i e h = subst (λ (c : Content l). FitsSpot p w l c) (sym e) (plain_over u w g l tt i (at u l) h)

  apart : (l : Location) (o : ℕ) → IsPlainSpot l → same (place.Head o) l ≡ true → ⊥
  apart (place.Head a) o n e = absurd n
  apart _ o n e = absurd (cc)

  apart_state : (l : Location) (c : ℕ) → IsPlainSpot l → same (place.Init c) l ≡ true → ⊥
  apart_state (place.Init d) c n e = absurd n
  apart_state _ c n e = absurd (cc)

  other : (w : World) (l m : Location) (c : Content l) → (same m l ≡ true → ⊥) → at (put w l c) m ≡ at w m
  other w l m c n = elim (cases_Bool (same m l)) [
    | inl e ↦ absurd (n e)
    | inr e ↦ at_put_other w l m c (same_false m l e)
  ]

  -- a write to a plain location keeps heads and states
  pub put_alike : (w : World) (l : Location) (c : Content l) → IsPlainSpot l → Alike w (put w l c)
  put_alike w l c n = record {
    sizes = sym (size_put w l c);
    heads = λ o. sym (other w l (place.Head o) c (apart l o n));
    states = λ d. sym (other w l (place.Init d) c (apart_state l d n));
  }

  -- one of a state keeps heads
  pub mark_over : (w : World) (c : ℕ) (s : InitState) → Over w (put w (place.Init c) s)
  mark_over w c s = record { sizes = (let e = size_put w (place.Init c) s in omega arith); heads = λ o h. refl }

  put_whole : (w v : World) (l : Location) (c : Content l) → v ≡ put w l c → Over w v → Over v w → Whole p w → IsSpot p w l → (IsSpot p v l → FitsSpot p v l c) → Whole p v
  put_whole w v l c q g b t i f = record {
    there = λ m j. subst (λ (z : World). Exists z m) (sym q) (exists_put w l c m (t.there m (spot_over v w b m j)));
    fits = λ m j. elim (cases_Bool (same m l)) [
      | inl e ↦ let s = same_true m l e in
          subst (λ (z : Location). FitsSpot p v z (at v z)) (sym s)
          (subst (λ (d : Content l). FitsSpot p v l d) (sym (ap (λ (z : World). at z l) q ∙ at_put_same w l c (exists_has w l (t.there l i)))) (f (subst (λ (z : Location). IsSpot p v z) s j)))
      | inr e ↦ kept_at w v g m (spot_over v w b m j) (ap (λ (z : World). at z m) q ∙ at_put_other w l m c (same_false m l e)) (t.fits m (spot_over v w b m j))
    ];
  }

  pub world_put : (w : World) (l : Location) (c : Content l) → IsPlainSpot l → TypedWorld p w → IsSpot p w l → FitsSpot p w l c → TypedWorld p (put w l c)
  world_put w l c n t i h =
      let a = put_alike w l c n in
      let g = alike_over w (put w l c) a in
      let b = alike_over (put w l c) w (alike_back w (put w l c) a) in
      typed_world p (put w l c) (put_whole w (put w l c) l c refl g b (whole p w t) i (λ j. plain_over w (put w l c) g l n i c h))

  pub world_mark : (w : World) (c : ℕ) (s : InitState) → TypedWorld p w → c < length p.classes → TypedWorld p (put w (place.Init c) s)
  world_mark w c s t i =
      let v = put w (place.Init c) s in
      let e = size_put w (place.Init c) s in
      let b : Over v w = record { sizes = omega arith; heads = λ o h. refl } in
      typed_world p v (put_whole w v (place.Init c) s refl (mark_over w c s) b (whole p w t) i (λ j. sym (at_put_same w (place.Init c) s (exists_has w (place.Init c) ((whole p w t).there (place.Init c) i)))))

  -- one more object
  pub make_over : (w : World) (x : Object) → Over w (make_object w x)
  make_over w x = record {
    sizes = (let s = size_make w x in omega arith);
    heads = λ o h. at_make_other w x (place.Head o) (λ q. let e : o ≡ size w = same_Some _ _ q in omega arith);
  }

  before : (w : World) (x : Object) (o : ℕ) → (o ≡ size w → ⊥) → o < size (make_object w x) → o < size w
  before w x o n h = let s = size_make w x in let m : o ≢ size w = n in omega arith

  -- a place of the older objects
  older : (w : World) (x : Object) (l : Location) → (IsOf l (size w) → ⊥) → IsSpot p (make_object w x) l → IsSpot p w l
  older w x (place.Head o) n i = before w x o (λ e. n (ap Some e)) i
  older w x (place.Text o) n i = before w x o (λ e. n (ap Some e)) i
  older w x (place.Field o f) n i = let h = before w x o (λ e. n (ap Some e)) i.1 in (i.0, h, kind_over p w (make_object w x) (make_over w x) o h ∙ i.2, i.3)
  older w x (place.Elem o k) n i = let h = before w x o (λ e. n (ap Some e)) i.2 in
      (i.0, i.1, h, kind_over p w (make_object w x) (make_over w x) o h ∙ i.3, subst (λ (m : ℕ). k < m) (ap (λ (z : Head). z.length) ((make_over w x).heads o h)) i.4)
  older w x _ n i = i

  module _ (w : World) (x : Object) (t : TypedWorld p w) (d : IsNew p w x) where
    newest : (o : ℕ) → o ≡ size w → object_at (make_object w x) o ≡ x
    newest o e = rw e (get_or-append_seam w.objects x [] no_object)

    inside : (o : ℕ) → o ≡ size w → o < size (make_object w x)
    inside o e = let s = size_make w x in omega arith

    new_there : (l : Location) → IsOf l (size w) → IsSpot p (make_object w x) l → Exists (make_object w x) l
    new_there (place.Head a) o i = inside a (same_Some _ _ o)
    new_there (place.Text a) o i = inside a (same_Some _ _ o)
    new_there (place.Field a f) o i =
        let e = newest a (same_Some _ _ o) in
        let k = (d.fields i.0 f (sym (ap (λ (z : Object). z.head.kind) e) ∙ i.2) i.3).0 in
        (inside a (same_Some _ _ o), subst (λ (z : Object). member f (keys z.fields) ≡ true) (sym e) k)
    new_there (place.Elem a j) o i =
        let e = newest a (same_Some _ _ o) in
        let lt : j < x.head.length = subst (λ (z : Object). j < z.head.length) e i.4 in
        let k = (d.elems i.0 j i.1 (sym (ap (λ (z : Object). z.head.kind) e) ∙ i.3) lt).0 in
        (inside a (same_Some _ _ o), subst (λ (z : Object). j < length z.elems) (sym e) k)
    new_there _ o i = absurd (cc)

    new_fits : (l : Location) → IsOf l (size w) → IsSpot p (make_object w x) l → FitsSpot p (make_object w x) l (part x l)
    new_fits (place.Static f) o i = absurd (cc)
    new_fits (place.Init c) o i = absurd (cc)
    new_fits (place.Head a) o i = (sym (ap (λ (z : Object). z.head) (newest a (same_Some _ _ o))), d.is_kind)
    new_fits (place.Field a f) o i =
        let e = newest a (same_Some _ _ o) in
        declared_over p w (make_object w x) (make_over w x) (field_at p f).descriptor (part x (place.Field a f)) (d.fields i.0 f (sym (ap (λ (z : Object). z.head.kind) e) ∙ i.2) i.3).1
    new_fits (place.Elem a j) o i =
        let e = newest a (same_Some _ _ o) in
        let lt : j < x.head.length = subst (λ (z : Object). j < z.head.length) e i.4 in
        subst (λ (z : Object). IsDeclared p (make_object w x) (element_text p z.head.kind) (part x (place.Elem a j))) (sym e)
        (declared_over p w (make_object w x) (make_over w x) (element_text p x.head.kind) (part x (place.Elem a j)) (d.elems i.0 j i.1 (sym (ap (λ (z : Object). z.head.kind) e) ∙ i.3) lt).1)
    new_fits _ o i = tt

    fits_new : (l : Location) → IsOf l (size w) → IsSpot p (make_object w x) l → FitsSpot p (make_object w x) l (at (make_object w x) l)
    fits_new l o i = subst (λ (c : Content l). FitsSpot p (make_object w x) l c) (sym (at_make_new w x l o)) (new_fits l o i)

    pub world_make : TypedWorld p (make_object w x)
    world_make = typed_world p (make_object w x) (record {
      there = λ l i. elim (is_of_cases l (size w)) [
        | inl o ↦ new_there l o i
        | inr n ↦ exists_make w x l ((whole p w t).there l (older w x l n i))
      ];
      fits = λ l i. elim (is_of_cases l (size w)) [
        | inl o ↦ fits_new l o i
        | inr n ↦ kept_at w (make_object w x) (make_over w x) l (older w x l n i) (at_make_other w x l n) ((whole p w t).fits l (older w x l n i))
      ];
    })
