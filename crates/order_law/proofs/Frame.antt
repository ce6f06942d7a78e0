-- The frame law for one program of accesses and its partner.
use Rattle.std.proofs.Common.{◌≡◌, ℕ, ◌+◌, ◌≤◌, true, false, List, ◌∷◌, refl, sym, ◌∙◌, ap, subst, inl, inr, arith}
use Rattle.std.proofs.lemmas.Bool.{and_parts, and_from, lt-ltb, ltb-true, cases_eq, or_left, or_right, or_cases}
use Rattle.jvm_model.specs.declared.values.{Location.Location, Touch.Touch}
use Rattle.jvm_model.specs.World.{Object, World, size, at, put, make_object, has, same}
use Rattle.jvm_model.specs.Access.{Access, done, read, write, make, spend, write_of, run}
use Rattle.jvm_model.proofs.Locations.{same_refl, size_put, size_make, IsOf, is_of_cases}
use Rattle.order_law.specs.{Exposed.exposed, Frame.Agree, Frame.MadePaired, Frame.Forward, Frame.Alike}
use Rattle.order_law.specs.Pairing.{Matching, OneToOne, PairedLocation, statics, inits, heads, at_field, at_elem, texts, files, props, PairedContent, no_more, one_more, Paired, both_done, both_read, both_write, both_make, both_spend}
use Rattle.order_law.proofs.Pairs.{after_write, after_make, made_paired, made_other, given-paired, writes-paired}

pub grows : {A : Type 0} (a : Access A) (w : World) → size w ≤ size (run a w).world
grows (done a) w = omega arith
grows (read L k) w = grows (k (at w L)) w
grows (write L c rest) w = omega (arith, grows rest (put w L c), size_put w L c)
grows (make h k) w = omega (arith, grows (k (size w)) (make_object w h), size_make w h)
grows (spend n rest) w = grows rest w

-- behind a write of another location it is exposed still
exposed_later : (L M : Location) (ts : List Touch) → same M L ≡ false → exposed ts M ≡ true → exposed (write_of L ∷ ts) M ≡ true
exposed_later L M ts n e = rw (n, e)

has_forward : (m : Matching) (w v : World) → Forward m w v → {L M : Location} → PairedLocation m L M → has w L ≡ true → has v M ≡ true
has_forward m w v fw (heads {a} {b} p) h = lt-ltb b (size v) (fw a b p (ltb-true a (size w) h))
has_forward m w v fw (texts {a} {b} p) h = lt-ltb b (size v) (fw a b p (ltb-true a (size w) h))
has_forward m w v fw (at_field {a} {b} p q) h = lt-ltb b (size v) (fw a b p (ltb-true a (size w) h))
has_forward m w v fw (at_elem {a} {b} i p) h = lt-ltb b (size v) (fw a b p (ltb-true a (size w) h))
has_forward m w v fw _ h = refl

forward_made : (m : Matching) → OneToOne m.place → (w v : World) (h h' : Object) → m.place (size w) (size v) → Forward m w v → Forward m (make_object w h) (make_object v h')
forward_made m op w v h h' pl fw a b p lt =
    let sw = size_make w h in
    let sv = size_make v h' in
    elim (cases_eq a (size w)) [
      | inl e ↦ let g : b ≡ size v = op.from_left _ _ _ (subst (λ (x : ℕ). m.place x b) e p) pl in omega arith
      | inr n ↦ let z = fw a b p (omega arith) in omega arith
    ]

module _ (m : Matching) (op : OneToOne m.place) (of : OneToOne m.fields) (oc : OneToOne m.class) where
  pub frame : {A B : Type 0} {R : A → B → Type 0} {a : Access A} {b : Access B} → Paired m R a b → (w v : World) → (run a w).sound ≡ true → Forward m w v →
      MadePaired m (size w) (size v) (size (run a w).world) → Agree m (run a w).touches w v → Alike m R w v (run a w) (run b v)
  frame (both_done r) w v ok fw mp ag = record { sound = refl; value = r; touches = no_more; units = refl; sizes = omega arith; worlds = λ L M p h. elim h [ inl e ↦ absurd (cc) | inr c ↦ c ] }
  frame (both_read {L} {L'} {k} {k'} p f) w v ok fw mp ag =
      let c = ag L L' p (or_left (same L L) _ (same_refl L)) in
      let h = and_parts (has w L) _ ok in
      let r = frame (f (at w L) (at v L') c) w v h.1 fw mp (λ M M' q e. ag M M' q (or_right (same M L) _ e)) in
      record {
        sound = and_from (has v L') _ (has_forward m w v fw p h.0) r.sound;
        value = r.value;
        touches = one_more (record { write = refl; location = p; gave = given-paired m op of oc p (at w L) (at v L') c }) r.touches;
        units = r.units;
        sizes = r.sizes;
        worlds = r.worlds;
      }
  frame (both_write {L} {L'} {c} {d} {r} {r'} p pc h) w v ok fw mp ag =
      let hs = and_parts (has w L) _ ok in
      let there = (λ (M : Location) (M' : Location) (q : PairedLocation m M M') (g : same M L ≡ false → PairedContent m M M' (at w M) (at v M')).
      after_write m op of oc w v L L' M M' c d p hs.0 (has_forward m w v fw p hs.0) pc q g) in
      let sw = size_put w L c in
      let sv = size_put v L' d in
      let x = frame h (put w L c) (put v L' d) hs.1 (λ a b y lt. let z = fw a b y (omega arith) in omega arith)
      (λ i j lo hi e. mp i j (omega arith) hi (omega arith))
      (λ M M' q e. there M M' q (λ n. ag M M' q (exposed_later L M _ n e))) in
      record {
        sound = and_from (has v L') _ (has_forward m w v fw p hs.0) x.sound;
        value = x.value;
        touches = one_more (writes-paired m op of oc p) x.touches;
        units = x.units;
        sizes = omega (arith, x.sizes);
        worlds = λ M M' q g. x.worlds M M' q (elim g [
          | inl e ↦ elim (or_cases (same M L) _ e) [
            | inl y ↦ inr (there M M' q (λ n. absurd (cc)))
            | inr y ↦ inl y
          ]
          | inr y ↦ inr (there M M' q (λ n. y))
        ]);
      }
  frame (both_make {x = h} {y = h'} {k} {k'} ph f) w v ok fw mp ag =
      let sw = size_make w h in
      let sv = size_make v h' in
      let pl : m.place (size w) (size v) = mp (size w) (size v) (omega arith) (omega (arith, grows (k (size w)) (make_object w h))) (omega arith) in
      let there = (λ (M : Location) (M' : Location) (q : PairedLocation m M M') (g : (IsOf M (size w) → ⊥) → PairedContent m M M' (at w M) (at v M')).
      after_make m op of oc w v h h' M M' ph pl q g) in
      let ts : List Touch = (run (k (size w)) (make_object w h)).touches in
      let x = frame (f (size w) (size v) pl) (make_object w h) (make_object v h') ok (forward_made m op w v h h' pl fw)
      (λ i j lo hi e. mp i j (omega arith) hi (omega arith))
      (λ M M' q e. there M M' q (λ n. ag M M' q ((made_other (size w) h ts M n).1 ∙ e))) in
      record {
        sound = x.sound;
        value = x.value;
        touches = made_paired m op of oc pl ph x.touches;
        units = x.units;
        sizes = omega (arith, x.sizes);
        worlds = λ M M' q g. x.worlds M M' q (elim (is_of_cases M (size w)) [
          | inl o ↦ inr (there M M' q (λ n. absurd (n o)))
          | inr n ↦ elim g [ inl e ↦ inl (sym (made_other (size w) h ts M n).0 ∙ e) | inr y ↦ inr (there M M' q (λ _. y)) ]
        ]);
      }
  frame (both_spend n {r} {r'} h) w v ok fw mp ag =
      let r = frame h w v ok fw mp ag in
      record { sound = r.sound; value = r.value; touches = r.touches; units = ap (λ (x : ℕ). n + x) r.units; sizes = r.sizes; worlds = r.worlds }
