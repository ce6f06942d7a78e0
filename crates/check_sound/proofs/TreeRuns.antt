-- A typed program of accesses over a typed world meets only what is there, and leaves a typed world and a good answer.
use Rattle.std.proofs.Common.{◌≡◌, ℕ, suc, ◌<◌, true, get_or, nat_eq, refl, sym, ◌∙◌, ap, subst, inl, inr, arith, Some}
use Rattle.std.proofs.lemmas.Bool.{cases_Bool}
use Rattle.jvm_model.specs.declared.{values.Head.Head, values.InitState.InitState, values.Value.TheVariants.Null, program.Program.Program}
use Rattle.jvm_model.specs.declared.values.Location.TheVariants as place
use Rattle.jvm_model.specs.World.{World, Object, size, at, put, make_object, has, same, look}
use Rattle.jvm_model.specs.{Classes.field_at, View.IsSafe, View.Any, Linked.IsKind}
use Rattle.jvm_model.specs.Access.{Access, done, read, write, make, spend, bind, run}
use Rattle.jvm_model.proofs.Locations.{same_true, same_false, at_put_same, at_put_other, at_make_new, at_make_other, size_put, size_make, is_of_cases}
use Rattle.type_frames.specs.TypedState.{TypedWorld, element_text, kind_at}
use Rattle.check_sound.proofs.Tree.{IsNew, Tree, typed_done, typed_read, typed_write, typed_mark, typed_make, typed_spend, typed_known, Over, Alike, Leaves}
use Rattle.check_sound.proofs.Grow.{over_itself, over_then, alike_over, alike_back, declared_over}
use Rattle.check_sound.proofs.WorldKept.{whole, spot_over, fits_alike, put_alike, mark_over, make_over, world_put, world_mark, world_make}

pub alike_itself : (w : World) → Alike w w
alike_itself w = record { sizes = refl; heads = λ o. refl; states = λ c. refl }

pub alike_then : (u v w : World) → Alike u v → Alike v w → Alike u w
alike_then u v w a b = record { sizes = a.sizes ∙ b.sizes; heads = λ o. a.heads o ∙ b.heads o; states = λ c. a.states c ∙ b.states c }

pub state_same : (w : World) (c d : ℕ) (s : InitState) → has w (place.Init c) ≡ true → same (place.Init d) (place.Init c) ≡ true → at (put w (place.Init c) s) (place.Init d) ≡ s
state_same w c d s h e = by d (same_true (place.Init d) (place.Init c) e)
  where
    number : {a b : ℕ} → place.Init a ≡ place.Init b → a ≡ b
    number q = cc

    by : (d : ℕ) → place.Init d ≡ place.Init c → at (put w (place.Init c) s) (place.Init d) ≡ s
    by d q = subst (λ (k : ℕ). at (put w (place.Init c) s) (place.Init k) ≡ s) (sym (number q)) (at_put_same w (place.Init c) s h)

-- the same state is written in both
pub mark_alike : (u w : World) (c : ℕ) (s : InitState) → Alike u w → Alike (put u (place.Init c) s) (put w (place.Init c) s)
mark_alike u w c s a = record {
  sizes = size_put u (place.Init c) s ∙ (a.sizes ∙ sym (size_put w (place.Init c) s));
  heads = λ o. a.heads o;
  states = λ d. elim (cases_Bool (same (place.Init d) (place.Init c))) [
    | inl e ↦ state_same u c d s refl e ∙ sym (state_same w c d s refl e)
    | inr e ↦ at_put_other u (place.Init c) (place.Init d) s (same_false (place.Init d) (place.Init c) e) ∙ (a.states d ∙ sym (at_put_other w (place.Init c) (place.Init d) s (same_false (place.Init d) (place.Init c) e)))
  ];
}

-- the same object is made in both
pub make_alike : (u w : World) (x : Object) → Alike u w → Alike (make_object u x) (make_object w x)
make_alike u w x a = record {
  sizes = size_make u x ∙ (ap suc a.sizes ∙ sym (size_make w x));
  heads = λ o. elim (is_of_cases (place.Head o) (size u)) [
    | inl e ↦ at_make_new u x (place.Head o) e ∙ sym (at_make_new w x (place.Head o) (e ∙ ap Some a.sizes))
    | inr n ↦ at_make_other u x (place.Head o) n ∙ (a.heads o ∙ sym (at_make_other w x (place.Head o) (λ e. n (e ∙ ap Some (sym a.sizes)))))
  ];
  states = λ c. a.states c;
}

-- a new object is one of an alike world too
pub new_alike : (p : Program) (u w : World) (x : Object) → Alike u w → IsNew p u x → IsNew p w x
new_alike p u w x a d = record {
  is_kind = d.is_kind;
  fields = λ c f e m. ((d.fields c f e m).0, declared_over p u w (alike_over u w a) (field_at p f).descriptor (look nat_eq Null x.fields f) (d.fields c f e m).1);
  elems = λ k i b e h. ((d.elems k i b e h).0, declared_over p u w (alike_over u w a) (element_text p x.head.kind) (get_or x.elems i Null) (d.elems k i b e h).1);
}

module _ (p : Program) where
  pub known : (u w : World) → Alike u w → TypedWorld p w → (o : ℕ) → o < size u → IsKind p (kind_at u o)
  known u w i t o h = subst (λ (z : Head). IsKind p z.kind) (sym (i.heads o)) (t.kinds o (let e = i.sizes in omega arith))

  -- each access is of a location that stands, and what is left is typed
  pub tree_walk : {A : Type 0} (P : World → A → Type 0) (G : A → Type 0) → ((v : World) (a : A) → P v a → G a) → (t : Access A) (u w : World) → Alike u w → TypedWorld p w → Tree p P u t → IsSafe G t w × Leaves p P (run t w).world (run t w).value
  tree_walk P G good (done a) u w i t (typed_done q) = (good u a q, record { seen = u; alike = i; world = t; answer = q })
  tree_walk P G good (read l k) u w i t (typed_read q r) =
      let s = spot_over p u w (alike_over u w i) l q in
      let x = tree_walk P G good (k (at w l)) u w i t (r (at w l) (fits_alike p w u (alike_back u w i) l s (at w l) ((whole p w t).fits l s))) in
      (((whole p w t).there l s, x.0), x.1)
  tree_walk P G good (write l c b) u w i t (typed_write n q g r) =
      let s = spot_over p u w (alike_over u w i) l q in
      let x = tree_walk P G good b u (put w l c) (alike_then u w (put w l c) i (put_alike p w l c n)) (world_put p w l c n t s (fits_alike p u w i l q c g)) r in
      (((whole p w t).there l s, x.0), x.1)
  tree_walk P G good (write (place.Init c) s b) u w i t (typed_mark h r) =
      let x = tree_walk P G good b (put u (place.Init c) s) (put w (place.Init c) s) (mark_alike u w c s i) (world_mark p w c s t h) r in
      ((t.states c h, x.0), x.1)
  tree_walk P G good (make x k) u w i t (typed_make d r) =
      tree_walk P G good (k (size w)) (make_object u x) (make_object w x) (make_alike u w x i) (world_make p w x t (new_alike p u w x i d)) (subst (λ (n : ℕ). Tree p P (make_object u x) (k n)) i.sizes r)
  tree_walk P G good (spend n b) u w i t (typed_spend r) = tree_walk P G good b u w i t r
  tree_walk P G good a u w i t (typed_known o h r) = tree_walk P G good a u w i t (r (known u w i t o h))

  pub tree_leaves : {A : Type 0} (P : World → A → Type 0) (t : Access A) (u w : World) → Alike u w → TypedWorld p w → Tree p P u t → Leaves p P (run t w).world (run t w).value
  tree_leaves P t u w i tw r = (tree_walk P Any (λ v a q. tt) t u w i tw r).1

  -- parts put together
  pub tree_bind : {A B : Type 0} (Q : World → A → Type 0) (P : World → B → Type 0) (t : Access A) (k : A → Access B) (u : World) → Tree p Q u t → ((v : World) (a : A) → Q v a → Tree p P v (k a)) → Tree p P u (bind t k)
  tree_bind Q P (done a) k u (typed_done q) r = r u a q
  tree_bind Q P (read l n) k u (typed_read q f) r = typed_read q (λ c h. tree_bind Q P (n c) k u (f c h) r)
  tree_bind Q P (write l c t) k u (typed_write n q g f) r = typed_write n q g (tree_bind Q P t k u f r)
  tree_bind Q P (write (place.Init c) s t) k u (typed_mark h f) r = typed_mark h (tree_bind Q P t k (put u (place.Init c) s) f r)
  tree_bind Q P (make x n) k u (typed_make d f) r = typed_make d (tree_bind Q P (n (size u)) k (make_object u x) f r)
  tree_bind Q P (spend n t) k u (typed_spend f) r = typed_spend (tree_bind Q P t k u f r)
  tree_bind Q P t k u (typed_known o h f) r = typed_known o h (λ i. tree_bind Q P t k u (f i) r)

  -- the worlds of a typed tree go on from where it began
  pub goes_on : {A : Type 0} {P : World → A → Type 0} (s u : World) → Over s u → (t : Access A) → Tree p P u t → Tree p (λ v a. Over s v × P v a) u t
  goes_on s u g (done a) (typed_done q) = typed_done (g, q)
  goes_on s u g (read l k) (typed_read q r) = typed_read q (λ c h. goes_on s u g (k c) (r c h))
  goes_on s u g (write l c b) (typed_write n q h r) = typed_write n q h (goes_on s u g b r)
  goes_on s u g (write (place.Init c) x b) (typed_mark h r) = typed_mark h (goes_on s (put u (place.Init c) x) (over_then s u (put u (place.Init c) x) g (mark_over p u c x)) b r)
  goes_on s u g (make x k) (typed_make d r) = typed_make d (goes_on s (make_object u x) (over_then s u (make_object u x) g (make_over p u x)) (k (size u)) r)
  goes_on s u g (spend n b) (typed_spend r) = typed_spend (goes_on s u g b r)
  goes_on s u g t (typed_known o h r) = typed_known o h (λ i. goes_on s u g t (r i))

  -- parts put together, the second in a world over the first's
  pub bind_over : {A B : Type 0} (Q : World → A → Type 0) (P : World → B → Type 0) (t : Access A) (k : A → Access B) (u : World) → Tree p Q u t → ((v : World) (a : A) → Over u v → Q v a → Tree p P v (k a)) → Tree p P u (bind t k)
  bind_over Q P t k u h r = tree_bind (λ v a. Over u v × Q v a) P t k u (goes_on u u (over_itself u) t h) (λ v a q. r v a q.0 q.1)
