-- A class that isn't trivial, and is so without quiet initialisers, is hushed: it starts still or not at all, and so does all that is
-- initialised before it.
use Rattle.std.proofs.Common.{◌≡◌, ◌⊎◌, ℕ, zero, suc, ◌≤◌, List, [], ◌∷◌, ◌++◌, length, map, filter, Bool, true, false, not, ◌&&◌, cond, Option, Some, None, is_some, refl, sym, ◌∙◌, ap, subst, inl, inr, arith}
use Rattle.std.specs.List.{list_all}
use Rattle.std.proofs.lemmas.Bool.{and_parts, cases_Bool}
use Rattle.jvm_model.specs.{declared.program.Body.Body, declared.program.Program.Program, Entries.entries_of, Entries.frame_of}
use Rattle.jvm_model.specs.Classes.{class_at, method_at, is_interface, is_trivial, default_interfaces, upwards, class_bound, declares_start}
use Rattle.jvm_model.specs.{Initialise.Part, Initialise.superclass_part, Initialise.parts_of, Linked.Linked, Linked.IsClass, Linked.IsBody}
use Rattle.jvm_model.proofs.Upwards.{upwards_step}
use Rattle.quiet_init.specs.Quiet.{is_still, no_handler, is_still_body, starts_still, is_still_start, is_quiet, begun_world, quiet}
use Rattle.quiet_init.specs.StillLaw.{HaveRows}
use Rattle.quiet_init.proofs.Going.{Among, Start, none, still, Hushed, hushed}
use Rattle.quiet_init.proofs.Parts.{flags_kept, starts_kept, upwards_kept, defaults_kept}

abbrev pub Listed : ℕ → List ℕ → Type 0
Listed i [] = ⊥
Listed i (j ∷ js) = (i ≡ j) ⊎ Listed i js

-- What is taken of a typed program: superclasses and default interfaces are of their kinds, classes that aren't trivial are there,
-- bodies are in form, and the code of quiet initialisers has its rows.
pub record Sound (p : Program) : Type 0 where
  pub linked : Linked p
  pub above : (c d : ℕ) → (class_at p c).superclass ≡ Some d → is_interface (class_at p d).flags ≡ false
  pub beside : (c i : ℕ) → Listed i (default_interfaces p c) → is_interface (class_at p i).flags ≡ true
  pub there : (c : ℕ) → is_trivial p c ≡ false → IsClass p c
  pub bodies : (c m : ℕ) (b : Body) → (class_at p c).initialiser ≡ Some m → (method_at p m).body ≡ Some b → IsBody b
  pub rows : (c m : ℕ) (b : Body) → is_quiet p c ≡ true → (class_at p c).initialiser ≡ Some m → (method_at p m).body ≡ Some b → HaveRows p b.code (entries_of (frame_of b m [] ∷ [])) (begun_world p c)

all_listed : (f : ℕ → Bool) (xs : List ℕ) (i : ℕ) → list_all f xs ≡ true → Listed i xs → f i ≡ true
all_listed f [] i e h = absurd h
all_listed f (x ∷ xs) i e (inl q) = ap f q ∙ (and_parts (f x) (list_all f xs) e).0
all_listed f (x ∷ xs) i e (inr h) = all_listed f xs i (and_parts (f x) (list_all f xs) e).1 h

-- what a class doesn't start, and no default interface of it
abbrev pub starts_none : Program → ℕ → Bool
starts_none p d = not (declares_start p d) && list_all (λ i. not (declares_start p i)) (default_interfaces p d)

-- a part that is kept isn't trivial, and is the superclass or a default interface
pub kept_part : (p : Program) (xs : List Part) (x : Part) → Among x (filter (λ y. not (is_trivial p y.class)) xs) → (is_trivial p x.class ≡ false) × Among x xs
kept_part p [] x h = absurd h
kept_part p (y ∷ ys) x h = by (is_trivial p y.class) refl (kept_part p ys x) h
  where
    by : (b : Bool) → is_trivial p y.class ≡ b → (Among x (filter (λ y. not (is_trivial p y.class)) ys) → (is_trivial p x.class ≡ false) × Among x ys) →
        Among x (cond (not b) (y ∷ filter (λ y. not (is_trivial p y.class)) ys) (filter (λ y. not (is_trivial p y.class)) ys)) → (is_trivial p x.class ≡ false) × Among x (y ∷ ys)
    by true e r h = ((r h).0, inr (r h).1)
    by false e r (inl q) = (ap (λ (z : Part). is_trivial p z.class) q ∙ e, inl q)
    by false e r (inr h) = ((r h).0, inr (r h).1)

among_parts : (xs ys : List Part) (x : Part) → Among x (xs ++ ys) → Among x xs ⊎ Among x ys
among_parts [] ys x h = inr h
among_parts (y ∷ xs) ys x (inl e) = inl (inl e)
among_parts (y ∷ xs) ys x (inr h) = elim (among_parts xs ys x h) [ inl i ↦ inl (inr i) | inr i ↦ inr i ]

is_superclass : (o : Option ℕ) (x : Part) → Among x (superclass_part o) → o ≡ Some x.class
is_superclass None x h = absurd h
is_superclass (Some d) x (inl e) = ap (λ (z : Part). Some z.class) (sym e)
is_superclass (Some d) x (inr h) = absurd h

is_default : (js : List ℕ) (x : Part) → Among x (map (λ i. record { class = i; price = 1 }) js) → Listed x.class js
is_default [] x h = absurd h
is_default (j ∷ js) x (inl e) = inl (ap (λ (z : Part). z.class) e)
is_default (j ∷ js) x (inr h) = inr (is_default js x h)

module _ (p : Program) where
  -- of an interface, and of a class
  pub trivial_from_none : (c : ℕ) → is_interface (class_at p c).flags ≡ true → not (declares_start (quiet p) c) ≡ true → is_trivial (quiet p) c ≡ true
  unfolding is_trivial
  trivial_from_none c f e = ap (λ (b : Bool). cond b (not (declares_start (quiet p) c)) (list_all (starts_none (quiet p)) (upwards (quiet p) c))) (ap is_interface (flags_kept p c) ∙ f) ∙ e

  pub trivial_from_all : (c : ℕ) → is_interface (class_at p c).flags ≡ false → list_all (starts_none (quiet p)) (upwards p c) ≡ true → is_trivial (quiet p) c ≡ true
  unfolding is_trivial
  trivial_from_all c f e = ap (λ (b : Bool). cond b (not (declares_start (quiet p) c)) (list_all (starts_none (quiet p)) (upwards (quiet p) c))) (ap is_interface (flags_kept p c) ∙ f)
      ∙ (ap (λ (xs : List ℕ). list_all (starts_none (quiet p)) xs) (upwards_kept p c) ∙ e)

module _ (p : Program) (sd : Sound p) where
  -- what the class enters
  body_start : (c m : ℕ) (o : Option Body) → is_quiet p c ≡ true → (class_at p c).initialiser ≡ Some m → (method_at p m).body ≡ o → is_still_body p c o ≡ true → Start p c
  body_start c m None q hi hb e = absurd (cc)
  body_start c m (Some b) q hi hb e = still m b hi hb (and_parts (no_handler b.handlers) (is_still p c b.code) e).1 (sd.bodies c m b hi hb) (sd.rows c m b q hi hb)

  quiet_start : (c : ℕ) (o : Option ℕ) → is_quiet p c ≡ true → (class_at p c).initialiser ≡ o → starts_still p c o ≡ true → Start p c
  quiet_start c None q e h = absurd (cc)
  quiet_start c (Some m) q e h = body_start c m (method_at p m).body q e refl h

  none_start : (c : ℕ) (o : Option ℕ) → (class_at p c).initialiser ≡ o → is_some o ≡ false → Start p c
  none_start c None e h = none e
  none_start c (Some m) e h = absurd (cc)

  start_of : (c : ℕ) → not (declares_start (quiet p) c) ≡ true → Start p c
  unfolding is_quiet
  start_of c e = elim (cases_Bool (is_quiet p c)) [
    | inl q ↦ quiet_start c (class_at p c).initialiser q refl (and_parts (is_still_start p c) _ q).0
    | inr q ↦ none_start c (class_at p c).initialiser refl (by (declares_start p c) (is_quiet p c) q (ap not (sym (starts_kept p c)) ∙ e))
  ]
    where
      by : (b d : Bool) → d ≡ false → not (b && not d) ≡ true → b ≡ false
      by false d q h = refl
      by true false q h = absurd (cc)
      by true true q h = absurd (cc)

  -- an interface has no parts
  of_interface : (c : ℕ) → is_interface (class_at p c).flags ≡ true → is_trivial p c ≡ false → not (declares_start (quiet p) c) ≡ true → Hushed p c
  unfolding parts_of
  of_interface c f n e = hushed n (trivial_from_none p c f e) (start_of c e) (λ x h. absurd (subst (λ (b : Bool). Among x (cond b [] (filter (λ y. not (is_trivial p y.class)) (superclass_part (class_at p c).superclass ++ map (λ i. record { class = i; price = 1 }) (default_interfaces p c))))) f h))

  trivial_interface : (c : ℕ) → is_interface (class_at p c).flags ≡ true → is_trivial (quiet p) c ≡ true → not (declares_start (quiet p) c) ≡ true
  unfolding is_trivial
  trivial_interface c f e = sym (ap (λ (b : Bool). cond b (not (declares_start (quiet p) c)) (list_all (starts_none (quiet p)) (upwards (quiet p) c))) (ap is_interface (flags_kept p c) ∙ f)) ∙ e

  trivial_class : (c : ℕ) → is_interface (class_at p c).flags ≡ false → is_trivial (quiet p) c ≡ true → list_all (starts_none (quiet p)) (upwards p c) ≡ true
  unfolding is_trivial
  trivial_class c f e = ap (λ (xs : List ℕ). list_all (starts_none (quiet p)) xs) (sym (upwards_kept p c)) ∙ (sym (ap (λ (b : Bool). cond b (not (declares_start (quiet p) c)) (list_all (starts_none (quiet p)) (upwards (quiet p) c))) (ap is_interface (flags_kept p c) ∙ f)) ∙ e)

  -- the class is the first from itself upwards
  first_up : (c : ℕ) → list_all (starts_none (quiet p)) (upwards p c) ≡ true → starts_none (quiet p) c ≡ true
  unfolding class_bound
  first_up c e = (and_parts (starts_none (quiet p) c) _ e).0

  below : (c : ℕ) → length (upwards p c) ≤ 0 → ⊥
  unfolding class_bound
  below c l = omega arith

  of_class : (k c : ℕ) → length (upwards p c) ≤ k → is_interface (class_at p c).flags ≡ false → is_trivial p c ≡ false → list_all (starts_none (quiet p)) (upwards p c) ≡ true → Hushed p c
  unfolding parts_of
  of_class zero c l f n e = absurd (below c l)
  of_class (suc k) c l f n e =
      let s = and_parts (not (declares_start (quiet p) c)) _ (first_up c e) in
      hushed n (trivial_from_all p c f e) (start_of c s.0) (λ x h.
      let r = kept_part p (superclass_part (class_at p c).superclass ++ map (λ i. record { class = i; price = 1 }) (default_interfaces p c)) x
      (subst (λ (b : Bool). Among x (cond b [] (filter (λ y. not (is_trivial p y.class)) (superclass_part (class_at p c).superclass ++ map (λ i. record { class = i; price = 1 }) (default_interfaces p c))))) f h) in
      elim (among_parts (superclass_part (class_at p c).superclass) (map (λ i. record { class = i; price = 1 }) (default_interfaces p c)) x r.1) [
        | inl i ↦ let q = is_superclass (class_at p c).superclass x i in let u = upwards_step p sd.linked c x.class (sd.there c n) q in
            of_class k x.class (let z : suc (length (upwards p x.class)) ≤ suc k = subst (λ (xs : List ℕ). length xs ≤ suc k) u l in omega arith) (sd.above c x.class q) r.0 (and_parts (starts_none (quiet p) c) _ (subst (λ (xs : List ℕ). list_all (starts_none (quiet p)) xs ≡ true) u e)).1
        | inr i ↦ let j = is_default (default_interfaces p c) x i in
            of_interface x.class (sd.beside c x.class j) r.0 (all_listed (λ i. not (declares_start (quiet p) i)) (default_interfaces p c) x.class (ap (λ (xs : List ℕ). list_all (λ i. not (declares_start (quiet p) i)) xs) (sym (defaults_kept p c)) ∙ s.1) j)
      ])

  pub hushes : (c : ℕ) → is_trivial p c ≡ false → is_trivial (quiet p) c ≡ true → Hushed p c
  hushes c n e = elim (cases_Bool (is_interface (class_at p c).flags)) [
    | inl f ↦ of_interface c f n (trivial_interface c f e)
    | inr f ↦ of_class (length (upwards p c)) c (omega arith) f n (trivial_class c f e)
  ]
