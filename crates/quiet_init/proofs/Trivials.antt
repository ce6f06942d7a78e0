-- What is trivial is so without quiet initialisers too, and so are quiet classes. So the parts of a class are then those that were, the
-- hushed ones left out.
use Rattle.std.proofs.Common.{◌≡◌, ℕ, zero, suc, ◌≤◌, List, [], ◌∷◌, length, Bool, true, false, not, ◌&&◌, ◌||◌, cond, Option, Some, None, refl, sym, ◌∙◌, ap, subst, inl, inr, arith}
use Rattle.std.specs.List.{list_all}
use Rattle.std.proofs.lemmas.Bool.{and_parts, and_from, or_cases, cases_Bool, not-true}
use Rattle.jvm_model.specs.declared.program.Program.{Program}
use Rattle.jvm_model.specs.Classes.{class_at, is_interface, is_trivial, default_interfaces, upwards, class_bound, declares_start}
use Rattle.jvm_model.proofs.Upwards.{upwards_step, upwards_root}
use Rattle.quiet_init.specs.Quiet.{is_still_start, is_quiet, quiet}
use Rattle.quiet_init.proofs.Parts.{defaults_kept, quiet_interface, none_started, still_starts}
use Rattle.quiet_init.proofs.Hushes.{Listed, Sound, starts_none, trivial_from_none, trivial_from_all}

all_from : (f g : ℕ → Bool) (xs : List ℕ) → ((x : ℕ) → Listed x xs → f x ≡ true → g x ≡ true) → list_all f xs ≡ true → list_all g xs ≡ true
all_from f g [] h e = refl
all_from f g (x ∷ xs) h e = let r = and_parts (f x) (list_all f xs) e in and_from (g x) (list_all g xs) (h x (inl refl) r.0) (all_from f g xs (λ y i. h y (inr i)) r.1)

other : (b d : Bool) → b ≡ false → (b || d) ≡ true → d ≡ true
other true d n e = absurd (cc)
other false d n e = e

-- a class on the way up of a quiet one
abbrev goes_still : Program → ℕ → Bool
goes_still p d = is_trivial p d || (is_still_start p d && list_all (λ i. is_trivial p i || is_still_start p i) (default_interfaces p d))

module _ (p : Program) where
  none_kept : (c : ℕ) → not (declares_start p c) ≡ true → not (declares_start (quiet p) c) ≡ true
  none_kept c e = none_started p c (inl (not-true (declares_start p c) e))

  starts_none_kept : (d : ℕ) → starts_none p d ≡ true → starts_none (quiet p) d ≡ true
  starts_none_kept d e = let r = and_parts (not (declares_start p d)) _ e in
      and_from (not (declares_start (quiet p) d)) _ (none_kept d r.0)
      (ap (λ (xs : List ℕ). list_all (λ i. not (declares_start (quiet p) i)) xs) (defaults_kept p d) ∙ all_from (λ i. not (declares_start p i)) (λ i. not (declares_start (quiet p) i)) (default_interfaces p d) (λ i h. none_kept i) r.1)

  none_of_trivial : (c : ℕ) → is_interface (class_at p c).flags ≡ true → is_trivial p c ≡ true → not (declares_start p c) ≡ true
  unfolding is_trivial
  none_of_trivial c f e = sym (ap (λ (b : Bool). cond b (not (declares_start p c)) (list_all (starts_none p) (upwards p c))) f) ∙ e

  all_of_trivial : (c : ℕ) → is_interface (class_at p c).flags ≡ false → is_trivial p c ≡ true → list_all (starts_none p) (upwards p c) ≡ true
  unfolding is_trivial
  all_of_trivial c f e = sym (ap (λ (b : Bool). cond b (not (declares_start p c)) (list_all (starts_none p) (upwards p c))) f) ∙ e

  pub trivial_kept : (c : ℕ) → is_trivial p c ≡ true → is_trivial (quiet p) c ≡ true
  trivial_kept c e = elim (cases_Bool (is_interface (class_at p c).flags)) [
    | inl f ↦ trivial_from_none p c f (none_kept c (none_of_trivial c f e))
    | inr f ↦ trivial_from_all p c f (all_from (starts_none p) (starts_none (quiet p)) (upwards p c) (λ d h. starts_none_kept d) (all_of_trivial c f e))
  ]

  -- a trivial class or interface declares no start
  pub declares_none : (c : ℕ) → is_trivial p c ≡ true → not (declares_start p c) ≡ true
  unfolding class_bound
  declares_none c t = elim (cases_Bool (is_interface (class_at p c).flags)) [
    | inl f ↦ none_of_trivial c f t
    | inr f ↦ (and_parts (not (declares_start p c)) _ (and_parts (starts_none p c) _ (all_of_trivial c f t)).0).0
  ]

  -- a quiet class isn't trivial
  pub quiet_loud : (c : ℕ) → is_quiet p c ≡ true → is_trivial p c ≡ false
  unfolding is_quiet
  quiet_loud c e = by (is_trivial p c) refl
    where
      starts : declares_start p c ≡ true
      starts = still_starts p c (and_parts (is_still_start p c) _ e).0

      by : (b : Bool) → is_trivial p c ≡ b → b ≡ false
      by true t = absurd (let s = starts in let n = declares_none c t in cc)
      by false t = refl

  module _ (sd : Sound p) where
    -- an interface that is trivial or starts still
    interface_none : (i : ℕ) → is_interface (class_at p i).flags ≡ true → (is_trivial p i || is_still_start p i) ≡ true → not (declares_start (quiet p) i) ≡ true
    interface_none i f e = elim (or_cases (is_trivial p i) (is_still_start p i) e) [
      | inl t ↦ none_kept i (none_of_trivial i f t)
      | inr s ↦ none_started p i (inr (quiet_interface p i f s))
    ]

    quiet_of : (c : ℕ) → is_still_start p c ≡ true → list_all (goes_still p) (upwards p c) ≡ true → is_quiet p c ≡ true
    unfolding is_quiet
    quiet_of c s e = and_from (is_still_start p c) _ s (by (is_interface (class_at p c).flags))
      where
        by : (b : Bool) → cond b true (list_all (goes_still p) (upwards p c)) ≡ true
        by true = refl
        by false = e

    first_still : (c : ℕ) → list_all (goes_still p) (upwards p c) ≡ true → goes_still p c ≡ true
    unfolding class_bound
    first_still c e = (and_parts (goes_still p c) _ e).0

    below : (c : ℕ) → length (upwards p c) ≤ 0 → ⊥
    unfolding class_bound
    below c l = omega arith

    all_none : (k c : ℕ) → length (upwards p c) ≤ k → is_interface (class_at p c).flags ≡ false → list_all (goes_still p) (upwards p c) ≡ true → list_all (starts_none (quiet p)) (upwards p c) ≡ true
    all_none zero c l f e = absurd (below c l)
    all_none (suc k) c l f e = elim (cases_Bool (is_trivial p c)) [
      | inl t ↦ all_from (starts_none p) (starts_none (quiet p)) (upwards p c) (λ d h. starts_none_kept d) (all_of_trivial c f t)
      | inr n ↦ further (all_none k) n (class_at p c).superclass refl
    ]
      where
        own : is_trivial p c ≡ false → starts_none (quiet p) c ≡ true
        own n =
            let r = and_parts (is_still_start p c) _ (other (is_trivial p c) _ n (first_still c e)) in
            and_from (not (declares_start (quiet p) c)) _ (none_started p c (inr (quiet_of c r.0 e)))
            (ap (λ (xs : List ℕ). list_all (λ i. not (declares_start (quiet p) i)) xs) (defaults_kept p c)
            ∙ all_from (λ i. is_trivial p i || is_still_start p i) (λ i. not (declares_start (quiet p) i)) (default_interfaces p c) (λ i h. interface_none i (sd.beside c i h)) r.1)

        further : ((d : ℕ) → length (upwards p d) ≤ k → is_interface (class_at p d).flags ≡ false → list_all (goes_still p) (upwards p d) ≡ true → list_all (starts_none (quiet p)) (upwards p d) ≡ true) → is_trivial p c ≡ false → (o : Option ℕ) → (class_at p c).superclass ≡ o → list_all (starts_none (quiet p)) (upwards p c) ≡ true
        further more n None q = subst (λ (xs : List ℕ). list_all (starts_none (quiet p)) xs ≡ true) (sym (upwards_root p sd.linked c q)) (and_from (starts_none (quiet p) c) true (own n) refl)
        further more n (Some d) q =
            let u = upwards_step p sd.linked c d (sd.there c n) q in
            subst (λ (xs : List ℕ). list_all (starts_none (quiet p)) xs ≡ true) (sym u) (and_from (starts_none (quiet p) c) _ (own n)
            (more d (let z : suc (length (upwards p d)) ≤ suc k = subst (λ (xs : List ℕ). length xs ≤ suc k) u l in omega arith) (sd.above c d q)
            (and_parts (goes_still p c) _ (subst (λ (xs : List ℕ). list_all (goes_still p) xs ≡ true) u e)).1))

    pub quiet_trivial : (c : ℕ) → is_quiet p c ≡ true → is_trivial (quiet p) c ≡ true
    unfolding is_quiet
    quiet_trivial c e =
        let r = and_parts (is_still_start p c) _ e in
        elim (cases_Bool (is_interface (class_at p c).flags)) [
          | inl f ↦ trivial_from_none p c f (none_started p c (inr e))
          | inr f ↦ trivial_from_all p c f (all_none (length (upwards p c)) c (omega arith) f (sym (ap (λ (b : Bool). cond b true (list_all (goes_still p) (upwards p c))) f) ∙ r.1))
        ]
