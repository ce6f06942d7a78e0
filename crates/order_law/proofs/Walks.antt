-- A test came to each object by one walk.
use Rattle.std.proofs.Common.{◌≡◌, ℕ, List, ◌∷◌, [], ◌++◌, sym, ◌∙◌, ap, subst, Some, None}
use Rattle.std.proofs.lemmas.Option.{same_Some}
use Rattle.jvm_model.specs.declared.values.Location.TheVariants as place
use Rattle.jvm_model.specs.declared.values.Touch.{Touch}
use Rattle.order_law.specs.Walk.{holder, Walk, from_static, through}

-- a static holds no cell
not_both : (x : Touch) (f a : ℕ) → x.location ≡ place.Static f → holder x.location ≡ Some a → ⊥
not_both x f a e h = let n : None ≡ Some a = ap holder (sym e) ∙ h in absurd (cc)

pub walk_one : (ts : List Touch) {o : ℕ} {xs ys : List Touch} → Walk ts o xs → Walk ts o ys → xs ≡ ys
walk_one ts (from_static {x = x} e s) (from_static {x = y} d r) = ap (λ (z : Touch). z ∷ []) (same_Some _ _ (sym e ∙ d))
walk_one ts (from_static {f = f} {x = x} e s) (through {a = a} {x = y} d r w) = absurd (not_both x f a s (ap (λ (z : Touch). holder z.location) (same_Some _ _ (sym e ∙ d)) ∙ r))
walk_one ts (through {a = a} {x = x} e s v) (from_static {f = f} {x = y} d r) = absurd (not_both y f a r (ap (λ (z : Touch). holder z.location) (same_Some _ _ (sym d ∙ e)) ∙ s))
walk_one ts (through {a = a} {x = x} {xs = xs} e s v) (through {a = b} {x = y} {xs = ys} d r w) =
    let same_read : x ≡ y = same_Some _ _ (sym e ∙ d) in
    let same_holder : a ≡ b = same_Some _ _ (sym s ∙ ap (λ (z : Touch). holder z.location) same_read ∙ r) in
    ap (λ (z : List Touch). z ++ (x ∷ [])) (walk_one ts v (subst (λ (z : ℕ). Walk ts z ys) (sym same_holder) w)) ∙ ap (λ (z : Touch). ys ++ (z ∷ [])) same_read
