-- What stands below a place depends on the slots below it alone.
use Rattle.std.proofs.Common.{◌≡◌, ℕ, zero, suc, ◌<◌, ◌≤◌, ◌-◌, ◌+◌, List, [], ◌∷◌, take, map, refl, sym, ap, ◌∙◌, arith, get_or-take}
use Rattle.std.proofs.lemmas.List.{take-take}
use Rattle.jvm_model.specs.declared.values.{Value.Value, Value.TheVariants.Null}
use Rattle.vm_frames.specs.declared.extent.Extent.{Extent}
use Rattle.vm_frames.specs.Extents.{downwards, upwards, entry_of, IsWithin, AreStacked}

pub downwards_take : (xs : List Value) (b t n : ℕ) → t ≤ b → downwards (take b xs) t n ≡ downwards xs t n
downwards_take xs b t zero h = refl
downwards_take xs b zero (suc n) h = refl
downwards_take xs b (suc t) (suc n) h =
    let under : t < b = omega arith in
    rw (get_or-take b xs t Null under, downwards_take xs b t n (omega arith)) refl

pub upwards_take : (xs : List Value) (b s n : ℕ) → s + n ≤ b → upwards (take b xs) s n ≡ upwards xs s n
upwards_take xs b s zero h = refl
upwards_take xs b s (suc n) h =
    let under : s < b = omega arith in
    rw (get_or-take b xs s Null under, upwards_take xs b (suc s) n (omega arith)) refl

pub downwards_same : (xs ys : List Value) (b t n : ℕ) → take b xs ≡ take b ys → t ≤ b → downwards xs t n ≡ downwards ys t n
downwards_same xs ys b t n e h = sym (downwards_take xs b t n h) ∙ (ap (λ (zs : List Value). downwards zs t n) e ∙ downwards_take ys b t n h)

pub upwards_same : (xs ys : List Value) (b s n : ℕ) → take b xs ≡ take b ys → s + n ≤ b → upwards xs s n ≡ upwards ys s n
upwards_same xs ys b s n e h = sym (upwards_take xs b s n h) ∙ (ap (λ (zs : List Value). upwards zs s n) e ∙ upwards_take ys b s n h)

pub take_lower : (xs ys : List Value) (b c : ℕ) → take b xs ≡ take b ys → c ≤ b → take c xs ≡ take c ys
take_lower xs ys b c e h = sym (take-take c b xs h) ∙ (ap (λ (zs : List Value). take c zs) e ∙ take-take c b ys h)

pub entry_same : (xs ys : List Value) (n b : ℕ) (e : Extent) → take b xs ≡ take b ys → IsWithin n b e → entry_of xs e ≡ entry_of ys e
entry_same xs ys n b e q w =
    rw (downwards_same xs ys b e.top (e.top - e.first) q w.under, upwards_same xs ys b e.base (e.first - e.base) q (omega arith)) refl

pub below_same : (xs ys : List Value) (n b : ℕ) (es : List Extent) → take b xs ≡ take b ys → AreStacked n b es → map (entry_of xs) es ≡ map (entry_of ys) es
below_same xs ys n b [] q w = refl
below_same xs ys n b (e ∷ es) q w =
    rw (entry_same xs ys n b e q w.0, below_same xs ys n e.base es (take_lower xs ys b e.base q (omega (arith, w.0))) w.1) refl
