-- More paired places pair more; what stands where nothing was made is paired.
use Rattle.std.proofs.Common.{◌≡◌, ℕ, true, refl, subst, Option, Some}
use Rattle.std.proofs.lemmas.Option.{same_Some}
use Rattle.jvm_model.specs.{declared.values.Value.Value, declared.values.Location.Location, World.Content, World.no_object, World.part}
use Rattle.order_law.specs.Pairing.{Matching, PairedOption, both_none, both_some, PairedValue, ints, longs, nulls, literals, objects, PairedLocation, statics, inits, heads, at_field, at_elem, texts, files, props, class_kinds, PairedContent}
use Rattle.order_law.specs.Numbers.{Numbers, with_places}

module _ (n : Numbers) (P Q : ℕ → ℕ → Type 0) (more : (a b : ℕ) → P a b → Q a b) where
  value-more : {x y : Value} → PairedValue (with_places n P) x y → PairedValue (with_places n Q) x y
  value-more (ints k) = ints k
  value-more (longs k) = longs k
  value-more nulls = nulls
  value-more (literals e) = literals e
  value-more (objects {a} {b} p) = objects (more a b p)

  pub location-more : {L M : Location} → PairedLocation (with_places n P) L M → PairedLocation (with_places n Q) L M
  location-more (statics e) = statics e
  location-more (inits e) = inits e
  location-more (heads {a} {b} p) = heads (more a b p)
  location-more (at_field {a} {b} p e) = at_field (more a b p) e
  location-more (at_elem {a} {b} i p) = at_elem i (more a b p)
  location-more (texts {a} {b} p) = texts (more a b p)
  location-more (files k) = files k
  location-more (props k) = props k

  pub content-more : {L M : Location} → PairedLocation (with_places n P) L M → (c : Content L) (d : Content M) → PairedContent (with_places n P) L M c d → PairedContent (with_places n Q) L M c d
  content-more (statics e) c d r = value-more r
  content-more (at_field p e) c d r = value-more r
  content-more (at_elem i p) c d r = value-more r
  content-more _ c d r = r

pub nothing_there : (n : Numbers) (P Q : ℕ → ℕ → Type 0) → n.class 0 0 ≡ true → {L M : Location} → PairedLocation (with_places n P) L M → PairedContent (with_places n Q) L M (part no_object L) (part no_object M)
nothing_there n P Q root (statics e) = nulls
nothing_there n P Q root (heads p) = record { kind = class_kinds root; length = refl }
nothing_there n P Q root (at_field p e) = nulls
nothing_there n P Q root (at_elem i p) = nulls
nothing_there n P Q root _ = refl

pub given_place : (m : Matching) {o r : Option ℕ} (a : ℕ) → PairedOption m.place o r → o ≡ Some a → (c : ℕ) × m.place a c × (r ≡ Some c)
given_place m a both_none e = absurd (cc)
given_place m a (both_some {x} {y} p) e = (y, subst (λ (z : ℕ). m.place z y) (same_Some _ _ e) p, refl)
