-- The exposed reads of a test by its tags.
use Rattle.std.proofs.Common.{◌≡◌, ℕ, Bool, true, false, not, ◌||◌, ◌&&◌, List, [], ◌∷◌, refl, sym, ◌∙◌, ap, inl, inr}
use Rattle.std.specs.List.{list_all}
use Rattle.std.proofs.lemmas.Bool.{cases_Bool}
use Rattle.jvm_model.specs.declared.values.{Location.Location, Touch.Touch}
use Rattle.jvm_model.specs.declared.values.Location.TheVariants as place
use Rattle.jvm_model.specs.World.{same}
use Rattle.jvm_model.proofs.Locations.{same_true}
use Rattle.order_law.specs.{Exposed.exposed, Histories.Touches}
use Rattle.access_tags.specs.declared.conflict.{LocationKey.LocationKey, Touched.Touched}
use Rattle.access_tags.specs.declared.conflict.LocationKey.TheVariants as spot
use Rattle.access_tags.specs.{Tag.Tag, Tag.places, Stands.StandFor}
use Rattle.access_tags.specs.Numbering.{Numbering, located, is_name, is_named, is_static, IsPlaced, ArePlaced, locations, tag_at}
use Rattle.access_tags.proofs.Numbered.{tag_there}

named_static : (L : Location) (f : ℕ) → is_named L ≡ true → same L (place.Static f) ≡ false
named_static L f e = elim (cases_Bool (same L (place.Static f))) [
  | inl s ↦ absurd (let q : is_named L ≡ false = ap (λ (M : Location). is_named M) (same_true L (place.Static f) s) in cc)
  | inr s ↦ s
]

static_there : (names : List Location) (y : LocationKey) (f : ℕ) → is_named (located names y) ≡ is_name y → is_static y f ≡ same (located names y) (place.Static f)
static_there names (spot.Named k) f e = sym (named_static (located names (spot.Named k)) f e)
static_there names _ f e = refl

module _ (n : Numbering) (T : Touches) (t : ℕ) (ts : List Touch) (c d : ℕ → Tag) (xs : List Touched) (s : StandFor n T t ts c d xs) (f : ℕ) where
  one_read : (y : Touched) → IsPlaced n y → (not (tag_at c d y).mark.exposed || is_static y.spot f) ≡ (not (exposed ts (located n.names y.spot)) || same (located n.names y.spot) (place.Static f))
  one_read y p = rw (tag_there n c d y p ∙ s.tags (located n.names y.spot)) (rw (static_there n.names y.spot f p.kind) refl)

  all_reads : (ys : List Touched) → ArePlaced n ys → list_all (λ (y : Touched). not (tag_at c d y).mark.exposed || is_static y.spot f) ys ≡ list_all (λ L. not (exposed ts L) || same L (place.Static f)) (locations n ys)
  all_reads [] p = refl
  all_reads (y ∷ ys) p = rw (one_read y p.0) (ap (λ (b : Bool). (not (exposed ts (located n.names y.spot)) || same (located n.names y.spot) (place.Static f)) && b) (all_reads ys p.1))

  pub reads_alone : list_all (λ (y : Touched). not (tag_at c d y).mark.exposed || is_static y.spot f) xs ≡ list_all (λ L. not (exposed ts L) || same L (place.Static f)) (places ts)
  reads_alone = all_reads xs s.placed ∙ ap (λ ls. list_all (λ L. not (exposed ts L) || same L (place.Static f)) ls) s.touched
