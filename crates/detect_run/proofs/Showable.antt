-- Of each edge of a program's own record something can be shown.
use Rattle.std.proofs.Common.{◌≡◌, ℕ, zero, suc, List, [], ◌∷◌, map, take, refl, arith, inl, inr, Option, Some, None}
use Rattle.jvm_model.specs.declared.program.Program.{Program}
use Rattle.jvm_model.specs.declared.values.{Location.Location, Touch.Touch}
use Rattle.jvm_model.specs.{Texts.location_text, World.place_of}
use Rattle.order_law.specs.declared.edges.Edge.{Edge}
use Rattle.order_law.specs.declared.records.{Place.Place, Shown.Shown}
use Rattle.order_law.specs.{Conflicts.Member, Histories.Touches, OwnRecord.conflict_places_in, OwnRecord.edges_in}
use Rattle.order_law.specs.Pairing.{PairedList, no_more, one_more}
use Rattle.order_law.specs.Walk.{IsPlaceIn, IsShownIn, IsWalkText, Walk, read_text}
use Rattle.order_law.proofs.OwnForm.{counted_law}
use Rattle.access_tags.specs.Ran.{HaveWalks}

taken : {A : Type 0} (i : ℕ) (xs : List A) (x : A) → Member x (take i xs) → Member x xs
taken zero xs x m = absurd m
taken (suc i) [] x m = absurd m
taken (suc i) (y ∷ xs) x (inl q) = inl q
taken (suc i) (y ∷ xs) x (inr m) = inr (taken i xs x m)

module _ (p : Program) (T : Touches) (by : ℕ → ℕ × ℕ) where
  -- the texts of a walk that there is
  texts_of : (ts : List Touch) (o : Option ℕ) → ((a : ℕ) → o ≡ Some a → (xs : List Touch) × Walk ts a xs) → (texts : List (List ℕ)) × IsWalkText p ts o texts
  texts_of ts None f = ([], refl)
  texts_of ts (Some a) f = let w = f a refl in (map (λ (x : Touch). read_text p x.location) w.0, (w.0, w.1, refl))

  places_of : (ts : List Touch) (ls : List Location) → ((L : Location) (o : ℕ) → Member L ls → place_of L ≡ Some o → (xs : List Touch) × Walk ts o xs) → (xs : List Place) × PairedList (IsPlaceIn p by ts) ls xs
  places_of ts [] f = ([], no_more)
  places_of ts (L ∷ ls) f =
      let w = texts_of ts (place_of L) (λ o e. f L o (inl refl) e) in
      let r = places_of ts ls (λ M o m e. f M o (inr m) e) in
      let x : Place = record { at = location_text p by L; walk = w.0 } in
      let one : IsPlaceIn p by ts L x = record { at = refl; walk = w.1 } in
      (x ∷ r.0, one_more one r.1)

  module _ (walks : HaveWalks p T) where
    shown_of : (e : Edge) → Member e (edges_in p T by) → (x : Shown) × IsShownIn p T by e x
    shown_of e m =
        let c = counted_law p T by e m in
        let first = c.first in
        let rises = c.rises in
        let last = c.last in
        let Ls = conflict_places_in T e.kind e.earlier e.later in
        let r = places_of (T e.later) (take 8 Ls) (λ L o i q. walks e.kind e.earlier e.later o L (omega arith, omega arith) rises (omega arith, last) (taken 8 Ls L i) q) in
        (record { places = r.0 }, r.1)

    all_shown : (es : List Edge) → ((e : Edge) → Member e es → Member e (edges_in p T by)) → (xs : List Shown) × PairedList (IsShownIn p T by) es xs
    all_shown [] f = ([], no_more)
    all_shown (e ∷ es) f =
        let x = shown_of e (f e (inl refl)) in
        let r = all_shown es (λ d m. f d (inr m)) in
        (x.0 ∷ r.0, one_more x.1 r.1)

    pub can_show : (xs : List Shown) × PairedList (IsShownIn p T by) (edges_in p T by) xs
    can_show = all_shown (edges_in p T by) (λ e m. m)
