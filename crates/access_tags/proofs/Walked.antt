-- The walk to an object by the meetings of the running test.
use Rattle.std.proofs.Common.{◌≡◌, ◌+◌, ◌<◌, ◌≤◌, ℕ, true, false, List, [], ◌∷◌, ◌++◌, map, reverse, length, refl, sym, ◌∙◌, ap, subst, arith, eqb, inl, inr, Option, Some, None, option_map, append_assoc, length-append}
use Rattle.std.specs.{List.IsDistinct, List.list_any, Cmp.nat_eq_equiv}
use Rattle.std.proofs.lemmas.Bool.{cases_lt, eqb-true, false_from_ne_true, or_cases}
use Rattle.std.proofs.lemmas.{List.reverse-append, List.map-append, Option.same_Some}
use Rattle.std.proofs.{lemmas.List.Folds.list_any-append, lemmas.Map.Keys.IsDistinct-push, lemmas.Map.Steps.length-le_from_distinct_below}
use Rattle.jvm_model.specs.declared.values.{Location.Location, Touch.Touch}
use Rattle.order_law.specs.Walk.{first_giving, holder, Walk, from_static, through}
use Rattle.order_law.proofs.Walks.{walk_one}
use Rattle.access_tags.specs.declared.conflict.LocationKey.{LocationKey}
use Rattle.access_tags.specs.declared.discovery_tree.ParentEdge.{ParentEdge}
use Rattle.access_tags.specs.Numbering.{located}
use Rattle.access_tags.specs.ParentEdges.{met_by, location_of, HasParents}
use Rattle.access_tags.proofs.FirstReads.{met_none}

-- what is left of a walk when these parts of it, the last one first, are known
abbrev pub Left : List Touch → ℕ → List LocationKey → List Touch → Type 0
Left ts at reads ys = (zs : List Touch) × Walk ts at zs × (map location_of ys ≡ map location_of zs ++ map (located []) (reverse reads)) × (length ys ≡ length zs + length reads)

abbrev pub Goes : List ParentEdge → ℕ → ℕ → ℕ → List LocationKey → Type 0
Goes ms t object at reads = (ts ys : List Touch) → 0 < t → HasParents t ts ms → Walk ts object ys → Left ts at reads ys

-- the read that first gave an object
module _ (ms : List ParentEdge) (t : ℕ) (ts : List Touch) (m : HasParents t ts ms) (p : 0 < t) where
  first_there : (o : ℕ) (x : Touch) (s : LocationKey) → first_giving ts o ≡ Some x → met_by ms t o ≡ Some s → located [] s ≡ x.location
  first_there o x s f e = same_Some _ _ (sym (ap (λ (z : Option LocationKey). option_map (located []) z) e) ∙ (m.first p o ∙ ap (λ (z : Option Touch). option_map location_of z) f))

  never_none : (o : ℕ) (x : Touch) → first_giving ts o ≡ Some x → met_by ms t o ≡ None → ⊥
  never_none o x f e = let z : None ≡ Some x.location = sym (ap (λ (z : Option LocationKey). option_map (located []) z) e) ∙ (m.first p o ∙ ap (λ (z : Option Touch). option_map location_of z) f) in cc

  -- an object that was met is among those that are kept
  met_below : (o : ℕ) (x : Touch) → first_giving ts o ≡ Some x → o < length ms
  met_below o x f = elim (cases_lt o (length ms)) [ inl h ↦ h | inr h ↦ absurd (never_none o x f (met_none ms t o h p)) ]

  walk_first : (o : ℕ) (zs : List Touch) → Walk ts o zs → (x : Touch) × (first_giving ts o ≡ Some x)
  walk_first o zs (from_static {x = x} f l) = (x, f)
  walk_first o zs (through {x = x} f h w) = (x, f)

  -- the objects of a walk, each with a walk that is no longer
  abbrev Objects : List Touch → ℕ → List ℕ → Type 0
  Objects ts n os = IsDistinct eqb os × ((q : ℕ) → list_any (eqb q) os ≡ true → (zs : List Touch) × Walk ts q zs × (length zs ≤ n))

  longer : (xs : List Touch) (x : Touch) → length (xs ++ x ∷ []) ≡ length xs + 1
  longer xs x = length-append xs (x ∷ [])

  alone : (o : ℕ) → IsDistinct eqb (o ∷ [])
  unfolding IsDistinct
  alone o = (tt, tt)

  objects : (o : ℕ) (ys : List Touch) → Walk ts o ys → (os : List ℕ) × (length os ≡ length ys) × Objects ts (length ys) os
  objects o ys (from_static {x = x} f l) = (o ∷ [], refl, (alone o, λ q e. (x ∷ [], subst (λ (i : ℕ). Walk ts i (x ∷ [])) (sym (eqb-true q o (elim (or_cases (eqb q o) false e) [ inl k ↦ k | inr k ↦ absurd (cc) ]))) (from_static f l), omega arith)))
  objects o ys (through {a = a} {x = x} {xs = xs} f h w) =
      let r = objects a xs w in
      let whole : Walk ts o (xs ++ x ∷ []) = through f h w in
      let more = longer xs x in
      let n = length-append r.0 (o ∷ []) in
      let e = r.1 in (
        r.0 ++ o ∷ [],
        omega arith,
        (
          IsDistinct-push nat_eq_equiv r.0 o r.2.0 (false_from_ne_true (list_any (eqb o) r.0) (λ d.
              let s = r.2.1 o d in let k = ap (λ (zs : List Touch). length zs) (walk_one ts s.1 whole) in let b = s.2 in absurd (omega arith))),
          λ q d. elim (or_cases (list_any (eqb q) r.0) (list_any (eqb q) (o ∷ [])) (sym (list_any-append (eqb q) r.0 (o ∷ [])) ∙ d)) [
            | inl k ↦ let s = r.2.1 q k in let b = s.2 in (s.0, s.1, omega arith)
            | inr k ↦ (xs ++ x ∷ [], subst (λ (i : ℕ). Walk ts i (xs ++ x ∷ [])) (sym (eqb-true q o (elim (or_cases (eqb q o) false k) [ inl j ↦ j | inr j ↦ absurd (cc) ]))) whole, omega arith)
          ],
        ),
      )

  pub walk_short : (o : ℕ) (ys : List Touch) → Walk ts o ys → length ys ≤ length ms
  walk_short o ys w = let r = objects o ys w in let e = r.1 in
      let n = length-le_from_distinct_below r.0 (length ms) r.2.0 (λ q k. let s = r.2.1 q k in let f = walk_first q s.0 s.1 in met_below q f.0 f.1) in omega arith

walk_some : (ts : List Touch) (o : ℕ) (zs : List Touch) → Walk ts o zs → 0 < length zs
walk_some ts o zs (from_static f l) = omega arith
walk_some ts o zs (through {x = x} {xs = xs} f h w) = let e = length-append xs (x ∷ []) in omega arith

-- the walk came to an object that was never met, or went on past the number of objects
pub goes_nowhere : (ms : List ParentEdge) (t object at : ℕ) (reads xs : List LocationKey) → (0 < t → met_by ms t at ≡ None) → Goes ms t object at reads → (ts ys : List Touch) → 0 < t → HasParents t ts ms → Walk ts object ys → map (located []) xs ≡ map location_of ys
goes_nowhere ms t object at reads xs e g ts ys p m w = let l = g ts ys p m w in let f = walk_first ms t ts m p at l.0 l.1 in absurd (never_none ms t ts m p at f.0 f.1 (e p))

pub goes_past : (ms : List ParentEdge) (t object at : ℕ) (reads xs : List LocationKey) → length ms ≤ length reads → Goes ms t object at reads → (ts ys : List Touch) → 0 < t → HasParents t ts ms → Walk ts object ys → map (located []) xs ≡ map location_of ys
goes_past ms t object at reads xs h g ts ys p m w = let l = g ts ys p m w in
    let a = walk_short ms t ts m p object ys w in let b = walk_some ts at l.0 l.1 in let c = l.3 in absurd (omega arith)

-- one read more
read_more : (zs : List Touch) (x : Touch) (reads : List LocationKey) (s : LocationKey) → located [] s ≡ x.location →
    map location_of (zs ++ x ∷ []) ++ map (located []) (reverse reads) ≡ map location_of zs ++ map (located []) (reverse (reads ++ s ∷ []))
read_more zs x reads s e = rw (reverse-append reads (s ∷ [])) (rw (map-append location_of zs (x ∷ [])) (append_assoc (map location_of zs) (x.location ∷ []) (map (located []) (reverse reads))
    ∙ ap (λ (z : Location). map location_of zs ++ (z ∷ map (located []) (reverse reads))) (sym e)))

-- at a static the walk is whole
pub goes_whole : (ms : List ParentEdge) (t object at : ℕ) (reads : List LocationKey) (s : LocationKey) → (0 < t → met_by ms t at ≡ Some s) → holder (located [] s) ≡ None → Goes ms t object at reads →
    (ts ys : List Touch) → 0 < t → HasParents t ts ms → Walk ts object ys → map (located []) (reverse (reads ++ s ∷ [])) ≡ map location_of ys
goes_whole ms t object at reads s e n g ts ys p m w = let l = g ts ys p m w in whole l.0 l.1 l.2
  where
    whole : (zs : List Touch) → Walk ts at zs → map location_of ys ≡ map location_of zs ++ map (located []) (reverse reads) → map (located []) (reverse (reads ++ s ∷ [])) ≡ map location_of ys
    whole zs (from_static {x = x} f k) q = sym (q ∙ read_more [] x reads s (first_there ms t ts m p at x s f (e p)))
    whole zs (through {a = a} {x = x} f h v) q = absurd (let z : None ≡ Some a = sym n ∙ (ap holder (first_there ms t ts m p at x s f (e p)) ∙ h) in cc)

-- at a cell it goes on to the object that holds it
pub goes_on : (ms : List ParentEdge) (t object at : ℕ) (reads : List LocationKey) (s : LocationKey) (b : ℕ) → (0 < t → met_by ms t at ≡ Some s) → holder (located [] s) ≡ Some b → Goes ms t object at reads → Goes ms t object b (reads ++ s ∷ [])
goes_on ms t object at reads s b e n g ts ys p m w = let l = g ts ys p m w in on l.0 l.1 l.2 l.3
  where
    on : (zs : List Touch) → Walk ts at zs → map location_of ys ≡ map location_of zs ++ map (located []) (reverse reads) → length ys ≡ length zs + length reads → Left ts b (reads ++ s ∷ []) ys
    on zs (from_static {f = f} {x = x} g k) q n' = absurd (let z : Some b ≡ None = sym n ∙ (ap holder (first_there ms t ts m p at x s g (e p)) ∙ ap holder k) in cc)
    on zs (through {a = a} {x = x} {xs = xs} f h v) q n' =
        let there = first_there ms t ts m p at x s f (e p) in
        let same : b ≡ a = same_Some _ _ (sym n ∙ (ap holder there ∙ h)) in
        let i = length-append xs (x ∷ []) in let j = length-append reads (s ∷ []) in
        (xs, subst (λ (o : ℕ). Walk ts o xs) (sym same) v, q ∙ read_more xs x reads s there, omega arith)
