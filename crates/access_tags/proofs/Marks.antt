-- What one more touch changes.
use Rattle.std.proofs.Common.{◌≡◌, Bool, true, false, not, ◌&&◌, ◌||◌, cond, List, [], ◌∷◌, ◌++◌, map, filter, refl, sym, ◌∙◌, ap, subst, inl, inr}
use Rattle.std.specs.List.{list_any}
use Rattle.std.proofs.lemmas.{Bool.cases_Bool, List.map-append}
use Rattle.std.proofs.lemmas.List.Elements.{filter-append}
use Rattle.jvm_model.specs.declared.values.{Touch.Touch, Location.Location}
use Rattle.jvm_model.specs.World.{same}
use Rattle.jvm_model.proofs.Locations.{same_true, same_refl}
use Rattle.order_law.specs.{Exposed.written, Exposed.exposed, OwnRecord.first_places}
use Rattle.access_tags.specs.Tag.{mark, marked, is_new, places}

written_bool : (a b w c : Bool) → cond a (b || (w || c)) (w || c) ≡ cond a (b || w) w || c
written_bool true true w c = refl
written_bool _ _ w c = refl

pub written_more : (ts : List Touch) (x : Touch) (l : Location) → written (ts ++ x ∷ []) l ≡ written ts l || (x.write && same l x.location)
written_more [] x l = base x.write (same l x.location)
  where
    base : (a b : Bool) → cond a (b || false) false ≡ a && b
    base true true = refl
    base _ _ = refl
written_more (y ∷ ts) x l = rw (written_more ts x l) (written_bool y.write (same l y.location) (written ts l) (x.write && same l x.location))

exposed_bool : (a b e p q w : Bool) → cond a (not b && (e || (p && (q && not w)))) (b || (e || (p && (q && not w)))) ≡ cond a (not b && e) (b || e) || (p && (q && not (cond a (b || w) w)))
exposed_bool true true e true true w = refl
exposed_bool true true e true false w = refl
exposed_bool true true e false q w = refl
exposed_bool true false e p q w = refl
exposed_bool false true e p q w = refl
exposed_bool false false e p q w = refl

pub exposed_more : (ts : List Touch) (x : Touch) (l : Location) → exposed (ts ++ x ∷ []) l ≡ exposed ts l || (not x.write && (same l x.location && not (written ts l)))
exposed_more [] x l = base x.write (same l x.location)
  where
    base : (a b : Bool) → cond a (not b && false) (b || false) ≡ not a && (b && true)
    base true true = refl
    base true false = refl
    base false true = refl
    base false false = refl
exposed_more (y ∷ ts) x l = rw (exposed_more ts x l) (exposed_bool y.write (same l y.location) (exposed ts l) (not x.write) (same l x.location) (written ts l))

mark_bool : (e w p q : Bool) → record { exposed = e || (not p && (q && not w)); written = w || (p && q) } ≡ cond q (marked p (record { exposed = e; written = w })) (record { exposed = e; written = w })
mark_bool true true true true = refl
mark_bool true true true false = refl
mark_bool true true false true = refl
mark_bool true true false false = refl
mark_bool true false true true = refl
mark_bool true false true false = refl
mark_bool true false false true = refl
mark_bool true false false false = refl
mark_bool false true true true = refl
mark_bool false true true false = refl
mark_bool false true false true = refl
mark_bool false true false false = refl
mark_bool false false true true = refl
mark_bool false false true false = refl
mark_bool false false false true = refl
mark_bool false false false false = refl

pub mark_more : (ts : List Touch) (x : Touch) (l : Location) → mark (ts ++ x ∷ []) l ≡ cond (same l x.location) (marked x.write (mark ts l)) (mark ts l)
mark_more ts x l = rw (written_more ts x l) (rw (exposed_more ts x l) (mark_bool (exposed ts l) (written ts l) x.write (same l x.location)))

-- locations, each once
pub same_self : (l m : Location) → l ≡ m → same l m ≡ true
same_self l m e = subst (λ (n : Location). same l n ≡ true) e (same_refl l)

pub swap_same : (l m : Location) → same m l ≡ same l m
swap_same l m = elim (cases_Bool (same m l)) [
  | inl e ↦ e ∙ sym (same_self l m (sym (same_true m l e)))
  | inr e ↦ elim (cases_Bool (same l m)) [
    | inl f ↦ same_self m l (sym (same_true l m f)) ∙ sym f
    | inr f ↦ e ∙ sym f
  ]
]

last_one : (b : Bool) (l m : Location) → filter (λ (n : Location). not (same l n)) (cond b [] (m ∷ [])) ≡ cond (same m l || b) [] (m ∷ [])
last_one b l m = rw (swap_same l m) (by_bool b (same l m) refl)
  where
    by_bool : (b c : Bool) → same l m ≡ c → filter (λ (n : Location). not (same l n)) (cond b [] (m ∷ [])) ≡ cond (c || b) [] (m ∷ [])
    by_bool false true e = rw e
    by_bool false false e = rw e
    by_bool true true e = refl
    by_bool true false e = refl

first_more : (ls : List Location) (m : Location) → first_places (ls ++ m ∷ []) ≡ first_places ls ++ cond (list_any (same m) ls) [] (m ∷ [])
first_more [] m = refl
first_more (l ∷ ls) m = rw (first_more ls m) (ap (λ (xs : List Location). l ∷ xs) (filter-append (λ (n : Location). not (same l n)) (first_places ls) (cond (list_any (same m) ls) [] (m ∷ [])) ∙ ap (λ (xs : List Location). filter (λ (n : Location). not (same l n)) (first_places ls) ++ xs) (last_one (list_any (same m) ls) l m)))

any_bool : (a b e w : Bool) → b || (e || w) ≡ cond a (not b && e) (b || e) || cond a (b || w) w
any_bool true true e w = refl
any_bool true false e w = refl
any_bool false true e w = refl
any_bool false false e w = refl

pub any_touched : (ts : List Touch) (m : Location) → list_any (same m) (map (λ (x : Touch). x.location) ts) ≡ exposed ts m || written ts m
any_touched [] m = refl
any_touched (x ∷ ts) m = rw (any_touched ts m) (any_bool x.write (same m x.location) (exposed ts m) (written ts m))

new_bool : (e w : Bool) (xs : List Location) → cond (e || w) [] xs ≡ cond (not e && not w) xs []
new_bool true w xs = refl
new_bool false true xs = refl
new_bool false false xs = refl

pub places_more : (ts : List Touch) (x : Touch) → places (ts ++ x ∷ []) ≡ places ts ++ cond (is_new (mark ts x.location)) (x.location ∷ []) []
places_more ts x = rw (map-append (λ (y : Touch). y.location) ts (x ∷ [])) (first_more (map (λ (y : Touch). y.location) ts) x.location ∙ ap (λ (xs : List Location). places ts ++ xs) (rw (any_touched ts x.location) (new_bool (exposed ts x.location) (written ts x.location) (x.location ∷ []))))
