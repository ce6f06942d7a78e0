-- Walks of parts, one part after another, and their texts.
use Rattle.std.proofs.Common.{◌≡◌, ◌+◌, ◌<◌, ℕ, List, [], ◌∷◌, ◌++◌, length, get_or, map, take, refl, sym, ◌∙◌, ap, subst, suc, arith, Option, Some, None}
use Rattle.std.proofs.Math.Seq.{take-suc}
use Rattle.jvm_model.specs.declared.program.Program.{Program}
use Rattle.jvm_model.specs.declared.values.Touch.{Touch}
use Rattle.order_law.specs.Pairing.{PairedList, no_more, one_more}
use Rattle.order_law.specs.Walk.{Walk, IsWalkText, read_text}
use Rattle.access_tags.specs.declared.conflict.LocationKey.{LocationKey}
use Rattle.access_tags.specs.{ParentEdges.location_of, Numbering.located, Paths.IsWalkTo}

-- one pair more
paired_push : {A B : Type 0} {R : A → B → Type 0} {xs : List A} {ys : List B} {x : A} {y : B} → PairedList R xs ys → R x y → PairedList R (xs ++ x ∷ []) (ys ++ y ∷ [])
paired_push no_more r = one_more r no_more
paired_push (one_more q qs) r = one_more q (paired_push qs r)

pub take_more : {A : Type 0} (xs : List A) (i : ℕ) (d : A) → i < length xs → take i xs ++ get_or xs i d ∷ [] ≡ take (i + 1) xs
take_more xs i d h = let e : i + 1 ≡ suc i = omega arith in sym (ap (λ (j : ℕ). take j xs) e ∙ take-suc xs i d h)

pub paired_more : {A B : Type 0} (R : A → B → Type 0) (xs : List A) (i : ℕ) (d : A) (ys : List B) (y : B) → i < length xs → PairedList R (take i xs) ys → R (get_or xs i d) y → PairedList R (take (i + 1) xs) (ys ++ y ∷ [])
paired_more R xs i d ys y h q r = subst (λ zs. PairedList R zs (ys ++ y ∷ [])) (take_more xs i d h) (paired_push q r)

-- the texts of a walk, where there is one
texts_there : (p : Program) (xs : List LocationKey) (ys : List Touch) → map (located []) xs ≡ map location_of ys → map (λ (x : LocationKey). read_text p (located [] x)) xs ≡ map (λ (y : Touch). read_text p y.location) ys
texts_there p [] [] e = refl
texts_there p (x ∷ xs) (y ∷ ys) e = let h : located [] x ≡ y.location = (cc) in let t : map (located []) xs ≡ map location_of ys = (cc) in rw h (ap (λ zs. read_text p y.location ∷ zs) (texts_there p xs ys t))
texts_there p _ _ e = absurd (cc)

pub walk_shown : (p : Program) (ts : List Touch) (o : Option ℕ) (xs : List LocationKey) → IsWalkTo ts o xs → ((a : ℕ) → o ≡ Some a → (ys : List Touch) × Walk ts a ys) → IsWalkText p ts o (map (λ (x : LocationKey). read_text p (located [] x)) xs)
walk_shown p ts None xs w f = rw w refl
walk_shown p ts (Some a) xs w f = let r = f a refl in (r.0, r.1, texts_there p xs r.0 (w r.0 r.1))
