-- Lists without later mentions, and what looks the same in them.
use Rattle.std.proofs.Common.{◌≡◌, ℕ, List, [], ◌∷◌, ◌++◌, append-nil, append_assoc, filter, find, flat_map, Bool, true, false, not, ◌||◌, ◌&&◌, cond, if◌then◌else◌, nat_eq, refl, sym, ◌∙◌, ap, subst, Option, Some, None}
use Rattle.std.specs.{List.list_any, Option.option_or}
use Rattle.std.proofs.{Math.Bool.and_comm, lemmas.List.Elements.filter-append, lemmas.List.Elements.filter_agree, lemmas.List.Folds.find-append}
use Rattle.std.proofs.lemmas.Bool.{eqb-true, eq-eqb}
use Rattle.indexmap.specs.IndexSet.{insert_all}
use Rattle.jvm_model.specs.Classes.{member, first_mentions}
use Rattle.member_lookup.proofs.{Ancestry.any_append, Ancestry.member_kept, Ancestry.member_there, Walking.insert_append, Walking.insert_known}

-- ---- tests

pub same_test : (a b : Bool) → (a ≡ true → b ≡ true) → (b ≡ true → a ≡ true) → a ≡ b
same_test true true f g = refl
same_test true false f g = sym (f refl)
same_test false true f g = g refl
same_test false false f g = refl

eq_turned : (x y : ℕ) → nat_eq x y ≡ nat_eq y x
eq_turned x y = same_test (nat_eq x y) (nat_eq y x) (λ e. eq-eqb y x (sym (eqb-true x y e))) (λ e. eq-eqb x y (sym (eqb-true y x e)))

neither : (a b : Bool) → not (a || (b || false)) ≡ (not b && not a)
neither true true = refl
neither true false = refl
neither false true = refl
neither false false = refl

-- ---- filters

keep_both : (f : ℕ → Bool) (b : Bool) (x : ℕ) (ys zs : List ℕ) → filter f ys ≡ zs → filter f (cond b (x ∷ ys) ys) ≡ cond (b && f x) (x ∷ zs) zs
keep_both f true x ys zs e = ap (λ l. cond (f x) (x ∷ l) l) e
keep_both f false x ys zs e = e

pub filter_both : (f g : ℕ → Bool) (xs : List ℕ) → filter f (filter g xs) ≡ filter (λ x. g x && f x) xs
filter_both f g [] = refl
filter_both f g (x ∷ xs) = keep_both f (g x) x (filter g xs) (filter (λ y. g y && f y) xs) (filter_both f g xs)

filter_all : (xs : List ℕ) → filter (λ y. true) xs ≡ xs
filter_all [] = refl
filter_all (x ∷ xs) = ap (λ l. x ∷ l) (filter_all xs)

-- the numbers but x
abbrev but : ℕ → List ℕ → List ℕ
but x ys = filter (λ y. not (nat_eq x y)) ys

skipped : (h : ℕ → Bool) (x y : ℕ) (b : Bool) → nat_eq x y ≡ b → h x ≡ false → (not b && h y) ≡ h y
skipped h x y true e f = sym (subst (λ z. h z ≡ false) (eqb-true x y e) f)
skipped h x y false e f = refl

-- a number that doesn't pass can be left out before
filter_but : (h : ℕ → Bool) (x : ℕ) (ys : List ℕ) → h x ≡ false → filter h (but x ys) ≡ filter h ys
filter_but h x ys f = filter_both h (λ y. not (nat_eq x y)) ys ∙ filter_agree (λ y. not (nat_eq x y) && h y) h (λ y. skipped h x y (nat_eq x y) refl f) ys

filter_turned : (f g : ℕ → Bool) (xs : List ℕ) → filter f (filter g xs) ≡ filter g (filter f xs)
filter_turned f g xs = filter_both f g xs ∙ filter_agree (λ x. g x && f x) (λ x. f x && g x) (λ x. and_comm (g x) (f x)) xs ∙ sym (filter_both g f xs)

mentions_cond : (h : ℕ → Bool) (b : Bool) (x : ℕ) (xs : List ℕ) → h x ≡ b → filter h (first_mentions xs) ≡ first_mentions (filter h xs)
    → cond b (x ∷ filter h (but x (first_mentions xs))) (filter h (but x (first_mentions xs))) ≡ first_mentions (cond b (x ∷ filter h xs) (filter h xs))
mentions_cond h true x xs e i = ap (λ l. x ∷ l) (filter_turned h (λ y. not (nat_eq x y)) (first_mentions xs) ∙ ap (λ l. but x l) i)
mentions_cond h false x xs e i = filter_but h x (first_mentions xs) e ∙ i

pub filter_mentions : (h : ℕ → Bool) (xs : List ℕ) → filter h (first_mentions xs) ≡ first_mentions (filter h xs)
filter_mentions h [] = refl
filter_mentions h (x ∷ xs) = mentions_cond h (h x) x xs refl (filter_mentions h xs)

pub filter_flat : (h : ℕ → Bool) (g : ℕ → List ℕ) (xs : List ℕ) → filter h (flat_map g xs) ≡ flat_map (λ x. filter h (g x)) xs
filter_flat h g [] = refl
filter_flat h g (x ∷ xs) = filter-append h (g x) (flat_map g xs) ∙ ap (λ l. filter h (g x) ++ l) (filter_flat h g xs)

-- ---- numbers noted once each are the first mentions

noted_step : (b : Bool) (ks : List ℕ) (x : ℕ) (xs : List ℕ) → member x ks ≡ b
    → ((ls : List ℕ) → insert_all nat_eq ls xs ≡ ls ++ filter (λ y. not (member y ls)) (first_mentions xs))
    → insert_all nat_eq (if b then ks else ks ++ x ∷ []) xs ≡ ks ++ cond (not b) (x ∷ filter (λ y. not (member y ks)) (but x (first_mentions xs))) (filter (λ y. not (member y ks)) (but x (first_mentions xs)))
noted_step true ks x xs e i = i ks ∙ ap (λ l. ks ++ l) (sym (filter_but (λ y. not (member y ks)) x (first_mentions xs) (ap (λ b. not b) e)))
noted_step false ks x xs e i =
    let agree = filter_agree (λ y. not (member y (ks ++ x ∷ []))) (λ y. not (nat_eq x y) && not (member y ks)) (λ y. ap (λ b. not b) (any_append y ks (x ∷ [])) ∙ neither (member y ks) (nat_eq y x) ∙ ap (λ b. not b && not (member y ks)) (eq_turned y x)) (first_mentions xs) in
    i (ks ++ x ∷ []) ∙ append_assoc ks (x ∷ []) (filter (λ y. not (member y (ks ++ x ∷ []))) (first_mentions xs))
    ∙ ap (λ l. ks ++ x ∷ l) (agree ∙ sym (filter_both (λ y. not (member y ks)) (λ y. not (nat_eq x y)) (first_mentions xs)))

insert_is : (xs ks : List ℕ) → insert_all nat_eq ks xs ≡ ks ++ filter (λ y. not (member y ks)) (first_mentions xs)
insert_is [] ks = sym (append-nil ks)
insert_is (x ∷ xs) ks = noted_step (member x ks) ks x xs refl (λ ls. insert_is xs ls)

pub first_is : (xs : List ℕ) → insert_all nat_eq [] xs ≡ first_mentions xs
first_is xs = insert_is xs [] ∙ filter_all (first_mentions xs)

-- ---- searches

or_same : {X : Type 0} (o : Option X) (a b : Option X) → (o ≡ None → a ≡ b) → option_or o a ≡ option_or o b
or_same None a b f = f refl
or_same (Some x) a b f = refl

find_cond : (f : ℕ → Bool) (g : ℕ → List ℕ) (x y : ℕ) (b : Bool) (ys zs : List ℕ) → nat_eq x y ≡ b → find f (g x) ≡ None → find f (flat_map g zs) ≡ find f (flat_map g ys)
    → find f (flat_map g (cond (not b) (y ∷ zs) zs)) ≡ find f (g y ++ flat_map g ys)
find_cond f g x y true ys zs e n i =
    let none : find f (g y) ≡ None = subst (λ z. find f (g z) ≡ None) (eqb-true x y e) n in
    i ∙ sym (find-append f (g y) (flat_map g ys) ∙ ap (λ o. option_or o (find f (flat_map g ys))) none)
find_cond f g x y false ys zs e n i = find-append f (g y) (flat_map g zs) ∙ ap (λ o. option_or (find f (g y)) o) i ∙ sym (find-append f (g y) (flat_map g ys))

find_but : (f : ℕ → Bool) (g : ℕ → List ℕ) (x : ℕ) (ys : List ℕ) → find f (g x) ≡ None → find f (flat_map g (but x ys)) ≡ find f (flat_map g ys)
find_but f g x [] n = refl
find_but f g x (y ∷ ys) n = find_cond f g x y (nat_eq x y) ys (but x ys) refl n (find_but f g x ys n)

-- a search through the lists of classes finds the same where later mentions are left out
pub find_mentions : (f : ℕ → Bool) (g : ℕ → List ℕ) (xs : List ℕ) → find f (flat_map g (first_mentions xs)) ≡ find f (flat_map g xs)
find_mentions f g [] = refl
find_mentions f g (x ∷ xs) =
    find-append f (g x) (flat_map g (but x (first_mentions xs)))
    ∙ or_same (find f (g x)) (find f (flat_map g (but x (first_mentions xs)))) (find f (flat_map g xs)) (λ n. find_but f g x (first_mentions xs) n ∙ find_mentions f g xs)
    ∙ sym (find-append f (g x) (flat_map g xs))

-- ---- what lists of classes have, each noted once

known_cond : (g : ℕ → List ℕ) (x y : ℕ) (b : Bool) (ks ys zs : List ℕ) → nat_eq x y ≡ b → ((d : ℕ) → member d (g x) ≡ true → member d ks ≡ true)
    → ((ls : List ℕ) → ((d : ℕ) → member d (g x) ≡ true → member d ls ≡ true) → insert_all nat_eq ls (flat_map g zs) ≡ insert_all nat_eq ls (flat_map g ys))
    → insert_all nat_eq ks (flat_map g (cond (not b) (y ∷ zs) zs)) ≡ insert_all nat_eq ks (g y ++ flat_map g ys)
known_cond g x y true ks ys zs e k i =
    let there : (d : ℕ) → member d (g y) ≡ true → member d ks ≡ true = subst (λ (z : ℕ). (d : ℕ) → member d (g z) ≡ true → member d ks ≡ true) (eqb-true x y e) k in
    i ks k ∙ sym (insert_append ks (g y) (flat_map g ys) ∙ ap (λ ls. insert_all nat_eq ls (flat_map g ys)) (insert_known ks (g y) there))
known_cond g x y false ks ys zs e k i =
    insert_append ks (g y) (flat_map g zs) ∙ i (insert_all nat_eq ks (g y)) (λ d m. member_kept ks (g y) d (k d m)) ∙ sym (insert_append ks (g y) (flat_map g ys))

known_but : (g : ℕ → List ℕ) (x : ℕ) (ys ks : List ℕ) → ((d : ℕ) → member d (g x) ≡ true → member d ks ≡ true) → insert_all nat_eq ks (flat_map g (but x ys)) ≡ insert_all nat_eq ks (flat_map g ys)
known_but g x [] ks k = refl
known_but g x (y ∷ ys) ks k = known_cond g x y (nat_eq x y) ks ys (but x ys) refl k (λ ls h. known_but g x ys ls h)

insert_mentions : (g : ℕ → List ℕ) (xs ks : List ℕ) → insert_all nat_eq ks (flat_map g (first_mentions xs)) ≡ insert_all nat_eq ks (flat_map g xs)
insert_mentions g [] ks = refl
insert_mentions g (x ∷ xs) ks =
    insert_append ks (g x) (flat_map g (but x (first_mentions xs)))
    ∙ known_but g x (first_mentions xs) (insert_all nat_eq ks (g x)) (λ d m. member_there ks (g x) d m)
    ∙ insert_mentions g xs (insert_all nat_eq ks (g x))
    ∙ sym (insert_append ks (g x) (flat_map g xs))

pub flat_mentions : (g : ℕ → List ℕ) (xs : List ℕ) → first_mentions (flat_map g (first_mentions xs)) ≡ first_mentions (flat_map g xs)
flat_mentions g xs = sym (first_is (flat_map g (first_mentions xs))) ∙ insert_mentions g xs [] ∙ first_is (flat_map g xs)

pub any_flat : (d : ℕ) (g : ℕ → List ℕ) (xs : List ℕ) → list_any (λ x. member d (g x)) xs ≡ member d (flat_map g xs)
any_flat d g [] = refl
any_flat d g (x ∷ xs) = ap (λ b. member d (g x) || b) (any_flat d g xs) ∙ sym (any_append d (g x) (flat_map g xs))
