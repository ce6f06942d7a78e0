-- The search for the ancestors of a class.
use Rattle.std.proofs.Common.{◌≡◌, ◌⊎◌, ℕ, zero, suc, ◌+◌, ◌<◌, ◌≤◌, List, [], ◌∷◌, ◌++◌, append-nil, append_assoc, length, get_or, take, Bool, true, false, ◌||◌, ◌&&◌, if◌then◌else◌, nat_eq, nat_lt, refl, sym, ◌∙◌, ap, subst, inl, inr, arith, Option, Some, None}
use Rattle.std.specs.{List.list_all, Option.option_to_list}
use Rattle.std.proofs.lemmas.Bool.{and_parts, or_cases, or_left, or_right, eqb-true, eq-eqb, ltb-true, cases_lt}
use Rattle.std.proofs.lemmas.List.{Folds.list_any-append, get_or-take, get_or_past, get_or_append_left, length-append}
use Rattle.indexmap.specs.IndexSet.{insert_key, insert_all}
use Rattle.jvm_model.specs.declared.program.{Program.Program, ClassRec.ClassRec}
use Rattle.jvm_model.specs.{Builtin.builtin_count, Library.builtin_defs, Library.builtin_classes}
use Rattle.jvm_model.specs.{Classes.class_at, Classes.no_class, Classes.member, Linked.IsDirect, Linked.IsAncestor, Linked.direct, Linked.further}
use Rattle.member_lookup.specs.Ancestors.{directs, AreAncestors}

-- ---- numbers that are noted

pub any_append : (d : ℕ) (xs ys : List ℕ) → member d (xs ++ ys) ≡ (member d xs || member d ys)
any_append d xs ys = list_any-append (nat_eq d) xs ys

pub member_self : (d : ℕ) → member d (d ∷ []) ≡ true
member_self d = rw (eq-eqb d d refl) refl

if_there : (b : Bool) (ks : List ℕ) (x : ℕ) → member x ks ≡ b → member x (if b then ks else ks ++ x ∷ []) ≡ true
if_there true ks x e = e
if_there false ks x e = any_append x ks (x ∷ []) ∙ or_right (member x ks) (member x (x ∷ [])) (member_self x)

if_from : (b : Bool) (ks : List ℕ) (x d : ℕ) → member d (if b then ks else ks ++ x ∷ []) ≡ true → (member d ks ≡ true) ⊎ (member d (x ∷ []) ≡ true)
if_from true ks x d m = inl m
if_from false ks x d m = or_cases (member d ks) (member d (x ∷ [])) (sym (any_append d ks (x ∷ [])) ∙ m)

-- what was noted before stays in front
if_grows : (b : Bool) (ks : List ℕ) (x : ℕ) → (more : List ℕ) × ((if b then ks else ks ++ x ∷ []) ≡ ks ++ more)
if_grows true ks x = ([], sym (append-nil ks))
if_grows false ks x = (x ∷ [], refl)

insert_grows : (ks xs : List ℕ) → (more : List ℕ) × (insert_all nat_eq ks xs ≡ ks ++ more)
insert_grows ks [] = ([], sym (append-nil ks))
insert_grows ks (x ∷ xs) =
    let one = if_grows (member x ks) ks x in
    let rest = insert_grows (insert_key nat_eq ks x) xs in
    (one.0 ++ rest.0, rest.1 ∙ ap (λ ls. ls ++ rest.0) one.1 ∙ append_assoc ks one.0 rest.0)

pub member_kept : (ks xs : List ℕ) (d : ℕ) → member d ks ≡ true → member d (insert_all nat_eq ks xs) ≡ true
member_kept ks xs d m = let g = insert_grows ks xs in ap (member d) g.1 ∙ any_append d ks g.0 ∙ or_left (member d ks) (member d g.0) m

pub member_there : (ks xs : List ℕ) (d : ℕ) → member d xs ≡ true → member d (insert_all nat_eq ks xs) ≡ true
member_there ks [] d m = absurd (cc)
member_there ks (x ∷ xs) d m = elim (or_cases (nat_eq d x) (member d xs) m) [
  | inl q ↦ member_kept (insert_key nat_eq ks x) xs d (subst (λ y. member y (insert_key nat_eq ks x) ≡ true) (sym (eqb-true d x q)) (if_there (member x ks) ks x refl))
  | inr q ↦ member_there (insert_key nat_eq ks x) xs d q
]

from_cons : (ks xs : List ℕ) (x d : ℕ) → (member d (insert_key nat_eq ks x) ≡ true) ⊎ (member d xs ≡ true) → (member d ks ≡ true) ⊎ (member d (x ∷ xs) ≡ true)
from_cons ks xs x d (inr m) = inr (or_right (nat_eq d x) (member d xs) m)
from_cons ks xs x d (inl m) = elim (if_from (member x ks) ks x d m) [
  | inl q ↦ inl q
  | inr q ↦ elim (or_cases (nat_eq d x) false q) [ inl e ↦ inr (or_left (nat_eq d x) (member d xs) e) | inr e ↦ absurd (cc) ]
]

pub member_from : (ks xs : List ℕ) (d : ℕ) → member d (insert_all nat_eq ks xs) ≡ true → (member d ks ≡ true) ⊎ (member d xs ≡ true)
member_from ks [] d m = inl m
member_from ks (x ∷ xs) d m = from_cons ks xs x d (member_from (insert_key nat_eq ks x) xs d m)

insert_get : (ks xs : List ℕ) (j : ℕ) → j < length ks → get_or (insert_all nat_eq ks xs) j 0 ≡ get_or ks j 0
insert_get ks xs j h = let g = insert_grows ks xs in ap (λ ls. get_or ls j 0) g.1 ∙ get_or_append_left ks g.0 0 j h

length_insert : (ks xs : List ℕ) → length ks ≤ length (insert_all nat_eq ks xs)
length_insert ks xs = let g = insert_grows ks xs in omega (arith, ap length g.1, length-append ks g.0)

pub member_get : (ks : List ℕ) (j : ℕ) → j < length ks → member (get_or ks j 0) ks ≡ true
member_get [] j h = absurd (omega arith)
member_get (k ∷ ks) zero h = or_left (nat_eq k k) (member k ks) (eq-eqb k k refl)
member_get (k ∷ ks) (suc j) h = or_right (nat_eq (get_or ks j 0) k) (member (get_or ks j 0) ks) (member_get ks j (omega arith))

pub place_of : (ks : List ℕ) (d : ℕ) → member d ks ≡ true → (j : ℕ) × (j < length ks) × (get_or ks j 0 ≡ d)
place_of [] d m = absurd (cc)
place_of (k ∷ ks) d m = elim (or_cases (nat_eq d k) (member d ks) m) [
  | inl q ↦ (0, omega arith, sym (eqb-true d k q))
  | inr q ↦ let r = place_of ks d q in (suc r.0, let g = r.1 in omega arith, r.2)
]

-- ---- direct superclasses and superinterfaces

from_option : (o : Option ℕ) (d : ℕ) → member d (option_to_list o) ≡ true → o ≡ Some d
from_option None d m = absurd (cc)
from_option (Some x) d m = elim (or_cases (nat_eq d x) false m) [ inl q ↦ ap (λ n. Some n) (sym (eqb-true d x q)) | inr q ↦ absurd (cc) ]

pub is_direct : (p : Program) (c d : ℕ) → member d (directs p c) ≡ true → IsDirect p c d
is_direct p c d m = elim (or_cases (member d (option_to_list (class_at p c).superclass)) (member d (class_at p c).interfaces) (sym (any_append d (option_to_list (class_at p c).superclass) (class_at p c).interfaces) ∙ m)) [
  | inl q ↦ inl (from_option (class_at p c).superclass d q)
  | inr q ↦ inr q
]

pub in_directs : (p : Program) (c d : ℕ) → IsDirect p c d → member d (directs p c) ≡ true
in_directs p c d (inl e) = any_append d (option_to_list (class_at p c).superclass) (class_at p c).interfaces ∙ or_left (member d (option_to_list (class_at p c).superclass)) (member d (class_at p c).interfaces) (ap (λ o. member d (option_to_list o)) e ∙ member_self d)
in_directs p c d (inr m) = any_append d (option_to_list (class_at p c).superclass) (class_at p c).interfaces ∙ or_right (member d (option_to_list (class_at p c).superclass)) (member d (class_at p c).interfaces) m

trans : (p : Program) (c d e : ℕ) → IsAncestor p c d → IsAncestor p d e → IsAncestor p c e
trans p c d e (direct h) b = further h b
trans p c d e (further h a) b = further h (trans p _ d e a b)

-- ---- the search

-- Of the noted numbers, all ancestors of c, those before the place have their directs among the noted ones.
pub record Searches (p : Program) (c place : ℕ) (keys : List ℕ) : Type 0 where
  pub sound : (d : ℕ) → member d keys ≡ true → IsAncestor p c d
  pub near : (d : ℕ) → member d (directs p c) ≡ true → member d keys ≡ true
  pub closed : (j : ℕ) → j < place → (d : ℕ) → member d (directs p (get_or keys j 0)) ≡ true → member d keys ≡ true
  pub within : place ≤ length keys

pub searches_none : (p : Program) (c : ℕ) → Searches p c 0 (insert_all nat_eq [] (directs p c))
searches_none p c = record {
  sound = λ d m. elim (member_from [] (directs p c) d m) [ inl q ↦ absurd (cc) | inr q ↦ direct (is_direct p c d q) ];
  near = λ d m. member_there [] (directs p c) d m;
  closed = λ j h d m. absurd (omega arith);
  within = omega arith;
}

closed_more : (p : Program) (c place : ℕ) (keys : List ℕ) → Searches p c place keys → place < length keys → (j : ℕ) → j < place + 1 → (d : ℕ) → member d (directs p (get_or (insert_all nat_eq keys (directs p (get_or keys place 0))) j 0)) ≡ true → member d (insert_all nat_eq keys (directs p (get_or keys place 0))) ≡ true
closed_more p c place keys s h j g d m =
    let xs = directs p (get_or keys place 0) in
    let here : member d (directs p (get_or keys j 0)) ≡ true = subst (λ x. member d (directs p x) ≡ true) (insert_get keys xs j (omega arith)) m in
    elim (cases_lt j place) [
      | inl q ↦ member_kept keys xs d (s.closed j q d here)
      | inr q ↦ let e : j ≡ place = omega arith in member_there keys xs d (subst (λ (x : ℕ). member d (directs p (get_or keys x 0)) ≡ true) e here)
    ]

pub searches_more : (p : Program) (c place : ℕ) (keys : List ℕ) → Searches p c place keys → place < length keys → Searches p c (place + 1) (insert_all nat_eq keys (directs p (get_or keys place 0)))
searches_more p c place keys s h =
    let next = get_or keys place 0 in
    let xs = directs p next in
    let known : IsAncestor p c next = s.sound next (member_get keys place h) in
    record {
      sound = λ d m. elim (member_from keys xs d m) [ inl q ↦ s.sound d q | inr q ↦ trans p c next d known (direct (is_direct p next d q)) ];
      near = λ d m. member_kept keys xs d (s.near d m);
      closed = λ j g d m. closed_more p c place keys s h j g d m;
      within = let q = length_insert keys xs in omega arith;
    }

-- what is above a noted number is noted where each has its directs noted
above_noted : (p : Program) (keys : List ℕ) → ((j : ℕ) → j < length keys → (d : ℕ) → member d (directs p (get_or keys j 0)) ≡ true → member d keys ≡ true) → (c d : ℕ) → ((e : ℕ) → member e (directs p c) ≡ true → member e keys ≡ true) → IsAncestor p c d → member d keys ≡ true
above_noted p keys f c d near (direct h) = near d (in_directs p c d h)
above_noted p keys f c d near (further {d = e} h a) =
    let r = place_of keys e (near e (in_directs p c e h)) in
    above_noted p keys f e d (λ x m. f r.0 r.1 x (subst (λ y. member x (directs p y) ≡ true) (sym r.2) m)) a

pub searches_all : (p : Program) (c place : ℕ) (keys : List ℕ) → Searches p c place keys → length keys ≤ place → AreAncestors p c keys
searches_all p c place keys s h d = (λ m. s.sound d m, λ a. above_noted p keys (λ j g x m. s.closed j (omega arith) x m) c d s.near a)

-- ---- classes that aren't there, and built-in ones

pub nothing_above : (p : Program) (c d : ℕ) → length p.classes ≤ c → member d (directs p c) ≡ true → ⊥
nothing_above p c d h m =
    let e : class_at p c ≡ no_class = get_or_past p.classes c no_class h in
    let q : member d [] ≡ true = subst (λ (r : ClassRec). member d (option_to_list r.superclass ++ r.interfaces) ≡ true) e m in
    cc

no_ancestor : (p : Program) (c d : ℕ) → length p.classes ≤ c → IsAncestor p c d → ⊥
no_ancestor p c d h (direct g) = nothing_above p c d h (in_directs p c d g)
no_ancestor p c d h (further {d = e} g a) = nothing_above p c e h (in_directs p c e g)

-- each class stands behind its superclass and superinterfaces
abbrev in_order : ℕ → List ClassRec → Bool
in_order n [] = true
in_order n (c ∷ cs) = list_all (λ d. nat_lt d n) (option_to_list c.superclass ++ c.interfaces) && in_order (n + 1) cs

builtins_in_order : in_order 0 builtin_classes ≡ true
unfolding builtin_classes builtin_defs
builtins_in_order = refl

all_below : (n d : ℕ) (xs : List ℕ) → list_all (λ x. nat_lt x n) xs ≡ true → member d xs ≡ true → d < n
all_below n d [] a m = absurd (cc)
all_below n d (x ∷ xs) a m = let q = and_parts (nat_lt x n) (list_all (λ y. nat_lt y n) xs) a in elim (or_cases (nat_eq d x) (member d xs) m) [
  | inl e ↦ subst (λ y. y < n) (sym (eqb-true d x e)) (ltb-true x n q.0)
  | inr r ↦ all_below n d xs q.1 r
]

order_at : (n i d : ℕ) (cs : List ClassRec) → in_order n cs ≡ true → member d (option_to_list (get_or cs i no_class).superclass ++ (get_or cs i no_class).interfaces) ≡ true → d < n + i
order_at n i d [] o m = absurd (cc)
order_at n zero d (c ∷ cs) o m = let q = all_below n d (option_to_list c.superclass ++ c.interfaces) (and_parts (list_all (λ x. nat_lt x n) (option_to_list c.superclass ++ c.interfaces)) (in_order (n + 1) cs) o).0 m in omega arith
order_at n (suc i) d (c ∷ cs) o m = let q = order_at (n + 1) i d cs (and_parts (list_all (λ x. nat_lt x n) (option_to_list c.superclass ++ c.interfaces)) (in_order (n + 1) cs) o).1 m in omega arith

builtin_above : (p : Program) → take builtin_count p.classes ≡ builtin_classes → (c d : ℕ) → c < builtin_count → member d (directs p c) ≡ true → d < c
builtin_above p b c d h m =
    let e : class_at p c ≡ get_or builtin_classes c no_class = sym (get_or-take builtin_count p.classes c no_class h) ∙ ap (λ (cs : List ClassRec). get_or cs c no_class) b in
    let q = order_at 0 c d builtin_classes builtins_in_order (subst (λ (r : ClassRec). member d (option_to_list r.superclass ++ r.interfaces) ≡ true) e m) in
    omega arith

below_builtin : (p : Program) → take builtin_count p.classes ≡ builtin_classes → (c d : ℕ) → c < builtin_count → IsAncestor p c d → d < c
below_builtin p b c d h (direct g) = builtin_above p b c d h (in_directs p c d g)
below_builtin p b c d h (further {d = e} g a) = let q = builtin_above p b c e h (in_directs p c e g) in let r = below_builtin p b e d (omega arith) a in omega arith

-- ---- the first cycle

-- none of the classes below n is its own ancestor
abbrev pub NoneBelow : Program → ℕ → Type 0
NoneBelow p n = (c : ℕ) → c < n → IsAncestor p c c → ⊥

pub none_builtin : (p : Program) → take builtin_count p.classes ≡ builtin_classes → NoneBelow p builtin_count
none_builtin p b c h a = let q = below_builtin p b c c h a in absurd (omega arith)

pub none_more : (p : Program) (n : ℕ) → NoneBelow p n → (IsAncestor p n n → ⊥) → NoneBelow p (n + 1)
none_more p n f g c h a = elim (cases_lt c n) [ inl q ↦ f c q a | inr q ↦ let e : c ≡ n = omega arith in g (subst (λ x. IsAncestor p x x) e a) ]

pub none_all : (p : Program) (n : ℕ) → length p.classes ≤ n → NoneBelow p n → (c : ℕ) → IsAncestor p c c → ⊥
none_all p n h f c a = elim (cases_lt c n) [ inl q ↦ f c q a | inr q ↦ no_ancestor p c c (omega arith) a ]
