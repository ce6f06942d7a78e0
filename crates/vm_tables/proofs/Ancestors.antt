-- What stands above a class are classes; tables of it for all class numbers.
use Rattle.std.proofs.Common.{replicate, set, take, get_or-set_other, get_or-set_same, ◌≡◌, ℕ, zero, suc, ◌+◌, ◌<◌, ◌≤◌, List, [], ◌∷◌, length, get_or, flat_map, All, Bool, true, false, ◌||◌, nat_eq, refl, sym, ◌∙◌, ap, subst, inl, inr, arith}
use Rattle.std.proofs.lemmas.Bool.{cases_Bool, cases_lt, or_cases, or_left, or_right, eqb-true, eqb-false}
use Rattle.std.proofs.{Math.Bool.or-false, Math.Bool.or-true, lemmas.List.Elements.All-from_get_or, lemmas.List.get_or_past, lemmas.List.take_more}
use Rattle.jvm_model.specs.{declared.program.Program.Program, Linked.IsClass, Linked.Linked, Selection.all_interfaces}
use Rattle.jvm_model.specs.Classes.{class_at, no_class, class_bound, member, upwards, lineage_in, own_interfaces, implements, is_below}
use Rattle.jvm_model.proofs.{Interfaces.member_first, Interfaces.member-first_mentions, Ranges.default_in, Upwards.member_class, Walks.all_member}
use Rattle.member_lookup.proofs.Ancestry.{any_append, member_get}
use Rattle.vm_tables.specs.Hierarchy.{AreOwn, AreInterfaces, AreImplemented, AreBelow}
use Rattle.vm_tables.proofs.Started.{table_all}

-- what holds of each member holds of each entry
all_from : (P : ℕ → Type 0) (xs : List ℕ) → ((d : ℕ) → member d xs ≡ true → P d) → All P xs
all_from P xs f = All-from_get_or P xs 0 (λ i h. f (get_or xs i 0) (member_get xs i h))

-- where a member of what lists lead to comes from
led : (P : Type 0) (g : ℕ → List ℕ) (xs : List ℕ) (e : ℕ) → ((d : ℕ) → member d xs ≡ true → member e (g d) ≡ true → P) → member e (flat_map g xs) ≡ true → P
led P g [] e f m = absurd (cc)
led P g (x ∷ xs) e f m = elim (or_cases (member e (g x)) (member e (flat_map g xs)) (sym (any_append e (g x) (flat_map g xs)) ∙ m)) [
  | inl q ↦ f x (member_first x xs) q
  | inr q ↦ led P g xs e (λ d n r. f d (or_right (nat_eq d x) (member d xs) n) r) q
]

module _ (p : Program) (l : Linked p) where
  lineage_class : (k c e : ℕ) → IsClass p c → member e (lineage_in p k c) ≡ true → IsClass p e
  lineage_class zero c e h m = absurd (cc)
  lineage_class (suc k) c e h m =
      let above = flat_map (λ j. lineage_in p k j) (class_at p c).interfaces in
      elim (or_cases (member e above) (member e (c ∷ [])) (sym (any_append e above (c ∷ [])) ∙ m)) [
        | inl q ↦ led (IsClass p e) (λ j. lineage_in p k j) (class_at p c).interfaces e (λ d n r. lineage_class k d e (all_member (λ x. IsClass p x) _ (l.numbers.classes c h).interfaces d n) r) q
        | inr q ↦ elim (or_cases (nat_eq e c) false q) [ inl s ↦ subst (λ x. IsClass p x) (sym (eqb-true e c s)) h | inr none ↦ absurd (cc) ]
      ]

  own_class : (c e : ℕ) → IsClass p c → member e (own_interfaces p c) ≡ true → IsClass p e
  unfolding own_interfaces
  own_class c e h m =
      led (IsClass p e) (λ j. lineage_in p class_bound j) (class_at p c).interfaces e (λ d n r. lineage_class class_bound d e (all_member (λ x. IsClass p x) _ (l.numbers.classes c h).interfaces d n) r)
      (sym (member-first_mentions e (flat_map (λ j. lineage_in p class_bound j) (class_at p c).interfaces)) ∙ m)

  pub interfaces_there : (c : ℕ) → IsClass p c → All (λ n. n < length p.classes) (all_interfaces p c)
  interfaces_there c h = all_from (λ n. n < length p.classes) (all_interfaces p c) (λ e m.
      led (IsClass p e) (λ d. own_interfaces p d) (upwards p c) e (λ d n r. own_class d e (member_class p l class_bound c d h n) r)
      (sym (member-first_mentions e (flat_map (λ d. own_interfaces p d) (upwards p c))) ∙ m))

  pub upwards_there : (c : ℕ) → IsClass p c → All (λ n. n < length p.classes) (upwards p c)
  upwards_there c h = all_from (λ n. n < length p.classes) (upwards p c) (λ e m. member_class p l class_bound c e h m)

pub implemented_is : (p : Program) (c i : ℕ) → member i (all_interfaces p c) ≡ implements p c i
unfolding implements
implemented_is p c i = member-first_mentions i (flat_map (λ d. own_interfaces p d) (upwards p c))

-- ---- a number past the classes

module _ (p : Program) (c : ℕ) (h : length p.classes ≤ c) where
  past : class_at p c ≡ no_class
  past = get_or_past p.classes c no_class h

  own_past : own_interfaces p c ≡ []
  unfolding own_interfaces
  own_past = rw past (refl {a = []})

  upwards_past : upwards p c ≡ c ∷ []
  unfolding class_bound
  upwards_past = rw past (refl {a = c ∷ []})

  interfaces_past : all_interfaces p c ≡ []
  interfaces_past = rw (upwards_past, own_past) (refl {a = []})

  implements_past : (i : ℕ) → implements p c i ≡ false
  implements_past i = sym (implemented_is p c i) ∙ ap (λ xs. member i xs) interfaces_past

  below_past : (d : ℕ) → is_below p c d ≡ (nat_eq d c || false)
  unfolding is_below
  below_past d = ap (λ xs. member d xs) upwards_past

-- ---- whole tables

below_itself : (p : Program) (c d : ℕ) → nat_eq d c ≡ true → is_below p c d ≡ true
unfolding is_below class_bound
below_itself p c d e = or_left (nat_eq d c) _ e

same_below : (p : Program) (c d : ℕ) → (nat_eq d c || is_below p c d) ≡ is_below p c d
same_below p c d = elim (cases_Bool (nat_eq d c)) [
  | inl e ↦ let b : is_below p c d ≡ true = below_itself p c d e in rw (e, b) refl
  | inr e ↦ rw e refl
]

module _ (p : Program) (n : ℕ) (k : length p.classes ≤ n) where
  pub own_all : (xs : List (List ℕ)) → length xs ≡ n → ((c : ℕ) → c < n → get_or xs c [] ≡ own_interfaces p c) → AreOwn p xs
  own_all xs l g = table_all (λ x. x) (own_interfaces p) [] xs (length p.classes) n l k g (λ c h. own_past p c h)

  pub interfaces_all : (xs : List (List ℕ)) → length xs ≡ n → ((c : ℕ) → c < n → get_or xs c [] ≡ all_interfaces p c) → AreInterfaces p xs
  interfaces_all xs l g = table_all (λ x. x) (λ c. all_interfaces p c) [] xs (length p.classes) n l k g (λ c h. interfaces_past p c h)

  pub implemented_all : (xs : List (List Bool)) → length xs ≡ n → ((c : ℕ) → c < n → (i : ℕ) → get_or (get_or xs c []) i false ≡ implements p c i) → AreImplemented p xs
  implemented_all xs l g c i = table_all (λ row. get_or row i false) (λ c. implements p c i) [] xs (length p.classes) n l k (λ c h. g c h i) (λ c h. implements_past p c h i) c

  pub below_all : (xs : List (List Bool)) → length xs ≡ n → ((c : ℕ) → c < n → (d : ℕ) → get_or (get_or xs c []) d false ≡ is_below p c d) → AreBelow p xs
  below_all xs l g c d = elim (cases_lt c n) [
    | inl i ↦ ap (λ b. nat_eq d c || b) (g c i d) ∙ same_below p c d
    | inr i ↦ ap (λ row. nat_eq d c || get_or row d false) (get_or_past xs c [] (omega arith)) ∙ sym (below_past p c (omega arith) d)
  ]

-- ---- flags

pub none_set : (n i : ℕ) → get_or (replicate n false) i false ≡ false
none_set n i = default_in n i false

flag_at : (flags : List Bool) (n x : ℕ) (m b : Bool) → nat_eq n x ≡ b → x < length flags → get_or flags n false ≡ m → get_or (set flags x true) n false ≡ (m || (b || false))
flag_at flags n x m true e l h = rw (eqb-true n x e) (get_or-set_same flags x true false l ∙ sym (or-true m))
flag_at flags n x m false e l h = get_or-set_other flags x n true false (eqb-false n x e) ∙ (h ∙ sym (or-false m))

-- one more number is noted
pub one_set : (flags : List Bool) (numbers : List ℕ) (i n : ℕ) → i < length numbers → get_or numbers i 0 < length flags → get_or flags n false ≡ member n (take i numbers)
    → get_or (set flags (get_or numbers i 0) true) n false ≡ member n (take (i + 1) numbers)
one_set flags numbers i n h l e =
    flag_at flags n (get_or numbers i 0) (member n (take i numbers)) (nat_eq n (get_or numbers i 0)) refl l e
    ∙ sym (ap (λ xs. member n xs) (take_more numbers i 0 h) ∙ any_append n (take i numbers) (get_or numbers i 0 ∷ []))
