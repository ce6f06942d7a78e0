-- Members of lists and edges of records: of two put together, of a list turned round, and those that a test finds.
use Rattle.std.proofs.Common.{◌≡◌, ◌⊎◌, ℕ, ◌<◌, true, nat_eq, List, [], ◌∷◌, ◌++◌, flat_map, reverse, refl, sym, subst, inl, inr, arith}
use Rattle.std.proofs.lemmas.Bool.{eq-eqb, eqb-true, or_cases, or_left, or_right}
use Rattle.std.proofs.lemmas.List.{reverse-append}
use Rattle.jvm_model.specs.Classes.{member}
use Rattle.order_law.specs.declared.edges.{Edge.Edge, EdgeKind.EdgeKind}
use Rattle.order_law.specs.Conflicts.{Member, HasEdge, Before, edge, chain, Joined, itself, forth, back}

-- two lists put together
pub member_left : {X : Type 0} (xs ys : List X) (x : X) → Member x xs → Member x (xs ++ ys)
member_left [] ys x i = absurd i
member_left (y ∷ xs) ys x i = elim i [ inl e ↦ inl e | inr j ↦ inr (member_left xs ys x j) ]

pub member_right : {X : Type 0} (xs ys : List X) (x : X) → Member x ys → Member x (xs ++ ys)
member_right [] ys x i = i
member_right (y ∷ xs) ys x i = inr (member_right xs ys x i)

pub member_either : {X : Type 0} (xs ys : List X) (x : X) → Member x (xs ++ ys) → Member x xs ⊎ Member x ys
member_either [] ys x i = inr i
member_either (y ∷ xs) ys x i = elim i [ inl e ↦ inl (inl e) | inr j ↦ elim (member_either xs ys x j) [ inl k ↦ inl (inr k) | inr k ↦ inr k ] ]

pub snoc_member : {X : Type 0} (xs : List X) (y x : X) → Member x (xs ++ (y ∷ [])) → Member x xs ⊎ (x ≡ y)
snoc_member xs y x i = elim (member_either xs (y ∷ []) x i) [ inl j ↦ inl j | inr j ↦ elim j [ inl e ↦ inr e | inr n ↦ absurd n ] ]

-- lists put together, one of each member
pub member_flat_map : {X Y : Type 0} (f : X → List Y) (xs : List X) (y : Y) → Member y (flat_map f xs) → (x : X) × Member x xs × Member y (f x)
member_flat_map f [] y i = absurd i
member_flat_map f (x ∷ xs) y i = elim (member_either (f x) (flat_map f xs) y i) [ inl j ↦ (x, inl refl, j) | inr j ↦ let r = member_flat_map f xs y j in (r.0, inr r.1, r.2) ]

-- a list turned round
pub member_reversed : {X : Type 0} (l : List X) (x : X) → Member x l → Member x (reverse l)
member_reversed [] x i = i
member_reversed {X} (y ∷ l) x i = subst (λ (z : List X). Member x z) (sym (reverse-append (y ∷ []) l)) (elim i [ inl e ↦ member_right (reverse l) (y ∷ []) x (inl e) | inr j ↦ member_left (reverse l) (y ∷ []) x (member_reversed l x j) ])

pub reversed_member : {X : Type 0} (l : List X) (x : X) → Member x (reverse l) → Member x l
reversed_member [] x i = i
reversed_member {X} (y ∷ l) x i = elim (snoc_member (reverse l) y x (subst (λ (z : List X). Member x z) (reverse-append (y ∷ []) l) i)) [ inl j ↦ inr (reversed_member l x j) | inr e ↦ inl e ]

-- the test that finds members
pub member_true : (x : ℕ) (l : List ℕ) → Member x l → member x l ≡ true
member_true x [] i = absurd i
member_true x (y ∷ l) i = elim i [ inl e ↦ or_left (nat_eq x y) (member x l) (eq-eqb x y e) | inr j ↦ or_right (nat_eq x y) (member x l) (member_true x l j) ]

pub true_member : (x : ℕ) (l : List ℕ) → member x l ≡ true → Member x l
true_member x [] e = absurd (cc)
true_member x (y ∷ l) e = elim (or_cases (nat_eq x y) (member x l) e) [ inl h ↦ inl (eqb-true x y h) | inr h ↦ inr (true_member x l h) ]

-- edges of two lists put together
pub edge_left : (R S : List Edge) (k : EdgeKind) (u t : ℕ) → HasEdge R k u t → HasEdge (R ++ S) k u t
edge_left [] S k u t i = absurd i
edge_left (x ∷ R) S k u t i = elim i [ inl e ↦ inl e | inr j ↦ inr (edge_left R S k u t j) ]

pub edge_right : (R S : List Edge) (k : EdgeKind) (u t : ℕ) → HasEdge S k u t → HasEdge (R ++ S) k u t
edge_right [] S k u t i = i
edge_right (x ∷ R) S k u t i = inr (edge_right R S k u t i)

pub edge_either : (R S : List Edge) (k : EdgeKind) (u t : ℕ) → HasEdge (R ++ S) k u t → HasEdge R k u t ⊎ HasEdge S k u t
edge_either [] S k u t i = inr i
edge_either (x ∷ R) S k u t i = elim i [ inl e ↦ inl (inl e) | inr j ↦ elim (edge_either R S k u t j) [ inl z ↦ inl (inr z) | inr z ↦ inr z ] ]

-- where each edge leads to a higher number, so does `Before`
pub before_up : (R : List Edge) → ((k : EdgeKind) (u t : ℕ) → HasEdge R k u t → u < t) → {u t : ℕ} → Before R u t → u < t
before_up R up (edge k {u} {t} h) = up k u t h
before_up R up (chain {u} {v} {t} a b) = let x : u < v = before_up R up a in let y : v < t = before_up R up b in omega arith

-- what is joined is of the set
pub joined_within : {R : List Edge} {S : ℕ → Type 0} {t u : ℕ} → Joined R S t u → S u
joined_within (itself s) = s
joined_within (forth j s b) = s
joined_within (back j s b) = s
