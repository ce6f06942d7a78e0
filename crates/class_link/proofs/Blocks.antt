-- Members of class files, fields or methods, behind the built-in ones: each stands in the block of its class.
use Rattle.std.proofs.Common.{◌≡◌, ◌⊎◌, ℕ, zero, suc, ◌+◌, ◌<◌, List, [], ◌∷◌, ◌++◌, length, map, get_or, slice_get, ◌-◌, refl, sym, ◌∙◌, ap, subst, inl, inr, arith, Option, Some, All}
use Rattle.std.specs.Prelude.{option_map, flat_map, take}
use Rattle.std.specs.List.{range_with_len}
use Rattle.std.proofs.lemmas.{Bool.cases_lt, Option.slice_get-map, Option.slice_get_within, Option.get_or_from_slice_get}
use Rattle.std.proofs.lemmas.List.{length-append, length-map, get_or-append-add, flat_map_more, take_more}
use Rattle.std.proofs.{lemmas.List.Elements.All-from_get_or, lemmas.List.FromFn.length-range_with_len, lemmas.List.FromFn.get_or-range_with_len}
use Rattle.class_reader.specs.declared.parts.{ClassParts.ClassParts, MemberPart.MemberPart}
use Rattle.jvm_model.specs.Builtin.{builtin_count}
use Rattle.class_link.specs.Assembly.{member_recs}

-- ---- places of a list

-- what stands at a place
pub record At {X : Type 0} (xs : List X) (i : ℕ) : Type 0 where
  pub item : X
  pub there : slice_get xs i ≡ Some item

pub at_place : {X : Type 0} (xs : List X) (i : ℕ) → i < length xs → At xs i
at_place [] i h = absurd (omega arith)
at_place (x ∷ xs) zero h = record { item = x; there = refl }
at_place (x ∷ xs) (suc i) h = let r = at_place xs i (omega arith) in record { item = r.item; there = r.there }

pub left_place : {X : Type 0} (xs ys : List X) (i : ℕ) (x : X) → slice_get xs i ≡ Some x → slice_get (xs ++ ys) i ≡ Some x
left_place [] ys i x e = absurd (cc)
left_place (y ∷ xs) ys zero x e = e
left_place (y ∷ xs) ys (suc i) x e = left_place xs ys i x e

pub right_place : {X : Type 0} (xs ys : List X) (i : ℕ) → slice_get (xs ++ ys) (length xs + i) ≡ slice_get ys i
right_place [] ys i = let e : 0 + i ≡ i = omega arith in rw e refl
right_place (x ∷ xs) ys i = let e : suc (length xs) + i ≡ suc (length xs + i) = omega arith in rw e (right_place xs ys i)

pub all_range : (P : ℕ → Type 0) (a n : ℕ) → ((k : ℕ) → k < n → P (a + k)) → All P (range_with_len a n)
all_range P a n f = All-from_get_or P (range_with_len a n) 0 (λ i h. let l = length-range_with_len a n in let g : i < n = omega arith in subst P (sym (get_or-range_with_len a n i 0 g)) (f i g))

-- what is made of each item so far, and of the next one
pub flat_at : {A B : Type 0} (f : A → List B) (xs : List A) (i : ℕ) (x : A) → i < length xs → x ≡ get_or xs i x → flat_map f (take i xs) ++ f x ≡ flat_map f (take (i + 1) xs)
flat_at f xs i x h is = flat_map_more f [] (take i xs) x ∙ ap (λ y. flat_map f (take i xs ++ y ∷ [])) is ∙ ap (flat_map f) (sym (take_more xs i x h))

-- ---- blocks

-- how many members the first i classes have
abbrev pub before : (ClassParts → List MemberPart) → List ClassParts → ℕ → ℕ
before members [] i = 0
before members (c ∷ cs) zero = 0
before members (c ∷ cs) (suc i) = length (members c) + before members cs i

-- the place j is that of a member of the class i
record Block (members : ClassParts → List MemberPart) (cs : List ClassParts) (j : ℕ) : Type 0 where
  class : ℕ
  index : ℕ
  parts : ClassParts
  member : MemberPart
  place : j ≡ before members cs class + index
  has_class : slice_get cs class ≡ Some parts
  has_member : slice_get (members parts) index ≡ Some member

-- the record x of the number j is that of a member of a class file, where so many members are built in
pub record GivenMember {X : Type 0} (make : ClassParts → ℕ → MemberPart → X) (members : ClassParts → List MemberPart) (built_in : ℕ) (cs : List ClassParts) (j : ℕ) (x : X) : Type 0 where
  pub class : ℕ
  pub index : ℕ
  pub parts : ClassParts
  pub member : MemberPart
  pub place : j ≡ (built_in + before members cs class) + index
  pub has_class : slice_get cs class ≡ Some parts
  pub has_member : slice_get (members parts) index ≡ Some member
  pub is : x ≡ make parts (builtin_count + class) member

module _ {X : Type 0} (make : ClassParts → ℕ → MemberPart → X) (members : ClassParts → List MemberPart) where
  block_at : (n : ℕ) (cs : List ClassParts) (i k : ℕ) (c : ClassParts) (x : MemberPart) → slice_get cs i ≡ Some c → slice_get (members c) k ≡ Some x →
      slice_get (member_recs make members n cs) (before members cs i + k) ≡ Some (make c (n + i) x)
  block_at n [] i k c x h g = absurd (cc)
  block_at n (d ∷ cs) zero k c x h g =
      let e : d ≡ c = cc in
      let z : 0 + k ≡ k = omega arith in
      let y : n + 0 ≡ n = omega arith in
      let s : slice_get (map (make c n) (members c)) k ≡ Some (make c n x) = slice_get-map (make c n) (members c) k ∙ ap (λ (o : Option MemberPart). option_map (make c n) o) g in
      rw (e, z, y) (left_place (map (make c n) (members c)) (member_recs make members (n + 1) cs) k (make c n x) s)
  block_at n (d ∷ cs) (suc i) k c x h g =
      let l : length (members d) ≡ length (map (make d n) (members d)) = sym (length-map (members d) (make d n)) in
      let e : (length (members d) + before members cs i) + k ≡ length (map (make d n) (members d)) + (before members cs i + k) = omega arith in
      let y : n + suc i ≡ (n + 1) + i = omega arith in
      rw (e, y) (right_place (map (make d n) (members d)) (member_recs make members (n + 1) cs) (before members cs i + k) ∙ block_at (n + 1) cs i k c x h g)

  block_of : (n : ℕ) (cs : List ClassParts) (j : ℕ) → j < length (member_recs make members n cs) → Block members cs j
  block_of n [] j h = absurd (omega arith)
  block_of n (c ∷ cs) j h =
      let l = length-append (map (make c n) (members c)) (member_recs make members (n + 1) cs) in
      let m = length-map (members c) (make c n) in
      elim (cases_lt j (length (members c))) [
        | inl g ↦ let a = at_place (members c) j g in record { class = 0; index = j; parts = c; member = a.item; place = omega arith; has_class = refl; has_member = a.there }
        | inr g ↦
            let b = block_of (n + 1) cs (j - length (members c)) (omega arith) in
            let e = b.place in
            record { class = suc b.class; index = b.index; parts = b.parts; member = b.member; place = omega arith; has_class = b.has_class; has_member = b.has_member }
      ]

  module _ (built_in : List X) (none : X) (cs : List ClassParts) where
    abbrev pub all_members : List X
    all_members = built_in ++ member_recs make members builtin_count cs

    -- the member k of the class i
    pub member_at : (i k : ℕ) (c : ClassParts) (x : MemberPart) → slice_get cs i ≡ Some c → slice_get (members c) k ≡ Some x →
        ((length built_in + before members cs i) + k < length all_members) × (get_or all_members ((length built_in + before members cs i) + k) none ≡ make c (builtin_count + i) x)
    member_at i k c x h g =
        let given = member_recs make members builtin_count cs in
        let there = block_at builtin_count cs i k c x h g in
        let within = slice_get_within given (before members cs i + k) (make c (builtin_count + i) x) there in
        let long = length-append built_in given in
        let place : (length built_in + before members cs i) + k ≡ length built_in + (before members cs i + k) = omega arith in
        (omega arith, rw place (get_or-append-add built_in given (before members cs i + k) none ∙ get_or_from_slice_get given (before members cs i + k) (make c (builtin_count + i) x) none there))

    -- what holds of each member of the class i holds of each of their numbers
    pub all_numbers : (P : ℕ → Type 0) (i : ℕ) (c : ClassParts) → ((k : ℕ) (x : MemberPart) → slice_get (members c) k ≡ Some x → P ((length built_in + before members cs i) + k)) →
        All P (range_with_len (length built_in + before members cs i) (length (members c)))
    all_numbers P i c f = all_range P (length built_in + before members cs i) (length (members c)) (λ k g. let a = at_place (members c) k g in f k a.item a.there)

    -- each number is that of a built-in member or of a given one
    pub member_cases : (j : ℕ) → j < length all_members → (j < length built_in) ⊎ GivenMember make members (length built_in) cs j (get_or all_members j none)
    member_cases j h = elim (cases_lt j (length built_in)) [
      | inl g ↦ inl g
      | inr g ↦
          let long = length-append built_in (member_recs make members builtin_count cs) in
          let b = block_of builtin_count cs (j - length built_in) (omega arith) in
          let at = b.place in
          let place : j ≡ (length built_in + before members cs b.class) + b.index = omega arith in
          let is = ap (λ n. get_or all_members n none) place ∙ (member_at b.class b.index b.parts b.member b.has_class b.has_member).1 in
          inr (record { class = b.class; index = b.index; parts = b.parts; member = b.member; place = place; has_class = b.has_class; has_member = b.has_member; is = is })
    ]
