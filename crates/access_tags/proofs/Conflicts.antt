-- The conflicts that the tags give are those of the record.
use Rattle.std.proofs.Common.{◌≡◌, ℕ, zero, suc, ◌<◌, ◌≤◌, Bool, true, false, not, ◌||◌, ◌&&◌, cond, List, [], ◌∷◌, ◌++◌, map, filter, flat_map, refl, sym, ◌∙◌, ap, subst, arith, nat_eq, inl, inr}
use Rattle.std.specs.List.{list_any}
use Rattle.std.proofs.lemmas.Bool.{cases_Bool, cases_eq, eqb-true, eq-eqb, ne_eqb, lt-ltb, le-ltb}
use Rattle.std.proofs.{Math.Bool.and-false, lemmas.List.Elements.filter-append}
use Rattle.std.proofs.lemmas.List.{map-append}
use Rattle.access_tags.specs.declared.conflict.Conflict.{Conflict}
use Rattle.order_law.specs.declared.edges.{EdgeKind.EdgeKind, EdgeKind.TheVariants.Raw, EdgeKind.TheVariants.Waw, EdgeKind.TheVariants.War}
use Rattle.jvm_model.specs.declared.values.Location.{Location}
use Rattle.order_law.specs.Exposed.{written, exposed}
use Rattle.order_law.specs.Histories.{Touches, writes_in, exposed_in}
use Rattle.order_law.specs.OwnRecord.{none_between, conflicts, conflict_places_in}
use Rattle.access_tags.specs.Tag.{tag, writer, readers, conflict, with_writer, conflicts_at, conflicts_found, is_conflict, same_kind, found, places}
use Rattle.access_tags.specs.Cells.{Apart}

writer_le : (T : Touches) (t : ℕ) (l : Location) → writer T t l ≤ t
writer_le T zero l = omega arith
writer_le T (suc t) l = elim (cases_Bool (written (T (suc t)) l)) [ inl e ↦ rw e (omega arith) | inr e ↦ rw e (let h = writer_le T t l in omega arith) ]

no_reader : (T : Touches) (t : ℕ) (l : Location) (u : ℕ) → t < u → list_any (nat_eq u) (readers T t l) ≡ false
no_reader T zero l u h = refl
no_reader T (suc t) l u h = elim (cases_Bool (written (T (suc t)) l)) [
  | inl e ↦ rw e refl
  | inr e ↦ rw e (elim (cases_Bool (exposed (T (suc t)) l)) [
    | inl x ↦ rw x (rw (ne_eqb u (suc t) (λ q. absurd (omega arith))) (no_reader T t l u (omega arith)))
    | inr x ↦ rw x (no_reader T t l u (omega arith))
  ])
]

pub readers_apart : (T : Touches) (t : ℕ) (l : Location) → Apart nat_eq (readers T t l)
readers_apart T zero l = tt
readers_apart T (suc t) l = elim (cases_Bool (written (T (suc t)) l)) [
  | inl e ↦ rw e tt
  | inr e ↦ rw e (elim (cases_Bool (exposed (T (suc t)) l)) [
    | inl x ↦ rw x (no_reader T t l (suc t) (omega arith), readers_apart T t l)
    | inr x ↦ rw x (readers_apart T t l)
  ])
]

-- the last writer
pub writer_is : (T : Touches) (t u : ℕ) (l : Location) → 0 < u → u ≤ t → nat_eq u (writer T t l) ≡ (written (T u) l && none_between (writes_in T) u (suc t) l)
writer_is T zero u l o h = absurd (omega arith)
writer_is T (suc t) u l o h = elim (cases_eq u (suc t)) [
  | inl q ↦ subst (λ (x : ℕ). nat_eq x (writer T (suc t) l) ≡ (written (T x) l && none_between (writes_in T) x (suc (suc t)) l)) (sym q) (rw (le-ltb (suc t) (suc t) (omega arith)) (elim (cases_Bool (written (T (suc t)) l)) [
    | inl e ↦ rw e (eq-eqb (suc t) (suc t) refl)
    | inr e ↦ rw e (ne_eqb (suc t) (writer T t l) (λ z. let k = writer_le T t l in absurd (omega arith)))
  ]))
  | inr n ↦ rw (lt-ltb u (suc t) (omega arith)) (elim (cases_Bool (written (T (suc t)) l)) [
    | inl e ↦ rw e (ne_eqb u (suc t) n ∙ sym (and-false (written (T u) l)))
    | inr e ↦ rw e (writer_is T t u l o (omega arith))
  ])
]

-- the readers since
pub reader_is : (T : Touches) (t u : ℕ) (l : Location) → 0 < u → u ≤ t → list_any (nat_eq u) (readers T t l) ≡ (exposed (T u) l && (not (written (T u) l) && none_between (writes_in T) u (suc t) l))
reader_is T zero u l o h = absurd (omega arith)
reader_is T (suc t) u l o h = elim (cases_eq u (suc t)) [
  | inl q ↦ subst (λ (x : ℕ). list_any (nat_eq x) (readers T (suc t) l) ≡ (exposed (T x) l && (not (written (T x) l) && none_between (writes_in T) x (suc (suc t)) l))) (sym q) (rw (le-ltb (suc t) (suc t) (omega arith)) (elim (cases_Bool (written (T (suc t)) l)) [
    | inl e ↦ rw e (sym (and-false (exposed (T (suc t)) l)))
    | inr e ↦ rw e (elim (cases_Bool (exposed (T (suc t)) l)) [
      | inl x ↦ rw x (rw (eq-eqb (suc t) (suc t) refl) refl)
      | inr x ↦ rw x (no_reader T t l (suc t) (omega arith))
    ])
  ]))
  | inr n ↦ rw (lt-ltb u (suc t) (omega arith)) (elim (cases_Bool (written (T (suc t)) l)) [
    | inl e ↦ rw e (sym (and-false (exposed (T u) l)) ∙ ap (λ (b : Bool). exposed (T u) l && b) (sym (and-false (not (written (T u) l)))))
    | inr e ↦ rw e (elim (cases_Bool (exposed (T (suc t)) l)) [
      | inl x ↦ rw x (rw (ne_eqb u (suc t) n) (reader_is T t u l o (omega arith)))
      | inr x ↦ rw x (reader_is T t u l o (omega arith))
    ])
  ])
]

-- what is found among the conflicts at a location
found_append : (k : EdgeKind) (u : ℕ) (xs ys : List (Conflict Location)) → found k u (xs ++ ys) ≡ found k u xs ++ found k u ys
found_append k u xs ys = ap (λ (hs : List (Conflict Location)). map (λ (h : Conflict Location). h.place) hs) (filter-append (is_conflict k u) xs ys) ∙ map-append (λ (h : Conflict Location). h.place) (filter (is_conflict k u) xs) (filter (is_conflict k u) ys)

abbrev at_if : Bool → Location → List Location
at_if b l = cond b (l ∷ []) []

found_one : (k j : EdgeKind) (u : ℕ) (l : Location) (w : ℕ) → 0 < u → found k u (with_writer j l w) ≡ at_if (same_kind k j && nat_eq u w) l
found_one k j u l zero o = rw (ne_eqb u 0 (λ q. absurd (omega arith))) (ap (λ (b : Bool). at_if b l) (sym (and-false (same_kind k j))))
found_one k j u l (suc w) o = rw (ne_eqb (suc w) 0 (λ q. absurd (omega arith))) (one (same_kind k j && nat_eq u (suc w)))
  where
    one : (b : Bool) → map (λ (h : Conflict Location). h.place) (cond b (conflict j l (suc w) ∷ []) []) ≡ at_if b l
    one true = refl
    one false = refl

found_other : (k : EdgeKind) (u : ℕ) (l : Location) (us : List ℕ) → same_kind k War ≡ false → found k u (map (conflict War l) us) ≡ []
found_other k u l [] e = refl
found_other k u l (x ∷ us) e = rw e (found_other k u l us e)

found_none : (u : ℕ) (l : Location) (us : List ℕ) → list_any (nat_eq u) us ≡ false → found War u (map (conflict War l) us) ≡ []
found_none u l [] e = refl
found_none u l (x ∷ us) e = elim (cases_Bool (nat_eq u x)) [
  | inl q ↦ absurd (let z : (nat_eq u x || list_any (nat_eq u) us) ≡ true = rw q refl in cc)
  | inr q ↦ rw q (found_none u l us (let z : (nat_eq u x || list_any (nat_eq u) us) ≡ list_any (nat_eq u) us = rw q refl in sym z ∙ e))
]

found_wars : (u : ℕ) (l : Location) (us : List ℕ) → Apart nat_eq us → found War u (map (conflict War l) us) ≡ at_if (list_any (nat_eq u) us) l
found_wars u l [] d = refl
found_wars u l (x ∷ us) d = elim (cases_Bool (nat_eq u x)) [
  | inl q ↦ rw q (ap (λ (xs : List Location). l ∷ xs) (found_none u l us (subst (λ (y : ℕ). list_any (nat_eq y) us ≡ false) (sym (eqb-true u x q)) d.0)))
  | inr q ↦ rw q (found_wars u l us d.1)
]

-- by kind
abbrev by_kind : EdgeKind → Bool → Bool → Bool → Bool → Bool
by_kind Raw e w last since = e && last
by_kind Waw e w last since = w && last
by_kind War e w last since = w && since

joined : {a b c x y z : List Location} → a ≡ x → b ≡ y → c ≡ z → a ++ (b ++ c) ≡ x ++ (y ++ z)
joined {a} {b} {c} {x} {y} {z} p q r = ap (λ (i : List Location). i ++ (b ++ c)) p ∙ (ap (λ (i : List Location). x ++ (i ++ c)) q ∙ ap (λ (i : List Location). x ++ (y ++ i)) r)

found_three : (k : EdgeKind) (u : ℕ) (xs ys zs : List (Conflict Location)) → found k u (xs ++ (ys ++ zs)) ≡ found k u xs ++ (found k u ys ++ found k u zs)
found_three k u xs ys zs = found_append k u xs (ys ++ zs) ∙ ap (λ (i : List Location). found k u xs ++ i) (found_append k u ys zs)

first_part : (k : EdgeKind) (e : Bool) (u : ℕ) (l : Location) (v : ℕ) → 0 < u → found k u (cond e (with_writer Raw l v) []) ≡ at_if (e && (same_kind k Raw && nat_eq u v)) l
first_part k true u l v o = found_one k Raw u l v o
first_part k false u l v o = refl

found_parts : (k : EdgeKind) (e w : Bool) (u : ℕ) (l : Location) (v : ℕ) (us : List ℕ) → 0 < u → found k u (cond e (with_writer Raw l v) [] ++ cond w (with_writer Waw l v ++ map (conflict War l) us) []) ≡ at_if (e && (same_kind k Raw && nat_eq u v)) l ++ (at_if (w && (same_kind k Waw && nat_eq u v)) l ++ cond w (found k u (map (conflict War l) us)) [])
found_parts k e true u l v us o = found_three k u (cond e (with_writer Raw l v) []) (with_writer Waw l v) (map (conflict War l) us) ∙ joined (first_part k e u l v o) (found_one k Waw u l v o) refl
found_parts k e false u l v us o = found_append k u (cond e (with_writer Raw l v) []) [] ∙ ap (λ (i : List Location). i ++ []) (first_part k e u l v o)

raw_end : (e w q : Bool) (l : Location) → at_if (e && q) l ++ (at_if (w && false) l ++ cond w [] []) ≡ at_if (e && q) l
raw_end true true true l = refl
raw_end true true false l = refl
raw_end true false true l = refl
raw_end true false false l = refl
raw_end false true q l = refl
raw_end false false q l = refl

waw_end : (e w q : Bool) (l : Location) → at_if (e && false) l ++ (at_if (w && q) l ++ cond w [] []) ≡ at_if (w && q) l
waw_end true true true l = refl
waw_end true true false l = refl
waw_end true false q l = refl
waw_end false true true l = refl
waw_end false true false l = refl
waw_end false false q l = refl

war_end : (e w s : Bool) (l : Location) → at_if (e && false) l ++ (at_if (w && false) l ++ cond w (at_if s l) []) ≡ at_if (w && s) l
war_end true true s l = refl
war_end true false s l = refl
war_end false true s l = refl
war_end false false s l = refl

found_at : (k : EdgeKind) (e w : Bool) (u : ℕ) (l : Location) (v : ℕ) (us : List ℕ) → 0 < u → Apart nat_eq us → found k u (cond e (with_writer Raw l v) [] ++ cond w (with_writer Waw l v ++ map (conflict War l) us) []) ≡ at_if (by_kind k e w (nat_eq u v) (list_any (nat_eq u) us)) l
found_at Raw e w u l v us o d = found_parts Raw e w u l v us o ∙ (rw (found_other Raw u l us refl) (raw_end e w (nat_eq u v) l))
found_at Waw e w u l v us o d = found_parts Waw e w u l v us o ∙ (rw (found_other Waw u l us refl) (waw_end e w (nat_eq u v) l))
found_at War e w u l v us o d = found_parts War e w u l v us o ∙ (rw (found_wars u l us d) (war_end e w (list_any (nat_eq u) us) l))

-- the tests of the tag and those of the record
same_conflict : (T : Touches) (k : EdgeKind) (u t : ℕ) (l : Location) → 0 < u → u ≤ t → by_kind k (exposed (T (suc t)) l) (written (T (suc t)) l) (nat_eq u (writer T t l)) (list_any (nat_eq u) (readers T t l)) ≡ conflicts (writes_in T) (exposed_in T) k u (suc t) l
same_conflict T Raw u t l o h = rw (writer_is T t u l o h) refl
same_conflict T Waw u t l o h = rw (writer_is T t u l o h) (turn (written (T (suc t)) l) (written (T u) l) (none_between (writes_in T) u (suc t) l))
  where
    turn : (a b c : Bool) → (a && (b && c)) ≡ (b && (a && c))
    turn true true c = refl
    turn true false c = refl
    turn false true c = refl
    turn false false c = refl
same_conflict T War u t l o h = rw (reader_is T t u l o h) refl

found_here : (T : Touches) (k : EdgeKind) (u t : ℕ) (l : Location) → 0 < u → u ≤ t → found k u (conflicts_at l (tag T t (T (suc t)) l)) ≡ at_if (conflicts (writes_in T) (exposed_in T) k u (suc t) l) l
found_here T k u t l o h = found_at k (exposed (T (suc t)) l) (written (T (suc t)) l) u l (writer T t l) (readers T t l) o (readers_apart T t l) ∙ ap (λ (b : Bool). at_if b l) (same_conflict T k u t l o h)

found_all : (T : Touches) (k : EdgeKind) (u t : ℕ) → 0 < u → u ≤ t → (ls : List Location) → found k u (flat_map (λ (l : Location). conflicts_at l (tag T t (T (suc t)) l)) ls) ≡ filter (λ (l : Location). conflicts (writes_in T) (exposed_in T) k u (suc t) l) ls
found_all T k u t o h [] = refl
found_all T k u t o h (l ∷ ls) = found_append k u (conflicts_at l (tag T t (T (suc t)) l)) (flat_map (λ (l : Location). conflicts_at l (tag T t (T (suc t)) l)) ls)
    ∙ (ap (λ (i : List Location). i ++ found k u (flat_map (λ (l : Location). conflicts_at l (tag T t (T (suc t)) l)) ls)) (found_here T k u t l o h)
    ∙ (ap (λ (i : List Location). at_if (conflicts (writes_in T) (exposed_in T) k u (suc t) l) l ++ i) (found_all T k u t o h ls) ∙ one (conflicts (writes_in T) (exposed_in T) k u (suc t) l) (filter (λ (l : Location). conflicts (writes_in T) (exposed_in T) k u (suc t) l) ls)))
  where
    one : (b : Bool) (xs : List Location) → at_if b l ++ xs ≡ cond b (l ∷ xs) xs
    one true xs = refl
    one false xs = refl

-- the conflicts of test t + 1, as they are gathered, are those of the record, in the order of first touch
pub tags_law : (T : Touches) (k : EdgeKind) (u t : ℕ) → 0 < u → u ≤ t → found k u (conflicts_found T t (T (suc t))) ≡ conflict_places_in T k u (suc t)
unfolding conflict_places_in
tags_law T k u t o h = found_all T k u t o h (places (T (suc t)))
