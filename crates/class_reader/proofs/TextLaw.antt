-- Texts by the first slot that has them, and keys of names and descriptors.
use Rattle.std.proofs.Math.Bool.{or_comm, or_assoc, or-true, or-false}
use Rattle.std.proofs.Common.{◌≡◌, ℕ, zero, suc, ◌+◌, ◌-◌, ◌*◌, ◌<◌, ◌≤◌, Bool, true, false, cond, eqb, eq-eqb, ◌&&◌, ◌||◌, List, [], ◌∷◌, ◌++◌, length, map, take, get_or, Option, Some, None, is_some, unwrap_or, refl, sym, ap, ◌∙◌, arith, add-zero}
use Rattle.std.specs.Prelude.{OnOk, Result, Ok, Err}
use Rattle.std.specs.{Option.option_or, Str.bytes_eq, Ordering.nat_cmp, BTreeMap.BTreeMap, BTreeMap.is_at}
use Rattle.std.specs.BTreeSet.{BTreeSet, contains, Updates, IsEmpty}
use denote.Ref.{Bor}
use Rattle.std.proofs.lemmas.{Bool.eqb-true, List.take_more, List.length-take, List.map_more}
use Rattle.std.proofs.{lemmas.Bool.Decides.nat_tests, lemmas.Bool.Decides.same_from_decides, lemmas.Slice.Eq.bytes_eq-Decides}
use Rattle.et_base.proofs.Texts.{units_refl}
use Rattle.class_pool.specs.{declared.pool.Entry.Entry, declared.pool.Entry.TheVariants.Utf8, Pool.entry_of, Pool.is_text}
use Rattle.class_reader.specs.declared.{parts.MemberPart.MemberPart, texts.Mark.Mark}
use Rattle.class_reader.specs.{Names.is_text_of, Names.same_text, Names.is_repeated, Lookups.noted, Lookups.noted_first}
use Rattle.class_reader.specs.Texts.{first_from, first_of, mark_with, mark_of, key_of, is_same, IsSeen, IsSeenWith}

-- ---- first slots

-- a text that was not noted before
pub noted_new : (f : List ℕ → Option ℕ) (text q : List ℕ) (i : ℕ) → is_some (f text) ≡ false → cond (bytes_eq text q) (Some i) (f q) ≡ option_or (f q) (cond (bytes_eq text q) (Some i) None)
noted_new f text q i absent =
    elim (bytes_eq text q) as (λ b. bytes_eq text q ≡ b → cond b (Some i) (f q) ≡ option_or (f q) (cond b (Some i) None)) [
      | true ↦ λ e.
          let same : text ≡ q = (bytes_eq-Decides text q).0 e in
          let none : is_some (f q) ≡ false = sym (ap (λ t. is_some (f t)) same) ∙ absent in
          elim (f q) as (λ o. is_some o ≡ false → Some i ≡ option_or o (Some i)) [ None ↦ λ _. refl | Some x ↦ λ n. absurd cc ] none
      | false ↦ λ e. elim (f q) as (λ o. o ≡ option_or o None) [ None ↦ refl | Some x ↦ refl ]
    ] refl

-- the first slot of a text that stands at i is among those before it, or i
first_up_to : (j : ℕ) (slots : List (Option Entry)) (i : ℕ) (other : Option Entry) (q : List ℕ) → i < length slots → is_text_of q (get_or slots i other) ≡ true → first_from j slots q ≡ option_or (first_from j (take i slots) q) (Some (j + i))
first_up_to j [] i other q lt h = absurd omega arith
first_up_to j (a ∷ slots) zero other q lt h = rw add-zero (ap (λ b. cond b (Some j) (first_from (j + 1) slots q)) h)
first_up_to j (a ∷ slots) (suc i) other q lt h =
    let n : (j + 1) + i ≡ j + suc i = omega arith in
    let less : i < length slots = omega (arith, lt) in
    elim (is_text_of q a) as (λ b. cond b (Some j) (first_from (j + 1) slots q) ≡ option_or (cond b (Some j) (first_from (j + 1) (take i slots) q)) (Some (j + suc i))) [
      | true ↦ refl
      | false ↦ first_up_to (j + 1) slots i other q less h ∙ ap (λ m. option_or (first_from (j + 1) (take i slots) q) (Some m)) n
    ]

pub first_from-push : (i : ℕ) (slots : List (Option Entry)) (slot : Option Entry) (q : List ℕ) → first_from i (slots ++ slot ∷ []) q ≡ option_or (first_from i slots q) (cond (is_text_of q slot) (Some (i + length slots)) None)
first_from-push i [] slot q = rw add-zero refl
first_from-push i (a ∷ slots) slot q =
    let n : (i + 1) + length slots ≡ i + suc (length slots) = omega arith in
    elim (is_text_of q a) as (λ b. cond b (Some i) (first_from (i + 1) (slots ++ slot ∷ []) q) ≡ option_or (cond b (Some i) (first_from (i + 1) slots q)) (cond (is_text_of q slot) (Some (i + suc (length slots))) None)) [
      | true ↦ refl
      | false ↦ first_from-push (i + 1) slots slot q ∙ ap (λ m. option_or (first_from (i + 1) slots q) (cond (is_text_of q slot) (Some m) None)) n
    ]

-- a text that stands at some slot has a first one
first_there : (i : ℕ) (slots : List (Option Entry)) (j : ℕ) (q : List ℕ) → is_text_of q (get_or slots j None) ≡ true → (k : ℕ) × (first_from i slots q ≡ Some k)
first_there i [] j q h = absurd cc
first_there i (a ∷ slots) zero q h = (i, ap (λ b. cond b (Some i) (first_from (i + 1) slots q)) h)
first_there i (a ∷ slots) (suc j) q h = elim (is_text_of q a) as (λ b. (k : ℕ) × (cond b (Some i) (first_from (i + 1) slots q) ≡ Some k)) [ true ↦ (i, refl) | false ↦ first_there (i + 1) slots j q h ]

pub record IsFirst (i : ℕ) (slots : List (Option Entry)) (q : List ℕ) (k : ℕ) : Type 0 where
  pub from : i ≤ k
  pub below : k < i + length slots
  pub there : is_text_of q (get_or slots (k - i) None) ≡ true

first_is : (i : ℕ) (slots : List (Option Entry)) (q : List ℕ) (k : ℕ) → first_from i slots q ≡ Some k → IsFirst i slots q k
first_is i [] q k e = absurd cc
first_is i (a ∷ slots) q k e =
    elim (is_text_of q a) as (λ b. is_text_of q a ≡ b → cond b (Some i) (first_from (i + 1) slots q) ≡ Some k → IsFirst i (a ∷ slots) q k) [
      | true ↦ λ h f.
          let here : i ≡ k = cc in
          let none : k - i ≡ 0 = omega arith in
          record { from = omega arith; below = omega arith; there = ap (λ m. is_text_of q (get_or (a ∷ slots) m None)) none ∙ h }
      | false ↦ λ h f.
          let r = first_is (i + 1) slots q k f in
          let le : i + 1 ≤ k = r.from in
          let m : k - i ≡ suc (k - (i + 1)) = omega arith in
          record { from = omega arith; below = omega (arith, r.below); there = ap (λ m. is_text_of q (get_or (a ∷ slots) m None)) m ∙ r.there }
    ] refl e

-- two texts at one slot are equal
same_there : (slot : Option Entry) (us vs : List ℕ) → is_text_of us slot ≡ true → is_text_of vs slot ≡ true → us ≡ vs
same_there (Some (Utf8 ws)) us vs h g = sym ((bytes_eq-Decides ws us).0 h) ∙ (bytes_eq-Decides ws vs).0 g
same_there _ us vs h g = absurd cc

text_is : (e : Option Entry) → is_text e ≡ true → (us : List ℕ) × (e ≡ Some (Utf8 us))
text_is (Some (Utf8 us)) h = (us, refl)
text_is _ h = absurd cc

-- the first slot with the text that an index names
pub record Named (slots : List (Option Entry)) (n : ℕ) : Type 0 where
  pub text : List ℕ
  pub first : ℕ
  pub entry : entry_of slots n ≡ Some (Utf8 text)
  pub is : first_from 0 slots text ≡ Some first

named_at : (slots : List (Option Entry)) (n : ℕ) → is_text (entry_of slots n) ≡ true → Named slots n
named_at slots zero h = absurd cc
named_at slots (suc i) h =
    let t = text_is (get_or slots i None) h in
    let f = first_there 0 slots i t.0 (ap (is_text_of t.0) t.1 ∙ units_refl t.0) in
    record { text = t.0; first = f.0; entry = t.1; is = f.1 }

first_number : (slots : List (Option Entry)) (n : ℕ) (a : Named slots n) → unwrap_or (first_of slots (entry_of slots n)) 0 ≡ a.first
first_number slots n a = ap (λ e. unwrap_or (first_of slots e) 0) a.entry ∙ ap (λ o. unwrap_or o 0) a.is

first_below : (slots : List (Option Entry)) (n : ℕ) (a : Named slots n) → a.first < length slots
first_below slots n a = let f = first_is 0 slots a.text a.first a.is in omega (arith, f.below)

-- Texts are equal exactly where their first slots are.
same_first : (slots : List (Option Entry)) (n m : ℕ) (a : Named slots n) (b : Named slots m) → eqb a.first b.first ≡ same_text (entry_of slots n) (entry_of slots m)
same_first slots n m a b =
    let to : eqb a.first b.first ≡ true → a.text ≡ b.text = λ h.
    let e : a.first ≡ b.first = eqb-true _ _ h in
    let f = first_is 0 slots a.text a.first a.is in
    let g = first_is 0 slots b.text b.first b.is in
    same_there (get_or slots (a.first - 0) None) a.text b.text f.there (ap (λ k. is_text_of b.text (get_or slots (k - 0) None)) e ∙ g.there) in
    let from : a.text ≡ b.text → eqb a.first b.first ≡ true = λ h.
    let e : a.first ≡ b.first = (let f : first_from 0 slots b.text ≡ Some a.first = sym (ap (first_from 0 slots) h) ∙ a.is in let g = b.is in cc) in
    eq-eqb _ _ e in
    same_from_decides (eqb a.first b.first) (bytes_eq a.text b.text) (to, from) (bytes_eq-Decides a.text b.text)
    ∙ sym (ap (λ e. same_text e (entry_of slots m)) a.entry ∙ ap (λ e. same_text (Some (Utf8 a.text)) e) b.entry)

-- ---- keys

pair_eqb : (a b c d : ℕ) → b < 65536 → d < 65536 → eqb (a * 65536 + b) (c * 65536 + d) ≡ (eqb a c && eqb b d)
pair_eqb a b c d h g = grind (arith, nat_tests)

key_same : (slots : List (Option Entry)) (n d m e : ℕ) → length slots < 65536 → is_text (entry_of slots n) ≡ true → is_text (entry_of slots d) ≡ true → is_text (entry_of slots m) ≡ true → is_text (entry_of slots e) ≡ true
    → eqb (key_of slots n d) (key_of slots m e) ≡ is_same slots n d m e
key_same slots n d m e few hn hd hm he =
    let a = named_at slots n hn in
    let b = named_at slots d hd in
    let x = named_at slots m hm in
    let y = named_at slots e he in
    let p : key_of slots n d ≡ a.first * 65536 + b.first = ap (λ k. k * 65536 + unwrap_or (first_of slots (entry_of slots d)) 0) (first_number slots n a) ∙ ap (λ k. a.first * 65536 + k) (first_number slots d b) in
    let q : key_of slots m e ≡ x.first * 65536 + y.first = ap (λ k. k * 65536 + unwrap_or (first_of slots (entry_of slots e)) 0) (first_number slots m x) ∙ ap (λ k. x.first * 65536 + k) (first_number slots e y) in
    ap (λ k. eqb k (key_of slots m e)) p ∙ ap (eqb (a.first * 65536 + b.first)) q
    ∙ pair_eqb a.first b.first x.first y.first (omega (arith, first_below slots d b)) (omega (arith, first_below slots e y))
    ∙ ap (λ t. t && eqb b.first y.first) (same_first slots n m a x) ∙ ap (λ t. same_text (entry_of slots n) (entry_of slots m) && t) (same_first slots d e b y)

cond_or : (a b : Bool) → cond a true b ≡ (b || a)
cond_or true b = sym (or-true b)
cond_or false b = sym (or-false b)

-- a number is at a key exactly where they are equal
is_at_number : (n m : ℕ) → is_at (nat_cmp n) m ≡ eqb n m
is_at_number n m = grind (arith, nat_tests)

-- one more name and descriptor
pub seen_more : (slots : List (Option Entry)) (before : List MemberPart) (name descriptor : ℕ) (old new : BTreeSet ℕ) → length slots < 65536 → is_text (entry_of slots name) ≡ true → is_text (entry_of slots descriptor) ≡ true
    → IsSeen slots before old → Updates nat_cmp old new (key_of slots name descriptor) true → IsSeenWith slots before name descriptor new
seen_more slots before name descriptor old new few hn hd seen updates = λ n d tn td.
    updates.0 (key_of slots n d) ∙ ap (λ b. cond b true (contains nat_cmp old (key_of slots n d))) (is_at_number _ _ ∙ key_same slots name descriptor n d few hn hd tn td)
    ∙ ap (cond (is_same slots name descriptor n d) true) (seen n d tn td) ∙ cond_or (is_same slots name descriptor n d) (is_repeated slots before n d)

is_repeated-push : (slots : List (Option Entry)) (before : List MemberPart) (m : MemberPart) (n d : ℕ) → is_repeated slots (before ++ m ∷ []) n d ≡ (is_repeated slots before n d || is_same slots m.name m.descriptor n d)
is_repeated-push slots [] m n d = or_comm (is_same slots m.name m.descriptor n d) false
is_repeated-push slots (a ∷ before) m n d = ap (λ b. is_same slots a.name a.descriptor n d || b) (is_repeated-push slots before m n d) ∙ sym (or_assoc (is_same slots a.name a.descriptor n d) (is_repeated slots before n d) (is_same slots m.name m.descriptor n d))

-- the member of that name and descriptor
pub seen_member : (slots : List (Option Entry)) (before : List MemberPart) (m : MemberPart) (keys : BTreeSet ℕ) → IsSeenWith slots before m.name m.descriptor keys → IsSeen slots (before ++ m ∷ []) keys
seen_member slots before m keys seen = λ n d tn td. seen n d tn td ∙ sym (is_repeated-push slots before m n d)

pub seen_none : (slots : List (Option Entry)) (keys : BTreeSet ℕ) → IsEmpty keys → IsSeen slots [] keys
seen_none slots keys e = λ n d tn td. rw e refl

-- one slot more
pub first_more : (slots : List (Option Entry)) (i : ℕ) (slot : Option Entry) (q : List ℕ) → i < length slots → slot ≡ get_or slots i slot → first_from 0 (take (i + 1) slots) q ≡ option_or (first_from 0 (take i slots) q) (cond (is_text_of q slot) (Some i) None)
first_more slots i slot q lt e =
    let n : 0 + length (take i slots) ≡ i = omega (arith, length-take i slots) in
    ap (λ xs. first_from 0 xs q) (take_more slots i slot lt ∙ ap (λ x. take i slots ++ x ∷ []) (sym e)) ∙ first_from-push 0 (take i slots) slot q
    ∙ ap (λ m. option_or (first_from 0 (take i slots) q) (cond (is_text_of q slot) (Some m) None)) n

first_noted : (slots : List (Option Entry)) (i : ℕ) (slot : Option Entry) (texts : BTreeMap (Bor (List ℕ)) ℕ) → i < length slots → slot ≡ get_or slots i slot → ((q : List ℕ) → noted texts q ≡ first_from 0 (take i slots) q)
    → noted_first texts slot i ≡ first_of slots slot
first_noted slots i (Some (Utf8 us)) texts lt e noted =
    let n : 0 + i ≡ i = omega arith in
    ap (λ o. option_or o (Some i)) (noted us) ∙ sym (first_up_to 0 slots i (Some (Utf8 us)) us lt (ap (is_text_of us) (sym e) ∙ units_refl us) ∙ ap (λ m. option_or (first_from 0 (take i slots) us) (Some m)) n)
first_noted slots i _ texts lt e noted = refl

-- the mark of one slot more
pub marks_more : (slots : List (Option Entry)) (i : ℕ) (slot : Option Entry) (texts : BTreeMap (Bor (List ℕ)) ℕ) (first : Option ℕ) (mark : Mark) (marks : List Mark) → i < length slots → slot ≡ get_or slots i slot
    → ((q : List ℕ) → noted texts q ≡ first_from 0 (take i slots) q) → first ≡ noted_first texts slot i → mark ≡ mark_with slot first
    → marks ≡ map (mark_of slots) (take i slots) → marks ++ mark ∷ [] ≡ map (mark_of slots) (take (i + 1) slots)
marks_more slots i slot texts first mark marks lt e noted is made so_far =
    let one : mark ≡ mark_of slots (get_or slots i slot) = made ∙ ap (mark_with slot) (is ∙ first_noted slots i slot texts lt e noted) ∙ ap (mark_of slots) e in
    ap (λ xs. xs ++ mark ∷ []) so_far ∙ ap (λ m. map (mark_of slots) (take i slots) ++ m ∷ []) one ∙ sym (map_more (mark_of slots) slots i slot lt)

-- A fact that holds anyway holds where the answer is Ok.
pub on_ok : {A E : Type 0} (r : Result A E) (P : Type 0) → P → OnOk r P
on_ok (Ok x) P h = h
on_ok (Err e) P h = tt
