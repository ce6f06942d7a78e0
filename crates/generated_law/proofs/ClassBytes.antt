-- The class of k tests is read from its bytes.
use Rattle.std.proofs.Common.{◌≡◌, ℕ, zero, suc, ◌+◌, ◌<◌, ◌≤◌, Bool, true, false, not, ◌&&◌, ◌||◌, List, [], ◌∷◌, ◌++◌, length, map, decimal, Option, Some, None, refl, sym, ap, subst, ◌∙◌, arith}
use Rattle.std.specs.Prelude.{codes}
use Rattle.std.specs.{Int.w32, Int.to_be_bytes, List.flat_map, List.range_with_len}
use Rattle.std.proofs.lemmas.{Bool.and_from, List.append-nil}
use Rattle.std.proofs.{lemmas.Bool.Decides.nat_tests, lemmas.List.FromFn.length-map-range_with_len, lemmas.List.FromFn.map-range_with_len_more}
use Rattle.et_base.specs.Names.{is_unpointed, is_method_name, after_element, after_type, argument, arguments, argument_units}
use Rattle.class_pool.specs.{declared.pool.Entry.Entry, declared.pool.Entry.TheVariants.Utf8, Pool.entry_of, Pool.is_text, Pool.is_class}
use Rattle.class_pool.specs.{Grammar.Then, Grammar.Joined, Grammar.Counted, Grammar.Sized, PoolGrammar.pool_spelling}
use Rattle.class_pool.proofs.WriteLaw.{pool_written}
use Rattle.class_reader.specs.{declared.parts.MemberPart.MemberPart, Indices.Short, Indices.Index, Indices.Form, Faults.with_offsets}
use Rattle.class_reader.specs.Names.{is_code, is_own_class, is_field_name, is_field_type, is_method_type, same_text, is_repeated}
use Rattle.class_reader.specs.Names as forms
use Rattle.class_reader.specs.ClassGrammar.{OnceText, AttributesText, PartText, FieldText, FieldsText, MethodText, MethodsText, HeadText, MembersText, BodyText, class_bytes}
use Rattle.class_reader.proofs.ClassLaw.{class_again}
use Rattle.class_write.specs.declared.names.Names.{Names}
use Rattle.class_write.specs.Spelling.{short_bytes, listed_bytes, sized_bytes, names_of, part_bytes, field_bytes, method_bytes, head_bytes, members_bytes, body_bytes, class_spelling}
use Rattle.suite_gen.specs.Generated.{group_count, field_name, test_name, slots, code_of, field_of, method_of, generated_class}
use Rattle.generated_law.specs.GeneratedLaw.{ClassLaw}
use Rattle.generated_law.proofs.{Decimals.decimal_passes, Decimals.names_differ, TestCode.code_text}
use Rattle.generated_law.proofs.Pool.{Slots, Holds, holds, pool_is, letter_named, number_typed}

-- ---- indices

index_is : (fits : Option Entry → Bool) (s : Slots) (i : ℕ) → i < 65536 → fits (entry_of s i) ≡ true → Index fits s (short_bytes i) i
index_is fits s i few right = (i, short_bytes i, [], refl, (refl, omega (arith, few)), (right, (refl, refl)))

form_is : (form : Option Entry → Bool) (s : Slots) (i : ℕ) (units : List ℕ) → i < 65536 → entry_of s i ≡ Some (Utf8 units) → form (Some (Utf8 units)) ≡ true → Form form s (short_bytes i) i
form_is form s i units few e right = (i, short_bytes i, [], refl, index_is is_text s i few (ap is_text e), (ap form e ∙ right, (refl, refl)))

-- ---- lists of members

listed : {A : Type 0} (S : List A → ℕ → List ℕ → A → Type 0) (view : A → List ℕ) (xs : List A) → length xs < 65536 → Joined S [] (flat_map view xs) xs → Then Short (λ n. Counted S [] n) (listed_bytes view xs) xs
listed S view xs few joined = (length xs, short_bytes (length xs), flat_map view xs, refl, (refl, omega (arith, few)), (xs, refl, refl, joined))

-- the members of numbers from b on, where b is the mth
joined_range : (S : List MemberPart → ℕ → List ℕ → MemberPart → Type 0) (view : MemberPart → List ℕ) (make : ℕ → MemberPart) (start most : ℕ)
    → ((m left b : ℕ) → start + m ≡ b → b < most → S (map make (range_with_len start m)) left (view (make b)) (make b))
    → (m n b : ℕ) → start + m ≡ b → b + n ≤ most → Joined S (map make (range_with_len start m)) (flat_map view (map make (range_with_len b n))) (map make (range_with_len b n))
joined_range S view make start most each m zero b at few = refl
joined_range S view make start most each m (suc n) b at few =
    let more = map make (range_with_len (b + 1) n) in
    let later = joined_range S view make start most each (m + 1) n (b + 1) (omega (arith, at)) (omega (arith, few)) in
    (view (make b), flat_map view more, refl, each m (length more) b at (omega (arith, few)), subst (λ z. Joined S z (flat_map view more) more) (map-range_with_len_more make start m b at) later)

-- no member before has the name of a letter and n
unrepeated : (s : Slots) (make : ℕ → MemberPart) (letter name descriptor n : ℕ) → entry_of s name ≡ Some (Utf8 (letter ∷ decimal n)) → n ≤ 1025 → (a m : ℕ)
    → ((j : ℕ) → a ≤ j → j < n → entry_of s (make j).name ≡ Some (Utf8 (letter ∷ decimal j))) → a + m ≤ n → is_repeated s (map make (range_with_len a m)) name descriptor ≡ false
unrepeated s make letter name descriptor n e few a zero each before = refl
unrepeated s make letter name descriptor n e few a (suc m) each before =
    let less : a < n = omega (arith, before) in
    let differ : same_text (entry_of s (make a).name) (entry_of s name) ≡ false = ap (λ o. same_text o (entry_of s name)) (each a (omega arith) less) ∙ (ap (same_text (Some (Utf8 (letter ∷ decimal a)))) e ∙ names_differ letter a n less few) in
    let others = unrepeated s make letter name descriptor n e few (a + 1) m (λ j low high. each j (omega (arith, low)) high) (omega (arith, before)) in
    ap (λ b. b && same_text (entry_of s (make a).descriptor) (entry_of s descriptor) || is_repeated s (map make (range_with_len (a + 1) m)) name descriptor) differ ∙ others

-- ---- fields

field_text : (k : ℕ) (s : Slots) (names : Names) → Holds k s → k ≤ 1024 → (m left g : ℕ) → 0 + m ≡ g → g < group_count k → FieldText s (map field_of (range_with_len 0 m)) (field_bytes names (field_of g)) (field_of g)
field_text k s names h few m left g at less =
    let small : g ≤ 1024 = omega (arith, less, few) in
    let name = form_is is_field_name s (field_name g) (codes "f" ++ decimal g) (omega (arith, small)) (h.name g less) (letter_named 102 g refl (omega (arith, small))) in
    let type = form_is is_field_type s 6 (codes "I") (omega arith) h.number number_typed in
    let once = unrepeated s field_of 102 (field_name g) 6 g (h.name g less) (omega (arith, small)) 0 m (λ j low high. h.name j (omega (arith, high, less))) (omega (arith, at)) in (
      9,
      short_bytes 9,
      short_bytes (field_name g) ++ (short_bytes 6 ++ short_bytes 0),
      refl,
      (refl, omega arith),
      (
        field_name g,
        short_bytes (field_name g),
        short_bytes 6 ++ short_bytes 0,
        refl,
        name,
        (6, short_bytes 6, short_bytes 0, refl, type, (ap not once, (None, (0, short_bytes 0, [], refl, (refl, omega arith), (refl, refl)), refl))),
      ),
    )

fields_text : (k : ℕ) (s : Slots) (names : Names) → Holds k s → k ≤ 1024 → FieldsText s (listed_bytes (field_bytes names) (map field_of (range_with_len 0 (group_count k)))) (map field_of (range_with_len 0 (group_count k)))
fields_text k s names h few =
    listed (λ before _. FieldText s before) (field_bytes names) (map field_of (range_with_len 0 (group_count k))) (omega (arith, few, length-map-range_with_len field_of 0 (group_count k)))
    (joined_range (λ before _. FieldText s before) (field_bytes names) field_of 0 (group_count k) (field_text k s names h few) 0 (group_count k) 0 (omega arith) (omega arith))

-- ---- methods

method_named : (i : ℕ) → i ≤ 1025 → is_method_name (codes "t" ++ decimal i) ≡ true
method_named i few = and_from _ _ (letter_named 116 i refl few) (decimal_passes is_unpointed (λ d low high. grind (arith, nat_tests)) i few)

method_typed : is_method_type 9 (Some (Utf8 (codes "()V"))) ≡ true
unfolding argument_units arguments argument after_type after_element
method_typed = refl

attribute_text : (k : ℕ) (s : Slots) (names : Names) → Holds k s → names.code ≡ 5 → (i : ℕ) → 1 ≤ i → i ≤ k → k ≤ 1024
    → AttributesText is_code (Sized (PartText s)) s (short_bytes 1 ++ (short_bytes names.code ++ sized_bytes (part_bytes names (code_of i)))) (Some (code_of i))
attribute_text k s names h five i low high few =
    let whole = sized_bytes (part_bytes names (code_of i)) in
    let name = index_is is_text s 5 (omega arith) (ap is_text h.code) in
    let inside = subst (λ o. OnceText (is_code o) (Sized (PartText s)) None whole (Some (code_of i))) (sym h.code) (refl, (code_of i, code_text k s names h i low high few, refl)) in
    let spelled : AttributesText is_code (Sized (PartText s)) s (short_bytes 1 ++ (short_bytes 5 ++ whole)) (Some (code_of i)) =
    (1, short_bytes 1, short_bytes 5 ++ whole, refl, (refl, omega arith), (Some (code_of i), short_bytes 5 ++ whole, [], sym (append-nil (short_bytes 5 ++ whole)), (5, short_bytes 5, whole, refl, name, inside), (refl, refl))) in
    subst (λ n. AttributesText is_code (Sized (PartText s)) s (short_bytes 1 ++ (short_bytes n ++ whole)) (Some (code_of i))) (sym five) spelled

method_text : (k : ℕ) (s : Slots) (names : Names) → Holds k s → names.code ≡ 5 → k ≤ 1024 → (m left i : ℕ) → 1 + m ≡ i → i < k + 1 → MethodText s (map (method_of k) (range_with_len 1 m)) (method_bytes names (method_of k i)) (method_of k i)
method_text k s names h five few m left i at less =
    let low : 1 ≤ i = omega (arith, at) in
    let high : i ≤ k = omega (arith, less) in
    let name = form_is forms.is_method_name s (test_name k i) (codes "t" ++ decimal i) (omega (arith, high, few)) (h.test i low high) (method_named i (omega (arith, high, few))) in
    let type = form_is (is_method_type 9) s 7 (codes "()V") (omega arith) h.nothing method_typed in
    let once = unrepeated s (method_of k) 116 (test_name k i) 7 i (h.test i low high) (omega (arith, high, few)) 1 m (λ j first last. h.test j first (omega (arith, last, high))) (omega (arith, at)) in
    let attributes = short_bytes 1 ++ (short_bytes names.code ++ sized_bytes (part_bytes names (code_of i))) in (
      9,
      short_bytes 9,
      short_bytes (test_name k i) ++ (short_bytes 7 ++ attributes),
      refl,
      (refl, omega arith),
      (
        test_name k i,
        short_bytes (test_name k i),
        short_bytes 7 ++ attributes,
        refl,
        name,
        (7, short_bytes 7, attributes, refl, type, (ap not once, (Some (code_of i), attributes, [], sym (append-nil attributes), attribute_text k s names h five i low high few, (refl, (refl, refl))))),
      ),
    )

methods_text : (k : ℕ) (s : Slots) (names : Names) → Holds k s → names.code ≡ 5 → k ≤ 1024 → MethodsText s (listed_bytes (method_bytes names) (map (method_of k) (range_with_len 1 k))) (map (method_of k) (range_with_len 1 k))
methods_text k s names h five few =
    listed (λ before _. MethodText s before) (method_bytes names) (map (method_of k) (range_with_len 1 k)) (omega (arith, few, length-map-range_with_len (method_of k) 1 k))
    (joined_range (λ before _. MethodText s before) (method_bytes names) (method_of k) 1 (k + 1) (method_text k s names h five few) 0 k 1 (omega arith) (omega arith))

-- ---- the class

head_text : HeadText (to_be_bytes w32 3405691582 ++ (short_bytes 0 ++ short_bytes 52)) (0, 52)
head_text = (
  3405691582,
  to_be_bytes w32 3405691582,
  short_bytes 0 ++ short_bytes 52,
  refl,
  (refl, omega arith),
  (refl, (0, short_bytes 0, short_bytes 52, refl, (refl, omega arith), (52, short_bytes 52, [], refl, (refl, omega arith), (refl, (refl, refl))))),
)

members_text : (k : ℕ) (s : Slots) (names : Names) → Holds k s → names.code ≡ 5 → k ≤ 1024
    → MembersText s (members_bytes names (generated_class k)) (map field_of (range_with_len 0 (group_count k)), map (method_of k) (range_with_len 1 k))
unfolding generated_class
members_text k s names h five few =
    let fields = map field_of (range_with_len 0 (group_count k)) in
    let methods = map (method_of k) (range_with_len 1 k) in
    let behind = listed_bytes (method_bytes names) methods ++ short_bytes 0 in
    (fields, listed_bytes (field_bytes names) fields, behind, refl, fields_text k s names h few, (methods, listed_bytes (method_bytes names) methods, short_bytes 0, refl, methods_text k s names h five few, (tt, (0, short_bytes 0, [], refl, (refl, omega arith), (refl, refl)), refl)))

body_text : (k : ℕ) → k ≤ 1024 → BodyText (0, 52) (slots k) (body_bytes (generated_class k)) (generated_class k)
unfolding generated_class
body_text k few =
    let s = slots k in
    let h = holds k in
    let members = members_bytes (names_of s) (generated_class k) in
    let none = short_bytes 0 ++ members in (
      33,
      short_bytes 33,
      short_bytes 2 ++ (short_bytes 4 ++ none),
      refl,
      (refl, omega arith),
      (
        2,
        short_bytes 2,
        short_bytes 4 ++ none,
        refl,
        index_is (is_own_class s) s 2 (omega arith) refl,
        (
          4,
          short_bytes 4,
          none,
          refl,
          index_is is_class s 4 (omega arith) refl,
          (
            [],
            short_bytes 0,
            members,
            refl,
            (0, short_bytes 0, [], refl, (refl, omega arith), ([], refl, refl, refl)),
            ((map field_of (range_with_len 0 (group_count k)), map (method_of k) (range_with_len 1 k)), members_text k s (names_of s) h refl few, refl),
          ),
        ),
      ),
    )

class_text : (k : ℕ) → k ≤ 1024 → class_bytes (class_spelling (generated_class k)) (generated_class k)
unfolding class_bytes generated_class
class_text k few =
    let s = slots k in
    ((0, 52), head_bytes (generated_class k), pool_spelling s ++ body_bytes (generated_class k), refl, head_text, (s, pool_spelling s, body_bytes (generated_class k), refl, pool_written s (pool_is k few), body_text k few))

pub class_law : ClassLaw
class_law k few = ap (with_offsets (length (class_spelling (generated_class k)))) (class_again (class_spelling (generated_class k)) (generated_class k) (class_text k few))
