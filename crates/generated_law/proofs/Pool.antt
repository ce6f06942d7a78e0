-- The pool of the generated class: its entries by their indices, and that it is a pool.
use Rattle.std.proofs.Common.{◌≡◌, ℕ, zero, suc, ◌+◌, ◌-◌, ◌*◌, ◌/◌, ◌%◌, ◌<◌, ◌≤◌, Bool, true, false, cond, nat_lt, List, [], ◌∷◌, ◌++◌, length, map, get_or, decimal, Option, Some, None, refl, sym, ap, ◌∙◌, arith}
use Rattle.std.specs.Prelude.{codes}
use Rattle.std.specs.List.{AllByRecursion, list_all, flat_map, range_with_len}
use Rattle.std.proofs.lemmas.Bool.{lt-ltb, ltb-true, and_from, or_left, or_right}
use Rattle.std.proofs.lemmas.{Bool.Decides.nat_tests, List.Elements.All-from_recursion, Fmt.length-decimal-le, List.get_or-append-add, List.length-append}
use Rattle.std.proofs.lemmas.List.{FromFn.length-map-range_with_len, FromFn.get_or-map-range_with_len, Sums.AllPass-from_list_all}
use Rattle.suite_gen.proofs.Spelled.{group_slots_count}
use Rattle.et_base.specs.Utf.{utf, is_one, group, IsUnits}
use Rattle.et_base.specs.Names.{is_plain, is_unqualified, is_method_name, is_class_name, is_class_entry_name, after_element, after_type, is_field_descriptor, is_method_descriptor, argument, arguments, argument_units}
use Rattle.class_pool.specs.{declared.pool.Entry.Entry, PoolGrammar.EntryFits, PoolGrammar.Laid, PoolGrammar.IsPool}
use Rattle.class_pool.specs.declared.pool.Entry.TheVariants.{Utf8, Class, Field, Method, NameAndType}
use Rattle.class_pool.specs.Pool.{entry_of, is_text, is_class, is_pair, is_wide, is_second, wants_at, in_text, is_descriptor, is_field_pair, is_method_pair, wrong_index, wrong_name}
use Rattle.suite_gen.specs.Generated.{group_count, common_slots, group_slots, test_slot, slots}
use Rattle.generated_law.proofs.Decimals.{decimal_passes}

abbrev pub Slots : Type 0
Slots = List (Option Entry)

-- ---- the entries

-- Where the entries of k tests stand in slots.
pub record Holds (k : ℕ) (s : Slots) : Type 0 where
  pub own : entry_of s 1 ≡ Some (Utf8 (codes "Gen"))
  pub own_class : entry_of s 2 ≡ Some (Class 1)
  pub object : entry_of s 3 ≡ Some (Utf8 (codes "java/lang/Object"))
  pub object_class : entry_of s 4 ≡ Some (Class 3)
  pub code : entry_of s 5 ≡ Some (Utf8 (codes "Code"))
  pub number : entry_of s 6 ≡ Some (Utf8 (codes "I"))
  pub nothing : entry_of s 7 ≡ Some (Utf8 (codes "()V"))
  pub env : entry_of s 8 ≡ Some (Utf8 (codes "electric/Env"))
  pub env_class : entry_of s 9 ≡ Some (Class 8)
  pub print : entry_of s 10 ≡ Some (Utf8 (codes "print"))
  pub printing : entry_of s 11 ≡ Some (Utf8 (codes "(I)V"))
  pub print_pair : entry_of s 12 ≡ Some (NameAndType 10 11)
  pub print_method : entry_of s 13 ≡ Some (Method 9 12)
  pub name : (g : ℕ) → g < group_count k → entry_of s (14 + 3 * g) ≡ Some (Utf8 (codes "f" ++ decimal g))
  pub pair : (g : ℕ) → g < group_count k → entry_of s (15 + 3 * g) ≡ Some (NameAndType (14 + 3 * g) 6)
  pub field : (g : ℕ) → g < group_count k → entry_of s (16 + 3 * g) ≡ Some (Field 2 (15 + 3 * g))
  pub test : (i : ℕ) → 1 ≤ i → i ≤ k → entry_of s (13 + 3 * group_count k + i) ≡ Some (Utf8 (codes "t" ++ decimal i))

front_three : (x y z : Option Entry) (more : Slots) (e : ℕ) → e < 3 → get_or (x ∷ y ∷ z ∷ more) e None ≡ get_or (x ∷ y ∷ z ∷ []) e None
front_three x y z more zero few = refl
front_three x y z more (suc zero) few = refl
front_three x y z more (suc (suc zero)) few = refl
front_three x y z more (suc (suc (suc e))) few = absurd (omega (arith, few))

-- the entries of group b, in those of n groups from a on, of which it is the jth
in_groups : (later : Slots) (a n j b e : ℕ) → j < n → a + j ≡ b → e < 3 → get_or (flat_map group_slots (range_with_len a n) ++ later) (3 * j + e) None ≡ get_or (group_slots b) e None
in_groups later a zero j b e few at low = absurd (omega (arith, few))
in_groups later a (suc n) zero b e few at low =
    let same : a ≡ b = omega (arith, at) in
    let index : 3 * 0 + e ≡ e = omega arith in
    ap (λ i. get_or (flat_map group_slots (range_with_len a (suc n)) ++ later) i None) index
    ∙ (front_three _ _ _ (flat_map group_slots (range_with_len (a + 1) n) ++ later) e low ∙ ap (λ c. get_or (group_slots c) e None) same)
in_groups later a (suc n) (suc j) b e few at low =
    let index : 3 * suc j + e ≡ suc (suc (suc (3 * j + e))) = omega arith in
    ap (λ i. get_or (flat_map group_slots (range_with_len a (suc n)) ++ later) i None) index ∙ in_groups later (a + 1) n j b e (omega (arith, few)) (omega (arith, at)) low

in_tests : (k i : ℕ) → 1 ≤ i → i ≤ k → get_or (flat_map group_slots (range_with_len 0 (group_count k)) ++ map test_slot (range_with_len 1 k)) (3 * group_count k + (i - 1)) None ≡ test_slot i
in_tests k i low few =
    ap (λ n. get_or (flat_map group_slots (range_with_len 0 (group_count k)) ++ map test_slot (range_with_len 1 k)) (n + (i - 1)) None) (sym (group_slots_count 0 (group_count k)))
    ∙ (get_or-append-add (flat_map group_slots (range_with_len 0 (group_count k))) (map test_slot (range_with_len 1 k)) (i - 1) None
    ∙ get_or-map-range_with_len test_slot 1 k (i - 1) i None (omega (arith, low, few)) (omega (arith, low)))

-- an entry behind the common ones
past_common : (k i x : ℕ) → i ≡ 14 + x → entry_of (slots k) i ≡ get_or (flat_map group_slots (range_with_len 0 (group_count k)) ++ map test_slot (range_with_len 1 k)) x None
past_common k i x e =
    let index : i ≡ suc (suc (suc (suc (suc (suc (suc (suc (suc (suc (suc (suc (suc (suc x))))))))))))) = omega (arith, e) in
    ap (entry_of (slots k)) index

pub holds : (k : ℕ) → Holds k (slots k)
holds k =
    let later = map test_slot (range_with_len 1 k) in
    record {
      own = refl;
      own_class = refl;
      object = refl;
      object_class = refl;
      code = refl;
      number = refl;
      nothing = refl;
      env = refl;
      env_class = refl;
      print = refl;
      printing = refl;
      print_pair = refl;
      print_method = refl;
      name = λ g few. past_common k (14 + 3 * g) (3 * g + 0) (omega arith) ∙ in_groups later 0 (group_count k) g g 0 few (omega arith) (omega arith);
      pair = λ g few. past_common k (15 + 3 * g) (3 * g + 1) (omega arith) ∙ in_groups later 0 (group_count k) g g 1 few (omega arith) (omega arith);
      field = λ g few. past_common k (16 + 3 * g) (3 * g + 2) (omega arith) ∙ in_groups later 0 (group_count k) g g 2 few (omega arith) (omega arith);
      test = λ i low few. past_common k (13 + 3 * group_count k + i) (3 * group_count k + (i - 1)) (omega (arith, low)) ∙ in_tests k i low few;
    }

-- ---- lists of slots

pub all_append : {A : Type 0} (P : A → Type 0) (xs ys : List A) → AllByRecursion P xs → AllByRecursion P ys → AllByRecursion P (xs ++ ys)
all_append P [] ys p q = q
all_append P (x ∷ xs) ys p q = (p.0, all_append P xs ys p.1 q)

all_groups : (P : Option Entry → Type 0) (most a n : ℕ) → ((g : ℕ) → g < most → AllByRecursion P (group_slots g)) → a + n ≤ most → AllByRecursion P (flat_map group_slots (range_with_len a n))
all_groups P most a zero each few = tt
all_groups P most a (suc n) each few = all_append P (group_slots a) (flat_map group_slots (range_with_len (a + 1) n)) (each a (omega (arith, few))) (all_groups P most (a + 1) n each (omega (arith, few)))

all_tests : (P : Option Entry → Type 0) (most a n : ℕ) → ((i : ℕ) → i ≤ most → P (test_slot i)) → a + n ≤ most + 1 → AllByRecursion P (map test_slot (range_with_len a n))
all_tests P most a zero each few = tt
all_tests P most a (suc n) each few = (each a (omega (arith, few)), all_tests P most (a + 1) n each (omega (arith, few)))

-- what holds of each slot of k tests, of the common ones, of each group's and of each test's
pub each_slot : (P : Option Entry → Type 0) (k : ℕ) → AllByRecursion P common_slots → ((g : ℕ) → g < group_count k → AllByRecursion P (group_slots g)) → ((i : ℕ) → i ≤ k → P (test_slot i)) → AllByRecursion P (slots k)
each_slot P k common group test = all_append P common_slots (flat_map group_slots (range_with_len 0 (group_count k)) ++ map test_slot (range_with_len 1 k)) common
    (all_append P (flat_map group_slots (range_with_len 0 (group_count k))) (map test_slot (range_with_len 1 k)) (all_groups P (group_count k) 0 (group_count k) group (omega arith)) (all_tests P k 1 k test (omega arith)))

-- ---- entries that have a spelling

-- an entry of one slot that has a spelling
abbrev IsNarrow : Option Entry → Type 0
IsNarrow None = ⊥
IsNarrow (Some e) = EntryFits e × (is_wide (Some e) ≡ false)

second_after : (before : Slots) (slot : Option Entry) → is_second (before ++ slot ∷ []) ≡ is_wide slot
second_after [] slot = refl
second_after (first ∷ []) slot = refl
second_after (first ∷ next ∷ before) slot = second_after (next ∷ before) slot

narrow_laid : (before xs : Slots) → is_second before ≡ false → AllByRecursion IsNarrow xs → Laid before xs
narrow_laid before [] first h = tt
narrow_laid before (None ∷ xs) first h = absurd h.0
narrow_laid before (Some e ∷ xs) first h = (first, h.0.0, (λ wide. let no = wide in absurd cc), narrow_laid (before ++ Some e ∷ []) xs (second_after before (Some e) ∙ h.0.1) h.1)

one_of_three : (a b : Bool) (xs ys zs : List ℕ) → length xs ≤ 3 → length ys ≤ 3 → length zs ≤ 3 → length (cond a xs (cond b ys zs)) ≤ 3
one_of_three true b xs ys zs p q r = p
one_of_three false true xs ys zs p q r = q
one_of_three false false xs ys zs p q r = r

group_short : (u : ℕ) → length (group u) ≤ 3
unfolding group
group_short u =
    one_of_three (is_one u) (nat_lt u 2048) (u ∷ []) ((192 + u / 64) ∷ (128 + u % 64) ∷ []) ((224 + u / 4096) ∷ (128 + u / 64 % 64) ∷ (128 + u % 64) ∷ []) (omega arith) (omega arith) (omega arith)

pub utf_short : (us : List ℕ) → length (utf us) ≤ 3 * length us
utf_short [] = omega arith
utf_short (u ∷ us) = omega (arith, length-append (group u) (utf us), group_short u, utf_short us)

abbrev is_unit : ℕ → Bool
is_unit u = nat_lt u 65536

units_fit : (us : List ℕ) → list_all is_unit us ≡ true → IsUnits us
units_fit us h = λ k d lt. ltb-true _ _ (AllPass-from_list_all is_unit us h k d lt)

text_fits : (us : List ℕ) → length us ≤ 100 → list_all is_unit us ≡ true → IsNarrow (Some (Utf8 us))
text_fits us short plain = ((omega (arith, utf_short us, short), units_fit us plain), refl)

-- a letter and a number
name_fits : (letter n : ℕ) → is_unit letter ≡ true → n ≤ 1025 → IsNarrow (Some (Utf8 (letter ∷ decimal n)))
name_fits letter n small few =
    let short = length-decimal-le 5 n (omega arith) (omega (arith, few)) (omega (arith, few)) in
    text_fits (letter ∷ decimal n) (omega (arith, short)) (and_from _ _ small (decimal_passes is_unit (λ d low high. lt-ltb d 65536 (omega (arith, high))) n few))

common_narrow : AllByRecursion IsNarrow common_slots
common_narrow = (text_fits (codes "Gen") (omega arith) refl, ((omega arith, refl), (text_fits (codes "java/lang/Object") (omega arith) refl, ((omega arith, refl), (text_fits (codes "Code") (omega arith) refl, (text_fits (codes "I") (omega arith) refl, (text_fits (codes "()V") (omega arith) refl, (text_fits (codes "electric/Env") (omega arith) refl, ((omega arith, refl), (text_fits (codes "print") (omega arith) refl, (text_fits (codes "(I)V") (omega arith) refl, (((omega arith, omega arith), refl), (((omega arith, omega arith), refl), tt)))))))))))))

group_narrow : (g : ℕ) → g ≤ 1025 → AllByRecursion IsNarrow (group_slots g)
group_narrow g few = (name_fits 102 g refl few, (((omega (arith, few), omega arith), refl), (((omega arith, omega (arith, few)), refl), tt)))

-- ---- indices

abbrev FitsIndex : Slots → Option Entry → Type 0
FitsIndex s slot = wrong_index s slot ≡ None

class_index : (s : Slots) (name : ℕ) → is_text (entry_of s name) ≡ true → FitsIndex s (Some (Class name))
class_index s name h = ap (λ b. wants_at b 1 None) h

pair_index : (s : Slots) (name descriptor : ℕ) → is_text (entry_of s name) ≡ true → is_text (entry_of s descriptor) ≡ true → FitsIndex s (Some (NameAndType name descriptor))
pair_index s name descriptor h k = ap (λ b. wants_at b 1 (wants_at (is_text (entry_of s descriptor)) 3 None)) h ∙ ap (λ b. wants_at b 3 None) k

-- a field's or a method's
member_index : (s : Slots) (class pair : ℕ) → is_class (entry_of s class) ≡ true → is_pair (entry_of s pair) ≡ true → wants_at (is_class (entry_of s class)) 1 (wants_at (is_pair (entry_of s pair)) 3 None) ≡ None
member_index s class pair h k = ap (λ b. wants_at b 1 (wants_at (is_pair (entry_of s pair)) 3 None)) h ∙ ap (λ b. wants_at b 3 None) k

common_index : (k : ℕ) (s : Slots) → Holds k s → AllByRecursion (FitsIndex s) common_slots
common_index k s h = (refl, (class_index s 1 (ap is_text h.own), (refl, (class_index s 3 (ap is_text h.object), (refl, (refl, (refl, (refl, (class_index s 8 (ap is_text h.env), (refl, (refl, (pair_index s 10 11 (ap is_text h.print) (ap is_text h.printing), (member_index s 9 12 (ap is_class h.env_class) (ap is_pair h.print_pair), tt)))))))))))))

group_index : (k : ℕ) (s : Slots) → Holds k s → (g : ℕ) → g < group_count k → AllByRecursion (FitsIndex s) (group_slots g)
group_index k s h g few = (refl, (pair_index s (14 + 3 * g) 6 (ap is_text (h.name g few)) (ap is_text h.number), (member_index s 2 (15 + 3 * g) (ap is_class h.own_class) (ap is_pair (h.pair g few)), tt)))

-- ---- names

abbrev FitsName : Slots → Option Entry → Type 0
FitsName s slot = wrong_name s slot ≡ None

gen_named : is_class_entry_name (codes "Gen") ≡ true
unfolding is_class_entry_name is_class_name
gen_named = refl

object_named : is_class_entry_name (codes "java/lang/Object") ≡ true
unfolding is_class_entry_name is_class_name
object_named = refl

env_named : is_class_entry_name (codes "electric/Env") ≡ true
unfolding is_class_entry_name is_class_name
env_named = refl

pub number_typed : is_field_descriptor (codes "I") ≡ true
unfolding is_field_descriptor after_type after_element
number_typed = refl

print_typed : is_method_descriptor (codes "(I)V") ≡ true
unfolding argument_units arguments argument after_type after_element
print_typed = refl

pub plain_digit : (d : ℕ) → 48 ≤ d → d ≤ 57 → is_plain d ≡ true
plain_digit d low high = grind (arith, nat_tests)

-- a letter and a number are a name
pub letter_named : (letter n : ℕ) → is_plain letter ≡ true → n ≤ 1025 → is_unqualified (letter ∷ decimal n) ≡ true
letter_named letter n plain few = and_from _ _ (lt-ltb 0 (length (letter ∷ decimal n)) (omega arith)) (and_from _ _ plain (decimal_passes is_plain plain_digit n few))

class_name_right : (s : Slots) (name : ℕ) → in_text is_class_entry_name (entry_of s name) ≡ true → FitsName s (Some (Class name))
class_name_right s name h = ap (λ b. wants_at b 1 None) h

pair_name : (s : Slots) (name descriptor : ℕ) → in_text is_unqualified (entry_of s name) ≡ true → in_text is_descriptor (entry_of s descriptor) ≡ true → FitsName s (Some (NameAndType name descriptor))
pair_name s name descriptor h k = ap (λ b. wants_at b 1 (wants_at (in_text is_descriptor (entry_of s descriptor)) 3 None)) h ∙ ap (λ b. wants_at b 3 None) k

field_name_right : (s : Slots) (class pair name descriptor : ℕ) → entry_of s pair ≡ Some (NameAndType name descriptor) → in_text is_unqualified (entry_of s name) ≡ true → in_text is_field_descriptor (entry_of s descriptor) ≡ true
    → FitsName s (Some (Field class pair))
field_name_right s class pair name descriptor e h k = ap (λ o. wants_at (is_field_pair s o) 3 None) e ∙ ap (λ b. wants_at b 3 None) (and_from _ _ h k)

method_name_right : (s : Slots) (class pair name descriptor : ℕ) → entry_of s pair ≡ Some (NameAndType name descriptor) → in_text is_method_name (entry_of s name) ≡ true → in_text is_method_descriptor (entry_of s descriptor) ≡ true
    → FitsName s (Some (Method class pair))
method_name_right s class pair name descriptor e h k = ap (λ o. wants_at (is_method_pair s o) 3 None) e ∙ ap (λ b. wants_at b 3 None) (and_from _ _ h k)

common_name : (k : ℕ) (s : Slots) → Holds k s → AllByRecursion (FitsName s) common_slots
common_name k s h = (refl, (class_name_right s 1 (ap (in_text is_class_entry_name) h.own ∙ gen_named), (refl, (class_name_right s 3 (ap (in_text is_class_entry_name) h.object ∙ object_named), (refl, (refl, (refl, (refl, (class_name_right s 8 (ap (in_text is_class_entry_name) h.env ∙ env_named), (refl, (refl, (pair_name s 10 11 (ap (in_text is_unqualified) h.print) (ap (in_text is_descriptor) h.printing ∙ or_right _ _ print_typed), (method_name_right s 9 12 10 11 h.print_pair (ap (in_text is_method_name) h.print) (ap (in_text is_method_descriptor) h.printing ∙ print_typed), tt)))))))))))))

group_name : (k : ℕ) (s : Slots) → Holds k s → (g : ℕ) → g < group_count k → g ≤ 1025 → AllByRecursion (FitsName s) (group_slots g)
group_name k s h g few small =
    let named = ap (in_text is_unqualified) (h.name g few) ∙ letter_named 102 g refl small in
    (refl, (pair_name s (14 + 3 * g) 6 named (ap (in_text is_descriptor) h.number ∙ or_left _ _ number_typed), (field_name_right s 2 (15 + 3 * g) (14 + 3 * g) 6 (h.pair g few) named (ap (in_text is_field_descriptor) h.number ∙ number_typed), tt)))

-- ---- the pool

sound : (k : ℕ) (s : Slots) → Holds k s → k ≤ 1024 → AllByRecursion (FitsIndex s) (slots k) × AllByRecursion (FitsName s) (slots k)
sound k s h few = (
  each_slot (FitsIndex s) k (common_index k s h) (λ g less. group_index k s h g less) (λ i _. refl),
  each_slot (FitsName s) k (common_name k s h) (λ g less. group_name k s h g less (omega (arith, few, less))) (λ i _. refl),
)

pub slots_count : (k : ℕ) → length (slots k) ≡ 13 + 3 * group_count k + k
slots_count k = omega (
  arith,
  length-append (flat_map group_slots (range_with_len 0 (group_count k))) (map test_slot (range_with_len 1 k)),
  group_slots_count 0 (group_count k),
  length-map-range_with_len test_slot 1 k,
)

pub pool_is : (k : ℕ) → k ≤ 1024 → IsPool (slots k)
pool_is k few =
    let both = sound k (slots k) (holds k) few in
    record {
      few = omega (arith, few, slots_count k);
      laid = narrow_laid [] (slots k) refl (each_slot IsNarrow k common_narrow (λ g less. group_narrow g (omega (arith, few, less))) (λ i low. name_fits 116 i refl (omega (arith, few, low))));
      sound = record { indices = All-from_recursion (FitsIndex (slots k)) (slots k) both.0; names = All-from_recursion (FitsName (slots k)) (slots k) both.1 };
    }
