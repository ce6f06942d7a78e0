-- What is known of an entry of a pool.
use Rattle.std.proofs.Common.{◌≡◌, ℕ, zero, suc, Bool, true, false, List, length, Option, Some, None, refl, subst, inl, inr, All, ◌<◌, is_some, is_none, not, take, slice_index_or, append_assoc, ◌∷◌, ◌++◌, [], arith, sym, ap, ◌∙◌, add-one, ◌-◌, Bor, option_copied}
use Rattle.std.proofs.lemmas.{Bool.cases_lt, Bool.not-true, List.get_or_past, List.append-nil, List.take_more}
use Rattle.class_pool.specs.declared.pool.Entry.{Entry, TheVariants.Class, TheVariants.Field, TheVariants.Method, TheVariants.InterfaceMethod}
use Rattle.class_pool.specs.PoolGrammar.{EntryFits, Laid, IsPool}
use Rattle.et_base.specs.Names.{is_class_entry_name}
use Rattle.class_pool.specs.Pool.{entry_of, is_wide, is_second, NamesEntry, is_class, in_text, is_field_pair, is_method_pair, wants_at, wrong_index, wrong_name}
use Rattle.class_pool.proofs.{PoolSteps.is_second-push, WriteLaw.SlotFits, WriteLaw.slots_fit}

-- what holds of each slot holds of the entry that an index names
pub entry_all : (P : Option Entry → Type 0) (slots : List (Option Entry)) (i : ℕ) (entry : Entry) → All P slots → entry_of slots i ≡ Some entry → P (Some entry)
entry_all P slots zero entry all e = absurd cc
entry_all P slots (suc i) entry all e = elim (cases_lt i (length slots)) [
  | inl lt ↦ subst P e (all i None lt)
  | inr le ↦ absurd (let past : entry_of slots (suc i) ≡ None = get_or_past slots i None le in cc)
]

pub entry_fits : (slots : List (Option Entry)) (i : ℕ) (entry : Entry) → IsPool slots → entry_of slots i ≡ Some entry → EntryFits entry
entry_fits slots i entry h e = entry_all SlotFits slots i entry (slots_fit slots h) e

-- each of its indices names an entry of an allowed kind
pub entry_indices : (slots : List (Option Entry)) (i : ℕ) (entry : Entry) → IsPool slots → entry_of slots i ≡ Some entry → wrong_index slots (Some entry) ≡ None
entry_indices slots i entry h e = entry_all (λ slot. wrong_index slots slot ≡ None) slots i entry h.sound.indices e

-- each name and descriptor that it names has its form
pub entry_names : (slots : List (Option Entry)) (i : ℕ) (entry : Entry) → IsPool slots → entry_of slots i ≡ Some entry → wrong_name slots (Some entry) ≡ None
entry_names slots i entry h e = entry_all (λ slot. wrong_name slots slot ≡ None) slots i entry h.sound.names e

pub wants_none : (test : Bool) (at : ℕ) (rest : Option ℕ) → wants_at test at rest ≡ None → (test ≡ true) × (rest ≡ None)
wants_none true at rest e = (refl, e)
wants_none false at rest e = absurd cc

-- a class's name is a class name or an array descriptor
pub class_named : (slots : List (Option Entry)) (i name : ℕ) → IsPool slots → entry_of slots i ≡ Some (Class name) → in_text is_class_entry_name (entry_of slots name) ≡ true
class_named slots i name h e = (wants_none _ 1 None (entry_names slots i (Class name) h e)).0

-- a member's class is a class, and its NameAndType is one of a field or of a method
pub field_class : (slots : List (Option Entry)) (i class pair : ℕ) → IsPool slots → entry_of slots i ≡ Some (Field class pair) → is_class (entry_of slots class) ≡ true
field_class slots i class pair h e = (wants_none _ 1 _ (entry_indices slots i (Field class pair) h e)).0

pub field_pair : (slots : List (Option Entry)) (i class pair : ℕ) → IsPool slots → entry_of slots i ≡ Some (Field class pair) → is_field_pair slots (entry_of slots pair) ≡ true
field_pair slots i class pair h e = (wants_none _ 3 None (entry_names slots i (Field class pair) h e)).0

pub method_class : (slots : List (Option Entry)) (i class pair : ℕ) → IsPool slots → entry_of slots i ≡ Some (Method class pair) → is_class (entry_of slots class) ≡ true
method_class slots i class pair h e = (wants_none _ 1 _ (entry_indices slots i (Method class pair) h e)).0

pub method_pair : (slots : List (Option Entry)) (i class pair : ℕ) → IsPool slots → entry_of slots i ≡ Some (Method class pair) → is_method_pair slots (entry_of slots pair) ≡ true
method_pair slots i class pair h e = (wants_none _ 3 None (entry_names slots i (Method class pair) h e)).0

pub interface_method_class : (slots : List (Option Entry)) (i class pair : ℕ) → IsPool slots → entry_of slots i ≡ Some (InterfaceMethod class pair) → is_class (entry_of slots class) ≡ true
interface_method_class slots i class pair h e = (wants_none _ 1 _ (entry_indices slots i (InterfaceMethod class pair) h e)).0

pub interface_method_pair : (slots : List (Option Entry)) (i class pair : ℕ) → IsPool slots → entry_of slots i ≡ Some (InterfaceMethod class pair) → is_method_pair slots (entry_of slots pair) ≡ true
interface_method_pair slots i class pair h e = (wants_none _ 3 None (entry_names slots i (InterfaceMethod class pair) h e)).0

-- ---- which indices name an entry

-- A slot is empty exactly where it is the second one of a long or double.
laid_second : (before slots : List (Option Entry)) (k : ℕ) → Laid before slots → k < length slots → is_none (slice_index_or slots k None) ≡ is_second (before ++ take k slots)
laid_second before [] k h lt = absurd (omega arith)
laid_second before (None ∷ slots) zero h lt = sym (ap is_second (append-nil before) ∙ h.0)
laid_second before (Some e ∷ slots) zero h lt = sym (ap is_second (append-nil before) ∙ h.0)
laid_second before (None ∷ slots) (suc k) h lt = laid_second (before ++ None ∷ []) slots k h.1 (omega arith) ∙ ap is_second (append_assoc before (None ∷ []) (take k slots))
laid_second before (Some e ∷ slots) (suc k) h lt = laid_second (before ++ Some e ∷ []) slots k h.3 (omega arith) ∙ ap is_second (append_assoc before (Some e ∷ []) (take k slots))

second_after : (slots : List (Option Entry)) (k : ℕ) → k < length slots → is_second (take k slots) ≡ is_wide (entry_of slots k)
second_after slots zero lt = refl
second_after slots (suc k) lt = ap (λ n. is_second (take n slots)) (sym (add-one k)) ∙ ap is_second (take_more slots k None (omega arith)) ∙ is_second-push (take k slots) (slice_index_or slots k None)

none_some : (o : Option Entry) → is_some o ≡ not (is_none o)
none_some None = refl
none_some (Some e) = refl

pub entry_some : (slots : List (Option Entry)) (i : ℕ) → IsPool slots → i < length slots → is_some (entry_of slots (suc i)) ≡ not (is_wide (entry_of slots i))
entry_some slots i h lt = none_some (entry_of slots (suc i)) ∙ ap not (laid_second [] slots i h.laid lt ∙ second_after slots i lt)

back : (i : ℕ) → suc i - 1 ≡ i
back i = omega arith

pub named_from_some : (slots : List (Option Entry)) (index : ℕ) → IsPool slots → is_some (entry_of slots index) ≡ true → NamesEntry slots index
named_from_some slots zero h e = absurd cc
named_from_some slots (suc i) h e = elim (cases_lt i (length slots)) [
  | inl lt ↦ record { some = omega arith; within = omega arith; first = ap (λ k. is_wide (entry_of slots k)) (back i) ∙ not-true (is_wide (entry_of slots i)) (sym (entry_some slots i h lt) ∙ e) }
  | inr le ↦ absurd (let past : entry_of slots (suc i) ≡ None = get_or_past slots i None le in let s : is_some (entry_of slots (suc i)) ≡ false = ap is_some past in cc)
]

pub some_from_named : (slots : List (Option Entry)) (index : ℕ) → IsPool slots → NamesEntry slots index → is_some (entry_of slots index) ≡ true
some_from_named slots zero h n = absurd (omega (arith, n.some))
some_from_named slots (suc i) h n = entry_some slots i h (omega (arith, n.within)) ∙ ap not (sym (ap (λ k. is_wide (entry_of slots k)) (back i)) ∙ n.first)

pub copied_some : (o : Option (Bor Entry)) → is_some (option_copied o) ≡ is_some o
copied_some None = refl
copied_some (Some e) = refl
