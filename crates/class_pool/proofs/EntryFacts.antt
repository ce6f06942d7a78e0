-- What the indices of a pool name, down to the texts.
use Rattle.std.proofs.Common.{◌≡◌, ◌<◌, ◌^◌, ◌+◌, ℕ, Bool, true, false, ◌&&◌, List, length, Option, Some, None, refl, ap, inl, inr}
use Rattle.std.proofs.lemmas.Bool.{and_parts, or_cases}
use Rattle.class_pool.specs.{declared.pool.Entry.Entry, PoolGrammar.EntryFits, PoolGrammar.IsPool}
use Rattle.class_pool.specs.declared.pool.Entry.TheVariants.{Utf8, Class, Str, Field, Method, InterfaceMethod, NameAndType}
use Rattle.et_base.specs.Names.{is_unqualified, is_method_name, is_class_name, is_class_entry_name, is_field_descriptor, is_method_descriptor, starts_array}
use Rattle.class_pool.specs.Pool.{entry_of, is_text, is_class, text_of, in_text, in_pair}
use Rattle.class_pool.proofs.PoolFacts.{wants_none, entry_fits, entry_indices, class_named, field_class, field_pair, method_class, method_pair, interface_method_class, interface_method_pair}

-- ---- what an index may name

-- a text that passes the test
pub record NamesText (test : List ℕ → Bool) (slots : List (Option Entry)) (index : ℕ) : Type 0 where
  pub units : List ℕ
  pub entry : entry_of slots index ≡ Some (Utf8 units)
  pub fits : test units ≡ true

-- any text
abbrev pub any_units : List ℕ → Bool
any_units us = true

-- a class, whose name is a class name or an array descriptor
pub record NamesClass (slots : List (Option Entry)) (index : ℕ) : Type 0 where
  pub name : ℕ
  pub entry : entry_of slots index ≡ Some (Class name)
  pub text : NamesText is_class_entry_name slots name

-- a class, and a NameAndType whose texts pass the tests
pub record NamesMember (name_test descriptor_test : List ℕ → Bool) (slots : List (Option Entry)) (class pair : ℕ) : Type 0 where
  pub of : NamesClass slots class
  pub name : ℕ
  pub descriptor : ℕ
  pub entry : entry_of slots pair ≡ Some (NameAndType name descriptor)
  pub name_text : NamesText name_test slots name
  pub descriptor_text : NamesText descriptor_test slots descriptor

-- What each entry of a pool names, by the index of the entry.
pub record EntryFacts (slots : List (Option Entry)) : Type 0 where
  pub few : length slots + 1 < 2 ^ 16
  pub fits : (i : ℕ) (entry : Entry) → entry_of slots i ≡ Some entry → EntryFits entry
  pub classes : (i : ℕ) → is_class (entry_of slots i) ≡ true → NamesClass slots i
  pub strings : (i text : ℕ) → entry_of slots i ≡ Some (Str text) → NamesText any_units slots text
  pub fields : (i class pair : ℕ) → entry_of slots i ≡ Some (Field class pair) → NamesMember is_unqualified is_field_descriptor slots class pair
  pub methods : (i class pair : ℕ) → entry_of slots i ≡ Some (Method class pair) → NamesMember is_method_name is_method_descriptor slots class pair
  pub interface_methods : (i class pair : ℕ) → entry_of slots i ≡ Some (InterfaceMethod class pair) → NamesMember is_method_name is_method_descriptor slots class pair

-- ---- from the tests

text_at : (test : List ℕ → Bool) (slots : List (Option Entry)) (i : ℕ) (e : Option Entry) → entry_of slots i ≡ e → in_text test e ≡ true → NamesText test slots i
text_at test slots i None is h = absurd cc
text_at test slots i (Some (Utf8 units)) is h = record { units = units; entry = is; fits = h }
text_at test slots i (Some e) is h = absurd cc

pub text_from : (test : List ℕ → Bool) (slots : List (Option Entry)) (i : ℕ) → in_text test (entry_of slots i) ≡ true → NamesText test slots i
text_from test slots i h = text_at test slots i (entry_of slots i) refl h

any_at : (slots : List (Option Entry)) (i : ℕ) (e : Option Entry) → entry_of slots i ≡ e → is_text e ≡ true → NamesText any_units slots i
any_at slots i None is h = absurd cc
any_at slots i (Some (Utf8 units)) is h = record { units = units; entry = is; fits = refl }
any_at slots i (Some e) is h = absurd cc

pub any_text_from : (slots : List (Option Entry)) (i : ℕ) → is_text (entry_of slots i) ≡ true → NamesText any_units slots i
any_text_from slots i h = any_at slots i (entry_of slots i) refl h

class_entry_at : (slots : List (Option Entry)) (i : ℕ) (e : Option Entry) → IsPool slots → entry_of slots i ≡ e → is_class e ≡ true → NamesClass slots i
class_entry_at slots i None pool is h = absurd cc
class_entry_at slots i (Some (Class name)) pool is h = record { name = name; entry = is; text = text_from is_class_entry_name slots name (class_named slots i name pool is) }
class_entry_at slots i (Some e) pool is h = absurd cc

pub class_from : (slots : List (Option Entry)) (i : ℕ) → IsPool slots → is_class (entry_of slots i) ≡ true → NamesClass slots i
class_from slots i pool h = class_entry_at slots i (entry_of slots i) pool refl h

pair_at : (name_test descriptor_test : List ℕ → Bool) (slots : List (Option Entry)) (class pair : ℕ) (e : Option Entry) → NamesClass slots class → entry_of slots pair ≡ e → in_pair name_test descriptor_test slots e ≡ true
    → NamesMember name_test descriptor_test slots class pair
pair_at name_test descriptor_test slots class pair None of is h = absurd cc
pair_at name_test descriptor_test slots class pair (Some (NameAndType name descriptor)) of is h =
    let b = and_parts _ _ h in
    record { of = of; name = name; descriptor = descriptor; entry = is; name_text = text_from name_test slots name b.0; descriptor_text = text_from descriptor_test slots descriptor b.1 }
pair_at name_test descriptor_test slots class pair (Some e) of is h = absurd cc

member_from : (name_test descriptor_test : List ℕ → Bool) (slots : List (Option Entry)) (class pair : ℕ) → NamesClass slots class → in_pair name_test descriptor_test slots (entry_of slots pair) ≡ true
    → NamesMember name_test descriptor_test slots class pair
member_from name_test descriptor_test slots class pair of h = pair_at name_test descriptor_test slots class pair (entry_of slots pair) of refl h

-- a name that begins with no bracket is that of a class and no array
pub plain_name : (us : List ℕ) → is_class_entry_name us ≡ true → starts_array us ≡ false → is_class_name us ≡ true
unfolding is_class_entry_name
plain_name us h bare = elim (or_cases (is_class_name us) (starts_array us && is_field_descriptor us) h) [
  | inl named ↦ named
  | inr array ↦ absurd (let there : starts_array us ≡ true = (and_parts _ _ array).0 in cc)
]

-- the texts themselves
pub units_are : (test : List ℕ → Bool) (slots : List (Option Entry)) (i : ℕ) → (t : NamesText test slots i) → text_of (entry_of slots i) ≡ Some t.units
units_are test slots i t = ap text_of t.entry

-- ---- the whole

string_text : (slots : List (Option Entry)) (i text : ℕ) → IsPool slots → entry_of slots i ≡ Some (Str text) → NamesText any_units slots text
string_text slots i text pool e = any_text_from slots text (wants_none _ 1 None (entry_indices slots i (Str text) pool e)).0

pub entry_facts : (slots : List (Option Entry)) → IsPool slots → EntryFacts slots
entry_facts slots pool = record {
  few = pool.few;
  fits = λ i entry e. entry_fits slots i entry pool e;
  classes = λ i h. class_from slots i pool h;
  strings = λ i text e. string_text slots i text pool e;
  fields = λ i class pair e. member_from is_unqualified is_field_descriptor slots class pair (class_from slots class pool (field_class slots i class pair pool e)) (field_pair slots i class pair pool e);
  methods = λ i class pair e. member_from is_method_name is_method_descriptor slots class pair (class_from slots class pool (method_class slots i class pair pool e)) (method_pair slots i class pair pool e);
  interface_methods = λ i class pair e. member_from is_method_name is_method_descriptor slots class pair (class_from slots class pool (interface_method_class slots i class pair pool e)) (interface_method_pair slots i class pair pool e);
}
