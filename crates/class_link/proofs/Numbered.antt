-- Names to numbers: a class's number names an entry of the program, and that entry has the name.
use Rattle.std.proofs.Common.{◌≡◌, ℕ, ◌+◌, ◌-◌, ◌<◌, List, [], ◌∷◌, ◌++◌, length, map, get_or, refl, sym, ◌∙◌, ap, subst, arith, Option, Some, None, IfSome, All}
use Rattle.std.specs.Prelude.{flat_map, unwrap_or}
use Rattle.std.proofs.lemmas.List.{length-map, map-append, get_or-map, Quantifiers.position-Some}
use Rattle.std.proofs.lemmas.List.Elements.{All-nil, All-cons, All-head, All-tail, All-append, All-filter}
use Rattle.et_base.proofs.Texts.{units_true}
use Rattle.class_reader.specs.declared.parts.{ClassParts.ClassParts, CodePart.CodePart}
use Rattle.jvm_model.specs.declared.program.{Program.Program, Body.Body, ClassRec.ClassRec, TestEntry.TestEntry}
use Rattle.std.specs.Str.{bytes_eq}
use Rattle.jvm_model.specs.{Builtin.builtin_count, Linked.IsClass, Library.builtin_classes, Library.builtin_fields, Library.builtin_methods}
use Rattle.jvm_model.specs.Classes.{class_at, no_class, first_mentions}
use Rattle.class_link.specs.ClassNames.{own_name, all_names, class_number, number_or_first}
use Rattle.class_link.specs.Assembly.{class_recs, assembled}
use Rattle.class_link.proofs.Assembled.{class_count}

-- ---- lists

pub if_some : {A : Type 0} (P : A → Type 0) (o : Option A) → ((x : A) → o ≡ Some x → P x) → IfSome o P
if_some P None f = tt
if_some P (Some x) f = f x refl

pub all_flat : {A : Type 0} (P : ℕ → Type 0) (f : A → List ℕ) (xs : List A) → ((x : A) → All P (f x)) → All P (flat_map f xs)
all_flat P f [] h = All-nil P
all_flat P f (x ∷ xs) h = All-append P (f x) (flat_map f xs) (h x) (all_flat P f xs h)

pub all_mentions : (P : ℕ → Type 0) (xs : List ℕ) → All P xs → All P (first_mentions xs)
all_mentions P [] h = All-nil P
all_mentions P (x ∷ xs) h = All-cons P x _ (All-head P x xs h) (All-filter _ P (first_mentions xs) (all_mentions P xs (All-tail P x xs h)))

-- ---- names

-- a class's number is within the names, and the name stands there
pub number_found : (names : List (List ℕ)) (name : List ℕ) (n : ℕ) → class_number names name ≡ Some n → (n < length names) × (get_or names n [] ≡ name)
number_found names name n e = let q = position-Some (bytes_eq name) names n [] e in (q.0, sym (units_true name (get_or names n []) q.1))

pub number_within : (names : List (List ℕ)) (name : List ℕ) → 0 < length names → number_or_first names name < length names
number_within names name h = some_within (class_number names name) (if_some (λ n. n < length names) (class_number names name) (λ n e. (number_found names name n e).0))
  where
    some_within : (o : Option ℕ) → IfSome o (λ n. n < length names) → unwrap_or o 0 < length names
    some_within None g = h
    some_within (Some n) g = g

rec_names : (names : List (List ℕ)) (f m : ℕ) (cs : List ClassParts) → map (λ (c : ClassRec). c.name) (class_recs names f m cs) ≡ map own_name cs
rec_names names f m [] = refl
rec_names names f m (c ∷ cs) = ap (λ (xs : List (List ℕ)). own_name c ∷ xs) (rec_names names (f + length c.fields) (m + length c.methods) cs)

module _ (body : ClassParts → CodePart → Body) (cs : List ClassParts) (tests : List TestEntry) (files : List (List ℕ × List ℕ)) where
  abbrev p : Program
  p = assembled body cs tests files

  pub names_are : all_names cs ≡ map (λ (c : ClassRec). c.name) p.classes
  unfolding assembled all_names
  names_are =
      let name : ClassRec → List ℕ = λ c. c.name in
      let f = length builtin_fields in
      let m = length builtin_methods in
      sym (map-append name builtin_classes (class_recs (all_names cs) f m cs) ∙ ap (λ (xs : List (List ℕ)). map name builtin_classes ++ xs) (rec_names (all_names cs) f m cs))

  pub names_length : length (all_names cs) ≡ length p.classes
  names_length = ap length names_are ∙ length-map p.classes (λ (c : ClassRec). c.name)

  pub name_of_class : (c : ℕ) → IsClass p c → get_or (all_names cs) c [] ≡ (class_at p c).name
  name_of_class c h = ap (λ (xs : List (List ℕ)). get_or xs c []) names_are ∙ get_or-map (λ (x : ClassRec). x.name) p.classes c no_class [] h

  -- the number of a name is that of a class of this name
  pub number_is : (name : List ℕ) (n : ℕ) → class_number (all_names cs) name ≡ Some n → IsClass p n × ((class_at p n).name ≡ name)
  number_is name n e =
      let q = number_found (all_names cs) name n e in
      let h : IsClass p n = subst (λ k. n < k) names_length q.0 in
      (h, sym (name_of_class n h) ∙ q.1)

  pub number_class : (name : List ℕ) → IsClass p (number_or_first (all_names cs) name)
  number_class name = let a = class_count body cs tests files in let b = names_length in subst (λ k. number_or_first (all_names cs) name < k) names_length (number_within (all_names cs) name (omega arith))

  pub given_number : (k : ℕ) → k < length (all_names cs) - builtin_count → IsClass p (builtin_count + k)
  given_number k h = subst (λ n. builtin_count + k < n) names_length (omega (arith, h))
