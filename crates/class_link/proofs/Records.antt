-- Each number in a record of a class, a field or a method names an entry.
use Rattle.std.proofs.Common.{◌≡◌, ℕ, suc, ◌+◌, List, [], ◌∷◌, length, slice_get, true, refl, sym, ◌∙◌, subst, inl, inr, arith, Option, Some}
use Rattle.std.specs.Prelude.{flat_map}
use Rattle.std.proofs.lemmas.{Bool.cases_Bool, Bool.cond-true, Bool.cond-false, List.Elements.All-map, List.Elements.All-filter}
use Rattle.class_pool.specs.declared.pool.Entry.{Entry}
use Rattle.class_reader.specs.declared.parts.{ClassParts.ClassParts, MemberPart.MemberPart, CodePart.CodePart}
use Rattle.jvm_model.specs.declared.program.{Program.Program, FieldRec.FieldRec, MethodRec.MethodRec, Body.Body, TestEntry.TestEntry}
use Rattle.jvm_model.specs.{Builtin.builtin_count, Library.builtin_fields, Library.builtin_methods}
use Rattle.jvm_model.specs.Classes.{class_at, field_at, method_at, no_field, no_method, member}
use Rattle.jvm_model.specs.Linked.{IsClass, IsField, IsMethod, NamesClass}
use Rattle.jvm_model.proofs.BuiltinRules.{builtin_names, builtin_field_class, builtin_method_class}
use Rattle.class_link.specs.{ClassNames.name_at, ClassNames.all_names, ClassNames.number_or_first, Literals.literals}
use Rattle.class_link.specs.Assembly.{mentioned_by, given_classes, is_initialiser, initialiser_from, class_rec, assembled}
use Rattle.class_link.proofs.{Blocks.before, Blocks.all_range, Blocks.all_numbers, Numbered.if_some, Numbered.number_class, Numbered.given_number}
use Rattle.class_link.proofs.Assembled.{own_fields, own_methods, make_field, make_method, holds_builtins, class_given, field_given, method_given, class_cases, field_cases, method_cases, given_class_is}

-- the initialiser's number is that of a method which is one
pub record Initialiser (m : ℕ) (slots : List (Option Entry)) (xs : List MemberPart) (n : ℕ) : Type 0 where
  pub index : ℕ
  pub member : MemberPart
  pub number : n ≡ m + index
  pub there : slice_get xs index ≡ Some member
  pub is : is_initialiser slots member ≡ true

pub initialiser_is : (m : ℕ) (slots : List (Option Entry)) (xs : List MemberPart) (n : ℕ) → initialiser_from m slots xs ≡ Some n → Initialiser m slots xs n
initialiser_is m slots [] n e = absurd (cc)
initialiser_is m slots (x ∷ xs) n e = elim (cases_Bool (is_initialiser slots x)) [
  | inl t ↦ let q : Some m ≡ Some n = sym (cond-true (is_initialiser slots x) (Some m) (initialiser_from (m + 1) slots xs) t) ∙ e in let k : m ≡ n = cc in record { index = 0; member = x; number = omega arith; there = refl; is = t }
  | inr f ↦
      let r = initialiser_is (m + 1) slots xs n (sym (cond-false (is_initialiser slots x) (Some m) (initialiser_from (m + 1) slots xs) f) ∙ e) in
      let k = r.number in
      record { index = suc r.index; member = r.member; number = omega arith; there = r.there; is = r.is }
]

module _ (body : ClassParts → CodePart → Body) (cs : List ClassParts) (tests : List TestEntry) (files : List (List ℕ × List ℕ)) where
  abbrev p : Program
  p = assembled body cs tests files

  module _ (i : ℕ) (c : ClassParts) (h : slice_get cs i ≡ Some c) where
    rec_numbers : NamesClass p (class_rec (all_names cs) (length builtin_fields + before own_fields cs i) (length builtin_methods + before own_methods cs i) c)
    rec_numbers = record {
      superclass = number_class body cs tests files (name_at c.pool c.super_class);
      interfaces = All-map (λ d. IsClass p d) (λ k. number_or_first (all_names cs) (name_at c.pool k)) c.interfaces (λ k d g. number_class body cs tests files (name_at c.pool _));
      fields = all_numbers (make_field (literals cs)) own_fields builtin_fields no_field cs (λ f. IsField p f) i c (λ k x g. field_given body cs tests files i k c x h g);
      methods = all_numbers (make_method body) own_methods builtin_methods no_method cs (λ m. IsMethod p m) i c (λ k x g. (method_given body cs tests files i k c x h g).0);
      initialiser = if_some (λ m. IsMethod p m) (initialiser_from (length builtin_methods + before own_methods cs i) c.pool c.methods) (λ n e.
          let r = initialiser_is _ c.pool c.methods n e in
          subst (λ m. IsMethod p m) (sym r.number) (method_given body cs tests files i r.index c r.member h r.there).0);
      mentions = All-filter (λ d. member d (flat_map (mentioned_by (all_names cs) c.pool) c.pool)) (λ d. IsClass p d) (given_classes (all_names cs)) (all_range (λ d. IsClass p d) builtin_count _ (given_number body cs tests files));
    }

    pub class_numbers_given : NamesClass p (class_at p (builtin_count + i))
    class_numbers_given = subst (λ r. NamesClass p r) (sym (class_given body cs tests files i c h)) rec_numbers

  pub class_numbers : (c : ℕ) → IsClass p c → NamesClass p (class_at p c)
  class_numbers c h = elim (class_cases body cs tests files c h) [
    | inl g ↦ builtin_names p (holds_builtins body cs tests files) c g
    | inr g ↦ subst (λ n. NamesClass p (class_at p n)) (sym g.number) (class_numbers_given g.index g.parts g.there)
  ]

  pub field_class : (f : ℕ) → IsField p f → IsClass p (field_at p f).class
  field_class f h = elim (field_cases body cs tests files f h) [
    | inl g ↦ builtin_field_class p (holds_builtins body cs tests files) f g
    | inr g ↦ subst (λ (r : FieldRec). IsClass p r.class) (sym g.is) (given_class_is body cs tests files g.class g.parts g.has_class)
  ]

  pub method_class : (m : ℕ) → IsMethod p m → IsClass p (method_at p m).class
  method_class m h = elim (method_cases body cs tests files m h) [
    | inl g ↦ builtin_method_class p (holds_builtins body cs tests files) m g
    | inr g ↦ subst (λ (r : MethodRec). IsClass p r.class) (sym g.is) (given_class_is body cs tests files g.class g.parts g.has_class)
  ]
