-- What an entry stands for is in the program: each number names an entry, and members are those that the look-up finds.
use Rattle.std.proofs.Common.{◌≡◌, ℕ, ◌+◌, ◌<◌, List, [], ◌∷◌, drop, Bool, true, false, nat_eq, nat_le, cond, refl, ap, ◌∙◌, subst, arith, slice_get, Option, Some, None}
use Rattle.std.specs.Prelude.{option_map}
use Rattle.std.specs.List.{prefix_len}
use Rattle.std.proofs.lemmas.{List.Folds.length-prefix_len, Bool.leb-true, Bool.cond_both}
use Rattle.class_pool.specs.{declared.pool.Entry.Entry, Pool.entry_of}
use Rattle.class_pool.specs.declared.pool.Entry.TheVariants as entry
use Rattle.code_decode.specs.Judging.{dimensions}
use Rattle.class_reader.specs.declared.parts.{ClassParts.ClassParts, CodePart.CodePart}
use Rattle.et_base.specs.Names.{starts_array}
use Rattle.jvm_model.specs.declared.values.{Base.Base, Kind.Kind, Value.TheVariants.Int, Value.TheVariants.Long, Value.TheVariants.Lit}
use Rattle.jvm_model.specs.declared.values.Base.TheVariants as base
use Rattle.jvm_model.specs.declared.values.Kind.TheVariants as kind
use Rattle.jvm_model.specs.{declared.program.Program.Program, declared.program.Body.Body, declared.program.TestEntry.TestEntry, Selection.named_class}
use Rattle.jvm_model.specs.{Lookup.find_field, Lookup.find_method, Lookup.lacks_method, Linked.IsClass, Linked.IsLiteral, Linked.IsBase, Linked.IsKind}
use Rattle.code_forms.specs.declared.references.Target.{Target}
use Rattle.code_forms.specs.declared.references.Target.TheVariants as target
use Rattle.code_forms.proofs.FormFacts.{IsTarget}
use Rattle.class_link.specs.ClassNames.{text_at, name_at, all_names, class_number, within_type, base_of, kind_of}
use Rattle.class_link.specs.{Literals.literals, Literals.literal_number, Assembly.assembled, Assembly.skeleton, Link.setting}
use Rattle.class_link.specs.References.{pair_of, field_target, method_target, target_of}
use Rattle.class_link.proofs.{Assembled.class_count, Numbered.number_is, Records.class_numbers, Pools.literal_within}
use Rattle.class_link.proofs.{SkeletonFacts.find_field_same, SkeletonFacts.find_method_same, Found.field_again, Found.method_again}

-- what an optional value is made to
mapped : {A B : Type 0} (Q : B → Type 0) (f : A → B) (o : Option A) (y : B) → option_map f o ≡ Some y → ((x : A) → o ≡ Some x → Q (f x)) → Q y
mapped Q f None y e h = absurd (cc)
mapped Q f (Some x) y e h = let k : f x ≡ y = cc in subst Q k (h x refl)

array_dimensions : (name : List ℕ) → starts_array name ≡ true → 0 < dimensions name
array_dimensions [] h = absurd (cc)
array_dimensions (u ∷ us) h =
    let is_bracket : ℕ → Bool = λ v. nat_eq v 91 in
    let l : dimensions (u ∷ us) ≡ prefix_len is_bracket (u ∷ us) = length-prefix_len is_bracket (u ∷ us) in
    let n : prefix_len is_bracket (u ∷ us) ≡ 1 + prefix_len is_bracket us = rw h refl in
    omega arith

module _ (body : ClassParts → CodePart → Body) (cs : List ClassParts) (tests : List TestEntry) (files : List (List ℕ × List ℕ)) where
  abbrev p : Program
  p = assembled body cs tests files

  -- ---- kinds

  chosen : (b : Base) (test : Bool) (x : Base) (rest : Option Base) → IsBase p x → (rest ≡ Some b → IsBase p b) → cond test (Some x) rest ≡ Some b → IsBase p b
  chosen b true x rest h f e = let q : x ≡ b = cc in subst (IsBase p) q h
  chosen b false x rest h f e = f e

  class_base : (us : List ℕ) (b : Base) (test : Bool) → cond test (option_map (λ c. base.Class c) (class_number (all_names cs) (within_type us))) None ≡ Some b → IsBase p b
  class_base us b true e = mapped (IsBase p) (λ c. base.Class c) (class_number (all_names cs) (within_type us)) b e (λ c q. (number_is body cs tests files (within_type us) c q).0)
  class_base us b false e = absurd (cc)

  base_is : (t : List ℕ) (b : Base) → base_of (all_names cs) t ≡ Some b → IsBase p b
  base_is [] b e = absurd (cc)
  base_is (u ∷ us) b e =
      chosen b (nat_eq u 90) base.Boolean _ tt (λ e.
      chosen b (nat_eq u 66) base.Byte _ tt (λ e.
      chosen b (nat_eq u 67) base.Char _ tt (λ e.
      chosen b (nat_eq u 83) base.Short _ tt (λ e.
      chosen b (nat_eq u 73) base.Int _ tt (λ e.
      chosen b (nat_eq u 74) base.Long _ tt (λ e. class_base us b (nat_eq u 76) e) e) e) e) e) e) e

  pub kind_is : (name : List ℕ) (k : Kind) → kind_of (all_names cs) name ≡ Some k → IsKind p k
  unfolding kind_of
  kind_is name k = cond_both (starts_array name) _ _ (λ o. o ≡ Some k → IsKind p k)
      (λ t. cond_both (nat_le (dimensions name) 255) _ _ (λ o. o ≡ Some k → IsKind p k)
      (λ l e. mapped (IsKind p) (λ b. kind.Array (dimensions name) b) (base_of (all_names cs) (drop (dimensions name) name)) k e
      (λ b z. (array_dimensions name t, leb-true (dimensions name) 255 l, base_is (drop (dimensions name) name) b z)))
      (λ _ e. absurd (cc)))
      (λ _ e. mapped (IsKind p) (λ c. kind.Class c) (class_number (all_names cs) name) k e (λ c q. (number_is body cs tests files name c q).0))

  pub named_is : (k : Kind) → IsKind p k → IsClass p (named_class k)
  named_is (kind.Class c) h = h
  named_is (kind.Array d b) h = let n = class_count body cs tests files in omega arith

  -- ---- members

  field_is : (o : Option Kind) (pair : List ℕ × List ℕ) (t : Target) → ((k : Kind) → o ≡ Some k → IsKind p k) → field_target (setting cs) o pair ≡ Some t → IsTarget p t
  field_is None pair t h e = absurd (cc)
  field_is (Some k) pair t h e = mapped (IsTarget p) (λ f. target.Field (named_class k) f) (find_field (skeleton cs) (named_class k) pair.0 pair.1) t e (λ f q.
      let r = field_again p (class_numbers body cs tests files) (named_class k) pair.0 pair.1 f (find_field_same body cs tests files (named_class k) pair.0 pair.1 ∙ q) in
      (named_is k (h k refl), r.0, r.1))

  unless_some : (b : Bool) (o : Option Target) (t : Target) → cond b None o ≡ Some t → (b ≡ false) × (o ≡ Some t)
  unless_some true o t e = absurd (cc)
  unless_some false o t e = (refl, e)

  method_is : (o : Option Kind) (pair : List ℕ × List ℕ) (t : Target) → ((k : Kind) → o ≡ Some k → IsKind p k) → method_target (setting cs) o pair ≡ Some t → IsTarget p t
  method_is None pair t h e = absurd (cc)
  method_is (Some k) pair t h e = let some = unless_some (lacks_method k pair.0) _ t e in mapped (IsTarget p) (λ m. target.Method k m) (find_method (skeleton cs) (named_class k) pair.0 pair.1) t some.1 (λ m q.
      let r = method_again p (class_numbers body cs tests files) (named_class k) pair.0 pair.1 m (find_method_same body cs tests files (named_class k) pair.0 pair.1 ∙ q) in
      (h k refl, r.0, (ap (lacks_method k) r.2 ∙ some.0, r.1)))

  -- ---- entries

  literal_is : (i : ℕ) (c : ClassParts) (k text : ℕ) → slice_get cs i ≡ Some c → entry_of c.pool k ≡ Some (entry.Str text) → IsLiteral p (literal_number (literals cs) (text_at c.pool text))
  unfolding assembled
  literal_is i c k text h e = (omega arith, literal_within cs i c k text h e (text_at c.pool text))

  entry_is : (i : ℕ) (c : ClassParts) (k : ℕ) (e : Option Entry) (t : Target) → slice_get cs i ≡ Some c → entry_of c.pool k ≡ e → target_of (setting cs) c.pool e ≡ Some t → IsTarget p t
  unfolding target_of
  entry_is i c k (Some (entry.Integer n)) t h g e = let q : target.Constant (Int n) ≡ t = cc in subst (IsTarget p) q tt
  entry_is i c k (Some (entry.Long n)) t h g e = let q : target.Constant (Long n) ≡ t = cc in subst (IsTarget p) q tt
  entry_is i c k (Some (entry.Str text)) t h g e = let q : target.Constant (Lit (literal_number (literals cs) (text_at c.pool text))) ≡ t = cc in subst (IsTarget p) q (literal_is i c k text h g)
  entry_is i c k (Some (entry.Class name)) t h g e = mapped (IsTarget p) (λ k. target.Type k) (kind_of (all_names cs) (text_at c.pool name)) t e (λ k q. kind_is (text_at c.pool name) k q)
  entry_is i c k (Some (entry.Field class pair)) t h g e = field_is (kind_of (all_names cs) (name_at c.pool class)) (pair_of c.pool (entry_of c.pool pair)) t (kind_is (name_at c.pool class)) e
  entry_is i c k (Some (entry.Method class pair)) t h g e = method_is (kind_of (all_names cs) (name_at c.pool class)) (pair_of c.pool (entry_of c.pool pair)) t (kind_is (name_at c.pool class)) e
  entry_is i c k (Some (entry.InterfaceMethod class pair)) t h g e = method_is (kind_of (all_names cs) (name_at c.pool class)) (pair_of c.pool (entry_of c.pool pair)) t (kind_is (name_at c.pool class)) e
  entry_is i c k _ t h g e = absurd (cc)

  -- what an index of a class file stands for is in the program
  pub target_is : (i : ℕ) (c : ClassParts) (k : ℕ) (t : Target) → slice_get cs i ≡ Some c → target_of (setting cs) c.pool (entry_of c.pool k) ≡ Some t → IsTarget p t
  target_is i c k t h e = entry_is i c k (entry_of c.pool k) t h refl e
