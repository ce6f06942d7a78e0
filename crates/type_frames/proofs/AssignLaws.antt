-- Laws of what may stand where a type is asked. Each type in form may stand for itself; in a linked program, what stands
-- for a type stands for all that this type stands for; and Object and each interface take every reference.
use Rattle.std.proofs.Common.{◌≡◌, ◌⊎◌, ℕ, suc, ◌<◌, List, [], ◌∷◌, length, drop, Bool, true, false, not, ◌&&◌, ◌||◌, nat_eq, cond, ltb, refl, sym, ◌∙◌, ap, subst, inl, inr, arith, Option, Some, None}
use Rattle.std.specs.Prelude.{position, option_and_then, nat_le, nat_lt}
use Rattle.std.specs.{List.list_all, List.list_any, Str.bytes_eq}
use Rattle.std.proofs.lemmas.Bool.{and_parts, and_from, or_cases, or_left, or_right, cases_lt, eqb-true, eq-eqb, false_from_ne_true, lt-ltb}
use Rattle.std.proofs.lemmas.{Iterator.Adapters.position_from-zero, List.Quantifiers.position-Some, List.Folds.list_any_at, List.Sums.position_or_len_is}
use Rattle.et_base.specs.Names.{is_plain, is_unqualified, parts_of, grown, is_class_name, after_element, after_type, ends, is_field_descriptor, is_class_entry_name}
use Rattle.jvm_model.specs.{declared.program.Program.Program, declared.program.ClassRec.ClassRec, Builtin.builtin_count, Builtin.object_class}
use Rattle.jvm_model.specs.{Library.builtin_classes, Library.builtin_defs, Linked.Linked, Linked.IsClass, Linked.is_interface_at}
use Rattle.jvm_model.specs.Classes.{class_at, no_class, is_interface, is_below, upwards, member}
use Rattle.jvm_model.proofs.{Upwards.below_trans, Upwards.upwards_step, Upwards.upwards_root, BuiltinRules.class_keeps}
use Rattle.type_frames.specs.{declared.vtype.VType.VType, Descriptors.class_name, Descriptors.name_of}
use Rattle.type_frames.specs.declared.vtype.VType.TheVariants.{Top, Int, Long, Null, Object, UninitThis, Uninit}
use Rattle.type_frames.specs.Assign.{class_named, takes_any, extends, class_fits, element_fits, is_array, object_fits, assignable}
use Rattle.type_frames.specs.AssignLaws.{InForm, IsReference, ItselfLaw, TransitiveLaw, ReferenceLaw}
use Rattle.et_base.proofs.Texts.{units_refl, units_true}

-- ---- each type may stand for itself

abbrev is_bracket : ℕ → Bool
is_bracket u = nat_eq u 91

class_itself : (p : Program) (a : List ℕ) → class_fits p a a ≡ true
unfolding class_fits
class_itself p a = or_left (bytes_eq a a) (takes_any p a || extends p a a) (units_refl a)

-- brackets alone name no type
pub element_itself : (p : Program) (a : List ℕ) → list_any (λ u. not (is_bracket u)) a ≡ true → element_fits p a a ≡ true
element_itself p [] e = absurd (cc)
element_itself p (u ∷ us) e = go (nat_eq u 76) (nat_eq u 91) refl refl (λ h. element_itself p us h) e
  where
    go : (q r : Bool) → nat_eq u 76 ≡ q → nat_eq u 91 ≡ r → (list_any (λ u. not (is_bracket u)) us ≡ true → element_fits p us us ≡ true) → (not r || list_any (λ u. not (is_bracket u)) us) ≡ true → elim q [ true ↦ elim (nat_eq u 76) [ true ↦ class_fits p (class_name us) (class_name us) | false ↦ nat_eq u 91 && takes_any p (class_name us) ] | false ↦ elim r [ true ↦ nat_eq u 91 && element_fits p us us | false ↦ nat_eq u u ] ] ≡ true
    go true r a b f h = rw a (class_itself p (class_name us))
    go false true a b f h = and_from (nat_eq u 91) (element_fits p us us) b (f h)
    go false false a b f h = eq-eqb u u refl

-- a descriptor isn't brackets alone
descriptor_letter : (a : List ℕ) → is_field_descriptor a ≡ true → list_any (λ u. not (is_bracket u)) a ≡ true
unfolding is_field_descriptor after_type
descriptor_letter a e = go (position (λ u. not (is_bracket u)) a) refl e
  where
    go : (o : Option ℕ) → position (λ u. not (is_bracket u)) a ≡ o → ends (option_and_then (λ n. cond (nat_le n 255) (after_element (drop n a)) None) o) ≡ true → list_any (λ u. not (is_bracket u)) a ≡ true
    go None q e = absurd (cc)
    go (Some n) q e = let f = position-Some (λ u. not (is_bracket u)) a n 0 q in list_any_at (λ u. not (is_bracket u)) a n 0 f.0 f.1

-- a class's name is no array's
pub class_name_plain : (a : List ℕ) → is_class_name a ≡ true → is_array a ≡ false
unfolding is_class_name
class_name_plain [] e = refl
class_name_plain (u ∷ us) e = false_from_ne_true (nat_eq u 91) (λ t. let q = subst (λ k. is_class_name (k ∷ us) ≡ true) (eqb-true u 91 t) e in front (parts_of us) q)
  where
    front : (ps : List (List ℕ)) → list_all is_unqualified (grown 91 ps) ≡ true → ⊥
    front [] e = absurd (cc)
    front (x ∷ xs) e = let q = and_parts (is_unqualified (91 ∷ x)) (list_all is_unqualified xs) e in let r = and_parts (nat_lt 0 (suc (length x))) (list_all is_plain (91 ∷ x)) q.0 in absurd (cc)

object_itself : (p : Program) (a : List ℕ) → is_class_entry_name a ≡ true → object_fits p a a ≡ true
unfolding object_fits is_class_entry_name
object_itself p [] h = class_itself p []
object_itself p (u ∷ us) h = go (nat_eq u 91) refl
  where
    letter : nat_eq u 91 ≡ true → list_any (λ v. not (is_bracket v)) us ≡ true
    letter q = elim (or_cases (is_class_name (u ∷ us)) (nat_eq u 91 && is_field_descriptor (u ∷ us)) h) [
      | inl n ↦ let r = class_name_plain (u ∷ us) n in absurd (cc)
      | inr n ↦ sym (ap (λ b. not b || list_any (λ v. not (is_bracket v)) us) q) ∙ descriptor_letter (u ∷ us) (and_parts (nat_eq u 91) (is_field_descriptor (u ∷ us)) n).1
    ]

    go : (r : Bool) → nat_eq u 91 ≡ r → elim r [ true ↦ elim (nat_eq u 91) [ true ↦ element_fits p us us | false ↦ takes_any p (u ∷ us) ] | false ↦ not (nat_eq u 91) && class_fits p (u ∷ us) (u ∷ us) ] ≡ true
    go true q = rw q (element_itself p us (letter q))
    go false q = rw q (class_itself p (u ∷ us))

-- each type in form may stand for itself
pub assignable_itself : (p : Program) (t : VType) → InForm t → assignable p t t ≡ true
assignable_itself p (Object a) h = object_itself p a h
assignable_itself p (Uninit n) h = eq-eqb n n refl
assignable_itself p t h = refl

-- ---- in a linked program

module _ (p : Program) (l : Linked p) where
  -- the number of a name names a class
  named_is : (a : List ℕ) (c : ℕ) → class_named p a ≡ Some c → IsClass p c
  named_is a c e =
      let test : ClassRec → Bool = λ x. bytes_eq x.name a in
      (position-Some test p.classes c no_class (position_from-zero test p.classes ∙ e)).0

  -- what stands above Object and above an interface
  pub object_below : (d : ℕ) → is_below p object_class d ≡ true → d ≡ object_class
  unfolding is_below
  object_below d e = elim (or_cases (nat_eq d object_class) false (sym (ap (member d) (upwards_root p l object_class l.listed.top)) ∙ e)) [
    | inl q ↦ eqb-true d object_class q
    | inr q ↦ absurd (cc)
  ]

  -- no built-in class is an interface
  pub builtin_plain : list_all (λ (x : ClassRec). not (is_interface x.flags)) builtin_classes ≡ true
  unfolding builtin_classes builtin_defs
  builtin_plain = refl

  pub interface_root : (c : ℕ) → IsClass p c → is_interface_at p c ≡ true → (class_at p c).superclass ≡ Some object_class
  interface_root c h e = elim (cases_lt c builtin_count) [
    | inl g ↦ let q = class_keeps p l.builtins (λ (x : ClassRec). not (is_interface x.flags)) builtin_plain c g in absurd (cc)
    | inr g ↦ (l.kinds.classes c (g, h)).interface e
  ]

  below_step : (c s d : ℕ) → IsClass p c → (class_at p c).superclass ≡ Some s → is_below p c d ≡ true → (d ≡ c) ⊎ (is_below p s d ≡ true)
  unfolding is_below
  below_step c s d h g e = elim (or_cases (nat_eq d c) (member d (upwards p s)) (sym (ap (member d) (upwards_step p l c s h g)) ∙ e)) [
    | inl q ↦ inl (eqb-true d c q)
    | inr q ↦ inr q
  ]

  interface_below : (c d : ℕ) → IsClass p c → is_interface_at p c ≡ true → is_below p c d ≡ true → (d ≡ c) ⊎ (d ≡ object_class)
  interface_below c d h i e = elim (below_step c object_class d h (interface_root c h i) e) [ inl q ↦ inl q | inr q ↦ inr (object_below d q) ]

  -- ---- Object and interfaces

  abbrev takes_at : ℕ → Bool
  takes_at d = nat_eq d object_class || is_interface (class_at p d).flags

  -- what stands above one that takes any reference takes any
  takes_at_above : (c d : ℕ) → IsClass p c → takes_at c ≡ true → is_below p c d ≡ true → takes_at d ≡ true
  takes_at_above c d h t e = elim (or_cases (nat_eq c object_class) (is_interface_at p c) t) [
    | inl q ↦ let g = object_below d (subst (λ x. is_below p x d ≡ true) (eqb-true c object_class q) e) in root d g
    | inr q ↦ elim (interface_below c d h q e) [
      | inl g ↦ subst (λ x. takes_at x ≡ true) (sym g) t
      | inr g ↦ root d g
    ]
  ]
    where
      root : (d : ℕ) → d ≡ object_class → takes_at d ≡ true
      root d g = or_left (nat_eq d object_class) (is_interface_at p d) (eq-eqb d object_class g)

  takes_above : (b c : List ℕ) → takes_any p b ≡ true → extends p b c ≡ true → takes_any p c ≡ true
  unfolding takes_any extends
  takes_above b c t e = go (class_named p b) (class_named p c) (named_is b) t e
    where
      go : (o q : Option ℕ) → ((d : ℕ) → o ≡ Some d → IsClass p d) → elim o [ None ↦ false | Some d ↦ takes_at d ] ≡ true → elim o [ None ↦ false | Some d ↦ elim q [ None ↦ false | Some e ↦ is_below p d e ] ] ≡ true → elim q [ None ↦ false | Some d ↦ takes_at d ] ≡ true
      go None q f t e = absurd (cc)
      go (Some d) None f t e = absurd (cc)
      go (Some d) (Some g) f t e = takes_at_above d g (f d refl) t e

  extends_trans : (a b c : List ℕ) → extends p a b ≡ true → extends p b c ≡ true → extends p a c ≡ true
  unfolding extends
  extends_trans a b c e f = go (class_named p a) (class_named p b) (class_named p c) (named_is a) e f
    where
      go : (o q r : Option ℕ) → ((d : ℕ) → o ≡ Some d → IsClass p d) → elim o [ None ↦ false | Some d ↦ elim q [ None ↦ false | Some e ↦ is_below p d e ] ] ≡ true → elim q [ None ↦ false | Some d ↦ elim r [ None ↦ false | Some e ↦ is_below p d e ] ] ≡ true → elim o [ None ↦ false | Some d ↦ elim r [ None ↦ false | Some e ↦ is_below p d e ] ] ≡ true
      go None q r k e f = absurd (cc)
      go (Some d) None r k e f = absurd (cc)
      go (Some d) (Some g) None k e f = absurd (cc)
      go (Some d) (Some g) (Some h) k e f = below_trans p l d g h (k d refl) e f

  -- ---- what stands for a type stands for all that this type stands for

  takes_fits : (b c : List ℕ) → takes_any p b ≡ true → class_fits p b c ≡ true → takes_any p c ≡ true
  unfolding class_fits
  takes_fits b c t e = elim (or_cases (bytes_eq b c) (takes_any p c || extends p b c) e) [
    | inl q ↦ subst (λ x. takes_any p x ≡ true) (units_true b c q) t
    | inr q ↦ elim (or_cases (takes_any p c) (extends p b c) q) [
      | inl r ↦ r
      | inr r ↦ takes_above b c t r
    ]
  ]

  pub takes_class : (a c : List ℕ) → takes_any p c ≡ true → class_fits p a c ≡ true
  unfolding class_fits
  takes_class a c t = or_right (bytes_eq a c) (takes_any p c || extends p a c) (or_left (takes_any p c) (extends p a c) t)

  class_trans : (a b c : List ℕ) → class_fits p a b ≡ true → class_fits p b c ≡ true → class_fits p a c ≡ true
  unfolding class_fits
  class_trans a b c e f = elim (or_cases (bytes_eq a b) (takes_any p b || extends p a b) e) [
    | inl q ↦ subst (λ x. class_fits p x c ≡ true) (sym (units_true a b q)) f
    | inr q ↦ elim (or_cases (takes_any p b) (extends p a b) q) [
      | inl r ↦ takes_class a c (takes_fits b c r f)
      | inr r ↦ below r (or_cases (bytes_eq b c) (takes_any p c || extends p b c) f)
    ]
  ]
    where
      below : extends p a b ≡ true → (bytes_eq b c ≡ true) ⊎ ((takes_any p c || extends p b c) ≡ true) → class_fits p a c ≡ true
      below r (inl s) = subst (λ x. class_fits p a x ≡ true) (units_true b c s) e
      below r (inr s) = elim (or_cases (takes_any p c) (extends p b c) s) [
        | inl t ↦ takes_class a c t
        | inr t ↦ or_right (bytes_eq a c) (takes_any p c || extends p a c) (or_right (takes_any p c) (extends p a c) (extends_trans a b c r t))
      ]

  -- how an element type stands for another, by their first units
  data Fit (u : ℕ) (us : List ℕ) (w : ℕ) (ws : List ℕ) : Type 0 where
    classes : u ≡ 76 → w ≡ 76 → class_fits p (class_name us) (class_name ws) ≡ true → Fit u us w ws
    array_as_class : u ≡ 91 → w ≡ 76 → takes_any p (class_name ws) ≡ true → Fit u us w ws
    arrays : u ≡ 91 → w ≡ 91 → element_fits p us ws ≡ true → Fit u us w ws
    letters : u ≡ w → nat_eq w 76 ≡ false → nat_eq w 91 ≡ false → Fit u us w ws

  fit_of : (u : ℕ) (us : List ℕ) (w : ℕ) (ws : List ℕ) → element_fits p (u ∷ us) (w ∷ ws) ≡ true → Fit u us w ws
  fit_of u us w ws e = go (nat_eq w 76) (nat_eq u 76) (nat_eq w 91) refl refl refl e
    where
      go : (r s t : Bool) → nat_eq w 76 ≡ r → nat_eq u 76 ≡ s → nat_eq w 91 ≡ t → elim r [ true ↦ elim s [ true ↦ class_fits p (class_name us) (class_name ws) | false ↦ nat_eq u 91 && takes_any p (class_name ws) ] | false ↦ elim t [ true ↦ nat_eq u 91 && element_fits p us ws | false ↦ nat_eq u w ] ] ≡ true → Fit u us w ws
      go true true t a b c e = classes (eqb-true u 76 b) (eqb-true w 76 a) e
      go true false t a b c e = let q = and_parts (nat_eq u 91) (takes_any p (class_name ws)) e in array_as_class (eqb-true u 91 q.0) (eqb-true w 76 a) q.1
      go false s true a b c e = let q = and_parts (nat_eq u 91) (element_fits p us ws) e in arrays (eqb-true u 91 q.0) (eqb-true w 91 c) q.1
      go false s false a b c e = letters (eqb-true u w e) a c

  letters_fit : (u : ℕ) (us : List ℕ) (w : ℕ) (ws : List ℕ) → u ≡ w → nat_eq w 76 ≡ false → nat_eq w 91 ≡ false → element_fits p (u ∷ us) (w ∷ ws) ≡ true
  letters_fit u us w ws e a b = go (nat_eq w 76) (nat_eq w 91) a b
    where
      go : (r t : Bool) → r ≡ false → t ≡ false → elim r [ true ↦ elim (nat_eq u 76) [ true ↦ class_fits p (class_name us) (class_name ws) | false ↦ nat_eq u 91 && takes_any p (class_name ws) ] | false ↦ elim t [ true ↦ nat_eq u 91 && element_fits p us ws | false ↦ nat_eq u w ] ] ≡ true
      go true t a b = absurd (cc)
      go false true a b = absurd (cc)
      go false false a b = eq-eqb u w e

  apart : (w k n : ℕ) → w ≡ k → nat_eq w n ≡ false → k ≡ n → ⊥
  apart w k n a b c = let t = eq-eqb w n (a ∙ c) in absurd (cc)

  fit_trans : (u : ℕ) (us : List ℕ) (w : ℕ) (ws : List ℕ) (x : ℕ) (xs : List ℕ) → (element_fits p us ws ≡ true → element_fits p ws xs ≡ true → element_fits p us xs ≡ true) → Fit u us w ws → Fit w ws x xs → element_fits p (u ∷ us) (x ∷ xs) ≡ true
  fit_trans u us w ws x xs f (classes a b c) (classes d e g) = rw (a, e) (class_trans (class_name us) (class_name ws) (class_name xs) c g)
  fit_trans u us w ws x xs f (classes a b c) (array_as_class d e g) = absurd (omega arith)
  fit_trans u us w ws x xs f (classes a b c) (arrays d e g) = absurd (omega arith)
  fit_trans u us w ws x xs f (classes a b c) (letters d e g) = absurd (apart x 76 76 (sym d ∙ b) e refl)
  fit_trans u us w ws x xs f (array_as_class a b c) (classes d e g) = rw (a, e) (takes_fits (class_name ws) (class_name xs) c g)
  fit_trans u us w ws x xs f (array_as_class a b c) (array_as_class d e g) = absurd (omega arith)
  fit_trans u us w ws x xs f (array_as_class a b c) (arrays d e g) = absurd (omega arith)
  fit_trans u us w ws x xs f (array_as_class a b c) (letters d e g) = absurd (apart x 76 76 (sym d ∙ b) e refl)
  fit_trans u us w ws x xs f (arrays a b c) (classes d e g) = absurd (omega arith)
  fit_trans u us w ws x xs f (arrays a b c) (array_as_class d e g) = rw (a, e) g
  fit_trans u us w ws x xs f (arrays a b c) (arrays d e g) = rw (a, e) (f c g)
  fit_trans u us w ws x xs f (arrays a b c) (letters d e g) = absurd (apart x 91 91 (sym d ∙ b) g refl)
  fit_trans u us w ws x xs f (letters a b c) (classes d e g) = absurd (apart w 76 76 d b refl)
  fit_trans u us w ws x xs f (letters a b c) (array_as_class d e g) = absurd (apart w 91 91 d c refl)
  fit_trans u us w ws x xs f (letters a b c) (arrays d e g) = absurd (apart w 91 91 d c refl)
  fit_trans u us w ws x xs f (letters a b c) (letters d e g) = letters_fit u us x xs (a ∙ d) e g

  element_trans : (a b c : List ℕ) → element_fits p a b ≡ true → element_fits p b c ≡ true → element_fits p a c ≡ true
  element_trans [] b c e f = absurd (cc)
  element_trans (u ∷ us) [] c e f = absurd (cc)
  element_trans (u ∷ us) (w ∷ ws) [] e f = absurd (cc)
  element_trans (u ∷ us) (w ∷ ws) (x ∷ xs) e f = fit_trans u us w ws x xs (λ g h. element_trans us ws xs g h) (fit_of u us w ws e) (fit_of w ws x xs f)

  object_trans : (a b c : List ℕ) → object_fits p a b ≡ true → object_fits p b c ≡ true → object_fits p a c ≡ true
  unfolding object_fits
  object_trans a b c e f = go (is_array a) (is_array b) (is_array c) e f
    where
      go : (r s t : Bool) → elim r [ true ↦ elim s [ true ↦ element_fits p (drop 1 a) (drop 1 b) | false ↦ takes_any p b ] | false ↦ not s && class_fits p a b ] ≡ true → elim s [ true ↦ elim t [ true ↦ element_fits p (drop 1 b) (drop 1 c) | false ↦ takes_any p c ] | false ↦ not t && class_fits p b c ] ≡ true → elim r [ true ↦ elim t [ true ↦ element_fits p (drop 1 a) (drop 1 c) | false ↦ takes_any p c ] | false ↦ not t && class_fits p a c ] ≡ true
      go true true true e f = element_trans (drop 1 a) (drop 1 b) (drop 1 c) e f
      go true true false e f = f
      go true false true e f = absurd (cc)
      go true false false e f = takes_fits b c e f
      go false true t e f = absurd (cc)
      go false false true e f = absurd (cc)
      go false false false e f = class_trans a b c e f

  reference_trans : (b a : VType) (z : List ℕ) → assignable p a b ≡ true → assignable p b (Object z) ≡ true → assignable p a (Object z) ≡ true
  reference_trans Null Null z e f = refl
  reference_trans (Object y) Null z e f = refl
  reference_trans (Object y) (Object x) z e f = object_trans x y z e f
  reference_trans b a z e f = absurd (cc)

  -- what may stand for a type may stand for all that this type may stand for
  pub assignable_trans : (a b c : VType) → assignable p a b ≡ true → assignable p b c ≡ true → assignable p a c ≡ true
  assignable_trans a b Top e f = refl
  assignable_trans a b (Object z) e f = reference_trans b a z e f
  assignable_trans a Int Int e f = e
  assignable_trans a Long Long e f = e
  assignable_trans a Null Null e f = e
  assignable_trans a UninitThis UninitThis e f = e
  assignable_trans a (Uninit n) (Uninit m) e f = subst (λ k. assignable p a (Uninit k) ≡ true) (eqb-true n m f) e
  assignable_trans a b c e f = absurd (cc)

  -- ---- Object and interfaces take every reference

  pub first_named : (c : ℕ) → IsClass p c → class_named p (name_of p c) ≡ Some c
  first_named c h =
      let test : ClassRec → Bool = λ x. bytes_eq x.name (name_of p c) in
      let before : (k : ℕ) → k < c → test (class_at p k) ≡ false =
      λ k g. false_from_ne_true (test (class_at p k)) (λ t. let q : k ≡ c = l.distinct.classes k c (omega arith) h (units_true (class_at p k).name (name_of p c) t) in omega arith) in
      let place = position_or_len_is test p.classes c no_class (omega arith) before (λ g. units_refl (name_of p c)) in
      sym (position_from-zero test p.classes) ∙ ap (λ k. cond (ltb k (length p.classes)) (Some k) None) place ∙ ap (λ b. cond b (Some c) None) (lt-ltb c (length p.classes) h)

  named_takes : (c : ℕ) → IsClass p c → takes_at c ≡ true → takes_any p (name_of p c) ≡ true
  unfolding takes_any
  named_takes c h t = ap (λ o. elim o [ None ↦ false | Some d ↦ takes_at d ]) (first_named c h) ∙ t

  object_takes : (a : List ℕ) (c : ℕ) → IsClass p c → takes_at c ≡ true → object_fits p a (name_of p c) ≡ true
  unfolding object_fits
  object_takes a c h t = go (is_array a) (is_array (name_of p c)) (class_name_plain (name_of p c) (l.listed.class_names c h))
    where
      go : (r s : Bool) → s ≡ false → elim r [ true ↦ elim s [ true ↦ element_fits p (drop 1 a) (drop 1 (name_of p c)) | false ↦ takes_any p (name_of p c) ] | false ↦ not s && class_fits p a (name_of p c) ] ≡ true
      go r true n = absurd (cc)
      go true false n = named_takes c h t
      go false false n = takes_class a (name_of p c) (named_takes c h t)

  -- Object and each interface of the program take null and every object and array
  pub interface_takes : (c : ℕ) → IsClass p c → (c ≡ object_class) ⊎ (is_interface_at p c ≡ true) → (t : VType) → IsReference t → assignable p t (Object (name_of p c)) ≡ true
  interface_takes c h i Null r = refl
  interface_takes c h i (Object a) r = object_takes a c h (elim i [
    | inl q ↦ or_left (nat_eq c object_class) (is_interface_at p c) (eq-eqb c object_class q)
    | inr q ↦ or_right (nat_eq c object_class) (is_interface_at p c) q
  ])
  interface_takes c h i t r = absurd r

-- ---- the laws as functions state them

pub itself_law : ItselfLaw
itself_law p t h = assignable_itself p t h

pub transitive_law : TransitiveLaw
transitive_law p l a b c e f = assignable_trans p l a b c e f

pub reference_law : ReferenceLaw
reference_law p l c h i t r = interface_takes p l c h i t r
