-- What the parameters of a method descriptor begin with: a base type, an L or a bracket.
use Rattle.std.proofs.Common.{◌≡◌, ℕ, zero, suc, ◌+◌, ◌<◌, List, [], ◌∷◌, length, take, drop, Bool, true, false, not, nat_eq, nat_le, nat_lt, Option, Some, None, is_some, option_map, option_and_then, position, if◌then◌else◌, refl, sym, ◌∙◌, ap, subst, arith, inl, inr, get_or}
use Rattle.std.proofs.lemmas.{Bool.eqb-true, Bool.cases_Bool, Bool.not-true, Bool.not-false, List.Quantifiers.position-Some}
use Rattle.et_base.specs.Names.{is_base, after_class, after_element, after_type, argument, arguments, after_close, closed, is_method_descriptor, argument_units, is_class_name, is_return, units_of_type}
use Rattle.jvm_model.specs.{Classes.member, Linked.first_or, Scanning.type_length, Descriptors.at_type, Descriptors.types_in, Descriptors.parameters}
use Rattle.jvm_model.proofs.DescriptorLemmas.{splits}

abbrev pub first_units : List ℕ
first_units = 66 ∷ 67 ∷ 68 ∷ 70 ∷ 73 ∷ 74 ∷ 76 ∷ 83 ∷ 90 ∷ 91 ∷ []

abbrev pub IsText : List ℕ → Type 0
IsText t = member (first_or 0 t) first_units ≡ true

abbrev pub AreTexts : List (List ℕ) → Type 0
AreTexts [] = Unit {0}
AreTexts (t ∷ ts) = IsText t × AreTexts ts

-- a unit that is one of these
unit_is : (n v : ℕ) → nat_eq v n ≡ true → member n first_units ≡ true → member v first_units ≡ true
unit_is n v e h = subst (λ (u : ℕ). member u first_units ≡ true) (sym (eqb-true v n e)) h

base_unit : (v : ℕ) → is_base v ≡ true → member v first_units ≡ true
base_unit v h = grind (arith)

-- the units of a class's name, with its semicolon
named_units : (b : Bool) (n m : ℕ) → b ≡ true → elim b [ true ↦ suc zero | false ↦ n ] ≡ suc zero
named_units true n m e = refl
named_units false n m e = absurd cc

more_units : (b : Bool) (n : ℕ) → b ≡ false → elim b [ true ↦ suc zero | false ↦ suc n ] ≡ suc n
more_units false n e = refl
more_units true n e = absurd cc

name_length : (us : List ℕ) (m : ℕ) → m < length us → nat_eq (get_or us m 0) 59 ≡ true → ((k : ℕ) → k < m → nat_eq (get_or us k 0) 59 ≡ false) → type_length true us ≡ suc m
name_length [] m h e n = absurd (omega arith)
name_length (v ∷ us) zero h e n = named_units (nat_eq v 59) _ zero e
name_length (v ∷ us) (suc m) h e n = more_units (nat_eq v 59) (type_length true us) (n 0 (omega arith)) ∙ ap suc (name_length us m (omega arith) e (λ k g. n (suc k) (omega arith)))

class_taken : (us rest : List ℕ) (n : ℕ) (b : Bool) → (if b then Some (drop (n + 1) us) else None) ≡ Some rest → drop (n + 1) us ≡ rest
class_taken us rest n true e = cc
class_taken us rest n false e = absurd cc

after_name : (us rest : List ℕ) → after_class us ≡ Some rest → drop (type_length true us) us ≡ rest
unfolding after_class
after_name us rest e = by (position (λ u. nat_eq u 59) us) refl e
  where
    by : (o : Option ℕ) → position (λ u. nat_eq u 59) us ≡ o → option_and_then (λ n. if is_class_name (take n us) then Some (drop (n + 1) us) else None) o ≡ Some rest → drop (type_length true us) us ≡ rest
    by None q e = absurd cc
    by (Some m) q e =
        let f = position-Some (λ u. nat_eq u 59) us m 0 q in
        ap (λ (k : ℕ). drop k us) (name_length us m f.0 f.1 f.2 ∙ omega arith) ∙ class_taken us rest m (is_class_name (take m us)) e

-- one type: what comes after it, and its first unit
pub record OneType (us rest : List ℕ) : Type 0 where
  pub after : drop (type_length false us) us ≡ rest
  pub begins : member (first_or 0 us) first_units ≡ true

plain_length : (b c : Bool) (n m : ℕ) → b ≡ false → c ≡ false → elim b [ true ↦ suc n | false ↦ elim c [ true ↦ suc m | false ↦ suc zero ] ] ≡ suc zero
plain_length false false n m e g = refl
plain_length _ _ n m e g = absurd cc

class_length : (b c : Bool) (n m : ℕ) → b ≡ false → c ≡ true → elim b [ true ↦ suc n | false ↦ elim c [ true ↦ suc m | false ↦ suc zero ] ] ≡ suc m
class_length false true n m e g = refl
class_length _ _ n m e g = absurd cc

array_length : (b c : Bool) (n m : ℕ) → b ≡ true → elim b [ true ↦ suc n | false ↦ elim c [ true ↦ suc m | false ↦ suc zero ] ] ≡ suc n
array_length true c n m e = refl
array_length false c n m e = absurd cc

base_no_class : (v : ℕ) → is_base v ≡ true → nat_eq v 76 ≡ false
base_no_class v h = elim (cases_Bool (nat_eq v 76)) [
  | inl e ↦ absurd (no_base (subst (λ (u : ℕ). is_base u ≡ true) (eqb-true v 76 e) h))
  | inr e ↦ e
]
  where
    no_base : is_base 76 ≡ true → ⊥
    no_base q = absurd cc

by_element : (b c : Bool) (v : ℕ) (us rest : List ℕ) → is_base v ≡ b → nat_eq v 76 ≡ c → nat_eq v 91 ≡ false → (if b then Some us else if c then after_class us else None) ≡ Some rest → OneType (v ∷ us) rest
by_element true c v us rest h g n e = record {
  after = ap (λ (k : ℕ). drop k (v ∷ us)) (plain_length (nat_eq v 91) (nat_eq v 76) _ _ n (base_no_class v h)) ∙ cc;
  begins = base_unit v h;
}
by_element false true v us rest h g n e = record {
  after = ap (λ (k : ℕ). drop k (v ∷ us)) (class_length (nat_eq v 91) (nat_eq v 76) _ _ n g) ∙ after_name us rest e;
  begins = unit_is 76 v g refl;
}
by_element false false v us rest h g n e = absurd cc

element : (us rest : List ℕ) → nat_eq (get_or us 0 0) 91 ≡ false → after_element us ≡ Some rest → OneType us rest
unfolding after_element
element [] rest n e = absurd cc
element (v ∷ us) rest n e = by_element (is_base v) (nat_eq v 76) v us rest refl refl n e

bracketed : (us rest : List ℕ) (n : ℕ) → n < length us → nat_eq (get_or us n 0) 91 ≡ false → ((k : ℕ) → k < n → nat_eq (get_or us k 0) 91 ≡ true) → after_element (drop n us) ≡ Some rest → OneType us rest
bracketed [] rest n h g f e = absurd (omega arith)
bracketed (v ∷ us) rest zero h g f e = element (v ∷ us) rest g e
bracketed (v ∷ us) rest (suc n) h g f e =
    let one = bracketed us rest n (omega arith) g (λ k l. f (suc k) (omega arith)) e in
    let is : nat_eq v 91 ≡ true = f 0 (omega arith) in
    record {
      after = ap (λ (k : ℕ). drop k (v ∷ us)) (array_length (nat_eq v 91) (nat_eq v 76) _ _ is) ∙ one.after;
      begins = unit_is 91 v is refl;
    }

within_255 : (b : Bool) (o : Option (List ℕ)) (rest : List ℕ) → (if b then o else None) ≡ Some rest → o ≡ Some rest
within_255 true o rest e = e
within_255 false o rest e = absurd cc

pub one_type : (us rest : List ℕ) → after_type us ≡ Some rest → OneType us rest
unfolding after_type
one_type us rest e = by (position (λ u. not (nat_eq u 91)) us) refl e
  where
    by : (o : Option ℕ) → position (λ u. not (nat_eq u 91)) us ≡ o → option_and_then (λ n. if nat_le n 255 then after_element (drop n us) else None) o ≡ Some rest → OneType us rest
    by None q e = absurd cc
    by (Some n) q e =
        let f = position-Some (λ u. not (nat_eq u 91)) us n 0 q in
        bracketed us rest n f.0 (not-true _ f.1) (λ k l. not-false _ (f.2 k l)) (within_255 (nat_le n 255) _ rest e)

-- the first unit of what a type takes is the first unit
first_taken : (n v : ℕ) (us : List ℕ) → length (drop n (v ∷ us)) < length (v ∷ us) → member v first_units ≡ true → IsText (take n (v ∷ us))
first_taken zero v us h m = absurd (omega arith)
first_taken (suc n) v us h m = m

read_one : (so m : ℕ) (us rest : List ℕ) → argument so us ≡ Some (m, rest) → after_type us ≡ Some rest
unfolding argument
read_one so m us rest e = by (nat_lt 255 (so + units_of_type us)) (after_type us) e
  where
    by : (b : Bool) (o : Option (List ℕ)) → if◌then◌else◌ {A = Option (ℕ × List ℕ)} b None (option_map (λ r. (so + units_of_type us, r)) o) ≡ Some (m, rest) → o ≡ Some rest
    by false (Some r) e = ap (λ (q : Option (ℕ × List ℕ)). option_map (λ x. x.1) q) e
    by _ _ e = absurd cc

close_only : (v : ℕ) (vs : List ℕ) → after_close (v ∷ vs) ≡ None → v ≡ 41 → ⊥
close_only v vs e q = absurd (taken (subst (λ (u : ℕ). after_close (u ∷ vs) ≡ None) q e))
  where
    taken : Some vs ≡ None → ⊥
    taken q = absurd cc

texts_from : (us ts rest : List ℕ) (tt : List (List ℕ)) → types_in at_type us ≡ ts ∷ tt → IsText ts → AreTexts tt → AreTexts (types_in at_type us)
texts_from us ts rest tt e h g = subst AreTexts (sym e) (h, g)

arguments_formed : (n so : ℕ) (us : List ℕ) (x : ℕ × List ℕ) → arguments n so us ≡ Some x → AreTexts (types_in at_type us)
unfolding arguments
arguments_formed zero so us x e = absurd cc
arguments_formed (suc n) so [] x e = tt
arguments_formed (suc n) so (v ∷ vs) x e = by (λ y q. arguments_formed n y.0 y.1 x q) (after_close (v ∷ vs)) (argument so (v ∷ vs)) refl refl e
  where
    by : ((y : ℕ × List ℕ) → arguments n y.0 y.1 ≡ Some x → AreTexts (types_in at_type y.1)) → (c : Option (List ℕ)) (a : Option (ℕ × List ℕ)) → after_close (v ∷ vs) ≡ c → argument so (v ∷ vs) ≡ a → closed so c (option_and_then (λ y. arguments n y.0 y.1) a) ≡ Some x → AreTexts (types_in at_type (v ∷ vs))
    by f (Some rest) a q r e = ended (nat_eq v 41) refl q
      where
        ended : (b : Bool) → nat_eq v 41 ≡ b → (if b then Some vs else None) ≡ Some rest → AreTexts (types_in at_type (v ∷ vs))
        ended true g h = subst (λ (u : ℕ). AreTexts (types_in at_type (u ∷ vs))) (sym (eqb-true v 41 g)) tt
        ended false g h = absurd cc
    by f None None q r e = absurd cc
    by f None (Some y) q r e =
        let one = one_type (v ∷ vs) y.1 (read_one so y.0 (v ∷ vs) y.1 r) in
        let split = splits (v ∷ vs) v vs refl (close_only v vs q) in
        texts_from (v ∷ vs) _ y.1 (types_in at_type y.1) (split.types ∙ ap (λ (r : List ℕ). take (type_length false (v ∷ vs)) (v ∷ vs) ∷ types_in at_type r) one.after)
        (first_taken (type_length false (v ∷ vs)) v vs split.shorter one.begins) (f y e)

pub parameters_formed : (d : List ℕ) → is_method_descriptor d ≡ true → AreTexts (parameters d)
unfolding argument_units parameters
parameters_formed [] h = tt
parameters_formed (u ∷ us) h = by (nat_eq u 40) (arguments (length us) 0 us) refl h
  where
    by : (b : Bool) (o : Option (ℕ × List ℕ)) → arguments (length us) 0 us ≡ o → is_some (if b then option_and_then (λ x. if is_return x.1 then Some x.0 else None) o else None) ≡ true → AreTexts (types_in at_type us)
    by true (Some x) q h = arguments_formed (length us) 0 us x q
    by _ _ q h = absurd cc
