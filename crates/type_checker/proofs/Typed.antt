-- No first fault is no fault at all.
use Rattle.std.proofs.lemmas.List.{drop_all}
use Rattle.std.proofs.Common.{◌≡◌, ◌≤◌, ◌<◌, drop, length, ℕ, zero, suc, List, [], ◌∷◌, ◌+◌, Option, Some, None, slice_get, refl, ap, sym, ◌∙◌, arith, subst, add-zero, true, is_some}
use Rattle.jvm_model.specs.declared.program.{Program.Program, ClassRec.ClassRec, MethodRec.MethodRec, Body.Body, Placed.Placed}
use Rattle.jvm_model.specs.{Classes.field_at, Classes.method_at, Linked.Linked}
use Rattle.type_frames.specs.declared.{vtype.Frame.Frame, fault.CheckFault.CheckFault}
use Rattle.type_frames.specs.{Given.given_frames, Environment.Environment, Environment.environment_of}
use Rattle.type_frames.specs.Typing.{IsTyped, IsTypedMethod, Breach, no_frame, rule, breach_at, fault_of, or_later, unsupported_field, unsupported_method, fields_fault, members_fault, code_fault, body_fault, method_fault, methods_fault, class_fault, classes_fault, check_fault, given_classes}

none_both : (x y : Option CheckFault) → or_later x y ≡ None → (x ≡ None) × (y ≡ None)
none_both None y e = (refl, e)
none_both (Some x) y e = cc

both_none : (x y : Option CheckFault) → x ≡ None → y ≡ None → or_later x y ≡ None
both_none x y e f = ap (λ a. or_later a y) e ∙ f

-- the first fault of items that are numbered one after the other
module _ (X : Type 0) (f : ℕ → X → Option CheckFault) (first : ℕ → List X → Option CheckFault)
    (done : (j : ℕ) → first j [] ≡ None) (more : (j : ℕ) (x : X) (xs : List X) → first j (x ∷ xs) ≡ or_later (f j x) (first (suc j) xs)) where
  each_none : (j : ℕ) (xs : List X) → first j xs ≡ None → (k : ℕ) (x : X) → slice_get xs k ≡ Some x → f (j + k) x ≡ None
  each_none j [] e k x s = cc
  each_none j (y ∷ xs) e zero x s = let q : y ≡ x = cc in subst (λ z. f (j + 0) z ≡ None) q (ap (λ n. f n y) (add-zero j) ∙ (none_both _ _ (sym (more j y xs) ∙ e)).0)
  each_none j (y ∷ xs) e (suc k) x s = let q : j + suc k ≡ suc j + k = omega arith in ap (λ n. f n x) q ∙ each_none (suc j) xs (none_both _ _ (sym (more j y xs) ∙ e)).1 k x s

  first_none : (j : ℕ) (xs : List X) → ((k : ℕ) (x : X) → slice_get xs k ≡ Some x → f (j + k) x ≡ None) → first j xs ≡ None
  first_none j [] h = done j
  first_none j (x ∷ xs) h =
      let rest : first (suc j) xs ≡ None = first_none (suc j) xs (λ k y s. let q : suc j + k ≡ j + suc k = omega arith in ap (λ n. f n y) q ∙ h (suc k) y s) in
      more j x xs ∙ both_none _ _ (ap (λ n. f n x) (sym (add-zero j)) ∙ h 0 x refl) rest

-- the instructions of a method

no_breach : (name : List ℕ) (j pc : ℕ) (b : Option Breach) → fault_of name j pc b ≡ None → b ≡ None
no_breach name j pc None e = refl
no_breach name j pc (Some no_frame) e = cc
no_breach name j pc (Some (rule r)) e = cc

-- whether a method is typed, by its body and its frames

body_some : (p : Program) (name : List ℕ) (j : ℕ) (m : MethodRec) (b : Body) (o : Option (List Frame)) → body_fault p name j m b o ≡ None → is_some o ≡ true
body_some p name j m b None e = cc
body_some p name j m b (Some gs) e = refl

body_of : (p : Program) (name : List ℕ) (j : ℕ) (m : MethodRec) → method_fault p name j m ≡ None → (b : Body) → m.body ≡ Some b → body_fault p name j m b (given_frames p m) ≡ None
unfolding method_fault
body_of p name j m h b e = sym (ap (λ o. elim o [ None ↦ None | Some b ↦ body_fault p name j m b (given_frames p m) ]) e) ∙ h

pub method_typed : (p : Program) (name : List ℕ) (j : ℕ) (m : MethodRec) → method_fault p name j m ≡ None → IsTypedMethod p m
method_typed p name j m h = record {
  frames = λ b e. body_some p name j m b (given_frames p m) (body_of p name j m h b e);
  each = λ b gs k x e g s.
      let q : body_fault p name j m b (Some gs) ≡ None = subst (λ o. body_fault p name j m b o ≡ None) g (body_of p name j m h b e) in
      let z : 0 + k ≡ k = omega arith in
      let a = environment_of p m b gs in
      ap (λ n. breach_at p a n x) (sym z)
      ∙ no_breach name j x.pc _ (each_none Placed (λ n y. fault_of name j y.pc (breach_at p a n y)) (code_fault p name j a) (λ _. refl) (λ _ _ _. refl) 0 b.code q k x s);
}

typed_body : (p : Program) (name : List ℕ) (j : ℕ) (m : MethodRec) (b : Body) (o : Option (List Frame)) → m.body ≡ Some b → given_frames p m ≡ o → is_some o ≡ true → IsTypedMethod p m → body_fault p name j m b o ≡ None
typed_body p name j m b None e g s t = cc
typed_body p name j m b (Some gs) e g s t =
    let a = environment_of p m b gs in
    first_none Placed (λ n x. fault_of name j x.pc (breach_at p a n x)) (code_fault p name j a) (λ _. refl) (λ _ _ _. refl) 0 b.code
    (λ k x r. let z : 0 + k ≡ k = omega arith in ap (fault_of name j x.pc) (ap (λ n. breach_at p a n x) z ∙ t.each b gs k x e g r))

typed_method : (p : Program) (name : List ℕ) (j : ℕ) (m : MethodRec) → IsTypedMethod p m → method_fault p name j m ≡ None
unfolding method_fault
typed_method p name j m t = go m.body refl
  where
    go : (o : Option Body) → m.body ≡ o → ◌≡◌ {A = Option CheckFault} (elim o [ None ↦ None | Some b ↦ body_fault p name j m b (given_frames p m) ]) None
    go None e = refl
    go (Some b) e = typed_body p name j m b (given_frames p m) e refl (t.frames b e) t

-- classes

record IsTypedClass (p : Program) (c : ClassRec) : Type 0 where
  fields : (k n : ℕ) → slice_get c.fields k ≡ Some n → unsupported_field c (field_at p n) ≡ None
  members : (k n : ℕ) → slice_get c.methods k ≡ Some n → unsupported_method c (method_at p n) ≡ None
  methods : (k n : ℕ) → slice_get c.methods k ≡ Some n → IsTypedMethod p (method_at p n)

class_typed : (p : Program) (c : ClassRec) → class_fault p c ≡ None → IsTypedClass p c
unfolding class_fault
class_typed p c e =
    let a = none_both _ _ e in
    let b = none_both _ _ a.1 in
    record {
      fields = each_none ℕ (λ _ n. unsupported_field c (field_at p n)) (λ _ ns. fields_fault p c ns) (λ _. refl) (λ _ _ _. refl) 0 c.fields a.0;
      members = each_none ℕ (λ _ n. unsupported_method c (method_at p n)) (λ _ ns. members_fault p c ns) (λ _. refl) (λ _ _ _. refl) 0 c.methods b.0;
      methods = λ k n s.
          method_typed p c.name (1 + k) (method_at p n)
          (each_none ℕ (λ j i. method_fault p c.name j (method_at p i)) (methods_fault p c.name) (λ _. refl) (λ _ _ _. refl) 1 c.methods b.1 k n s);
    }

typed_class : (p : Program) (c : ClassRec) → IsTypedClass p c → class_fault p c ≡ None
unfolding class_fault
typed_class p c t = both_none _ _
    (first_none ℕ (λ _ n. unsupported_field c (field_at p n)) (λ _ ns. fields_fault p c ns) (λ _. refl) (λ _ _ _. refl) 0 c.fields t.fields)
    (both_none _ _
    (first_none ℕ (λ _ n. unsupported_method c (method_at p n)) (λ _ ns. members_fault p c ns) (λ _. refl) (λ _ _ _. refl) 0 c.methods t.members)
    (first_none ℕ (λ j n. method_fault p c.name j (method_at p n)) (methods_fault p c.name) (λ _. refl) (λ _ _ _. refl) 1 c.methods
    (λ k n s. typed_method p c.name (1 + k) (method_at p n) (t.methods k n s))))

pub typed_none : (p : Program) → Linked p → check_fault p ≡ None → IsTyped p
unfolding check_fault
typed_none p l e =
    let none = each_none ClassRec (λ _ c. class_fault p c) (λ _ cs. classes_fault p cs) (λ _. refl) (λ _ _ _. refl) 0 (given_classes p) e in
    let h : (i : ℕ) (c : ClassRec) → slice_get (given_classes p) i ≡ Some c → IsTypedClass p c = λ i c s. class_typed p c (none i c s) in
    record { linked = l; fields = λ i k n c s. (h i c s).fields k n; members = λ i k n c s. (h i c s).members k n; methods = λ i k n c s. (h i c s).methods k n }

pub typed_no_fault : (p : Program) → IsTyped p → check_fault p ≡ None
unfolding check_fault
typed_no_fault p t = first_none ClassRec (λ _ c. class_fault p c) (λ _ cs. classes_fault p cs) (λ _. refl) (λ _ _ _. refl) 0 (given_classes p)
    (λ i c s. typed_class p c (record { fields = λ k n. t.fields i k n c s; members = λ k n. t.members i k n c s; methods = λ k n. t.methods i k n c s }))

pub fault_untyped : (p : Program) (x : CheckFault) → check_fault p ≡ Some x → IsTyped p → ⊥
fault_untyped p x e t = let q = typed_no_fault p t in cc

pub given_none : (p : Program) → length p.classes < 32 → [] ≡ given_classes p
given_none p lt = let le : length p.classes ≤ 32 = omega arith in sym (drop_all 32 p.classes le)

pub given_rest : (p : Program) → drop 32 p.classes ≡ given_classes p
given_rest p = refl
