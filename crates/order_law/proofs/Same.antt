-- A linked program is matched with itself.
use Rattle.std.proofs.Common.{◌≡◌, ℕ, suc, ◌<◌, Bool, true, false, List, [], ◌∷◌, length, slice_index_or, refl, sym, ◌∙◌, ap, subst, inl, inr, arith, nat_eq, Option, Some, None}
use Rattle.std.specs.Prelude.{IfSome}
use Rattle.std.proofs.lemmas.{Bool.eqb-true, Bool.eq-eqb, Bool.cases_lt, List.get_or_past}
use Rattle.jvm_model.specs.declared.{values.Value.Value, values.Base.Base, values.Kind.Kind, instr.Instr.Instr}
use Rattle.jvm_model.specs.declared.values.Value.TheVariants.{Int, Long, Null, Lit, Obj}
use Rattle.jvm_model.specs.declared.values.Base.TheVariants as base
use Rattle.jvm_model.specs.declared.values.Kind.TheVariants as kind
use Rattle.jvm_model.specs.declared.instr.Instr.TheVariants as form
use Rattle.jvm_model.specs.declared.{outcome.Verdict.Verdict, outcome.Verdict.TheVariants.Failed, outcome.Verdict.TheVariants.Error, program.Handler.Handler}
use Rattle.jvm_model.specs.declared.program.{Program.Program, ClassRec.ClassRec, FieldRec.FieldRec, MethodRec.MethodRec, Body.Body, Placed.Placed}
use Rattle.jvm_model.specs.Classes.{class_at, field_at, method_at, literal_at, no_field, no_method}
use Rattle.jvm_model.specs.Linked.{Linked, IsForm, IsBody, opens}
use Rattle.order_law.specs.Pairing.{OneToOne, PairedList, no_more, one_more, PairedOption, both_none, both_some, PairedBase, booleans, bytes, chars, shorts, int_bases, long_bases, class_bases, PairedKind, class_kinds, array_kinds}
use Rattle.order_law.specs.Numbers.{Numbers, Tested, same_numbers}
use Rattle.order_law.specs.Forms.{PairedConstant, const_int, const_long, const_null, const_literal, PairedInstr}
use Rattle.order_law.specs.Forms as same
use Rattle.order_law.specs.Matched.{PairedPlaced, PairedHandler, PairedBody, PairedMethod, PairedField, PairedClass, Matched}
use Rattle.order_law.specs.Outcomes.{PairedVerdict, both_passed, both_failed, both_error}

pub equal_one : OneToOne (Tested nat_eq)
equal_one = record {
  from_left = λ a b c p q. sym (eqb-true a b p) ∙ eqb-true a c q;
  from_right = λ a b c p q. eqb-true a c p ∙ sym (eqb-true b c q);
}

self : (a : ℕ) → nat_eq a a ≡ true
self a = eq-eqb a a refl

self_list : {A : Type 0} {R : A → A → Type 0} → ((x : A) → R x x) → (xs : List A) → PairedList R xs xs
self_list f [] = no_more
self_list f (x ∷ xs) = one_more (f x) (self_list f xs)

self_option : {A : Type 0} {R : A → A → Type 0} → ((x : A) → R x x) → (o : Option A) → PairedOption R o o
self_option f None = both_none
self_option f (Some x) = both_some (f x)

self_base : (b : Base) → PairedBase (Tested nat_eq) b b
self_base base.Boolean = booleans
self_base base.Byte = bytes
self_base base.Char = chars
self_base base.Short = shorts
self_base base.Int = int_bases
self_base base.Long = long_bases
self_base (base.Class c) = class_bases (self c)

pub self_kind : (k : Kind) → PairedKind (Tested nat_eq) k k
self_kind (kind.Class c) = class_kinds (self c)
self_kind (kind.Array d b) = array_kinds d (self_base b)

-- a value that is no object
abbrev pub NoObject : Value → Type 0
NoObject (Obj o) = ⊥
NoObject _ = Unit {0}

self_constant : (v : Value) → NoObject v → PairedConstant same_numbers v v
self_constant (Int n) h = const_int n
self_constant (Long n) h = const_long n
self_constant Null h = const_null
self_constant (Lit n) h = const_literal (self n)
self_constant (Obj o) h = absurd h

constant_form : (b : Body) (v : Value) → IsForm b (form.Const v) → NoObject v
constant_form b (Obj o) h = h
constant_form b _ h = tt

-- no number of a program stands in it
abbrev pub is_free : Instr → Bool
is_free (form.Const (Lit n)) = false
is_free (form.Const (Obj o)) = false
is_free (form.GetStatic f) = false
is_free (form.PutStatic f) = false
is_free (form.GetField c f) = false
is_free (form.PutField c f) = false
is_free (form.InvokeVirtual k m) = false
is_free (form.InvokeSpecial k m) = false
is_free (form.InvokeStatic m) = false
is_free (form.InvokeInterface c m) = false
is_free (form.New c) = false
is_free (form.NewArray k) = false
is_free (form.MultiNewArray k d) = false
is_free (form.CheckCast k) = false
is_free (form.InstanceOf k) = false
is_free _ = true

pub free_alone : (m : Numbers) (f : Instr) → is_free f ≡ true → PairedInstr m f f
free_alone m (form.Const (Int k)) h = same.const (const_int k)
free_alone m (form.Const (Long k)) h = same.const (const_long k)
free_alone m (form.Const Null) h = same.const const_null
free_alone m form.Nop h = same.nop
free_alone m (form.Load s k) h = same.load s k
free_alone m (form.Store s k) h = same.store s k
free_alone m (form.ArrayLoad c) h = same.array_load c
free_alone m (form.ArrayStore c) h = same.array_store c
free_alone m form.Pop h = same.pop
free_alone m form.Pop2 h = same.pop2
free_alone m form.Dup h = same.dup
free_alone m form.DupX1 h = same.dup_x1
free_alone m form.DupX2 h = same.dup_x2
free_alone m form.Dup2 h = same.dup2
free_alone m form.Dup2X1 h = same.dup2_x1
free_alone m form.Dup2X2 h = same.dup2_x2
free_alone m form.Swap h = same.swap
free_alone m (form.Binary x w) h = same.binary x w
free_alone m (form.Neg w) h = same.neg w
free_alone m (form.Inc k z) h = same.inc k z
free_alone m (form.Convert c) h = same.convert c
free_alone m form.Compare h = same.compare
free_alone m (form.Return s) h = same.return s
free_alone m form.ArrayLength h = same.array_length
free_alone m form.Throw h = same.throw
free_alone m form.Monitor h = same.monitor
free_alone m (form.IfZero x to) h = same.if_zero x to
free_alone m (form.IfInts x to) h = same.if_ints x to
free_alone m (form.IfRefs x to) h = same.if_refs x to
free_alone m (form.IfNull x to) h = same.if_null x to
free_alone m (form.Goto to) h = same.goto to
free_alone m (form.Table low ts other) h = same.table low ts other
free_alone m (form.Lookup ps other) h = same.lookup ps other
free_alone m _ h = absurd (cc)

self_form : (b : Body) (i : Instr) → IsForm b i → PairedInstr same_numbers i i
self_form b (form.Const v) h = same.const (self_constant v (constant_form b v h))
self_form b (form.GetStatic f) h = same.get_static (self f)
self_form b (form.PutStatic f) h = same.put_static (self f)
self_form b (form.GetField c f) h = same.get_field (self c) (self f)
self_form b (form.PutField c f) h = same.put_field (self c) (self f)
self_form b (form.InvokeVirtual k m) h = same.invoke_virtual (self_kind k) (self m)
self_form b (form.InvokeSpecial k m) h = same.invoke_special (self_kind k) (self m)
self_form b (form.InvokeStatic m) h = same.invoke_static (self m)
self_form b (form.InvokeInterface c m) h = same.invoke_interface (self c) (self m)
self_form b (form.New c) h = same.new (self c)
self_form b (form.NewArray k) h = same.new_array (self_kind k)
self_form b (form.MultiNewArray k d) h = same.multi_new_array d (self_kind k)
self_form b (form.CheckCast k) h = same.check_cast (self_kind k)
self_form b (form.InstanceOf k) h = same.instance_of (self_kind k)
self_form b f h = free_alone same_numbers f refl

self_code : (b : Body) (xs : List Placed) → ((k : ℕ) (d : Placed) → k < length xs → IsForm b (slice_index_or xs k d).form) → PairedList (PairedPlaced same_numbers) xs xs
self_code b [] f = no_more
self_code b (x ∷ xs) f = one_more (record { pc = refl; form = self_form b x.form (f 0 x (omega arith)) }) (self_code b xs (λ k d h. f (suc k) d (omega arith)))

self_handler : (h : Handler) → PairedHandler same_numbers h h
self_handler h = record { from = refl; to = refl; at = refl; catches = self_option self h.catches }

self_body : (b : Body) → IsBody b → PairedBody same_numbers b b
self_body b h = record { max_stack = refl; max_locals = refl; length = refl; code = self_code b b.code h.forms; handlers = self_list self_handler b.handlers }

self_class : (x : ClassRec) → PairedClass same_numbers x x
self_class x = record {
  name = refl;
  flags = refl;
  superclass = self_option self x.superclass;
  interfaces = self_list self x.interfaces;
  fields = self_list self x.fields;
  methods = self_list self x.methods;
}

self_field : (x : FieldRec) → PairedField same_numbers x x
self_field x = record { class = self x.class; name = refl; descriptor = refl; flags = refl }

self_method : (x : MethodRec) → PairedOption (PairedBody same_numbers) x.body x.body → PairedMethod same_numbers x x
self_method x h = record { class = self x.class; name = refl; descriptor = refl; flags = refl; native = refl; body = h }

is_body : (o : Option Body) → IfSome o (λ b. IsBody b) → (b : Body) → o ≡ Some b → IsBody b
is_body None h b e = absurd (cc)
is_body (Some x) h b e = let g : x ≡ b = cc in subst (λ (z : Body). IsBody z) g h

module _ (p : Program) (linked : Linked p) where
  no_object : (d : List ℕ) (v : Value) → opens p d v ≡ true → NoObject v
  no_object d (Obj o) e = cc
  no_object d _ e = tt

  pub opens_no_object : (f : ℕ) → NoObject (field_at p f).opening
  opens_no_object f = elim (cases_lt f (length p.fields)) [
    | inl h ↦ no_object (field_at p f).descriptor (field_at p f).opening (linked.openings.values f h)
    | inr h ↦ subst (λ (x : FieldRec). NoObject x.opening) (sym (get_or_past p.fields f no_field (omega arith))) tt
  ]

  some_body : (o : Option Body) → ((b : Body) → o ≡ Some b → IsBody b) → PairedOption (PairedBody same_numbers) o o
  some_body None f = both_none
  some_body (Some b) f = both_some (self_body b (f b refl))

  body_of : (m : ℕ) → PairedOption (PairedBody same_numbers) (method_at p m).body (method_at p m).body
  body_of m = elim (cases_lt m (length p.methods)) [
    | inl h ↦ some_body (method_at p m).body (is_body (method_at p m).body (linked.bodies m h))
    | inr h ↦ subst (λ (x : MethodRec). PairedOption (PairedBody same_numbers) x.body x.body) (sym (get_or_past p.methods m no_method (omega arith))) both_none
  ]

  pub self_matched : Matched same_numbers p p
  self_matched = record {
    code = record {
      one_field = equal_one;
      one_class = equal_one;
      one_literal = equal_one;
      classes = λ c d e. subst (λ (z : ℕ). PairedClass same_numbers (class_at p c) (class_at p z)) (eqb-true c d e) (self_class (class_at p c));
      fields = λ f g e. subst (λ (z : ℕ). PairedField same_numbers (field_at p f) (field_at p z)) (eqb-true f g e) (self_field (field_at p f));
      methods = λ a b e. subst (λ (z : ℕ). PairedMethod same_numbers (method_at p a) (method_at p z)) (eqb-true a b e) (self_method (method_at p a) (body_of a));
      texts = λ a b e. ap (λ (z : ℕ). literal_at p z) (eqb-true a b e);
      builtin = λ c h. self c;
      stream = refl;
      message = refl;
    };
    starts = record {
      initialisers = λ c d e. subst (λ (z : ℕ). PairedOption (Tested same_numbers.method) (class_at p c).initialiser (class_at p z).initialiser) (eqb-true c d e) (self_option self (class_at p c).initialiser);
      openings = λ f g e. subst (λ (z : ℕ). PairedConstant same_numbers (field_at p f).opening (field_at p z).opening) (eqb-true f g e) (self_constant (field_at p f).opening (opens_no_object f));
    };
  }

pub verdict_is : {v w : Verdict} → PairedVerdict same_numbers v w → v ≡ w
verdict_is both_passed = refl
verdict_is (both_failed {x} {y} e) = λ i. Failed (record { class = eqb-true x.class y.class e.class i; message = e.message i })
verdict_is (both_error {x} {y} e) = λ i. Error (record { class = eqb-true x.class y.class e.class i; message = e.message i })
