-- The bodies of a kept class's methods are paired.
use Rattle.std.proofs.Common.{◌≡◌, ℕ, suc, ◌+◌, ◌≤◌, min, List, [], ◌∷◌, map, slice_get, Bool, true, false, cond, eqb, nat_eq, refl, sym, ap, subst, arith, Option, Some, None}
use Rattle.std.specs.Prelude.{option_map, is_some, unwrap_or}
use Rattle.std.proofs.lemmas.Bool.Decides.{nat_tests}
use Rattle.class_pool.specs.{declared.pool.Entry.Entry, Pool.entry_of}
use Rattle.class_pool.specs.declared.pool.Entry.TheVariants as entry
use Rattle.code_decode.specs.declared.instructions.RawOp.{RawOp}
use Rattle.class_reader.specs.declared.parts.{ClassParts.ClassParts, CodePart.CodePart, RawHandler.RawHandler}
use Rattle.jvm_model.specs.declared.{values.Kind.Kind, values.Value.TheVariants.Lit, values.Value.TheVariants.Obj, instr.Instr.Instr}
use Rattle.jvm_model.specs.declared.instr.Instr.TheVariants as form
use Rattle.jvm_model.specs.{Builtin.builtin_count, Linked.IsDistinct, Selection.named_class, Lookup.find_field, Lookup.find_method, Lookup.lacks_method}
use Rattle.code_forms.specs.{declared.references.Target.Target, Operands.index_in, Operands.number_in, Uses.use_of}
use Rattle.code_forms.specs.declared.references.Target.TheVariants as target
use Rattle.code_forms.specs.Forms.{constant_form, branches, field_form, method_form, members, array_of, number_array, type_form, types, form_of}
use Rattle.code_forms.proofs.FormCases.{is_plain, IsTyped, loads_plain, stores_plain, moves_plain, numbers_plain, conversions_plain}
use Rattle.class_link.specs.declared.link_environment.LinkEnvironment.{LinkEnvironment}
use Rattle.class_link.specs.ClassNames.{text_at, name_at, all_names, class_number, number_or_first, kind_of}
use Rattle.class_link.specs.{Assembly.skeleton, References.pair_of, References.field_target, References.method_target, References.target_of}
use Rattle.class_link.specs.Bodies.{placed, caught, handler_rec, linked_body}
use Rattle.order_law.specs.Pairing.{PairedList, no_more, one_more, PairedOption, both_none, both_some, booleans, bytes, chars, shorts, int_bases, long_bases, class_bases, PairedKind, class_kinds, array_kinds}
use Rattle.order_law.specs.{Numbers.Numbers, Numbers.Tested, Forms.const_int, Forms.const_long, Forms.const_literal, Forms.PairedInstr}
use Rattle.order_law.specs.Forms as same
use Rattle.order_law.specs.Matched.{PairedPlaced, PairedHandler, PairedBody, MatchedCode}
use Rattle.order_law.proofs.{Programs.named-paired, Same.is_free, Same.free_alone}
use Rattle.impact_pick.specs.ByName.{same_class, by_name}
use Rattle.impact_pick.proofs.{ByNames.class_from, ByNames.literal_from, FormPairs.cond_two, FormPairs.form_pair, Records.n, Constants.literal_alike}
use Rattle.impact_pick.proofs.Names.{AreKept, IsKept, number_alike}
use Rattle.impact_pick.proofs.Targets.{NamesClasses, set, PairedTarget, type_targets, field_targets, method_targets, target_alike}

-- ---- forms without numbers of the program

plain_free : (f : Instr) → is_plain f ≡ true → is_free f ≡ true
plain_free (form.Const (Lit n)) h = h
plain_free (form.Const (Obj o)) h = h
plain_free _ h = (cc)

branches_free : (o : RawOp) → is_free (branches o) ≡ true
unfolding branches
branches_free o = grind arith

used_member : (k : ℕ) → 178 ≤ k → k ≤ 185 → is_some (use_of k) ≡ true
unfolding use_of
used_member k low high = grind (arith, nat_tests)

-- ---- what is no constant

mapped_none : {A : Type 0} (f : A → Target) (o : Option A) → ((x : A) → constant_form (Some (f x)) ≡ form.Nop) → constant_form (option_map f o) ≡ form.Nop
mapped_none f None h = refl
mapped_none f (Some x) h = h x

field_none : (s : LinkEnvironment) (o : Option Kind) (pair : List ℕ × List ℕ) → constant_form (field_target s o pair) ≡ form.Nop
field_none s None pair = refl
field_none s (Some k) pair = mapped_none (λ f. target.Field (named_class k) f) (find_field s.program (named_class k) pair.0 pair.1) (λ x. refl)

method_none : (s : LinkEnvironment) (o : Option Kind) (pair : List ℕ × List ℕ) → constant_form (method_target s o pair) ≡ form.Nop
method_none s None pair = refl
method_none s (Some k) pair = by_test (lacks_method k pair.0)
  where
    by_test : (b : Bool) → constant_form (cond b None (option_map (λ m. target.Method k m) (find_method s.program (named_class k) pair.0 pair.1))) ≡ form.Nop
    by_test true = refl
    by_test false = mapped_none (λ m. target.Method k m) (find_method s.program (named_class k) pair.0 pair.1) (λ x. refl)

both_nop : (m : Numbers) {x y : Instr} → x ≡ form.Nop → y ≡ form.Nop → PairedInstr m x y
both_nop m {x} {y} e g = subst (λ (z : Instr). PairedInstr m z y) (sym e) (subst (λ (z : Instr). PairedInstr m form.Nop z) (sym g) same.nop)

same_mapped : {A X Y : Type 0} (R : X → Y → Type 0) (f : A → X) (g : A → Y) (xs : List A) → ((k : ℕ) (x : A) → slice_get xs k ≡ Some x → R (f x) (g x)) → PairedList R (map f xs) (map g xs)
same_mapped R f g [] h = no_more
same_mapped R f g (x ∷ xs) h = one_more (h 0 x refl) (same_mapped R f g xs (λ k y e. h (suc k) y e))

module _ (cs ds : List ClassParts) (keeps : ℕ → Bool) (kept : AreKept cs ds keeps) (dp : IsDistinct (skeleton cs)) (dq : IsDistinct (skeleton ds)) where
  abbrev N : Numbers
  N = n cs ds keeps kept dp dq

  abbrev C : ℕ → ℕ → Type 0
  C = Tested (same_class keeps)

  -- the first list has a class of this name, and it is kept
  pub record HasKept (us : List ℕ) : Type 0 where
    pub number : ℕ
    pub is : class_number (all_names cs) us ≡ Some number
    pub kept_is : IsKept cs ds keeps number

  pub number_paired : (us : List ℕ) → HasKept us → C (number_or_first (all_names cs) us) (number_or_first (all_names ds) us)
  number_paired us h =
      let a = ap (λ (o : Option ℕ). unwrap_or o 0) h.is in
      let b = ap (λ (o : Option ℕ). unwrap_or o 0) (number_alike cs ds keeps kept dq us h.number h.is h.kept_is) in
      subst (λ (z : ℕ). C z (number_or_first (all_names ds) us)) (sym a) (subst (λ (z : ℕ). C h.number z) (sym b) (class_from keeps (skeleton cs) (skeleton ds) h.number h.kept_is))

  module _ (sk : MatchedCode N (skeleton cs) (skeleton ds)) (i : ℕ) (c : ClassParts) (keep : keeps (builtin_count + i) ≡ true) (has : slice_get cs i ≡ Some c) (pool : NamesClasses c.pool) where
    abbrev first : RawOp → Option Target
    first o = target_of (set cs) c.pool (entry_of c.pool (index_in o))

    abbrev second : RawOp → Option Target
    second o = target_of (set ds) c.pool (entry_of c.pool (index_in o))

    -- the entry of an instruction that uses it stands for something, and one that takes a type uses its entry
    pub record IsResolved (o : RawOp) : Type 0 where
      pub used : is_some (use_of o.opcode) ≡ true → (t : Target) × (first o ≡ Some t)
      pub typed : IsTyped o.opcode → is_some (use_of o.opcode) ≡ true

    constant_alike : (k : ℕ) (e : Option Entry) → entry_of c.pool k ≡ e → PairedInstr N (constant_form (target_of (set cs) c.pool e)) (constant_form (target_of (set ds) c.pool e))
    unfolding target_of by_name
    constant_alike k (Some (entry.Integer z)) g = same.const (const_int z)
    constant_alike k (Some (entry.Long z)) g = same.const (const_long z)
    constant_alike k (Some (entry.Str text)) g = same.const (const_literal (literal_from keeps (skeleton cs) (skeleton ds) (literal_alike cs ds keeps i k text c has (kept.agree i c keep has) g)))
    constant_alike k (Some (entry.Class name)) g = both_nop N (mapped_none (λ z. target.Type z) (kind_of (all_names cs) (text_at c.pool name)) (λ x. refl)) (mapped_none (λ z. target.Type z) (kind_of (all_names ds) (text_at c.pool name)) (λ x. refl))
    constant_alike k (Some (entry.Field class pair)) g = both_nop N (field_none (set cs) (kind_of (all_names cs) (name_at c.pool class)) (pair_of c.pool (entry_of c.pool pair))) (field_none (set ds) (kind_of (all_names ds) (name_at c.pool class)) (pair_of c.pool (entry_of c.pool pair)))
    constant_alike k (Some (entry.Method class pair)) g = both_nop N (method_none (set cs) (kind_of (all_names cs) (name_at c.pool class)) (pair_of c.pool (entry_of c.pool pair))) (method_none (set ds) (kind_of (all_names ds) (name_at c.pool class)) (pair_of c.pool (entry_of c.pool pair)))
    constant_alike k (Some (entry.InterfaceMethod class pair)) g = both_nop N (method_none (set cs) (kind_of (all_names cs) (name_at c.pool class)) (pair_of c.pool (entry_of c.pool pair))) (method_none (set ds) (kind_of (all_names ds) (name_at c.pool class)) (pair_of c.pool (entry_of c.pool pair)))
    constant_alike k _ g = same.nop

    -- ---- forms of a member and of a type

    field_alike : (o d e f g : ℕ) → N.class d e ≡ true → N.fields f g ≡ true → PairedInstr N (field_form o d f) (field_form o e g)
    field_alike o d e f g x y =
        cond_two (eqb o 178) _ _ _ _ (PairedInstr N) (λ _. same.get_static y) (λ _.
        cond_two (eqb o 179) _ _ _ _ (PairedInstr N) (λ _. same.put_static y) (λ _.
        cond_two (eqb o 180) _ _ _ _ (PairedInstr N) (λ _. same.get_field x y) (λ _. same.put_field x y)))

    method_alike : (o : ℕ) (k l : Kind) (a b : ℕ) → PairedKind (Tested N.class) k l → N.method a b ≡ true → PairedInstr N (method_form o k a) (method_form o l b)
    method_alike o k l a b x y =
        cond_two (eqb o 182) _ _ _ _ (PairedInstr N) (λ _. same.invoke_virtual x y) (λ _.
        cond_two (eqb o 183) _ _ _ _ (PairedInstr N) (λ _. same.invoke_special x y) (λ _.
        cond_two (eqb o 184) _ _ _ _ (PairedInstr N) (λ _. same.invoke_static y) (λ _. same.invoke_interface (named-paired N (skeleton cs) (skeleton ds) sk x) y)))

    members_alike : (o : ℕ) {t u : Target} → PairedTarget N t u → PairedInstr N (members (Some t) o) (members (Some u) o)
    unfolding members
    members_alike o (field_targets {c = a} {d = b} {f = f} {g = g} x y) = field_alike o a b f g x y
    members_alike o (method_targets {k = k} {l = l} {a = a} {b = b} x y) = method_alike o k l a b x y
    members_alike o _ = same.nop

    array_alike : {k l : Kind} → PairedKind (Tested N.class) k l → PairedKind (Tested N.class) (array_of k) (array_of l)
    array_alike (class_kinds e) = array_kinds 1 (class_bases e)
    array_alike (array_kinds d b) = array_kinds (min (d + 1) 255) b

    type_alike : (o : RawOp) (k l : Kind) → PairedKind (Tested N.class) k l → PairedInstr N (type_form o k) (type_form o l)
    type_alike o k l x =
        cond_two (eqb o.opcode 187) _ _ _ _ (PairedInstr N) (λ _. same.new (named-paired N (skeleton cs) (skeleton ds) sk x)) (λ _.
        cond_two (eqb o.opcode 189) _ _ _ _ (PairedInstr N) (λ _. same.new_array (array_alike x)) (λ _.
        cond_two (eqb o.opcode 192) _ _ _ _ (PairedInstr N) (λ _. same.check_cast x) (λ _.
        cond_two (eqb o.opcode 193) _ _ _ _ (PairedInstr N) (λ _. same.instance_of x) (λ _. same.multi_new_array _ x))))

    types_alike : (o : RawOp) {t u : Target} → PairedTarget N t u → PairedInstr N (types (Some t) o) (types (Some u) o)
    unfolding types
    types_alike o (type_targets {k = k} {l = l} x) = type_alike o k l x
    types_alike o _ = same.nop

    numbers_alike : (k : ℕ) → PairedKind (Tested N.class) (number_array k) (number_array k)
    numbers_alike k =
        cond_two (eqb k 4) _ _ _ _ (PairedKind (Tested N.class)) (λ _. array_kinds 1 booleans) (λ _.
        cond_two (eqb k 5) _ _ _ _ (PairedKind (Tested N.class)) (λ _. array_kinds 1 chars) (λ _.
        cond_two (eqb k 8) _ _ _ _ (PairedKind (Tested N.class)) (λ _. array_kinds 1 bytes) (λ _.
        cond_two (eqb k 9) _ _ _ _ (PairedKind (Tested N.class)) (λ _. array_kinds 1 shorts) (λ _.
        cond_two (eqb k 10) _ _ _ _ (PairedKind (Tested N.class)) (λ _. array_kinds 1 int_bases) (λ _. array_kinds 1 long_bases)))))

    -- ---- an instruction

    by_target : (S : Option Target → Option Target → Type 0) (o : RawOp) → ((t u : Target) → PairedTarget N t u → S (Some t) (Some u)) → (t : Target) × (first o ≡ Some t) → S (first o) (second o)
    by_target S o f w =
        let r = target_alike cs ds keeps kept dp dq sk i c keep has pool (index_in o) (entry_of c.pool (index_in o)) w.0 refl w.1 in
        subst (λ (z : Option Target). S z (second o)) (sym w.1) (subst (λ (z : Option Target). S (Some w.0) z) (sym r.is) (f w.0 r.other r.paired))

    pub op_alike : (o : RawOp) → IsResolved o → PairedInstr N (form_of (first o) o) (form_of (second o) o)
    op_alike o h = form_pair (PairedInstr N) (first o) (second o) o (record {
      alone = λ f e. free_alone N f (plain_free f e);
      constant = constant_alike (index_in o) (entry_of c.pool (index_in o)) refl;
      branch = free_alone N (branches o) (branches_free o);
      member = λ low high. by_target (λ t u. PairedInstr N (members t o.opcode) (members u o.opcode)) o (λ t u x. members_alike o.opcode x) (h.used (used_member o.opcode low high));
      numbers = same.new_array (numbers_alike (number_in o 0));
      if_null = λ b to. same.if_null b to;
      goto = λ to. same.goto to;
      type = λ ty. by_target (λ t u. PairedInstr N (types t o) (types u o)) o (λ t u x. types_alike o x) (h.used (h.typed ty));
    }) (loads_plain o) (stores_plain o) (moves_plain o.opcode) (numbers_plain o) (conversions_plain o.opcode)

    -- ---- a body

    -- each instruction's entry and each caught class is resolved in the first list
    pub record IsCode (code : CodePart) : Type 0 where
      pub ops : (k : ℕ) (o : RawOp) → slice_get code.code.ops k ≡ Some o → IsResolved o
      pub handlers : (k : ℕ) (h : RawHandler) → slice_get code.handlers k ≡ Some h → nat_eq h.catch_class 0 ≡ false → HasKept (name_at c.pool h.catch_class)

    caught_alike : (j : ℕ) → (nat_eq j 0 ≡ false → HasKept (name_at c.pool j)) → PairedOption (Tested N.class) (caught (all_names cs) c.pool j) (caught (all_names ds) c.pool j)
    unfolding by_name
    caught_alike j f = by_test (nat_eq j 0) f
      where
        by_test : (b : Bool) → (b ≡ false → HasKept (name_at c.pool j)) → PairedOption C (cond b None (Some (number_or_first (all_names cs) (name_at c.pool j)))) (cond b None (Some (number_or_first (all_names ds) (name_at c.pool j))))
        by_test true g = both_none
        by_test false g = both_some (number_paired (name_at c.pool j) (g refl))

    pub body_alike : (code : CodePart) → IsCode code → PairedBody N (linked_body (set cs) c.pool code) (linked_body (set ds) c.pool code)
    unfolding linked_body
    body_alike code h = record {
      max_stack = refl;
      max_locals = refl;
      length = refl;
      code = same_mapped (PairedPlaced N) (placed (set cs) c.pool) (placed (set ds) c.pool) code.code.ops (λ k o e. record { pc = refl; form = op_alike o (h.ops k o e) });
      handlers = same_mapped (PairedHandler N) (handler_rec (all_names cs) c.pool) (handler_rec (all_names ds) c.pool) code.handlers (λ k x e. record { from = refl; to = refl; at = refl; catches = caught_alike x.catch_class (h.handlers k x e) });
    }
