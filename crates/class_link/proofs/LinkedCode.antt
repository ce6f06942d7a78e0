-- The instructions and handlers of linked bodies: their numbers name entries, what they name is of its kind, and members are
-- those that the look-up finds.
use Rattle.std.proofs.Common.{◌≡◌, ℕ, ◌+◌, ◌<◌, List, [], length, get_or, slice_get, Bool, true, false, nat_eq, nat_le, cond, refl, sym, ◌∙◌, ap, subst, inl, inr, arith, Option, Some, None, IfSome, All}
use Rattle.std.specs.Prelude.{option_map, unwrap_or, drop}
use Rattle.std.proofs.lemmas.{Bool.eq-eqb, Bool.cond_both, Option.slice_get-get_or, List.Elements.All-map}
use Rattle.class_pool.specs.{declared.pool.Entry.Entry, Pool.entry_of, Pool.class_name_of}
use Rattle.class_pool.specs.declared.pool.Entry.TheVariants as entry
use Rattle.class_pool.proofs.EntryFacts.{NamesClass}
use Rattle.code_decode.specs.{declared.instructions.RawOp.RawOp, Judging.dimensions}
use Rattle.code_decode.proofs.CodeFacts.{OpFacts}
use Rattle.class_reader.specs.declared.parts.{ClassParts.ClassParts, MemberPart.MemberPart, CodePart.CodePart, RawHandler.RawHandler}
use Rattle.class_reader.proofs.PartFacts.{HandlerFacts, PartFacts}
use Rattle.et_base.specs.Names.{starts_array}
use Rattle.jvm_model.specs.declared.{values.Kind.Kind, program.Program.Program, program.Body.Body, program.Placed.Placed, program.Handler.Handler}
use Rattle.jvm_model.specs.declared.values.Kind.TheVariants as kind
use Rattle.jvm_model.specs.{declared.program.TestEntry.TestEntry, Builtin.builtin_count, Builtin.throwable_class, Selection.named_class, Lookup.find_method}
use Rattle.jvm_model.specs.Classes.{method_at, is_static, is_below}
use Rattle.jvm_model.specs.Linked.{IsClass, NamesForm, NamesBody, IsFormKind, IsBodyKind, IsFormFound, IsBody, is_interface_at}
use Rattle.code_forms.specs.declared.references.Use.TheVariants as used
use Rattle.code_forms.specs.{declared.references.Target.Target, Operands.index_in, Uses.fits, Forms.form_of}
use Rattle.code_forms.specs.declared.references.Target.TheVariants as target
use Rattle.jvm_model.proofs.Ranges.{all_there}
use Rattle.class_link.specs.ClassNames.{text_at, name_at, all_names, class_number, number_or_first, base_of, kind_of}
use Rattle.class_link.specs.{Assembly.skeleton, References.LinkEnvironment, References.target_of, Faults.all_references_fault, Faults.references_fault}
use Rattle.class_link.specs.{Bodies.placed, Bodies.caught, Bodies.handler_rec, Bodies.linked_body, Link.setting, Link.program_of}
use Rattle.class_link.proofs.{Assembled.class_count, Numbered.if_some, Numbered.number_class, SkeletonFacts.below_same, SkeletonFacts.fits_same}
use Rattle.class_link.proofs.{TargetFacts.target_is, BodyFacts.makes_nested, BodyFacts.is_body}
use Rattle.class_link.proofs.Referenced.{use_fits, op_used, handler_used, no_fault}
use Rattle.code_forms.proofs.FormFacts.{IsTarget, IsRight, FitsUse, OwnsStatics, form_right}
use Rattle.code_forms.proofs.ShapeFacts.{calls_by_sort}

-- ---- targets

-- what stands for something is there
some_entry : (s : LinkEnvironment) (slots : List (Option Entry)) (e : Option Entry) (t : Target) → target_of s slots e ≡ Some t → (x : Entry) × (e ≡ Some x)
unfolding target_of
some_entry s slots None t h = absurd (cc)
some_entry s slots (Some x) t h = (x, refl)

same_target : (o : Option Target) (t u : Target) → o ≡ Some t → o ≡ Some u → t ≡ u
same_target o t u e f = let q : Some t ≡ Some u = sym e ∙ f in cc

mapped : {A B : Type 0} (f : A → B) (o : Option A) (y : B) → option_map f o ≡ Some y → (x : A) × (o ≡ Some x) × (f x ≡ y)
mapped f None y e = absurd (cc)
mapped f (Some x) y e = (x, refl, (let q : Some (f x) ≡ Some y = e in cc))

-- a class's kind is made of its number
pub class_kind : (names : List (List ℕ)) (name : List ℕ) (d : ℕ) → kind_of names name ≡ Some (kind.Class d) → class_number names name ≡ Some d
unfolding kind_of
class_kind names name d = cond_both (starts_array name) _ _ (λ o. o ≡ Some (kind.Class d) → class_number names name ≡ Some d)
    (λ _. cond_both (nat_le (dimensions name) 255) _ _ (λ o. o ≡ Some (kind.Class d) → class_number names name ≡ Some d)
    (λ _ e. absurd (let z = (mapped (λ b. kind.Array (dimensions name) b) (base_of names (drop (dimensions name) name)) (kind.Class d) e).2 in cc))
    (λ _ e. absurd (cc)))
    (λ _ e.
    let m = mapped (λ c. kind.Class c) (class_number names name) (kind.Class d) e in
    let q : m.0 ≡ d = (let z : kind.Class m.0 ≡ kind.Class d = m.2 in cc) in m.1 ∙ ap (λ (n : ℕ). Some n) q)

module _ (cs : List ClassParts) (tests : List TestEntry) (files : List (List ℕ × List ℕ)) (resolved : all_references_fault (setting cs) builtin_count cs ≡ None)
    (owners : (c : ℕ) (name descriptor : List ℕ) (m : ℕ) → find_method (program_of cs tests files) c name descriptor ≡ Some m → is_static (method_at (program_of cs tests files) m).flags ≡ true → is_interface_at (program_of cs tests files) (method_at (program_of cs tests files) m).class ≡ true → is_interface_at (program_of cs tests files) c ≡ true)
    (i k : ℕ) (c : ClassParts) (x : MemberPart) (code : CodePart) (has_class : slice_get cs i ≡ Some c) (has_method : slice_get c.methods k ≡ Some x) (has_code : x.code ≡ Some code) (facts : PartFacts c.pool code) where
  abbrev p : Program
  p = program_of cs tests files

  abbrev body : ClassParts → CodePart → Body
  body c code = linked_body (setting cs) c.pool code

  abbrev at_op : RawOp → Option Target
  at_op o = target_of (setting cs) c.pool (entry_of c.pool (index_in o))

  some_class : 0 < length p.classes
  some_class = let n = class_count body cs tests files in omega arith

  is_there : (n : ℕ) (t : Target) → target_of (setting cs) c.pool (entry_of c.pool n) ≡ Some t → IsTarget p t
  is_there n t e = target_is body cs tests files i c n t has_class e

  targets_there : (o : RawOp) → IfSome (at_op o) (IsTarget p)
  targets_there o = if_some (IsTarget p) (at_op o) (is_there (index_in o))

  clean : references_fault (setting cs) (builtin_count + i) c ≡ None
  clean = no_fault (setting cs) builtin_count cs i c resolved has_class

  fits_use : (j : ℕ) (o : RawOp) → slice_get code.code.ops j ≡ Some o → FitsUse p (builtin_count + i) (entry_of c.pool (index_in o)) o (at_op o)
  fits_use j o e u is = if_some (λ t. fits p (builtin_count + i) (entry_of c.pool (index_in o)) t u ≡ true) (at_op o) (λ t at.
      let n = index_in o in
      let there = some_entry (setting cs) c.pool (entry_of c.pool n) t at in
      let f = use_fits (setting cs) (builtin_count + i) c n u there.0 clean (op_used c k j x code o u has_method has_code e is) there.1 in
      let same : f.target ≡ t = same_target (at_op o) f.target t f.is at in
      fits_same body cs tests files (builtin_count + i) (entry_of c.pool n) t u ∙ subst (λ z. fits (skeleton cs) (builtin_count + i) (entry_of c.pool n) z u ≡ true) same f.fits)

  owns : (o : RawOp) → OwnsStatics p (at_op o)
  owns o d m at = let t = is_there (index_in o) (target.Method d m) at in owners (named_class d) (method_at p m).name (method_at p m).descriptor m t.2.1

  -- ---- instructions

  op_right : (j : ℕ) (o : RawOp) → slice_get code.code.ops j ≡ Some o → IsRight p (builtin_count + i) (form_of (at_op o) o)
  op_right j o e =
      let op = all_there (OpFacts c.pool code.code.ops code.code.length) code.code.ops j o facts.code.each e in
      form_right p (builtin_count + i) (entry_of c.pool (index_in o)) (at_op o) o some_class (targets_there o) (makes_nested (setting cs) c.pool code.code.ops code.code.length o op) (fits_use j o e)
      (calls_by_sort c.pool code.code.ops code.code.length o op) (owns o)

  -- ---- handlers

  caught_named : (n : ℕ) → IfSome (caught (all_names cs) c.pool n) (λ d. IsClass p d)
  caught_named n = by_test (nat_eq n 0)
    where
      by_test : (b : Bool) → IfSome (cond b None (Some (number_or_first (all_names cs) (name_at c.pool n)))) (λ d. IsClass p d)
      by_test true = tt
      by_test false = number_class body cs tests files (name_at c.pool n)

  -- a caught class's number is that of its kind
  caught_number : (n name d : ℕ) → entry_of c.pool n ≡ Some (entry.Class name) → target_of (setting cs) c.pool (entry_of c.pool n) ≡ Some (target.Type (kind.Class d)) → number_or_first (all_names cs) (name_at c.pool n) ≡ d
  unfolding target_of
  caught_number n name d is at =
      let a : target_of (setting cs) c.pool (Some (entry.Class name)) ≡ Some (target.Type (kind.Class d)) = ap (target_of (setting cs) c.pool) (sym is) ∙ at in
      let m = mapped (λ k. target.Type k) (kind_of (all_names cs) (text_at c.pool name)) (target.Type (kind.Class d)) a in
      let q : m.0 ≡ kind.Class d = (let z : target.Type m.0 ≡ target.Type (kind.Class d) = m.2 in cc) in
      let g : class_number (all_names cs) (text_at c.pool name) ≡ Some d = class_kind (all_names cs) (text_at c.pool name) d (m.1 ∙ ap (λ (y : Kind). Some y) q) in
      let s : name_at c.pool n ≡ text_at c.pool name = ap (λ (e : Option Entry). unwrap_or (class_name_of c.pool e) []) is in
      ap (number_or_first (all_names cs)) s ∙ ap (λ (o : Option ℕ). unwrap_or o 0) g

  caught_below : (n name : ℕ) (t : Target) → entry_of c.pool n ≡ Some (entry.Class name) → target_of (setting cs) c.pool (entry_of c.pool n) ≡ Some t → fits (skeleton cs) (builtin_count + i) (entry_of c.pool n) t used.Caught ≡ true →
      is_below p (number_or_first (all_names cs) (name_at c.pool n)) throwable_class ≡ true
  unfolding fits
  caught_below n name (target.Type (kind.Class d)) is at h = ap (λ (e : ℕ). is_below p e throwable_class) (caught_number n name d is at) ∙ (below_same body cs tests files d throwable_class ∙ h)
  caught_below n name _ is at h = absurd (cc)

  handler_kind : (j : ℕ) (h : RawHandler) → slice_get code.handlers j ≡ Some h → IfSome (caught (all_names cs) c.pool h.catch_class) (λ d. is_below p d throwable_class ≡ true)
  handler_kind j h e = elim (all_there (HandlerFacts c.pool code.code) code.handlers j h facts.handlers e).caught [
    | inl z ↦ let q : nat_eq h.catch_class 0 ≡ true = eq-eqb h.catch_class 0 z in rw q tt
    | inr n ↦ by_test (nat_eq h.catch_class 0) refl n
  ]
    where
      by_test : (b : Bool) → nat_eq h.catch_class 0 ≡ b → NamesClass c.pool h.catch_class → IfSome (cond b None (Some (number_or_first (all_names cs) (name_at c.pool h.catch_class)))) (λ d. is_below p d throwable_class ≡ true)
      by_test true q n = tt
      by_test false q n =
          let f = use_fits (setting cs) (builtin_count + i) c h.catch_class used.Caught (entry.Class n.name) clean (handler_used c k j x code h has_method has_code e q) n.entry in
          caught_below h.catch_class n.name f.target n.entry f.is f.fits

  -- ---- the body

  pub names_body : NamesBody p (linked_body (setting cs) c.pool code)
  unfolding linked_body
  names_body = record {
    forms = All-map (λ (y : Placed). NamesForm p y.form) (placed (setting cs) c.pool) code.code.ops (λ j d h. (op_right j (get_or code.code.ops j d) (slice_get-get_or code.code.ops j d h)).0);
    handlers = All-map (λ (y : Handler). IfSome y.catches (λ d. IsClass p d)) (handler_rec (all_names cs) c.pool) code.handlers (λ j d h. caught_named (get_or code.handlers j d).catch_class);
  }

  pub body_kind : IsBodyKind p (builtin_count + i) (linked_body (setting cs) c.pool code)
  unfolding linked_body
  body_kind = record {
    forms = All-map (λ (y : Placed). IsFormKind p (builtin_count + i) y.form) (placed (setting cs) c.pool) code.code.ops (λ j d h. (op_right j (get_or code.code.ops j d) (slice_get-get_or code.code.ops j d h)).1);
    handlers = All-map (λ (y : Handler). IfSome y.catches (λ d. is_below p d throwable_class ≡ true)) (handler_rec (all_names cs) c.pool) code.handlers (λ j d h. handler_kind j (get_or code.handlers j d) (slice_get-get_or code.handlers j d h));
  }

  pub body_found : All (λ (y : Placed). IsFormFound p y.form) (linked_body (setting cs) c.pool code).code
  unfolding linked_body
  body_found = All-map (λ (y : Placed). IsFormFound p y.form) (placed (setting cs) c.pool) code.code.ops (λ j d h. (op_right j (get_or code.code.ops j d) (slice_get-get_or code.code.ops j d h)).2)

  pub body_is : IsBody (linked_body (setting cs) c.pool code)
  body_is = is_body p (setting cs) c.pool code facts targets_there
