-- What the old list's faults, which aren't there, say of its kept classes.
use Rattle.std.proofs.Common.{◌≡◌, ℕ, ◌+◌, ◌-◌, ◌<◌, ◌≤◌, ◌^◌, ℤ, pos, List, [], ◌∷◌, slice_get, get_or, Bool, true, false, not, ◌&&◌, ◌||◌, cond, leb, nat_eq, nat_le, refl, sym, ◌∙◌, ap, subst, inl, inr, arith, Option, Some, None}
use Rattle.std.specs.Prelude.{option_and_then, option_map, unwrap_or, is_some, is_none, drop}
use Rattle.std.proofs.lemmas.Bool.{and_parts, or_left, or_right, not-true, cond-true, eq-eqb, le-leb, agree_below, agree_below_at}
use Rattle.std.proofs.lemmas.{Bool.Decides.nat_tests, List.Folds.list_any_at, Option.slice_get_within, Option.get_or_from_slice_get}
use Rattle.et_base.specs.Names.{starts_array}
use Rattle.class_pool.specs.{declared.pool.Entry.Entry, Pool.entry_of, Pool.class_name_of}
use Rattle.class_pool.specs.declared.pool.Entry.TheVariants as entry
use Rattle.class_pool.proofs.EntryFacts.{NamesClass}
use Rattle.code_decode.specs.declared.{instructions.RawOp.RawOp, opcodes.Shape.Shape, opcodes.Named.Named}
use Rattle.code_decode.specs.declared.opcodes.Shape.TheVariants as shape
use Rattle.code_decode.specs.declared.opcodes.Named.TheVariants as named
use Rattle.code_decode.specs.declared.judging.Fit.TheVariants as fit
use Rattle.dep_record.proofs.FieldLaws.{some_mapped}
use Rattle.code_decode.specs.{Judging.named_fit, Judging.dimensions, Opcodes.shape_of}
use Rattle.code_decode.proofs.{ArgFacts.OneNumber, ArgFacts.IndexCount, ArgFacts.CallsInterface, ArgFacts.MakesArrays, CodeFacts.PlainFacts, CodeFacts.OpFacts}
use Rattle.class_reader.specs.declared.parts.{ClassParts.ClassParts, MemberPart.MemberPart, CodePart.CodePart, RawHandler.RawHandler}
use Rattle.class_reader.proofs.PartFacts.{HandlerFacts, PartFacts}
use Rattle.jvm_model.specs.{declared.values.Kind.Kind, Builtin.builtin_count, Classes.member, Linked.IsDistinct}
use Rattle.jvm_model.specs.declared.values.Kind.TheVariants as kind
use Rattle.jvm_model.proofs.Ranges.{all_there}
use Rattle.code_forms.specs.{declared.references.Use.Use, declared.references.Target.Target, Operands.index_in, Uses.use_of, Uses.fits}
use Rattle.code_forms.specs.declared.references.Use.TheVariants as used
use Rattle.code_forms.specs.declared.references.Target.TheVariants as target
use Rattle.code_forms.proofs.{FormCases.is_untyped, FormCases.IsTyped, ShapeFacts.not_wide, ShapeFacts.args_of, ShapeFacts.first_index}
use Rattle.class_link.specs.ClassNames.{text_at, name_at, all_names, class_number, needed_class, missing, base_of, kind_of, element_class}
use Rattle.class_link.specs.{Assembly.skeleton, References.target_of, Link.setting}
use Rattle.class_link.specs.Faults.{first_some, indices, supertype_fits, missing_or, wrong_unless, supertype_fault, supertypes_fault, references_fault, all_references_fault}
use Rattle.class_link.proofs.{Pools.first_none, Listed.AllKnown, LinkLaw.AllCoded, LinkedCode.class_kind}
use Rattle.class_link.proofs.ClassKinds.{index_listed, not_missing, not_wrong}
use Rattle.class_link.proofs.Referenced.{use_fits, op_used, handler_used, no_fault}
use Rattle.order_law.specs.Matched.{MatchedCode}
use Rattle.impact_pick.proofs.{Names.AreKept, Records.n, Targets.NamesClasses}
use Rattle.impact_pick.proofs.{KeptCode.HasKept, KeptCode.IsResolved, KeptCode.IsCode, Starts.NamesNumber, Starts.HasSupers, Starts.has_kept}

-- ---- opcodes that use an entry

names_entry : Option Shape → Bool
names_entry (Some (shape.Entry k)) = true
names_entry (Some shape.Interface) = true
names_entry (Some shape.Dimensions) = true
names_entry _ = false

use_shapes : agree_below (λ n. is_some (use_of n)) (λ n. is_some (use_of n) && names_entry (shape_of n)) 256 ≡ true
unfolding use_of shape_of names_entry
use_shapes = refl

typed_uses : agree_below (λ n. (leb 186 n && not (is_untyped n)) && is_some (shape_of n)) (λ n. ((leb 186 n && not (is_untyped n)) && is_some (shape_of n)) && is_some (use_of n)) 256 ≡ true
unfolding use_of shape_of
typed_uses = refl

use_low : (n : ℕ) → is_some (use_of n) ≡ true → 133 ≤ n
unfolding use_of
use_low n h = grind (arith, nat_tests)

named_there : (k : Named) (slots : List (Option Entry)) (e : Option Entry) → named_fit k slots e ≡ fit.Right → (x : Entry) × (e ≡ Some x)
named_there k slots (Some x) h = (x, refl)
named_there named.Field slots None h = absurd (cc)
named_there _ slots None h = absurd (cc)

module _ (slots : List (Option Entry)) (ops : List RawOp) (total : ℕ) (o : RawOp) (facts : OpFacts slots ops total o) where
  index_there : (k : Named) (n : ℕ) (zs : List ℤ) → o.args ≡ pos n ∷ zs → n < 2 ^ 16 → named_fit k slots (entry_of slots n) ≡ fit.Right → (x : Entry) × (entry_of slots (index_in o) ≡ Some x)
  index_there k n zs e small f = named_there k slots (entry_of slots (index_in o)) (ap (λ z. named_fit k slots (entry_of slots z)) (first_index o n zs e small) ∙ f)

  shape_there : (s : Option Shape) → shape_of o.opcode ≡ s → names_entry s ≡ true → 133 ≤ o.opcode → (x : Entry) × (entry_of slots (index_in o) ≡ Some x)
  unfolding names_entry
  shape_there (Some (shape.Entry k)) e h low = let a : OneNumber (2 ^ 16) (λ n. named_fit k slots (entry_of slots n) ≡ fit.Right) o.args = args_of slots ops total o facts low (shape.Entry k) e in index_there k a.value [] a.is a.small a.so
  shape_there (Some shape.Interface) e h low = let a : IndexCount (CallsInterface slots) o.args = args_of slots ops total o facts low shape.Interface e in index_there named.Interface a.index (pos a.count ∷ []) a.is a.small a.so.0
  shape_there (Some shape.Dimensions) e h low = let a : IndexCount (MakesArrays slots) o.args = args_of slots ops total o facts low shape.Dimensions e in index_there named.Nested a.index (pos a.count ∷ []) a.is a.small a.so.0
  shape_there _ e h low = absurd (cc)

  entry_there : is_some (use_of o.opcode) ≡ true → (x : Entry) × (entry_of slots (index_in o) ≡ Some x)
  entry_there h = shape_there (shape_of o.opcode) refl (and_parts (is_some (use_of o.opcode)) _ (sym (agree_below_at (λ n. is_some (use_of n)) (λ n. is_some (use_of n) && names_entry (shape_of n)) 256 o.opcode use_shapes facts.opcode) ∙ h)).1 (use_low o.opcode h)

  typed_used : IsTyped o.opcode → is_some (use_of o.opcode) ≡ true
  typed_used t =
      let n = o.opcode in
      let high = t.high in
      let plain : PlainFacts slots ops total n o.args = facts.plain (not_wide slots ops total o facts (omega arith)) in
      let left : ((leb 186 n && not (is_untyped n)) && is_some (shape_of n)) ≡ true = rw (le-leb 186 n t.high, t.typed, plain.shaped) refl in
      (and_parts _ (is_some (use_of n)) (sym (agree_below_at (λ n. (leb 186 n && not (is_untyped n)) && is_some (shape_of n)) (λ n. ((leb 186 n && not (is_untyped n)) && is_some (shape_of n)) && is_some (use_of n)) 256 n typed_uses facts.opcode) ∙ left)).1

-- ---- names

some_use : (o : Option Use) → is_some o ≡ true → (u : Use) × (o ≡ Some u)
some_use None h = absurd (cc)
some_use (Some u) h = (u, refl)

present : (us : List ℕ) (o : Option ℕ) → cond (is_none o) (Some us) None ≡ None → (d : ℕ) × (o ≡ Some d)
present us None e = absurd (cc)
present us (Some d) e = (d, refl)

whole_name : (us : List ℕ) → starts_array us ≡ false → needed_class us ≡ Some us
unfolding needed_class
whole_name us e = rw e refl

class_whole : (names : List (List ℕ)) (name : List ℕ) (d : ℕ) → kind_of names name ≡ Some (kind.Class d) → needed_class name ≡ Some name
unfolding kind_of needed_class
class_whole names name d = by_test (starts_array name)
  where
    no_array : {X : Type 0} (b : Bool) → cond b (option_map (λ b. kind.Array (dimensions name) b) (base_of names (drop (dimensions name) name))) None ≡ Some (kind.Class d) → X
    no_array true e = absurd (let z = (some_mapped (base_of names (drop (dimensions name) name)) (λ b. kind.Array (dimensions name) b) (kind.Class d) e).2 in cc)
    no_array false e = absurd (cc)

    by_test : (b : Bool) → cond b (cond (nat_le (dimensions name) 255) (option_map (λ b. kind.Array (dimensions name) b) (base_of names (drop (dimensions name) name))) None) (option_map (λ c. kind.Class c) (class_number names name)) ≡ Some (kind.Class d) →
        cond b (element_class (drop (dimensions name) name)) (Some name) ≡ Some name
    by_test true e = no_array (nat_le (dimensions name) 255) e
    by_test false e = refl

module _ (cs : List ClassParts) (known : AllKnown cs) (headed : first_some (supertypes_fault (setting cs)) cs ≡ None) where
  names : List (List ℕ)
  names = all_names cs

  -- a superclass or superinterface is there
  supertype_there : (i j name : ℕ) (c : ClassParts) → slice_get cs i ≡ Some c → entry_of c.pool j ≡ Some (entry.Class name) → (nat_eq j c.super_class || member j c.interfaces) ≡ true → NamesNumber (all_names cs) c.pool j
  unfolding supertypes_fault supertype_fault missing
  supertype_there i j name c has g t =
      let s = setting cs in
      let none : supertypes_fault s c ≡ None = first_none (supertypes_fault s) cs i c headed has in
      let a : supertype_fault s c j ≡ None = first_none (supertype_fault s c) (indices c) (j - 1) j none (index_listed c j (entry.Class name) g) in
      let b = sym (cond-true (nat_eq j c.super_class || member j c.interfaces) (missing_or c (missing s.names (name_at c.pool j)) (wrong_unless (supertype_fits s c j) c j)) None t) ∙ a in
      let m = not_missing c (missing s.names (name_at c.pool j)) (wrong_unless (supertype_fits s c j) c j) b in
      let f : supertype_fits s c j ≡ true = not_wrong (supertype_fits s c j) c j m.1 in
      let w : name_at c.pool j ≡ text_at c.pool name = ap (λ (z : Option Entry). unwrap_or (class_name_of c.pool z) []) g in
      let plain : starts_array (text_at c.pool name) ≡ false = ap starts_array (sym w) ∙ not-true (starts_array (name_at c.pool j)) (and_parts _ _ f).0 in
      let whole = whole_name (text_at c.pool name) plain in
      let lost : option_and_then (λ needed. cond (is_none (class_number (all_names cs) needed)) (Some needed) None) (needed_class (text_at c.pool name)) ≡ None = ap (λ (z : List ℕ). missing (all_names cs) z) (sym w) ∙ m.0 in
      let p = present (text_at c.pool name) (class_number (all_names cs) (text_at c.pool name)) (ap (λ (o : Option (List ℕ)). option_and_then (λ needed. cond (is_none (class_number (all_names cs) needed)) (Some needed) None) o) (sym whole) ∙ lost) in
      record { name = name; number = p.0; entry = g; whole = whole; is = p.1 }

  pub pools_name : (i : ℕ) (c : ClassParts) → slice_get cs i ≡ Some c → NamesClasses c.pool
  pools_name i c h = let f = (known i c h).entries in record {
    fields = λ j class pair e. let m = (f.fields j class pair e).of in (m.name, m.entry);
    methods = λ j class pair e. let m = (f.methods j class pair e).of in (m.name, m.entry);
    interface_methods = λ j class pair e. let m = (f.interface_methods j class pair e).of in (m.name, m.entry);
  }

  module _ (ds : List ClassParts) (keeps : ℕ → Bool) (kept : AreKept cs ds keeps) (dp : IsDistinct (skeleton cs)) (dq : IsDistinct (skeleton ds)) where
    pub supers_there : (i : ℕ) (c : ClassParts) → slice_get cs i ≡ Some c → HasSupers cs ds keeps kept dp dq c
    supers_there i c h =
        let f = known i c h in
        let k = f.super_class.class in
        record {
          super_class = supertype_there i c.super_class k.name c h k.entry (or_left (nat_eq c.super_class c.super_class) (member c.super_class c.interfaces) (eq-eqb c.super_class c.super_class refl));
          interfaces = λ j x e. (
              let w = slice_get_within c.interfaces j x e in
              let v : get_or c.interfaces j 0 ≡ x = get_or_from_slice_get c.interfaces j x 0 e in
              let q = subst (λ (z : ℕ). NamesClass c.pool z) v (f.interfaces j 0 w).class in
              let m : member x c.interfaces ≡ true = list_any_at (nat_eq x) c.interfaces j 0 w (eq-eqb x (get_or c.interfaces j 0) (sym v)) in
              supertype_there i x q.name c h q.entry (or_right (nat_eq x c.super_class) (member x c.interfaces) m));
        }

    module _ (coded : AllCoded cs) (resolved : all_references_fault (setting cs) builtin_count cs ≡ None) (sk : MatchedCode (n cs ds keeps kept dp dq) (skeleton cs) (skeleton ds)) where
      module _ (i k : ℕ) (c : ClassParts) (x : MemberPart) (code : CodePart) (keep : keeps (builtin_count + i) ≡ true) (has : slice_get cs i ≡ Some c) (has_method : slice_get c.methods k ≡ Some x) (has_code : x.code ≡ Some code) where
        part : PartFacts c.pool code
        part = coded i k c x code has has_method has_code

        clean : references_fault (setting cs) (builtin_count + i) c ≡ None
        clean = no_fault (setting cs) builtin_count cs i c resolved has

        op_there : (j : ℕ) (o : RawOp) → slice_get code.code.ops j ≡ Some o → IsResolved cs ds keeps kept dp dq sk i c keep has (pools_name i c has) o
        op_there j o e =
            let op = all_there (OpFacts c.pool code.code.ops code.code.length) code.code.ops j o part.code.each e in
            record {
              used = λ h. (
                  let u = some_use (use_of o.opcode) h in
                  let there = entry_there c.pool code.code.ops code.code.length o op h in
                  let f = use_fits (setting cs) (builtin_count + i) c (index_in o) u.0 there.0 clean (op_used c k j x code o u.0 has_method has_code e u.1) there.1 in
                  (f.target, f.is));
              typed = typed_used c.pool code.code.ops code.code.length o op;
            }

        caught_there : (j name : ℕ) (t : Target) → entry_of c.pool j ≡ Some (entry.Class name) → target_of (setting cs) c.pool (entry_of c.pool j) ≡ Some t → fits (skeleton cs) (builtin_count + i) (entry_of c.pool j) t used.Caught ≡ true → NamesNumber (all_names cs) c.pool j
        unfolding fits target_of
        caught_there j name (target.Type (kind.Class d)) g at h =
            let a : target_of (setting cs) c.pool (Some (entry.Class name)) ≡ Some (target.Type (kind.Class d)) = ap (target_of (setting cs) c.pool) (sym g) ∙ at in
            let m = some_mapped (kind_of (all_names cs) (text_at c.pool name)) (λ k. target.Type k) (target.Type (kind.Class d)) a in
            let q : m.0 ≡ kind.Class d = (let z : target.Type m.0 ≡ target.Type (kind.Class d) = m.2 in cc) in
            let w : kind_of (all_names cs) (text_at c.pool name) ≡ Some (kind.Class d) = m.1 ∙ ap (λ (y : Kind). Some y) q in
            record { name = name; number = d; entry = g; whole = class_whole (all_names cs) (text_at c.pool name) d w; is = class_kind (all_names cs) (text_at c.pool name) d w }
        caught_there j name _ g at h = absurd (cc)

        handler_there : (j : ℕ) (h : RawHandler) → slice_get code.handlers j ≡ Some h → nat_eq h.catch_class 0 ≡ false → HasKept cs ds keeps kept dp dq (name_at c.pool h.catch_class)
        handler_there j h e q = elim (all_there (HandlerFacts c.pool code.code) code.handlers j h part.handlers e).caught [
          | inl z ↦ absurd (let y : nat_eq h.catch_class 0 ≡ true = eq-eqb h.catch_class 0 z in cc)
          | inr m ↦
              let f = use_fits (setting cs) (builtin_count + i) c h.catch_class used.Caught (entry.Class m.name) clean (handler_used c k j x code h has_method has_code e q) m.entry in
              has_kept cs ds keeps kept dp dq i h.catch_class c keep has (caught_there h.catch_class m.name f.target m.entry f.is f.fits)
        ]

        pub code_there : IsCode cs ds keeps kept dp dq sk i c keep has (pools_name i c has) code
        code_there = record { ops = op_there; handlers = handler_there }
