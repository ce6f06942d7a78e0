-- The records of two programs over kept classes match, where bodies do.
use Rattle.std.proofs.Common.{◌≡◌, ℕ, zero, suc, ◌+◌, ◌<◌, List, [], ◌∷◌, length, slice_get, Bool, true, false, cond, nat_lt, refl, sym, ◌∙◌, ap, subst, inl, inr, arith, Option, Some}
use Rattle.std.specs.List.{list_all, range_with_len}
use Rattle.std.proofs.lemmas.Bool.{ltb-true}
use Rattle.class_pool.specs.declared.pool.Entry.{Entry}
use Rattle.class_reader.specs.declared.parts.{ClassParts.ClassParts, MemberPart.MemberPart}
use Rattle.jvm_model.specs.{declared.program.Program.Program, declared.program.FieldRec.FieldRec, declared.program.MethodRec.MethodRec, Builtin.builtin_count}
use Rattle.jvm_model.specs.{Linked.IsDistinct, Linked.HoldsBuiltins, Library.builtin_fields, Library.builtin_methods, Library.builtin_defs}
use Rattle.jvm_model.specs.Classes.{field_at, method_at, no_field, no_method}
use Rattle.jvm_model.proofs.BuiltinRules.{lengths, all_at, enough_fields, enough_methods, builtin_field, builtin_method}
use Rattle.class_link.specs.Literals.{literals}
use Rattle.class_link.specs.Assembly.{is_initialiser, initialiser_from, field_rec, method_rec, assembled, skeleton, bare_body}
use Rattle.class_link.proofs.Blocks.{before, member_at}
use Rattle.class_link.proofs.Assembled.{own_fields, own_methods, make_field, make_method, holds_builtins, field_cases, method_cases}
use Rattle.order_law.specs.Pairing.{PairedList, no_more, one_more, PairedOption, both_none, both_some}
use Rattle.order_law.specs.Numbers.{Numbers}
use Rattle.impact_pick.specs.ByName.{same_class, by_name}
use Rattle.impact_pick.proofs.ByNames.{class_is, class_from, field_is, field_from, method_is, method_from}
use Rattle.impact_pick.proofs.Names.{AreKept}

-- ---- lists of numbers

pub range_paired : (R : ℕ → ℕ → Type 0) (n a b : ℕ) → ((k : ℕ) → k < n → R (a + k) (b + k)) → PairedList R (range_with_len a n) (range_with_len b n)
range_paired R zero a b f = no_more
range_paired R (suc n) a b f =
    let x : a + 0 ≡ a = omega arith in
    let y : b + 0 ≡ b = omega arith in
    one_more (subst (λ (z : ℕ). R z b) x (subst (λ (z : ℕ). R (a + 0) z) y (f 0 (omega arith)))) (range_paired R n (a + 1) (b + 1) (λ k h.
    let s : a + suc k ≡ (a + 1) + k = omega arith in
    let t : b + suc k ≡ (b + 1) + k = omega arith in
    subst (λ (z : ℕ). R z ((b + 1) + k)) s (subst (λ (z : ℕ). R (a + suc k) z) t (f (suc k) (omega arith)))))

pub initialisers_paired : (R : ℕ → ℕ → Type 0) (slots : List (Option Entry)) (xs : List MemberPart) (a b : ℕ) → ((k : ℕ) → k < length xs → R (a + k) (b + k)) → PairedOption R (initialiser_from a slots xs) (initialiser_from b slots xs)
initialisers_paired R slots [] a b f = both_none
initialisers_paired R slots (x ∷ xs) a b f = by_test (is_initialiser slots x)
    (let s : a + 0 ≡ a = omega arith in let t : b + 0 ≡ b = omega arith in subst (λ (z : ℕ). R z b) s (subst (λ (z : ℕ). R (a + 0) z) t (f 0 (omega arith))))
    (initialisers_paired R slots xs (a + 1) (b + 1) (λ k h.
    let s : a + suc k ≡ (a + 1) + k = omega arith in
    let t : b + suc k ≡ (b + 1) + k = omega arith in
    subst (λ (z : ℕ). R z ((b + 1) + k)) s (subst (λ (z : ℕ). R (a + suc k) z) t (f (suc k) (omega arith)))))
  where
    by_test : (c : Bool) → R a b → PairedOption R (initialiser_from (a + 1) slots xs) (initialiser_from (b + 1) slots xs) → PairedOption R (cond c (Some a) (initialiser_from (a + 1) slots xs)) (cond c (Some b) (initialiser_from (b + 1) slots xs))
    by_test true r s = both_some r
    by_test false r s = s

-- ---- built-in records

field_low : list_all (λ (f : FieldRec). nat_lt f.class 32) builtin_fields ≡ true
unfolding builtin_fields builtin_defs
field_low = refl

method_low : list_all (λ (m : MethodRec). nat_lt m.class 32) builtin_methods ≡ true
unfolding builtin_methods builtin_defs
method_low = refl

-- the class of a built-in member is a built-in one
module _ (p : Program) (h : HoldsBuiltins p) where
  pub field_class_low : (f : ℕ) → f < 2 → (field_at p f).class < 32
  field_class_low f low = let l = lengths.1 in subst (λ (r : FieldRec). r.class < 32) (sym (builtin_field p h f low)) (ltb-true _ 32 (all_at (λ (r : FieldRec). nat_lt r.class 32) builtin_fields f no_field field_low (omega arith)))

  pub method_class_low : (m : ℕ) → m < 102 → (method_at p m).class < 32
  method_class_low m low = let l = lengths.2 in subst (λ (r : MethodRec). r.class < 32) (sym (builtin_method p h m low)) (ltb-true _ 32 (all_at (λ (r : MethodRec). nat_lt r.class 32) builtin_methods m no_method method_low (omega arith)))

-- each skeleton has the built-in records
pub built_in : (es : List ClassParts) → HoldsBuiltins (skeleton es)
built_in es = holds_builtins (λ c code. bare_body code) es [] []

abbrev pub fields_before : List ClassParts → ℕ → ℕ
fields_before es i = length builtin_fields + before own_fields es i

abbrev pub methods_before : List ClassParts → ℕ → ℕ
methods_before es i = length builtin_methods + before own_methods es i

-- ---- records of class files

module _ (es : List ClassParts) (i k : ℕ) (c : ClassParts) (x : MemberPart) (has : slice_get es i ≡ Some c) where
  pub field_there : slice_get c.fields k ≡ Some x → (fields_before es i + k < length (skeleton es).fields) × (field_at (skeleton es) (fields_before es i + k) ≡ field_rec (literals es) c.pool (builtin_count + i) x)
  unfolding assembled
  field_there g = member_at (make_field (literals es)) own_fields builtin_fields no_field es i k c x has g

  pub method_there : slice_get c.methods k ≡ Some x → (methods_before es i + k < length (skeleton es).methods) × (method_at (skeleton es) (methods_before es i + k) ≡ method_rec (λ code. bare_body code) c.pool (builtin_count + i) x)
  unfolding assembled
  method_there g = member_at (make_method (λ c code. bare_body code)) own_methods builtin_methods no_method es i k c x has g

module _ (cs ds : List ClassParts) (keeps : ℕ → Bool) (kept : AreKept cs ds keeps) (dp : IsDistinct (skeleton cs)) (dq : IsDistinct (skeleton ds)) where
  abbrev pub n : Numbers
  n = by_name keeps (skeleton cs) (skeleton ds)

  kept_itself : (i : ℕ) → keeps (builtin_count + i) ≡ true → same_class keeps (builtin_count + i) (builtin_count + i) ≡ true
  kept_itself i e = class_from keeps (skeleton cs) (skeleton ds) (builtin_count + i) (inr e)

  -- members of one place of a kept class are paired
  pub field_place : (i k : ℕ) (c : ClassParts) (x : MemberPart) → keeps (builtin_count + i) ≡ true → slice_get cs i ≡ Some c → slice_get c.fields k ≡ Some x → n.fields (fields_before cs i + k) (fields_before ds i + k) ≡ true
  field_place i k c x e h g =
      let a = field_there cs i k c x h g in
      let b = field_there ds i k c x (kept.agree i c e h) g in
      field_from keeps (skeleton cs) (skeleton ds) (fields_before cs i + k) (fields_before ds i + k) (record {
        first = a.0;
        second = b.0;
        class = subst (λ (r : FieldRec). same_class keeps r.class (field_at (skeleton ds) (fields_before ds i + k)).class ≡ true) (sym a.1) (subst (λ (r : FieldRec). same_class keeps (builtin_count + i) r.class ≡ true) (sym b.1) (kept_itself i e));
        name = ap (λ (r : FieldRec). r.name) a.1 ∙ sym (ap (λ (r : FieldRec). r.name) b.1);
        descriptor = ap (λ (r : FieldRec). r.descriptor) a.1 ∙ sym (ap (λ (r : FieldRec). r.descriptor) b.1);
      })

  pub method_place : (i k : ℕ) (c : ClassParts) (x : MemberPart) → keeps (builtin_count + i) ≡ true → slice_get cs i ≡ Some c → slice_get c.methods k ≡ Some x → n.method (methods_before cs i + k) (methods_before ds i + k) ≡ true
  method_place i k c x e h g =
      let a = method_there cs i k c x h g in
      let b = method_there ds i k c x (kept.agree i c e h) g in
      method_from keeps (skeleton cs) (skeleton ds) (methods_before cs i + k) (methods_before ds i + k) (record {
        first = a.0;
        second = b.0;
        class = subst (λ (r : MethodRec). same_class keeps r.class (method_at (skeleton ds) (methods_before ds i + k)).class ≡ true) (sym a.1) (subst (λ (r : MethodRec). same_class keeps (builtin_count + i) r.class ≡ true) (sym b.1) (kept_itself i e));
        name = ap (λ (r : MethodRec). r.name) a.1 ∙ sym (ap (λ (r : MethodRec). r.name) b.1);
        descriptor = ap (λ (r : MethodRec). r.descriptor) a.1 ∙ sym (ap (λ (r : MethodRec). r.descriptor) b.1);
      })

  -- ---- whence paired members come

  pub data FieldSource : ℕ → ℕ → Type 0 where
    builtin_one : {f : ℕ} → f < 2 → FieldSource f f
    of_file : (i k : ℕ) (c : ClassParts) (x : MemberPart) → keeps (builtin_count + i) ≡ true → slice_get cs i ≡ Some c → slice_get ds i ≡ Some c → slice_get c.fields k ≡ Some x → FieldSource (fields_before cs i + k) (fields_before ds i + k)

  pub field_source : (f g : ℕ) → n.fields f g ≡ true → FieldSource f g
  field_source f g e =
      let z = field_is keeps (skeleton cs) (skeleton ds) f g e in
      let s = class_is keeps (skeleton cs) (skeleton ds) (field_at (skeleton cs) f).class (field_at (skeleton ds) g).class z.class in
      elim (field_cases (λ c code. bare_body code) cs [] [] f z.first) [
        | inl low ↦
            let hb = built_in cs in
            let kb = built_in ds in
            let l = lengths.1 in
            let a = builtin_field (skeleton cs) hb f low in
            let small = field_class_low (skeleton cs) hb f low in
            elim (field_cases (λ c code. bare_body code) ds [] [] g z.second) [
              | inl lowg ↦
                  let b = builtin_field (skeleton ds) kb f low in
                  let w = (let t = enough_fields (skeleton ds) kb in let y : f < length (skeleton ds).fields = omega arith in y) in
                  let q = dq.fields f g w z.second (ap (λ (r : FieldRec). r.class) (b ∙ sym a) ∙ s.0) (ap (λ (r : FieldRec). r.name) (b ∙ sym a) ∙ z.name) (ap (λ (r : FieldRec). r.descriptor) (b ∙ sym a) ∙ z.descriptor) in
                  subst (λ (y : ℕ). FieldSource f y) q (builtin_one low)
              | inr gm ↦ absurd (let u = ap (λ (r : FieldRec). r.class) gm.is in let v = s.0 in omega arith)
            ]
        | inr gm ↦
            let u : (field_at (skeleton cs) f).class ≡ builtin_count + gm.class = ap (λ (r : FieldRec). r.class) gm.is in
            let k : keeps (builtin_count + gm.class) ≡ true = elim s.1 [ inl w ↦ absurd (omega arith) | inr w ↦ subst (λ (y : ℕ). keeps y ≡ true) u w ] in
            let t = kept.agree gm.class gm.parts k gm.has_class in
            let b = field_there ds gm.class gm.index gm.parts gm.member t gm.has_member in
            let q = dq.fields (fields_before ds gm.class + gm.index) g b.0 z.second
            (ap (λ (r : FieldRec). r.class) b.1 ∙ (sym u ∙ s.0)) (ap (λ (r : FieldRec). r.name) b.1 ∙ (sym (ap (λ (r : FieldRec). r.name) gm.is) ∙ z.name)) (ap (λ (r : FieldRec). r.descriptor) b.1 ∙ (sym (ap (λ (r : FieldRec). r.descriptor) gm.is) ∙ z.descriptor)) in
            subst (λ (y : ℕ). FieldSource y g) (sym gm.place) (subst (λ (y : ℕ). FieldSource (fields_before cs gm.class + gm.index) y) q (of_file gm.class gm.index gm.parts gm.member k gm.has_class t gm.has_member))
      ]

  pub data MethodSource : ℕ → ℕ → Type 0 where
    builtin_method_one : {a : ℕ} → a < 102 → MethodSource a a
    method_of_file : (i k : ℕ) (c : ClassParts) (x : MemberPart) → keeps (builtin_count + i) ≡ true → slice_get cs i ≡ Some c → slice_get ds i ≡ Some c → slice_get c.methods k ≡ Some x → MethodSource (methods_before cs i + k) (methods_before ds i + k)

  pub method_source : (a b : ℕ) → n.method a b ≡ true → MethodSource a b
  method_source f g e =
      let z = method_is keeps (skeleton cs) (skeleton ds) f g e in
      let s = class_is keeps (skeleton cs) (skeleton ds) (method_at (skeleton cs) f).class (method_at (skeleton ds) g).class z.class in
      elim (method_cases (λ c code. bare_body code) cs [] [] f z.first) [
        | inl low ↦
            let hb = built_in cs in
            let kb = built_in ds in
            let l = lengths.2 in
            let a = builtin_method (skeleton cs) hb f low in
            let small = method_class_low (skeleton cs) hb f low in
            elim (method_cases (λ c code. bare_body code) ds [] [] g z.second) [
              | inl lowg ↦
                  let b = builtin_method (skeleton ds) kb f low in
                  let w = (let t = enough_methods (skeleton ds) kb in let y : f < length (skeleton ds).methods = omega arith in y) in
                  let q = dq.methods f g w z.second (ap (λ (r : MethodRec). r.class) (b ∙ sym a) ∙ s.0) (ap (λ (r : MethodRec). r.name) (b ∙ sym a) ∙ z.name) (ap (λ (r : MethodRec). r.descriptor) (b ∙ sym a) ∙ z.descriptor) in
                  subst (λ (y : ℕ). MethodSource f y) q (builtin_method_one low)
              | inr gm ↦ absurd (let u = ap (λ (r : MethodRec). r.class) gm.is in let v = s.0 in omega arith)
            ]
        | inr gm ↦
            let u : (method_at (skeleton cs) f).class ≡ builtin_count + gm.class = ap (λ (r : MethodRec). r.class) gm.is in
            let k : keeps (builtin_count + gm.class) ≡ true = elim s.1 [ inl w ↦ absurd (omega arith) | inr w ↦ subst (λ (y : ℕ). keeps y ≡ true) u w ] in
            let t = kept.agree gm.class gm.parts k gm.has_class in
            let b = method_there ds gm.class gm.index gm.parts gm.member t gm.has_member in
            let q = dq.methods (methods_before ds gm.class + gm.index) g b.0 z.second
            (ap (λ (r : MethodRec). r.class) b.1 ∙ (sym u ∙ s.0)) (ap (λ (r : MethodRec). r.name) b.1 ∙ (sym (ap (λ (r : MethodRec). r.name) gm.is) ∙ z.name)) (ap (λ (r : MethodRec). r.descriptor) b.1 ∙ (sym (ap (λ (r : MethodRec). r.descriptor) gm.is) ∙ z.descriptor)) in
            subst (λ (y : ℕ). MethodSource y g) (sym gm.place) (subst (λ (y : ℕ). MethodSource (methods_before cs gm.class + gm.index) y) q (method_of_file gm.class gm.index gm.parts gm.member k gm.has_class t gm.has_member))
      ]
