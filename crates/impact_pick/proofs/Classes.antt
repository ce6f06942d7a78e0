-- Class, field and method records over kept classes are paired.
use Rattle.std.proofs.Common.{◌≡◌, ℕ, suc, ◌+◌, ◌<◌, List, [], ◌∷◌, length, map, get_or, slice_get, Bool, true, ◌&&◌, nat_lt, refl, sym, ◌∙◌, ap, subst, inl, inr, arith, Option, Some, None}
use Rattle.std.specs.Prelude.{option_map, is_none}
use Rattle.std.specs.List.{list_all}
use Rattle.std.proofs.lemmas.Bool.{and_parts, ltb-true}
use Rattle.class_reader.specs.declared.parts.{ClassParts.ClassParts, MemberPart.MemberPart, CodePart.CodePart}
use Rattle.jvm_model.specs.declared.program.{Program.Program, ClassRec.ClassRec, FieldRec.FieldRec, MethodRec.MethodRec, Body.Body, TestEntry.TestEntry}
use Rattle.jvm_model.specs.{Builtin.builtin_count, Linked.IsDistinct, Library.builtin_classes, Library.builtin_methods, Library.builtin_defs}
use Rattle.jvm_model.specs.Classes.{class_at, field_at, method_at, literal_at, no_class, no_method}
use Rattle.jvm_model.proofs.BuiltinRules.{lengths, all_at, enough_fields, enough_methods, builtin_class, builtin_field, builtin_method}
use Rattle.class_link.specs.{ClassNames.name_at, ClassNames.all_names, ClassNames.number_or_first, Literals.literals}
use Rattle.class_link.specs.Assembly.{class_rec, method_rec, assembled, skeleton, field_rec}
use Rattle.class_link.proofs.{Blocks.at_place, Assembled.holds_builtins, Assembled.class_given, Assembled.method_given}
use Rattle.order_law.specs.Pairing.{PairedList, no_more, one_more, PairedOption, both_none, both_some}
use Rattle.order_law.specs.Numbers.{Numbers, Tested}
use Rattle.order_law.specs.Matched.{PairedBody, PairedMethod, PairedField, PairedClass, MatchedCode}
use Rattle.impact_pick.specs.ByName.{same_class, by_name}
use Rattle.impact_pick.proofs.ByNames.{class_is, class_from, class_once, field_from, field_once, method_from, LiteralPair, stream, constants, literal_is, literal_from, literal_once}
use Rattle.impact_pick.proofs.Names.{AreKept, kept_file}
use Rattle.impact_pick.proofs.Records.{n, FieldSource, builtin_one, of_file, field_source, MethodSource, builtin_method_one, method_of_file, method_source, field_place, method_place, field_there, fields_before, methods_before, range_paired, field_class_low, method_class_low, built_in}

-- numbers in a built-in record are of built-in entries
abbrev pub low_option : Option ℕ → Bool
low_option None = true
low_option (Some d) = nat_lt d 32

abbrev low_class : ClassRec → Bool
low_class c = low_option c.superclass && (list_all (λ d. nat_lt d 32) c.interfaces && (list_all (λ f. nat_lt f 2) c.fields && (list_all (λ m. nat_lt m 102) c.methods && is_none c.initialiser)))

low_classes : list_all low_class builtin_classes ≡ true
unfolding builtin_classes builtin_defs
low_classes = refl

pub record LowClass (c : ClassRec) : Type 0 where
  pub superclass : low_option c.superclass ≡ true
  pub interfaces : list_all (λ d. nat_lt d 32) c.interfaces ≡ true
  pub fields : list_all (λ f. nat_lt f 2) c.fields ≡ true
  pub methods : list_all (λ m. nat_lt m 102) c.methods ≡ true
  pub initialiser : is_none c.initialiser ≡ true

pub built_in_class : (c : ℕ) → c < 32 → LowClass (get_or builtin_classes c no_class)
built_in_class c low =
    let l = lengths.0 in
    let r = get_or builtin_classes c no_class in
    let t : low_class r ≡ true = all_at low_class builtin_classes c no_class low_classes (omega arith) in
    let a = and_parts (low_option r.superclass) _ t in
    let b = and_parts (list_all (λ d. nat_lt d 32) r.interfaces) _ a.1 in
    let f = and_parts (list_all (λ f. nat_lt f 2) r.fields) _ b.1 in
    let m = and_parts (list_all (λ m. nat_lt m 102) r.methods) _ f.1 in
    record { superclass = a.0; interfaces = b.0; fields = f.0; methods = m.0; initialiser = m.1 }

listed_paired : (R : ℕ → ℕ → Type 0) (b : ℕ) (xs : List ℕ) → list_all (λ x. nat_lt x b) xs ≡ true → ((x : ℕ) → x < b → R x x) → PairedList R xs xs
listed_paired R b [] e f = no_more
listed_paired R b (x ∷ xs) e f = let p = and_parts (nat_lt x b) (list_all (λ z. nat_lt z b) xs) e in one_more (f x (ltb-true x b p.0)) (listed_paired R b xs p.1 f)

option_paired : (R : ℕ → ℕ → Type 0) (o : Option ℕ) → low_option o ≡ true → ((x : ℕ) → x < 32 → R x x) → PairedOption R o o
option_paired R None e f = both_none
option_paired R (Some x) e f = both_some (f x (ltb-true x 32 e))

pub none_paired : {A : Type 0} (R : A → A → Type 0) (o : Option A) → is_none o ≡ true → PairedOption R o o
none_paired R None e = both_none
none_paired R (Some x) e = absurd (cc)

no_codes : list_all (λ (m : MethodRec). is_none m.body) builtin_methods ≡ true
unfolding builtin_methods builtin_defs
no_codes = refl

module _ (cs ds : List ClassParts) (keeps : ℕ → Bool) (kept : AreKept cs ds keeps) (dp : IsDistinct (skeleton cs)) (dq : IsDistinct (skeleton ds)) where
  abbrev N : Numbers
  N = n cs ds keeps kept dp dq

  abbrev C : ℕ → ℕ → Type 0
  C = Tested (same_class keeps)

  low_itself : (x : ℕ) → x < 32 → same_class keeps x x ≡ true
  low_itself x h = class_from keeps (skeleton cs) (skeleton ds) x (inl h)

  -- ---- fields

  module _ (f : ℕ) (low : f < 2) where
    field_here : field_at (skeleton cs) f ≡ field_at (skeleton ds) f
    field_here = builtin_field (skeleton cs) (built_in cs) f low ∙ sym (builtin_field (skeleton ds) (built_in ds) f low)

    builtin_field_paired : PairedField N (field_at (skeleton cs) f) (field_at (skeleton ds) f)
    unfolding by_name
    builtin_field_paired = subst (λ (r : FieldRec). PairedField N (field_at (skeleton cs) f) r) field_here (record { class = low_itself (field_at (skeleton cs) f).class (field_class_low (skeleton cs) (built_in cs) f low); name = refl; descriptor = refl; flags = refl })

    builtin_field_itself : N.fields f f ≡ true
    builtin_field_itself =
        let t = enough_fields (skeleton cs) (built_in cs) in
        let u = enough_fields (skeleton ds) (built_in ds) in
        field_from keeps (skeleton cs) (skeleton ds) f f (record {
          first = (omega arith);
          second = (omega arith);
          class = subst (λ (r : FieldRec). same_class keeps (field_at (skeleton cs) f).class r.class ≡ true) field_here (low_itself (field_at (skeleton cs) f).class (field_class_low (skeleton cs) (built_in cs) f low));
          name = ap (λ (r : FieldRec). r.name) field_here;
          descriptor = ap (λ (r : FieldRec). r.descriptor) field_here;
        })

  file_field_paired : (i k : ℕ) (c : ClassParts) (x : MemberPart) → keeps (builtin_count + i) ≡ true → slice_get cs i ≡ Some c → slice_get ds i ≡ Some c → slice_get c.fields k ≡ Some x →
      PairedField N (field_at (skeleton cs) (fields_before cs i + k)) (field_at (skeleton ds) (fields_before ds i + k))
  unfolding by_name
  file_field_paired i k c x e h t g =
      let a = (field_there cs i k c x h g).1 in
      let b = (field_there ds i k c x t g).1 in
      subst (λ (r : FieldRec). PairedField N r (field_at (skeleton ds) (fields_before ds i + k))) (sym a) (subst (λ (r : FieldRec). PairedField N (field_rec (literals cs) c.pool (builtin_count + i) x) r) (sym b)
      (record { class = class_from keeps (skeleton cs) (skeleton ds) (builtin_count + i) (inr e); name = refl; descriptor = refl; flags = refl }))

  field_by : {f g : ℕ} → FieldSource cs ds keeps kept dp dq f g → PairedField N (field_at (skeleton cs) f) (field_at (skeleton ds) g)
  field_by (builtin_one {f} low) = builtin_field_paired f low
  field_by (of_file i k c x e h t g) = file_field_paired i k c x e h t g

  pub fields_paired : (f g : ℕ) → N.fields f g ≡ true → PairedField N (field_at (skeleton cs) f) (field_at (skeleton ds) g)
  fields_paired f g e = field_by (field_source cs ds keeps kept dp dq f g e)

  -- superclass and superinterfaces of each kept class have one number in both
  abbrev pub AreHeaded : Type 0
  AreHeaded = (i : ℕ) (c : ClassParts) → keeps (builtin_count + i) ≡ true → slice_get cs i ≡ Some c →
      C (number_or_first (all_names cs) (name_at c.pool c.super_class)) (number_or_first (all_names ds) (name_at c.pool c.super_class))
      × ((k j : ℕ) → slice_get c.interfaces k ≡ Some j → C (number_or_first (all_names cs) (name_at c.pool j)) (number_or_first (all_names ds) (name_at c.pool j)))

  -- ---- methods, of any bodies that are paired

  module _ (body other : ClassParts → CodePart → Body) (ts us : List TestEntry) (fs gs : List (List ℕ × List ℕ))
      (bodies : (i k : ℕ) (c : ClassParts) (x : MemberPart) (code : CodePart) → keeps (builtin_count + i) ≡ true → slice_get cs i ≡ Some c → slice_get c.methods k ≡ Some x → x.code ≡ Some code → PairedBody N (body c code) (other c code)) where
    abbrev p : Program
    p = assembled body cs ts fs

    abbrev q : Program
    q = assembled other ds us gs

    coded_paired : (c : ClassParts) (o : Option CodePart) → ((code : CodePart) → o ≡ Some code → PairedBody N (body c code) (other c code)) → PairedOption (PairedBody N) (option_map (body c) o) (option_map (other c) o)
    coded_paired c None f = both_none
    coded_paired c (Some code) f = both_some (f code refl)

    file_method_paired : (i k : ℕ) (c : ClassParts) (x : MemberPart) → keeps (builtin_count + i) ≡ true → slice_get cs i ≡ Some c → slice_get ds i ≡ Some c → slice_get c.methods k ≡ Some x →
        PairedMethod N (method_at p (methods_before cs i + k)) (method_at q (methods_before ds i + k))
    unfolding by_name
    file_method_paired i k c x e h t g =
        let a = (method_given body cs ts fs i k c x h g).1 in
        let b = (method_given other ds us gs i k c x t g).1 in
        subst (λ (r : MethodRec). PairedMethod N r (method_at q (methods_before ds i + k))) (sym a) (subst (λ (r : MethodRec). PairedMethod N (method_rec (body c) c.pool (builtin_count + i) x) r) (sym b)
        (record { class = class_from keeps (skeleton cs) (skeleton ds) (builtin_count + i) (inr e); name = refl; descriptor = refl; flags = refl; native = refl; body = coded_paired c x.code (λ code s. bodies i k c x code e h g s) }))

    -- ---- classes

    both_mapped : {A : Type 0} (R : ℕ → ℕ → Type 0) (f g : A → ℕ) (xs : List A) → ((k : ℕ) (x : A) → slice_get xs k ≡ Some x → R (f x) (g x)) → PairedList R (map f xs) (map g xs)
    both_mapped R f g [] h = no_more
    both_mapped R f g (x ∷ xs) h = one_more (h 0 x refl) (both_mapped R f g xs (λ k y e. h (suc k) y e))

    file_class_paired : (i : ℕ) (c : ClassParts) → keeps (builtin_count + i) ≡ true → slice_get cs i ≡ Some c → slice_get ds i ≡ Some c →
        C (number_or_first (all_names cs) (name_at c.pool c.super_class)) (number_or_first (all_names ds) (name_at c.pool c.super_class)) →
        ((k j : ℕ) → slice_get c.interfaces k ≡ Some j → C (number_or_first (all_names cs) (name_at c.pool j)) (number_or_first (all_names ds) (name_at c.pool j))) →
        PairedClass N (class_at p (builtin_count + i)) (class_at q (builtin_count + i))
    unfolding by_name
    file_class_paired i c e h t super interfaces =
        subst (λ (r : ClassRec). PairedClass N r (class_at q (builtin_count + i))) (sym (class_given body cs ts fs i c h)) (subst (λ (r : ClassRec). PairedClass N (class_rec (all_names cs) (fields_before cs i) (methods_before cs i) c) r) (sym (class_given other ds us gs i c t))
        (record {
          name = refl;
          flags = refl;
          superclass = both_some super;
          interfaces = both_mapped C (λ j. number_or_first (all_names cs) (name_at c.pool j)) (λ j. number_or_first (all_names ds) (name_at c.pool j)) c.interfaces interfaces;
          fields = range_paired (Tested N.fields) (length c.fields) (fields_before cs i) (fields_before ds i) (λ k w. let a = at_place c.fields k w in field_place cs ds keeps kept dp dq i k c a.item e h a.there);
          methods = range_paired (Tested N.method) (length c.methods) (methods_before cs i) (methods_before ds i) (λ k w. let a = at_place c.methods k w in method_place cs ds keeps kept dp dq i k c a.item e h a.there);
        }))

    -- ---- built-in ones

    module _ (m : ℕ) (low : m < 102) where
      method_here : method_at p m ≡ method_at q m
      method_here = builtin_method p (holds_builtins body cs ts fs) m low ∙ sym (builtin_method q (holds_builtins other ds us gs) m low)

      method_bare : is_none (method_at p m).body ≡ true
      method_bare = let l = lengths.2 in ap (λ (r : MethodRec). is_none r.body) (builtin_method p (holds_builtins body cs ts fs) m low) ∙ all_at (λ (r : MethodRec). is_none r.body) builtin_methods m no_method no_codes (omega arith)

      builtin_method_paired : PairedMethod N (method_at p m) (method_at q m)
      unfolding by_name
      builtin_method_paired = subst (λ (r : MethodRec). PairedMethod N (method_at p m) r) method_here
          (record { class = low_itself (method_at p m).class (method_class_low p (holds_builtins body cs ts fs) m low); name = refl; descriptor = refl; flags = refl; native = refl; body = none_paired (PairedBody N) (method_at p m).body method_bare })

    method_by : {a b : ℕ} → MethodSource cs ds keeps kept dp dq a b → PairedMethod N (method_at p a) (method_at q b)
    method_by (builtin_method_one {a} low) = builtin_method_paired a low
    method_by (method_of_file i k c x e h t g) = file_method_paired i k c x e h t g

    methods_paired : (a b : ℕ) → N.method a b ≡ true → PairedMethod N (method_at p a) (method_at q b)
    methods_paired a b e = method_by (method_source cs ds keeps kept dp dq a b e)

    builtin_class_paired : (c : ℕ) → c < 32 → ((m : ℕ) → m < 102 → N.method m m ≡ true) → PairedClass N (class_at p c) (class_at q c)
    unfolding by_name
    builtin_class_paired c low itself =
        let r = get_or builtin_classes c no_class in
        let l = built_in_class c low in
        subst (λ (z : ClassRec). PairedClass N z (class_at q c)) (sym (builtin_class p (holds_builtins body cs ts fs) c low)) (subst (λ (z : ClassRec). PairedClass N r z) (sym (builtin_class q (holds_builtins other ds us gs) c low))
        (record {
          name = refl;
          flags = refl;
          superclass = option_paired C r.superclass l.superclass low_itself;
          interfaces = listed_paired C 32 r.interfaces l.interfaces low_itself;
          fields = listed_paired (Tested N.fields) 2 r.fields l.fields builtin_field_itself;
          methods = listed_paired (Tested N.method) 102 r.methods l.methods itself;
        }))

    -- ---- the whole

    classes_paired : AreHeaded → ((m : ℕ) → m < 102 → N.method m m ≡ true) → (c d : ℕ) → same_class keeps c d ≡ true → PairedClass N (class_at p c) (class_at q d)
    classes_paired headed itself c d e =
        let z = class_is keeps (skeleton cs) (skeleton ds) c d e in
        subst (λ (y : ℕ). PairedClass N (class_at p c) (class_at q y)) z.0 (elim z.1 [
          | inl low ↦ builtin_class_paired c low itself
          | inr k ↦
              let f = kept_file cs ds keeps kept c k in
              let h = headed f.place f.parts f.keep f.first in
              subst (λ (x : ℕ). PairedClass N (class_at p x) (class_at q x)) f.is (file_class_paired f.place f.parts f.keep f.first f.second h.0 h.1)
        ])

    method_itself : (m : ℕ) → m < 102 → N.method m m ≡ true
    method_itself m low =
        let hb = built_in cs in
        let kb = built_in ds in
        let t = enough_methods (skeleton cs) hb in
        let u = enough_methods (skeleton ds) kb in
        let l = lengths.2 in
        let e : method_at (skeleton cs) m ≡ method_at (skeleton ds) m = builtin_method (skeleton cs) hb m low ∙ sym (builtin_method (skeleton ds) kb m low) in
        let small = method_class_low (skeleton cs) hb m low in
        method_from keeps (skeleton cs) (skeleton ds) m m (record {
          first = (omega arith);
          second = (omega arith);
          class = subst (λ (r : MethodRec). same_class keeps (method_at (skeleton cs) m).class r.class ≡ true) e (low_itself (method_at (skeleton cs) m).class small);
          name = ap (λ (r : MethodRec). r.name) e;
          descriptor = ap (λ (r : MethodRec). r.descriptor) e;
        })

    text_of : {a b : ℕ} → LiteralPair keeps (skeleton cs) (skeleton ds) a b → literal_at p a ≡ literal_at q b
    unfolding assembled
    text_of stream = refl
    text_of (constants i j h k e) = e

    fields_here : (f g : ℕ) → N.fields f g ≡ true → PairedField N (field_at p f) (field_at q g)
    unfolding assembled
    fields_here f g e = fields_paired f g e

    pub matched_code : AreHeaded → MatchedCode N p q
    unfolding by_name
    matched_code headed = record {
      one_field = field_once keeps (skeleton cs) (skeleton ds) dp dq;
      one_class = class_once keeps (skeleton cs) (skeleton ds);
      one_literal = literal_once keeps (skeleton cs) (skeleton ds) dp dq;
      classes = classes_paired headed method_itself;
      fields = fields_here;
      methods = methods_paired;
      texts = λ a b e. text_of (literal_is keeps (skeleton cs) (skeleton ds) a b e);
      builtin = low_itself;
      stream = literal_from keeps (skeleton cs) (skeleton ds) stream;
      message = builtin_field_itself 1 (omega arith);
    }
