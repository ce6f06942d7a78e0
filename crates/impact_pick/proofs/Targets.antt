-- What a kept class's pool entries stand for is paired, where it is something in the first list.
use Rattle.std.proofs.Common.{◌≡◌, ℕ, ◌+◌, List, [], slice_get, Bool, true, cond, refl, sym, ◌∙◌, ap, subst, Option, Some, None}
use Rattle.std.specs.Prelude.{option_map, unwrap_or}
use Rattle.class_pool.specs.{declared.pool.Entry.Entry, Pool.entry_of, Pool.class_name_of}
use Rattle.class_pool.specs.declared.pool.Entry.TheVariants as entry
use Rattle.class_reader.specs.declared.parts.{ClassParts.ClassParts, MemberPart.MemberPart, CodePart.CodePart}
use Rattle.jvm_model.specs.declared.values.{Kind.Kind, Value.Value, Value.TheVariants.Int, Value.TheVariants.Long, Value.TheVariants.Lit}
use Rattle.jvm_model.specs.{Builtin.builtin_count, Linked.IsDistinct, Selection.named_class, Lookup.find_field, Lookup.find_method, Lookup.lacks_method}
use Rattle.dep_record.proofs.FieldLaws.{none_chosen, some_mapped}
use Rattle.code_forms.specs.declared.references.Target.{Target}
use Rattle.code_forms.specs.declared.references.Target.TheVariants as target
use Rattle.class_link.specs.{declared.link_environment.LinkEnvironment.LinkEnvironment, Literals.literals, Literals.literal_number}
use Rattle.class_link.specs.ClassNames.{text_at, name_at, all_names, needed_class, kind_of}
use Rattle.class_link.specs.{Assembly.skeleton, Assembly.bare_body, References.pair_of, References.field_target, References.method_target, References.target_of}
use Rattle.order_law.specs.Pairing.{no_more, PairedOption, both_none, both_some, PairedKind}
use Rattle.order_law.specs.{Numbers.Numbers, Numbers.Tested, Matched.PairedBody, Matched.MatchedCode}
use Rattle.order_law.specs.Forms.{PairedConstant, const_int, const_long, const_literal}
use Rattle.order_law.proofs.Programs.{named-paired}
use Rattle.impact_pick.specs.ByName.{same_class, by_name}
use Rattle.impact_pick.proofs.{ByNames.method_once, ByNames.literal_from, Lookups.field_found, Lookups.method_found, Names.AreKept, Names.entry_kept}
use Rattle.impact_pick.proofs.{KeptKinds.KeepsNamed, KeptKinds.kind_alike, Records.n, Classes.AreHeaded, Classes.matched_code, Constants.literal_alike}

-- what an entry's references name is a Class entry
pub record NamesClasses (slots : List (Option Entry)) : Type 0 where
  pub fields : (i class pair : ℕ) → entry_of slots i ≡ Some (entry.Field class pair) → (name : ℕ) × (entry_of slots class ≡ Some (entry.Class name))
  pub methods : (i class pair : ℕ) → entry_of slots i ≡ Some (entry.Method class pair) → (name : ℕ) × (entry_of slots class ≡ Some (entry.Class name))
  pub interface_methods : (i class pair : ℕ) → entry_of slots i ≡ Some (entry.InterfaceMethod class pair) → (name : ℕ) × (entry_of slots class ≡ Some (entry.Class name))

abbrev pub set : List ClassParts → LinkEnvironment
set es = record { program = skeleton es; names = all_names es; texts = literals es }

pub data PairedTarget (m : Numbers) : Target → Target → Type 0 where
  constant_targets : {v w : Value} → PairedConstant m v w → PairedTarget m (target.Constant v) (target.Constant w)
  type_targets : {k l : Kind} → PairedKind (Tested m.class) k l → PairedTarget m (target.Type k) (target.Type l)
  field_targets : {c d f g : ℕ} → m.class c d ≡ true → m.fields f g ≡ true → PairedTarget m (target.Field c f) (target.Field d g)
  method_targets : {k l : Kind} {a b : ℕ} → PairedKind (Tested m.class) k l → m.method a b ≡ true → PairedTarget m (target.Method k a) (target.Method l b)

pub record Resolved (m : Numbers) (o : Option Target) (t : Target) : Type 0 where
  pub other : Target
  pub is : o ≡ Some other
  pub paired : PairedTarget m t other

pub record Partner (R : ℕ → ℕ → Type 0) (r : Option ℕ) (x : ℕ) : Type 0 where
  pub other : ℕ
  pub is : r ≡ Some other
  pub paired : R x other

pub partner : {R : ℕ → ℕ → Type 0} {o r : Option ℕ} (x : ℕ) → PairedOption R o r → o ≡ Some x → Partner R r x
partner x both_none e = absurd (cc)
partner {R} x (both_some {x = a} {y = b} p) e = let k : a ≡ x = cc in record { other = b; is = refl; paired = subst (λ (z : ℕ). R z b) k p }

module _ (cs ds : List ClassParts) (keeps : ℕ → Bool) (kept : AreKept cs ds keeps) (dp : IsDistinct (skeleton cs)) (dq : IsDistinct (skeleton ds)) where
  abbrev N : Numbers
  N = n cs ds keeps kept dp dq

  abbrev C : ℕ → ℕ → Type 0
  C = Tested (same_class keeps)

  pub bare_paired : (i k : ℕ) (c : ClassParts) (x : MemberPart) (code : CodePart) → keeps (builtin_count + i) ≡ true → slice_get cs i ≡ Some c → slice_get c.methods k ≡ Some x → x.code ≡ Some code → PairedBody N (bare_body code) (bare_body code)
  bare_paired i k c x code e h g s = record { max_stack = refl; max_locals = refl; length = refl; code = no_more; handlers = no_more }

  -- the skeletons match
  pub skeletons : AreHeaded cs ds keeps kept dp dq → MatchedCode N (skeleton cs) (skeleton ds)
  skeletons headed = matched_code cs ds keeps kept dp dq (λ c code. bare_body code) (λ c code. bare_body code) [] [] [] [] bare_paired headed

  module _ (sk : MatchedCode N (skeleton cs) (skeleton ds)) (i : ℕ) (c : ClassParts) (keep : keeps (builtin_count + i) ≡ true) (has : slice_get cs i ≡ Some c) (pool : NamesClasses c.pool) where
    there : slice_get ds i ≡ Some c
    there = kept.agree i c keep has

    -- the class that a Class entry needs is kept
    keeps_entry : (k name : ℕ) → entry_of c.pool k ≡ Some (entry.Class name) → KeepsNamed cs ds keeps kept dq (needed_class (text_at c.pool name))
    keeps_entry k name e us d nd num = entry_kept cs ds keeps kept dq i k name d c us keep has e nd num

    name_is : (class name : ℕ) → entry_of c.pool class ≡ Some (entry.Class name) → name_at c.pool class ≡ text_at c.pool name
    name_is class name e = ap (λ (z : Option Entry). unwrap_or (class_name_of c.pool z) []) e

    -- the type that a Class entry names
    named_alike : (class name : ℕ) (k : Kind) → entry_of c.pool class ≡ Some (entry.Class name) → kind_of (all_names cs) (name_at c.pool class) ≡ Some k → (kind_of (all_names ds) (name_at c.pool class) ≡ Some k) × PairedKind C k k
    named_alike class name k e g =
        let s = name_is class name e in
        let r = kind_alike cs ds keeps kept dq (text_at c.pool name) k (keeps_entry class name e) (ap (kind_of (all_names cs)) (sym s) ∙ g) in
        (ap (kind_of (all_names ds)) s ∙ r.0, r.1)

    class_named : {k : Kind} → PairedKind C k k → same_class keeps (named_class k) (named_class k) ≡ true
    unfolding by_name
    class_named r = named-paired N (skeleton cs) (skeleton ds) sk r

    field_alike : (class name : ℕ) (pair : List ℕ × List ℕ) (t : Target) (o : Option Kind) → entry_of c.pool class ≡ Some (entry.Class name) → kind_of (all_names cs) (name_at c.pool class) ≡ o → field_target (set cs) o pair ≡ Some t →
        Resolved N (field_target (set ds) (kind_of (all_names ds) (name_at c.pool class)) pair) t
    unfolding by_name
    field_alike class name pair t None e g h = absurd (cc)
    field_alike class name pair t (Some k) e g h =
        let r = named_alike class name k e g in
        let m = some_mapped (find_field (skeleton cs) (named_class k) pair.0 pair.1) (λ f. target.Field (named_class k) f) t h in
        let f = partner m.0 (field_found N (skeleton cs) (skeleton ds) sk (named_class k) (named_class k) pair.0 pair.1 (class_named r.1)) m.1 in
        record {
          other = target.Field (named_class k) f.other;
          is = ap (λ (z : Option Kind). field_target (set ds) z pair) r.0 ∙ ap (λ (z : Option ℕ). option_map (λ y. target.Field (named_class k) y) z) f.is;
          paired = subst (λ (z : Target). PairedTarget N z (target.Field (named_class k) f.other)) m.2 (field_targets (class_named r.1) f.paired);
        }

    method_alike : (class name : ℕ) (pair : List ℕ × List ℕ) (t : Target) (o : Option Kind) → entry_of c.pool class ≡ Some (entry.Class name) → kind_of (all_names cs) (name_at c.pool class) ≡ o → method_target (set cs) o pair ≡ Some t →
        Resolved N (method_target (set ds) (kind_of (all_names ds) (name_at c.pool class)) pair) t
    unfolding by_name
    method_alike class name pair t None e g h = absurd (cc)
    method_alike class name pair t (Some k) e g h =
        let r = named_alike class name k e g in
        let u = none_chosen (lacks_method k pair.0) _ t h in
        let m = some_mapped (find_method (skeleton cs) (named_class k) pair.0 pair.1) (λ a. target.Method k a) t u.1 in
        let f = partner m.0 (method_found N (skeleton cs) (skeleton ds) sk (method_once keeps (skeleton cs) (skeleton ds) dp dq) (named_class k) (named_class k) pair.0 pair.1 (class_named r.1)) m.1 in
        record {
          other = target.Method k f.other;
          is = ap (λ (z : Option Kind). method_target (set ds) z pair) r.0 ∙ (ap (λ (b : Bool). cond b None (option_map (λ a. target.Method k a) (find_method (skeleton ds) (named_class k) pair.0 pair.1))) u.0 ∙ ap (λ (z : Option ℕ). option_map (λ a. target.Method k a) z) f.is);
          paired = subst (λ (z : Target). PairedTarget N z (target.Method k f.other)) m.2 (method_targets r.1 f.paired);
        }

    pub target_alike : (k : ℕ) (e : Option Entry) (t : Target) → entry_of c.pool k ≡ e → target_of (set cs) c.pool e ≡ Some t → Resolved N (target_of (set ds) c.pool e) t
    unfolding target_of by_name
    target_alike k (Some (entry.Integer z)) t g h = let q : target.Constant (Int z) ≡ t = cc in record { other = target.Constant (Int z); is = refl; paired = subst (λ (y : Target). PairedTarget N y (target.Constant (Int z))) q (constant_targets (const_int z)) }
    target_alike k (Some (entry.Long z)) t g h = let q : target.Constant (Long z) ≡ t = cc in record { other = target.Constant (Long z); is = refl; paired = subst (λ (y : Target). PairedTarget N y (target.Constant (Long z))) q (constant_targets (const_long z)) }
    target_alike k (Some (entry.Str text)) t g h =
        let a = literal_number (literals cs) (text_at c.pool text) in
        let b = literal_number (literals ds) (text_at c.pool text) in
        let q : target.Constant (Lit a) ≡ t = cc in
        record { other = target.Constant (Lit b); is = refl; paired = subst (λ (y : Target). PairedTarget N y (target.Constant (Lit b))) q (constant_targets (const_literal (literal_from keeps (skeleton cs) (skeleton ds) (literal_alike cs ds keeps i k text c has there g)))) }
    target_alike k (Some (entry.Class name)) t g h =
        let m = some_mapped (kind_of (all_names cs) (text_at c.pool name)) (λ z. target.Type z) t h in
        let r = kind_alike cs ds keeps kept dq (text_at c.pool name) m.0 (keeps_entry k name g) m.1 in
        record { other = target.Type m.0; is = ap (λ (z : Option Kind). option_map (λ y. target.Type y) z) r.0; paired = subst (λ (y : Target). PairedTarget N y (target.Type m.0)) m.2 (type_targets r.1) }
    target_alike k (Some (entry.Field class pair)) t g h = let w = pool.fields k class pair g in field_alike class w.0 (pair_of c.pool (entry_of c.pool pair)) t (kind_of (all_names cs) (name_at c.pool class)) w.1 refl h
    target_alike k (Some (entry.Method class pair)) t g h = let w = pool.methods k class pair g in method_alike class w.0 (pair_of c.pool (entry_of c.pool pair)) t (kind_of (all_names cs) (name_at c.pool class)) w.1 refl h
    target_alike k (Some (entry.InterfaceMethod class pair)) t g h = let w = pool.interface_methods k class pair g in method_alike class w.0 (pair_of c.pool (entry_of c.pool pair)) t (kind_of (all_names cs) (name_at c.pool class)) w.1 refl h
    target_alike k _ t g h = absurd (cc)
