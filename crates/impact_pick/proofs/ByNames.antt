-- What the matching by names is: one to one, and each member of a chosen class with that of its place.
use Rattle.std.proofs.Common.{◌≡◌, ◌⊎◌, ℕ, suc, ◌<◌, ◌≤◌, length, get_or, [], Bool, true, ◌&&◌, nat_eq, nat_lt, nat_le, refl, sym, ◌∙◌, ap, inl, inr, arith}
use Rattle.std.specs.Str.{bytes_eq}
use Rattle.std.proofs.lemmas.Bool.{and_parts, and_from, or_cases, or_left, or_right, eqb-true, eq-eqb, ltb-true, lt-ltb, leb-true, le-leb}
use Rattle.et_base.proofs.Texts.{units_true, units_same}
use Rattle.jvm_model.specs.{declared.program.Program.Program, Builtin.builtin_count, Linked.IsDistinct, Classes.field_at, Classes.method_at, Classes.literal_at}
use Rattle.order_law.specs.{Pairing.OneToOne, Numbers.Numbers, Numbers.Tested}
use Rattle.impact_pick.specs.ByName.{same_class, by_name}

module _ (keeps : ℕ → Bool) (p q : Program) where
  abbrev n : Numbers
  n = by_name keeps p q

  pub class_is : (c d : ℕ) → same_class keeps c d ≡ true → (c ≡ d) × ((c < builtin_count) ⊎ (keeps c ≡ true))
  class_is c d e = let a = and_parts (nat_eq c d) _ e in (eqb-true c d a.0, elim (or_cases (nat_lt c builtin_count) (keeps c) a.1) [ inl h ↦ inl (ltb-true c builtin_count h) | inr h ↦ inr h ])

  pub class_from : (c : ℕ) → (c < builtin_count) ⊎ (keeps c ≡ true) → same_class keeps c c ≡ true
  class_from c h = and_from (nat_eq c c) _ (eq-eqb c c refl) (elim h [ inl k ↦ or_left (nat_lt c builtin_count) (keeps c) (lt-ltb c builtin_count k) | inr k ↦ or_right (nat_lt c builtin_count) (keeps c) k ])

  pub class_once : OneToOne (Tested n.class)
  unfolding by_name
  class_once = record {
    from_left = λ a b c e f. sym (class_is a b e).0 ∙ (class_is a c f).0;
    from_right = λ a b c e f. (class_is a c e).0 ∙ sym (class_is b c f).0;
  }

  pub record FieldPair (f g : ℕ) : Type 0 where
    pub first : f < length p.fields
    pub second : g < length q.fields
    pub class : same_class keeps (field_at p f).class (field_at q g).class ≡ true
    pub name : (field_at p f).name ≡ (field_at q g).name
    pub descriptor : (field_at p f).descriptor ≡ (field_at q g).descriptor

  pub field_is : (f g : ℕ) → n.fields f g ≡ true → FieldPair f g
  unfolding by_name
  field_is f g e =
      let a = and_parts (nat_lt f (length p.fields) && nat_lt g (length q.fields)) _ e in
      let b = and_parts (nat_lt f (length p.fields)) _ a.0 in
      let c = and_parts (same_class keeps (field_at p f).class (field_at q g).class) _ a.1 in
      let d = and_parts (bytes_eq (field_at p f).name (field_at q g).name) _ c.1 in
      record {
        first = ltb-true f (length p.fields) b.0;
        second = ltb-true g (length q.fields) b.1;
        class = c.0;
        name = units_true (field_at p f).name (field_at q g).name d.0;
        descriptor = units_true (field_at p f).descriptor (field_at q g).descriptor d.1;
      }

  pub field_from : (f g : ℕ) → FieldPair f g → n.fields f g ≡ true
  unfolding by_name
  field_from f g x = and_from (nat_lt f (length p.fields) && nat_lt g (length q.fields)) _
      (and_from (nat_lt f (length p.fields)) _ (lt-ltb f (length p.fields) x.first) (lt-ltb g (length q.fields) x.second))
      (and_from _ _ x.class (and_from _ _ (units_same (field_at p f).name (field_at q g).name x.name) (units_same (field_at p f).descriptor (field_at q g).descriptor x.descriptor)))

  pub record MethodPair (a b : ℕ) : Type 0 where
    pub first : a < length p.methods
    pub second : b < length q.methods
    pub class : same_class keeps (method_at p a).class (method_at q b).class ≡ true
    pub name : (method_at p a).name ≡ (method_at q b).name
    pub descriptor : (method_at p a).descriptor ≡ (method_at q b).descriptor

  pub method_is : (a b : ℕ) → n.method a b ≡ true → MethodPair a b
  unfolding by_name
  method_is f g e =
      let a = and_parts (nat_lt f (length p.methods) && nat_lt g (length q.methods)) _ e in
      let b = and_parts (nat_lt f (length p.methods)) _ a.0 in
      let c = and_parts (same_class keeps (method_at p f).class (method_at q g).class) _ a.1 in
      let d = and_parts (bytes_eq (method_at p f).name (method_at q g).name) _ c.1 in
      record {
        first = ltb-true f (length p.methods) b.0;
        second = ltb-true g (length q.methods) b.1;
        class = c.0;
        name = units_true (method_at p f).name (method_at q g).name d.0;
        descriptor = units_true (method_at p f).descriptor (method_at q g).descriptor d.1;
      }

  pub method_from : (a b : ℕ) → MethodPair a b → n.method a b ≡ true
  unfolding by_name
  method_from f g x = and_from (nat_lt f (length p.methods) && nat_lt g (length q.methods)) _
      (and_from (nat_lt f (length p.methods)) _ (lt-ltb f (length p.methods) x.first) (lt-ltb g (length q.methods) x.second))
      (and_from _ _ x.class (and_from _ _ (units_same (method_at p f).name (method_at q g).name x.name) (units_same (method_at p f).descriptor (method_at q g).descriptor x.descriptor)))

  -- two string constants of one text, or the stream with itself
  pub data LiteralPair : ℕ → ℕ → Type 0 where
    stream : LiteralPair 0 0
    constants : (i j : ℕ) → i < length p.literals → j < length q.literals → get_or p.literals i [] ≡ get_or q.literals j [] → LiteralPair (suc i) (suc j)

  pub literal_is : (a b : ℕ) → n.literal a b ≡ true → LiteralPair a b
  unfolding by_name
  literal_is a b e = elim (or_cases (nat_eq a 0 && nat_eq b 0) _ e) [
    | inl h ↦ let k = and_parts (nat_eq a 0) (nat_eq b 0) h in let x = eqb-true a 0 k.0 in let y = eqb-true b 0 k.1 in rw (x, y) stream
    | inr h ↦
        let k = and_parts (nat_lt 0 a && nat_lt 0 b) _ h in
        let z = and_parts (nat_lt 0 a) (nat_lt 0 b) k.0 in
        let m = and_parts (nat_le a (length p.literals) && nat_le b (length q.literals)) _ k.1 in
        let l = and_parts (nat_le a (length p.literals)) _ m.0 in
        let x = ltb-true 0 a z.0 in let y = ltb-true 0 b z.1 in
        let s = leb-true a (length p.literals) l.0 in let t = leb-true b (length q.literals) l.1 in
        above a b x y s t (units_true (literal_at p a) (literal_at q b) m.1)
  ]
    where
      above : (a b : ℕ) → 0 < a → 0 < b → a ≤ length p.literals → b ≤ length q.literals → literal_at p a ≡ literal_at q b → LiteralPair a b
      above (suc i) (suc j) x y s t g = constants i j (omega arith) (omega arith) g
      above _ _ x y s t g = absurd (omega arith)

  pub literal_from : {a b : ℕ} → LiteralPair a b → n.literal a b ≡ true
  unfolding by_name
  literal_from stream = refl
  literal_from (constants i j h k e) =
      let s : nat_le (suc i) (length p.literals) ≡ true = le-leb (suc i) (length p.literals) (omega arith) in
      let t : nat_le (suc j) (length q.literals) ≡ true = le-leb (suc j) (length q.literals) (omega arith) in
      or_right (nat_eq (suc i) 0 && nat_eq (suc j) 0) _ (and_from _ _ (and_from (nat_lt 0 (suc i)) (nat_lt 0 (suc j)) (lt-ltb 0 (suc i) (omega arith)) (lt-ltb 0 (suc j) (omega arith))) (and_from _ _ (and_from _ _ s t) (units_same (literal_at p (suc i)) (literal_at q (suc j)) e)))

  -- ---- one to one, where names differ

  module _ (dp : IsDistinct p) (dq : IsDistinct q) where
    pub field_once : OneToOne (Tested n.fields)
    field_once = record {
      from_left = λ a b c e f. let x = field_is a b e in let y = field_is a c f in
          dq.fields b c x.second y.second (sym (class_is _ _ x.class).0 ∙ (class_is _ _ y.class).0) (sym x.name ∙ y.name) (sym x.descriptor ∙ y.descriptor);
      from_right = λ a b c e f. let x = field_is a c e in let y = field_is b c f in
          dp.fields a b x.first y.first ((class_is _ _ x.class).0 ∙ sym (class_is _ _ y.class).0) (x.name ∙ sym y.name) (x.descriptor ∙ sym y.descriptor);
    }

    pub method_once : OneToOne (Tested n.method)
    method_once = record {
      from_left = λ a b c e f. let x = method_is a b e in let y = method_is a c f in
          dq.methods b c x.second y.second (sym (class_is _ _ x.class).0 ∙ (class_is _ _ y.class).0) (sym x.name ∙ y.name) (sym x.descriptor ∙ y.descriptor);
      from_right = λ a b c e f. let x = method_is a c e in let y = method_is b c f in
          dp.methods a b x.first y.first ((class_is _ _ x.class).0 ∙ sym (class_is _ _ y.class).0) (x.name ∙ sym y.name) (x.descriptor ∙ sym y.descriptor);
    }

    literal_left : {a b c : ℕ} → LiteralPair a b → LiteralPair a c → b ≡ c
    literal_left stream stream = refl
    literal_left (constants i j h k e) (constants o l f g d) = ap suc (dq.literals j l k g (sym e ∙ d))

    literal_right : {a b c : ℕ} → LiteralPair a c → LiteralPair b c → a ≡ b
    literal_right stream stream = refl
    literal_right (constants i j h k e) (constants l o f g d) = ap suc (dp.literals i l h f (e ∙ sym d))

    pub literal_once : OneToOne (Tested n.literal)
    literal_once = record {
      from_left = λ a b c e f. literal_left (literal_is a b e) (literal_is a c f);
      from_right = λ a b c e f. literal_right (literal_is a c e) (literal_is b c f);
    }
