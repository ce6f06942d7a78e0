-- The program without quiet initialisers matches the program in names and code.
use Rattle.std.proofs.Common.{ℕ, length, Bool, true, false, cond, None, sym, ◌∙◌, subst, inl, inr, arith}
use Rattle.std.specs.List.{range_with_len}
use Rattle.std.specs.Prelude.{map}
use Rattle.std.proofs.lemmas.{Bool.eqb-true, Bool.cases_lt, List.get_or_past, List.FromFn.get_or-map-range_with_len, List.FromFn.length-map-range_with_len}
use Rattle.jvm_model.specs.declared.{values.Value.Value, program.ClassRec.ClassRec, program.FieldRec.FieldRec, program.Program.Program}
use Rattle.jvm_model.specs.declared.values.Location.TheVariants as place
use Rattle.jvm_model.specs.{World.at, Linked.Linked, Classes.no_field, Classes.class_at, Classes.field_at}
use Rattle.order_law.specs.{Matched.MatchedCode, Matched.PairedClass, Matched.PairedField, Numbers.same_numbers}
use Rattle.order_law.proofs.Same.{self_matched}
use Rattle.quiet_init.specs.Quiet.{is_quiet, left_by, quiet_field, quiet}
use Rattle.quiet_init.proofs.Parts.{class_is}

class_but : {x y : ClassRec} → PairedClass same_numbers x y → PairedClass same_numbers x (record y { initialiser = None })
class_but r = record { name = r.name; flags = r.flags; superclass = r.superclass; interfaces = r.interfaces; fields = r.fields; methods = r.methods }

field_but : {x y : FieldRec} (v : Value) → PairedField same_numbers x y → PairedField same_numbers x (record y { opening = v })
field_but v r = record { class = r.class; name = r.name; descriptor = r.descriptor; flags = r.flags }

module _ (p : Program) where
  class_paired : (c : ℕ) → PairedClass same_numbers (class_at p c) (class_at p c) → PairedClass same_numbers (class_at p c) (class_at (quiet p) c)
  class_paired c r = subst (λ (z : ClassRec). PairedClass same_numbers (class_at p c) z) (sym (class_is p c)) (by (is_quiet p c))
    where
      by : (b : Bool) → PairedClass same_numbers (class_at p c) (cond b (record (class_at p c) { initialiser = None }) (class_at p c))
      by true = class_but r
      by false = r

  field_paired : (f : ℕ) → PairedField same_numbers (field_at p f) (field_at p f) → PairedField same_numbers (field_at p f) (field_at (quiet p) f)
  unfolding quiet
  field_paired f r = elim (cases_lt f (length p.fields)) [
    | inl h ↦ subst (λ (z : FieldRec). PairedField same_numbers (field_at p f) z) (sym (get_or-map-range_with_len (quiet_field p) 0 (length p.fields) f f no_field h (omega arith))) (by (is_quiet p (field_at p f).class))
    | inr h ↦ let e = length-map-range_with_len (quiet_field p) 0 (length p.fields) in
        subst (λ (z : FieldRec). PairedField same_numbers (field_at p f) z) (get_or_past p.fields f no_field (omega arith) ∙ sym (get_or_past (map (quiet_field p) (range_with_len 0 (length p.fields))) f no_field (omega arith))) r
  ]
    where
      by : (b : Bool) → PairedField same_numbers (field_at p f) (cond b (record (field_at p f) { opening = at (left_by p (field_at p f).class) (place.Static f) }) (field_at p f))
      by true = field_but (at (left_by p (field_at p f).class) (place.Static f)) r
      by false = r

pub matched : (p : Program) → Linked p → MatchedCode same_numbers p (quiet p)
unfolding quiet
matched p linked = let s = (self_matched p linked).code in record {
  one_field = s.one_field;
  one_class = s.one_class;
  one_literal = s.one_literal;
  classes = λ c d e. subst (λ (z : ℕ). PairedClass same_numbers (class_at p c) (class_at (quiet p) z)) (eqb-true c d e) (class_paired p c (subst (λ (z : ℕ). PairedClass same_numbers (class_at p c) (class_at p z)) (sym (eqb-true c d e)) (s.classes c d e)));
  fields = λ c d e. subst (λ (z : ℕ). PairedField same_numbers (field_at p c) (field_at (quiet p) z)) (eqb-true c d e) (field_paired p c (subst (λ (z : ℕ). PairedField same_numbers (field_at p c) (field_at p z)) (sym (eqb-true c d e)) (s.fields c d e)));
  methods = s.methods;
  texts = s.texts;
  builtin = s.builtin;
  stream = s.stream;
  message = s.message;
}
