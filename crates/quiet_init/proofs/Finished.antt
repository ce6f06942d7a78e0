-- The program that is put together is the one without quiet initialisers.
use Rattle.std.proofs.Common.{◌≡◌, ℕ, ◌<◌, List, length, get_or, map, Bool, true, false, ◌&&◌, cond, nat_lt, None, sym, ◌∙◌, ap, arith}
use Rattle.std.specs.List.{range_with_len}
use Rattle.std.proofs.lemmas.{Bool.lt-ltb, List.FromFn.get_or-map-range_with_len, List.FromFn.length-map-range_with_len, List.FromFn.fill_by_all}
use Rattle.jvm_model.specs.declared.{program.ClassRec.ClassRec, program.FieldRec.FieldRec, program.Program.Program, values.Value.Value}
use Rattle.jvm_model.specs.declared.values.Location.TheVariants as place
use Rattle.jvm_model.specs.{declared.values.Value.TheVariants.Null, World.World, World.at, Linked.Linked, Classes.no_field, Classes.class_at, Classes.field_at}
use Rattle.quiet_init.specs.Leaving.{AreLeft, AreFlags, AreOpenings, unstarted, opened_with}
use Rattle.quiet_init.specs.Quiet.{is_quiet, left_by, quiet_class, quiet_field, quiet}
use Rattle.quiet_init.proofs.Lists.{quiet_listed, as_many}

module _ (p : Program) where
  classes_done : (flags : List Bool) → flags ≡ map (is_quiet p) (range_with_len 0 (length p.classes)) → unstarted flags p.classes ≡ map (quiet_class p) (range_with_len 0 (length p.classes))
  classes_done flags e = λ i. map (λ c. cond (quiet_listed p flags e c i) (record (class_at p c) { initialiser = None }) (class_at p c)) (range_with_len 0 (length p.classes))

  -- what a memory has once all classes were served
  pub openings_of : (vs : List Value) (w : World) → AreLeft p (length p.classes) w → vs ≡ w.statics → AreOpenings p vs
  openings_of vs w l e = record {
    long = ap (λ (us : List Value). length us) e ∙ l.places.statics;
    values = λ f h. ap (λ (us : List Value). get_or us f Null) e ∙ l.values f h;
  }

  opened : (q : Bool) (x v : Value) (y : FieldRec) → v ≡ cond q x y.opening → record y { opening = v } ≡ cond q (record y { opening = x }) y
  opened true x v y e = ap (λ (z : Value). record y { opening = z }) e
  opened false x v y e = ap (λ (z : Value). record y { opening = z }) e

  -- the opening value of a field then
  opening_is : (vs : List Value) (f : ℕ) → Linked p → AreOpenings p vs → f < length p.fields → record (field_at p f) { opening = get_or vs f Null } ≡ quiet_field p f
  opening_is vs f lk l h =
      let x : Value = at (left_by p (field_at p f).class) (place.Static f) in
      let b : nat_lt (field_at p f).class (length p.classes) ≡ true = lt-ltb (field_at p f).class (length p.classes) (lk.numbers.fields f h) in
      opened (is_quiet p (field_at p f).class) x (get_or vs f Null) (field_at p f)
      (l.values f h ∙ ap (λ (s : Bool). cond (s && is_quiet p (field_at p f).class) x (field_at p f).opening) b)

  fields_done : (vs : List Value) → Linked p → AreOpenings p vs → opened_with vs p.fields ≡ map (quiet_field p) (range_with_len 0 (length p.fields))
  fields_done vs lk l = fill_by_all (quiet_field p) (opened_with vs p.fields) (length p.fields) no_field (length-map-range_with_len (λ f. record (get_or p.fields f no_field) { opening = get_or vs f Null }) 0 (length p.fields))
      (λ k h. get_or-map-range_with_len (λ f. record (get_or p.fields f no_field) { opening = get_or vs f Null }) 0 (length p.fields) k k no_field h (omega arith) ∙ opening_is vs k lk l h)

  pub put_together : (flags : List Bool) (vs : List Value) (q : Program) (cs : List ClassRec) (fs : List FieldRec) → Linked p → AreFlags p flags → AreOpenings p vs → q ≡ p →
      cs ≡ unstarted flags q.classes → fs ≡ opened_with vs q.fields → record q { classes = cs; fields = fs } ≡ quiet p
  unfolding quiet
  put_together flags vs q cs fs lk e l eq ec ef =
      let hc : cs ≡ unstarted flags p.classes = ec ∙ ap (λ (r : Program). unstarted flags r.classes) eq in
      let hf : fs ≡ opened_with vs p.fields = ef ∙ ap (λ (r : Program). opened_with vs r.fields) eq in
      λ i. record (eq i) { classes = (hc ∙ classes_done flags e) i; fields = (hf ∙ fields_done vs lk l) i }

  pub long_flags : (flags : List Bool) (q : Program) → AreFlags p flags → q ≡ p → length flags ≡ length q.classes
  long_flags flags q h e = as_many p flags h ∙ ap (λ (r : Program). length r.classes) (sym e)

  pub few_flags : (flags : List Bool) → Linked p → AreFlags p flags → length flags < 4294967296
  few_flags flags lk h = let l = as_many p flags h in let k = lk.few_classes in omega arith
