-- The check of code (JVMS 4.10.1) answers of the program without quiet initialisers what it answers of the program: each function
-- is the same at every place that it looks at, so the two functions are one path apart.
use Rattle.std.proofs.Common.{◌≡◌, ℕ, zero, suc, ◌+◌, ◌<◌, List, [], ◌∷◌, ◌++◌, length, get_or, map, drop, replicate, Bool, true, false, not, ◌&&◌, ◌||◌, cond, nat_eq, nat_lt, Option, Some, None, refl, sym, ◌∙◌, ap, arith}
use Rattle.std.specs.Prelude.{flat_map, slice_get, slice_index_or, unwrap_or}
use Rattle.std.specs.{List.list_all, List.position_from, List.range_with_len, Str.bytes_eq}
use Rattle.jvm_model.specs.declared.{instr.Cell.Cell, instr.Instr.Instr, values.Base.Base, values.Kind.Kind, values.Value.Value}
use Rattle.jvm_model.specs.declared.instr.Cell.TheVariants as cell
use Rattle.jvm_model.specs.declared.instr.Instr.TheVariants as form
use Rattle.jvm_model.specs.declared.program.{Body.Body, Handler.Handler, MethodRec.MethodRec, Placed.Placed, Program.Program}
use Rattle.jvm_model.specs.declared.values.Base.TheVariants as base
use Rattle.jvm_model.specs.declared.values.Kind.TheVariants as kind
use Rattle.jvm_model.specs.declared.values.Value.TheVariants as value
use Rattle.jvm_model.specs.{Builtin.object_class, Builtin.string_class, Builtin.throwable_class, Descriptors.parameters, Descriptors.return_type}
use Rattle.jvm_model.specs.Classes.{no_class, class_at, field_at, method_at, is_interface, is_static, init_name}
use Rattle.type_frames.specs.declared.stack_effect.{OperandConstraint.OperandConstraint, Reading.Reading, StackEffect.StackEffect}
use Rattle.type_frames.specs.declared.stack_effect.OperandConstraint.TheVariants.{Fits, Raw, Never}
use Rattle.type_frames.specs.declared.stack_effect.Substitution.TheVariants as turn
use Rattle.type_frames.specs.declared.vtype.{Frame.Frame, VType.VType}
use Rattle.type_frames.specs.declared.vtype.VType.TheVariants.{Top, Int, Object, UninitThis}
use Rattle.type_frames.specs.Assign.{class_named, takes_any, extends, class_fits, element_fits, is_array, object_fits, assignable}
use Rattle.type_frames.specs.Descriptors.{class_name, types_of, base_text, kind_name}
use Rattle.type_frames.specs.Environment.{Environment, environment_of, given_at, leads}
use Rattle.type_frames.specs.Frames.{Slots, same, slots_of, spread}
use Rattle.type_frames.specs.Given.{is_constructor, entry_types, body_frames, given_frames}
use Rattle.type_frames.specs.Rules.{meets, meet_all, all_read, can_set, after, fit_all, is_sound, fits_given, fits_at, opening, is_entered, fits_next, covers, caught, handles, rule_1, rule_5, rule_6, rule_7, rule_10, rule_11, test, first_broken, broken}
use Rattle.type_frames.specs.StackEffect.{plain, place_of, on_stack, needs_of, const_type, int_need, int_type, put_field_sides, argument_needs, result_types, call_sides, special_need, is_that, is_start, started, init_sides, special_sides, array_need, loaded, stored, leaving, sides}
use Rattle.type_frames.specs.Typing.{passed, passed_on, taken_at, taken_by, incoming, breach_of, judged, breach_at, all_frames}
use Rattle.quiet_init.specs.Quiet.{is_quiet, quiet_class, quiet}
use Rattle.quiet_init.proofs.Kept.{is_below_kept}
use Rattle.quiet_init.proofs.Parts.{flags_kept, above_kept, names_kept, owners_kept, descriptors_kept}

-- ---- what may stand where a type is asked

position_range : {X : Type 0} (f : X → Bool) (h : ℕ → X) (xs : List X) (i k : ℕ) (d : X) → ((j : ℕ) → j < length xs → f (h (k + j)) ≡ f (get_or xs j d)) → position_from f i (map h (range_with_len k (length xs))) ≡ position_from f i xs
position_range f h [] i k d e = refl
position_range f h (x ∷ xs) i k d e =
    ap (λ (b : Bool). cond b (Some i) (position_from f (i + 1) (map h (range_with_len (k + 1) (length xs))))) (let z : k + 0 ≡ k = omega arith in ap (λ (j : ℕ). f (h j)) (sym z) ∙ e 0 (omega arith))
    ∙ ap (λ (o : Option ℕ). cond (f x) (Some i) o) (position_range f h xs (i + 1) (k + 1) d (λ j l. (let z : k + 1 + j ≡ k + suc j = omega arith in ap (λ (n : ℕ). f (h n)) z) ∙ e (suc j) (omega arith)))

module _ (p : Program) where
  class_named_kept : (name : List ℕ) → class_named (quiet p) name ≡ class_named p name
  unfolding quiet
  class_named_kept name = position_range (λ c. bytes_eq c.name name) (quiet_class p) p.classes 0 0 no_class (λ j l. (let z : 0 + j ≡ j = omega arith in ap (λ (n : ℕ). bytes_eq (quiet_class p n).name name) z) ∙ by (is_quiet p j) j)
    where
      by : (b : Bool) (j : ℕ) → bytes_eq (cond b (record (class_at p j) { initialiser = None }) (class_at p j)).name name ≡ bytes_eq (class_at p j).name name
      by true j = refl
      by false j = refl

  takes_any_kept : (b : List ℕ) → takes_any (quiet p) b ≡ takes_any p b
  unfolding takes_any
  takes_any_kept b = λ k. elim (class_named_kept b k) as (λ x. Bool) [ None ↦ false | Some d ↦ nat_eq d object_class || is_interface (flags_kept p d k) ]

  extends_kept : (a b : List ℕ) → extends (quiet p) a b ≡ extends p a b
  unfolding extends
  extends_kept a b = λ k. elim (class_named_kept a k) as (λ x. Bool) [ None ↦ false | Some c ↦ elim (class_named_kept b k) as (λ x. Bool) [ None ↦ false | Some d ↦ is_below_kept p c d k ] ]

  class_fits_kept : (a b : List ℕ) → class_fits (quiet p) a b ≡ class_fits p a b
  unfolding class_fits
  class_fits_kept a b = λ k. bytes_eq a b || (takes_any_kept b k || extends_kept a b k)

  element_fits_kept : (a b : List ℕ) → element_fits (quiet p) a b ≡ element_fits p a b
  element_fits_kept (u ∷ us) (w ∷ ws) = λ k. elim (nat_eq w 76) as (λ x. Bool) [
    | true ↦ elim (nat_eq u 76) as (λ x. Bool) [ true ↦ class_fits_kept (class_name us) (class_name ws) k | false ↦ nat_eq u 91 && takes_any_kept (class_name ws) k ]
    | false ↦ elim (nat_eq w 91) as (λ x. Bool) [ true ↦ nat_eq u 91 && element_fits_kept us ws k | false ↦ nat_eq u w ]
  ]
  element_fits_kept _ _ = refl

  object_fits_kept : (a b : List ℕ) → object_fits (quiet p) a b ≡ object_fits p a b
  unfolding object_fits
  object_fits_kept a b = λ k. elim (is_array a) as (λ x. Bool) [
    | true ↦ elim (is_array b) as (λ x. Bool) [ true ↦ element_fits_kept (drop 1 a) (drop 1 b) k | false ↦ takes_any_kept b k ]
    | false ↦ not (is_array b) && class_fits_kept a b k
  ]

  object_kept : (a : List ℕ) (u : VType) → assignable (quiet p) (Object a) u ≡ assignable p (Object a) u
  object_kept a (Object b) = object_fits_kept a b
  object_kept a _ = refl

  assignable_kept : (t u : VType) → assignable (quiet p) t u ≡ assignable p t u
  assignable_kept (Object a) u = object_kept a u
  assignable_kept _ Top = refl
  assignable_kept _ _ = refl

  -- ---- the frames that stack maps give

  entry_types_kept : (m : MethodRec) → entry_types (quiet p) m ≡ entry_types p m
  entry_types_kept m = λ k. (elim (is_static m.flags) as (λ x. List VType) [
    | true ↦ []
    | false ↦ elim (is_constructor m) as (λ x. List VType) [ true ↦ UninitThis ∷ [] | false ↦ Object (names_kept p m.class k) ∷ [] ]
  ]) ++ flat_map types_of (parameters m.descriptor)

  pub given_frames_kept : (m : MethodRec) → given_frames (quiet p) m ≡ given_frames p m
  unfolding given_frames
  given_frames_kept m = λ k. elim m.body as (λ x. Option (List Frame)) [ None ↦ Some [] | Some b ↦ body_frames b (entry_types_kept m k) ]

  pub environment_kept : (m : MethodRec) (b : Body) (gs : List Frame) → environment_of (quiet p) m b gs ≡ environment_of p m b gs
  environment_kept m b gs = λ k. record { class = m.class; starts = is_constructor m; args = spread (entry_types_kept m k); result = types_of (return_type m.descriptor); body = b; given = gs }

  pub all_frames_kept : all_frames (quiet p) ≡ all_frames p
  unfolding all_frames quiet
  all_frames_kept = λ k. map (λ m. unwrap_or (given_frames_kept m k) []) p.methods

  -- ---- what instructions need and leave

  base_text_kept : (b : Base) → base_text (quiet p) b ≡ base_text p b
  base_text_kept (base.Class c) = λ i. 76 ∷ (names_kept p c i ++ 59 ∷ [])
  base_text_kept _ = refl

  kind_name_kept : (k : Kind) → kind_name (quiet p) k ≡ kind_name p k
  kind_name_kept (kind.Class c) = names_kept p c
  kind_name_kept (kind.Array dims b) = λ i. replicate dims 91 ++ base_text_kept b i

  const_kept : (v : Value) → const_type (quiet p) v ≡ const_type p v
  const_kept (value.Lit n) = λ i. Object (names_kept p string_class i) ∷ []
  const_kept _ = refl

  array_need_kept : (x : Cell) → array_need (quiet p) x ≡ array_need p x
  array_need_kept cell.Ref = λ i. Fits (Object (91 ∷ 76 ∷ (names_kept p object_class i ++ 59 ∷ [])))
  array_need_kept _ = refl

  stored_kept : (x : Cell) → stored (quiet p) x ≡ stored p x
  stored_kept cell.Ref = λ i. Fits (Object (names_kept p object_class i)) ∷ []
  stored_kept _ = refl

  special_need_kept : (e : Environment) (named : Kind) → special_need (quiet p) e named ≡ special_need p e named
  special_need_kept e named = λ i. cond (assignable_kept (Object (names_kept p e.class i)) (Object (kind_name_kept named i)) i) (Fits (Object (names_kept p e.class i))) Never

  is_start_kept : (e : Environment) (c : ℕ) (t : VType) → is_start (quiet p) e c t ≡ is_start p e c t
  is_start_kept e c UninitThis = λ i. nat_eq c e.class || is_that c (above_kept p e.class i)
  is_start_kept e c _ = refl

  started_kept : (e : Environment) (c : ℕ) (t : VType) → started (quiet p) e c t ≡ started p e c t
  started_kept e c UninitThis = λ i. Object (names_kept p e.class i)
  started_kept e c _ = λ i. Object (names_kept p c i)

  init_kept : (e : Environment) (f : Slots) (m : MethodRec) (t : VType) → init_sides (quiet p) e f m t ≡ init_sides p e f m t
  init_kept e f m t = λ i. record (plain (argument_needs m.descriptor ++ Raw ∷ []) (result_types m.descriptor)) { turn = turn.All t (started_kept e m.class t i); starts_well = is_start_kept e m.class t i }

  special_kept : (e : Environment) (f : Slots) (named : Kind) (m : MethodRec) → special_sides (quiet p) e f named m ≡ special_sides p e f named m
  special_kept e f named m = λ i. elim (bytes_eq m.name init_name) as (λ x. StackEffect) [
    | true ↦ init_kept e f m (place_of f (length (argument_needs m.descriptor))) i
    | false ↦ call_sides m (special_need_kept e named i ∷ [])
  ]

  put_field_kept : (e : Environment) (f : Slots) (c n : ℕ) → put_field_sides (quiet p) e f c (field_at (quiet p) n) ≡ put_field_sides p e f c (field_at p n)
  put_field_kept e f c n = λ i.
      let d = descriptors_kept p n i in
      plain (needs_of d ++ cond (same (place_of f (length (needs_of d))) UninitThis && (nat_eq c e.class && nat_eq (owners_kept p n i) e.class)) (Fits UninitThis) (Fits (Object (names_kept p c i))) ∷ []) []

  sides_kept : (e : Environment) (pc : ℕ) (f : Slots) (x : Instr) → sides (quiet p) e pc f x ≡ sides p e pc f x
  unfolding sides quiet
  sides_kept e pc f (form.Const v) = λ i. plain [] (const_kept v i)
  sides_kept e pc f (form.ArrayLoad x) = λ i. plain (Fits Int ∷ array_need_kept x i ∷ []) (loaded f x)
  sides_kept e pc f (form.ArrayStore x) = λ i. plain (stored_kept x i ++ (Fits Int ∷ array_need_kept x i ∷ [])) []
  sides_kept e pc f (form.GetStatic n) = λ i. plain [] (on_stack (types_of (descriptors_kept p n i)))
  sides_kept e pc f (form.PutStatic n) = λ i. plain (needs_of (descriptors_kept p n i)) []
  sides_kept e pc f (form.GetField c n) = λ i. plain (Fits (Object (names_kept p c i)) ∷ []) (on_stack (types_of (descriptors_kept p n i)))
  sides_kept e pc f (form.PutField c n) = put_field_kept e f c n
  sides_kept e pc f (form.InvokeVirtual k n) = λ i. call_sides (method_at p n) (Fits (Object (kind_name_kept k i)) ∷ [])
  sides_kept e pc f (form.InvokeSpecial k n) = special_kept e f k (method_at p n)
  sides_kept e pc f (form.InvokeInterface c n) = λ i. call_sides (method_at p n) (Fits (Object (names_kept p c i)) ∷ [])
  sides_kept e pc f (form.NewArray k) = λ i. plain int_need (Object (kind_name_kept k i) ∷ [])
  sides_kept e pc f (form.MultiNewArray k n) = λ i. plain (replicate n (Fits Int)) (Object (kind_name_kept k i) ∷ [])
  sides_kept e pc f form.Throw = λ i. leaving (plain (Fits (Object (names_kept p throwable_class i)) ∷ []) [])
  sides_kept e pc f (form.CheckCast k) = λ i. plain (Fits (Object (names_kept p object_class i)) ∷ []) (Object (kind_name_kept k i) ∷ [])
  sides_kept e pc f (form.InstanceOf k) = λ i. plain (Fits (Object (names_kept p object_class i)) ∷ []) int_type
  sides_kept e pc f _ = refl

  -- ---- the rules

  meets_kept : (n : OperandConstraint) (t : VType) → meets (quiet p) n t ≡ meets p n t
  meets_kept (Fits u) t = assignable_kept t u
  meets_kept _ t = refl

  meet_all_kept : (ns : List OperandConstraint) (ts : List VType) → meet_all (quiet p) ns ts ≡ meet_all p ns ts
  meet_all_kept (n ∷ ns) (t ∷ ts) = λ i. meets_kept n t i && meet_all_kept ns ts i
  meet_all_kept _ _ = refl

  all_read_kept : (most : ℕ) (ts : List VType) (rs : List Reading) → all_read (quiet p) most ts rs ≡ all_read p most ts rs
  all_read_kept most ts [] = refl
  all_read_kept most ts (r ∷ rs) = λ i. (nat_lt r.local most && meets_kept r.need (slice_index_or ts r.local Top) i) && all_read_kept most ts rs i

  fit_all_kept : (ts us : List VType) → fit_all (quiet p) ts us ≡ fit_all p ts us
  fit_all_kept [] [] = refl
  fit_all_kept [] (u ∷ us) = refl
  fit_all_kept (t ∷ ts) [] = refl
  fit_all_kept (t ∷ ts) (u ∷ us) = λ i. assignable_kept t u i && fit_all_kept ts us i

  fits_given_kept : (e : Environment) (f : Slots) (g : Option Frame) → fits_given (quiet p) e f g ≡ fits_given p e f g
  fits_given_kept e f None = refl
  fits_given_kept e f (Some g) = λ i. is_sound e g && (fit_all_kept f.locals (slots_of g).locals i && (fit_all_kept f.stack (slots_of g).stack i && (not f.flag || (slots_of g).flag)))

  fits_at_kept : (e : Environment) (f : Slots) (pc : ℕ) → fits_at (quiet p) e f pc ≡ fits_at p e f pc
  fits_at_kept e f pc = fits_given_kept e f (given_at e pc)

  is_entered_kept : (e : Environment) (k pc : ℕ) → is_entered (quiet p) e k pc ≡ is_entered p e k pc
  is_entered_kept e zero pc = fits_at_kept e (opening e) pc
  is_entered_kept e (suc k) pc = refl

  fits_next_kept : (e : Environment) (f : Slots) (x : Option Placed) → fits_next (quiet p) e f x ≡ fits_next p e f x
  fits_next_kept e f None = refl
  fits_next_kept e f (Some x) = fits_at_kept e f x.pc

  handles_kept : (e : Environment) (pc : ℕ) (f : Slots) (h : Handler) → handles (quiet p) e pc f h ≡ handles p e pc f h
  handles_kept e pc f h = λ i. not (covers h pc) || (nat_lt 0 e.body.max_stack && (not (e.starts && f.flag) && fits_at_kept e (record f { stack = Object (names_kept p (caught h) i) ∷ [] }) h.at i))

  broken_kept : (e : Environment) (k : ℕ) (x : Placed) (f : Slots) (s : StackEffect) → broken (quiet p) e k x f s ≡ broken p e k x f s
  unfolding broken
  broken_kept e k x f s = λ i. first_broken (
      test 1 (rule_1 e f s)
      ∷ test 2 (meet_all_kept s.takes f.stack i)
      ∷ test 3 (all_read_kept e.body.max_locals f.locals s.reads i && can_set e.body.max_locals s.sets)
      ∷ test 4 (is_entered_kept e k x.pc i && (list_all (λ n. fits_at_kept e (after f s) n i) (leads x.form) && (not s.falls || fits_next_kept e (after f s) (slice_get e.body.code (k + 1)) i)))
      ∷ test 5 (rule_5 e k s)
      ∷ test 6 (rule_6 s)
      ∷ test 7 (rule_7 s)
      ∷ test 9 (list_all (λ h. handles_kept e x.pc f h i) e.body.handlers)
      ∷ test 10 (rule_10 e k)
      ∷ test 11 (rule_11 s)
      ∷ [])

  -- ---- what is wrong with an instruction

  passed_on_kept : (e : Environment) (f : Option Slots) (x : Option Placed) → passed_on (quiet p) e f x ≡ passed_on p e f x
  passed_on_kept e (Some f) (Some x) = λ i. passed f (sides_kept e x.pc f x.form i)
  passed_on_kept e _ _ = refl

  incoming_kept : (e : Environment) (k : ℕ) → incoming (quiet p) e k ≡ incoming p e k
  unfolding incoming
  incoming_kept e zero = refl
  incoming_kept e (suc k) = λ i. passed_on_kept e (taken_by e (slice_get e.body.code k) (incoming_kept e k i)) (slice_get e.body.code k) i

  judged_kept : (e : Environment) (k : ℕ) (x : Placed) (f : Option Slots) → judged (quiet p) e k x f ≡ judged p e k x f
  judged_kept e k x None = refl
  judged_kept e k x (Some f) = λ i. breach_of (broken_kept e k x f (sides_kept e x.pc f x.form i) i)

  pub breach_kept : (e : Environment) (k : ℕ) (x : Placed) → breach_at (quiet p) e k x ≡ breach_at p e k x
  unfolding breach_at
  breach_kept e k x = λ i. judged_kept e k x (taken_at e x.pc (incoming_kept e k i)) i
