-- What the built-in methods take and give, by the records that every program has of them.
use Rattle.std.proofs.Common.{◌≡◌, ℕ, ◌<◌, List, [], ◌∷◌, ◌++◌, length, get_or, reverse, filter, Bool, true, false, not, ◌&&◌, ◌||◌, cond, nat_eq, nat_lt, Option, Some, None, refl, sym, ◌∙◌, ap, subst, arith, inl, inr}
use Rattle.std.specs.Prelude.{flat_map, codes}
use Rattle.std.specs.List.{list_all}
use Rattle.std.proofs.lemmas.Bool.{cases_lt, and_parts, or_cases, or_left, or_right, eqb-true, ltb-true}
use Rattle.std.proofs.lemmas.List.{reverse-append, get_or_past, Folds.list_any-append}
use Rattle.jvm_model.specs.declared.{values.Kind.Kind, values.Value.Value, library.Native.Native}
use Rattle.jvm_model.specs.declared.values.Kind.TheVariants as kind
use Rattle.jvm_model.specs.declared.values.Value.TheVariants as value
use Rattle.jvm_model.specs.declared.values.Location.TheVariants as place
use Rattle.jvm_model.specs.declared.library.Native.TheVariants as native
use Rattle.jvm_model.specs.declared.program.{Program.Program, ClassRec.ClassRec, FieldRec.FieldRec, MethodRec.MethodRec}
use Rattle.jvm_model.specs.{World.World, World.size, Descriptors.parameters, Descriptors.return_type, Rows.constant_kind}
use Rattle.jvm_model.specs.Builtin.{object_class, string_class, builder_class, stream_class, throwable_class, message_field, builtin_count}
use Rattle.jvm_model.specs.Library.{builtin_defs, builtin_classes, builtin_fields, builtin_methods}
use Rattle.jvm_model.specs.Classes.{no_class, no_method, class_at, field_at, method_at, is_below, is_static, is_interface, member, upwards, plain_fields, layout_in, layout}
use Rattle.jvm_model.specs.Linked.{Linked, IsClass, IsKind}
use Rattle.jvm_model.specs.Natives.{NativeGroup, of_object, of_string, of_builder, of_system, of_stream, of_files, of_env, of_throwable, native_group}
use Rattle.jvm_model.proofs.{BuiltinRules.builtin_class, BuiltinRules.builtin_field, BuiltinRules.class_keeps, BuiltinRules.method_keeps, Upwards.below_same}
use Rattle.type_frames.specs.declared.vtype.VType.{VType, TheVariants.Int, TheVariants.Long, TheVariants.Object}
use Rattle.type_frames.specs.{Frames.same, Assign.assignable, Descriptors.types_of, Descriptors.name_of, Descriptors.kind_name}
use Rattle.type_frames.specs.TypedState.{kind_at, IsInstance, RefersTo, IsDeclared}
use Rattle.type_frames.proofs.AssignLaws.{assignable_trans}
use Rattle.check_sound.proofs.{Tree.IsSpot, Held.same_is, Arrive.counted_at, Arrive.all_at_index, Ready.Takes, Ready.operand_types, Arrive.own_methods}
use Rattle.check_sound.proofs.Instances.{takes_every, instance_below, instance_itself, below_is}
use Rattle.check_sound.proofs.Thrown.{under_object, builtin_is, is_throwable, thrown}

abbrev pub object_name : List ℕ
object_name = codes "java/lang/Object"

abbrev pub string_name : List ℕ
string_name = codes "java/lang/String"

abbrev pub builder_name : List ℕ
builder_name = codes "java/lang/StringBuilder"

-- the types of the arguments of a built-in method, the last one first
abbrev pub arguments_of : Native → List VType
arguments_of native.ObjectEquals = Object object_name ∷ []
arguments_of native.StringCharAt = Int ∷ []
arguments_of native.StringEquals = Object object_name ∷ []
arguments_of native.StringSubstringFrom = Int ∷ []
arguments_of native.StringSubstring = Int ∷ Int ∷ []
arguments_of native.StringConcat = Object string_name ∷ []
arguments_of native.StringOfInt = Int ∷ []
arguments_of native.StringOfLong = Long ∷ []
arguments_of native.StringOfBoolean = Int ∷ []
arguments_of native.StringOfChar = Int ∷ []
arguments_of native.BuilderInitString = Object string_name ∷ []
arguments_of native.BuilderAppendString = Object string_name ∷ []
arguments_of native.BuilderAppendInt = Int ∷ []
arguments_of native.BuilderAppendLong = Long ∷ []
arguments_of native.BuilderAppendBoolean = Int ∷ []
arguments_of native.BuilderAppendChar = Int ∷ []
arguments_of native.SystemGetProperty = Object string_name ∷ []
arguments_of native.SystemSetProperty = Object string_name ∷ Object string_name ∷ []
arguments_of native.SystemClearProperty = Object string_name ∷ []
arguments_of native.PrintString = Object string_name ∷ []
arguments_of native.PrintInt = Int ∷ []
arguments_of native.PrintLong = Long ∷ []
arguments_of native.PrintBoolean = Int ∷ []
arguments_of native.PrintChar = Int ∷ []
arguments_of native.PrintlnString = Object string_name ∷ []
arguments_of native.PrintlnInt = Int ∷ []
arguments_of native.PrintlnLong = Long ∷ []
arguments_of native.PrintlnBoolean = Int ∷ []
arguments_of native.PrintlnChar = Int ∷ []
arguments_of native.FilesRead = Object string_name ∷ []
arguments_of native.FilesWrite = Object string_name ∷ Object string_name ∷ []
arguments_of native.FilesAppend = Object string_name ∷ Object string_name ∷ []
arguments_of native.FilesDelete = Object string_name ∷ []
arguments_of native.FilesExists = Object string_name ∷ []
arguments_of native.EnvPrint = Int ∷ []
arguments_of native.ThrowableInitString = Object string_name ∷ []
arguments_of native.AssertionInitObject = Object object_name ∷ []
arguments_of native.AssertionInitInt = Int ∷ []
arguments_of native.AssertionInitLong = Long ∷ []
arguments_of native.AssertionInitBoolean = Int ∷ []
arguments_of native.AssertionInitChar = Int ∷ []
arguments_of _ = []

-- the type of its result, where it has one
abbrev pub result_of : Native → List VType
result_of native.ObjectEquals = Int ∷ []
result_of native.ObjectHashCode = Int ∷ []
result_of native.StringLength = Int ∷ []
result_of native.StringIsEmpty = Int ∷ []
result_of native.StringCharAt = Int ∷ []
result_of native.StringEquals = Int ∷ []
result_of native.StringHashCode = Int ∷ []
result_of native.StringSubstringFrom = Object string_name ∷ []
result_of native.StringSubstring = Object string_name ∷ []
result_of native.StringConcat = Object string_name ∷ []
result_of native.StringToString = Object string_name ∷ []
result_of native.StringOfInt = Object string_name ∷ []
result_of native.StringOfLong = Object string_name ∷ []
result_of native.StringOfBoolean = Object string_name ∷ []
result_of native.StringOfChar = Object string_name ∷ []
result_of native.BuilderAppendString = Object builder_name ∷ []
result_of native.BuilderAppendInt = Object builder_name ∷ []
result_of native.BuilderAppendLong = Object builder_name ∷ []
result_of native.BuilderAppendBoolean = Object builder_name ∷ []
result_of native.BuilderAppendChar = Object builder_name ∷ []
result_of native.BuilderLength = Int ∷ []
result_of native.BuilderToString = Object string_name ∷ []
result_of native.SystemClock = Long ∷ []
result_of native.SystemGetProperty = Object string_name ∷ []
result_of native.SystemSetProperty = Object string_name ∷ []
result_of native.SystemClearProperty = Object string_name ∷ []
result_of native.FilesRead = Object string_name ∷ []
result_of native.FilesDelete = Int ∷ []
result_of native.FilesExists = Int ∷ []
result_of native.EnvRandom = Int ∷ []
result_of native.ThrowableGetMessage = Object string_name ∷ []
result_of _ = []

-- the class that has the method, or which the ones that have it are below
abbrev pub home_of : NativeGroup → ℕ
home_of of_object = 0
home_of of_string = 1
home_of of_builder = 2
home_of of_system = 3
home_of of_stream = 4
home_of of_files = 5
home_of of_env = 6
home_of of_throwable = 7

abbrev pub is_fixed_string : Native → Bool
is_fixed_string native.StringOfInt = true
is_fixed_string native.StringOfLong = true
is_fixed_string native.StringOfBoolean = true
is_fixed_string native.StringOfChar = true
is_fixed_string _ = false

-- whether it is static
abbrev pub is_fixed : NativeGroup → Native → Bool
is_fixed of_string x = is_fixed_string x
is_fixed of_system x = true
is_fixed of_files x = true
is_fixed of_env x = true
is_fixed _ x = false

abbrev pub receiver_of : Program → Native → List VType
receiver_of p x = cond (is_fixed (native_group x) x) [] (Object (name_of p (home_of (native_group x))) ∷ [])

-- the types of the operands, the last argument first and the receiver last
abbrev pub takes_of : Program → Native → List VType
takes_of p x = arguments_of x ++ receiver_of p x

-- ---- the table is as it says here

abbrev types_same : List VType → List VType → Bool
types_same [] [] = true
types_same (t ∷ ts) (u ∷ us) = same t u && types_same ts us
types_same _ _ = false

types_same_is : (ts us : List VType) → types_same ts us ≡ true → ts ≡ us
types_same_is [] [] e = refl
types_same_is (t ∷ ts) (u ∷ us) e = let q = and_parts (same t u) (types_same ts us) e in ap {B = List VType} (λ x. x ∷ ts) (same_is t u q.0) ∙ ap {B = List VType} (λ xs. u ∷ xs) (types_same_is ts us q.1)
types_same_is _ _ e = absurd (cc)

abbrev bool_same : Bool → Bool → Bool
bool_same true b = b
bool_same false b = not b

bool_same_is : (a b : Bool) → bool_same a b ≡ true → a ≡ b
bool_same_is true false e = absurd (cc)
bool_same_is false true e = absurd (cc)
bool_same_is _ _ e = refl

abbrev is_home : ℕ → ℕ → Bool
is_home c h = nat_eq c h || (nat_eq h throwable_class && is_throwable c)

abbrev is_as_said : MethodRec → Native → Bool
is_as_said m x = types_same (reverse (flat_map types_of (parameters m.descriptor))) (arguments_of x) && (types_same (types_of (return_type m.descriptor)) (result_of x)
    && (bool_same (is_static m.flags) (is_fixed (native_group x) x) && is_home m.class (home_of (native_group x))))

abbrev if_native : Option Native → MethodRec → Bool
if_native None m = true
if_native (Some x) m = is_as_said m x

all_as_said : list_all (λ m. if_native m.native m) builtin_methods ≡ true
unfolding builtin_methods builtin_classes builtin_defs parameters return_type
all_as_said = refl

module _ (p : Program) (lk : Linked p) where
  -- a built-in method is one of a built-in class, and of the table
  pub native_home : (m : ℕ) (x : Native) → (method_at p m).native ≡ Some x → (m < length p.methods) × ((method_at p m).class < builtin_count)
  native_home m x e = elim (cases_lt m (length p.methods)) [
    | inr n ↦ absurd (let z : None ≡ Some x = sym (ap (λ (r : MethodRec). r.native) (get_or_past p.methods m no_method n)) ∙ e in cc)
    | inl i ↦ (
      i,
      elim (cases_lt (method_at p m).class builtin_count) [
        | inl l ↦ l
        | inr l ↦ absurd (let z : None ≡ Some x = sym (lk.listed.natives m i l) ∙ e in cc)
      ],
    )
  ]

  pub is_in_table : (m : ℕ) (x : Native) → (method_at p m).native ≡ Some x → m < 102
  is_in_table m x e =
      let h = native_home m x e in
      let c = (method_at p m).class in
      let k = counted_at m (class_at p c).methods (lk.listed.methods m h.0) in
      ltb-true m 102 (all_at_index (λ x. nat_lt x 102) (class_at p c).methods k.0 m (class_keeps p lk.builtins (λ c. list_all (λ m. nat_lt m 102) c.methods) own_methods c h.1) k.1)

  home_below : (c h : ℕ) → is_home c h ≡ true → is_below p c h ≡ true
  home_below c h e = elim (or_cases (nat_eq c h) (nat_eq h throwable_class && is_throwable c) e) [
    | inl q ↦ subst (λ (y : ℕ). is_below p y h ≡ true) (sym (eqb-true c h q)) (below_same p h)
    | inr q ↦
        let a = and_parts (nat_eq h throwable_class) (is_throwable c) q in
        subst (λ (y : ℕ). is_below p c y ≡ true) (sym (eqb-true h throwable_class a.0)) (thrown p lk c a.1).1
  ]

  home_is : (g : NativeGroup) → home_of g < 32
  home_is of_object = omega arith
  home_is _ = omega arith

  as_said : (m : ℕ) (x : Native) → (method_at p m).native ≡ Some x → is_as_said (method_at p m) x ≡ true
  as_said m x e = subst (λ (o : Option Native). if_native o (method_at p m) ≡ true) e (method_keeps p lk.builtins (λ m. if_native m.native m) all_as_said m (is_in_table m x e))

  refers_below : (w : World) (a b : List ℕ) (v : Value) → assignable p (Object a) (Object b) ≡ true → RefersTo p w a v → RefersTo p w b v
  refers_below w a b value.Null f h = tt
  refers_below w a b (value.Lit n) f h = (h.0, assignable_trans p lk (Object (kind_name p (constant_kind n))) (Object a) (Object b) h.1 f)
  refers_below w a b (value.Obj o) f h = (h.0, assignable_trans p lk (Object (kind_name p (kind_at w o))) (Object a) (Object b) h.1 f)
  refers_below w a b _ f h = absurd h

  -- a receiver of a class below is one of the class above
  receiver_fits : (w : World) (ts : List VType) (a b : List ℕ) (vs rest : List Value) → ((v : Value) → RefersTo p w a v → RefersTo p w b v) → Takes p w (ts ++ Object a ∷ []) vs rest → Takes p w (ts ++ Object b ∷ []) vs rest
  receiver_fits w [] a b [] rest f h = absurd h
  receiver_fits w [] a b (v ∷ vs) rest f h = (f v h.0, h.1, h.2)
  receiver_fits w (t ∷ ts) a b [] rest f h = absurd h
  receiver_fits w (t ∷ ts) a b (v ∷ vs) rest f h = (h.0, h.1, receiver_fits w ts a b vs rest f h.2)

  -- what a built-in method takes, and what it gives
  pub native_takes : (w : World) (m : ℕ) (x : Native) (vs rest : List Value) → (method_at p m).native ≡ Some x → Takes p w (operand_types p (method_at p m)) vs rest → Takes p w (takes_of p x) vs rest
  native_takes w m x vs rest e h =
      let r = method_at p m in
      let g = native_group x in
      let a = and_parts (types_same (reverse (flat_map types_of (parameters r.descriptor))) (arguments_of x)) _ (as_said m x e) in
      let b = and_parts (types_same (types_of (return_type r.descriptor)) (result_of x)) _ a.1 in
      let c = and_parts (bool_same (is_static r.flags) (is_fixed g x)) (is_home r.class (home_of g)) b.1 in
      let args = types_same_is (reverse (flat_map types_of (parameters r.descriptor))) (arguments_of x) a.0 in
      let q : Takes p w (arguments_of x ++ reverse (cond (is_static r.flags) [] (Object (name_of p r.class) ∷ []))) vs rest =
      subst (λ (ts : List VType). Takes p w (ts ++ reverse (cond (is_static r.flags) [] (Object (name_of p r.class) ∷ []))) vs rest) args
      (subst (λ (ts : List VType). Takes p w ts vs rest) (reverse-append (cond (is_static r.flags) [] (Object (name_of p r.class) ∷ [])) (flat_map types_of (parameters r.descriptor))) h) in
      by (is_fixed g x) (subst (λ (z : Bool). Takes p w (arguments_of x ++ reverse (cond z [] (Object (name_of p r.class) ∷ []))) vs rest) (bool_same_is (is_static r.flags) (is_fixed g x) c.0) q)
      (λ v k. refers_below w (name_of p r.class) (name_of p (home_of g)) v (below_is p lk r.class (home_of g) (builtin_is p lk (home_of g) (home_is g)) (home_below r.class (home_of g) c.1)) k)
    where
      by : (z : Bool) → Takes p w (arguments_of x ++ reverse (cond z [] (Object (name_of p (method_at p m).class) ∷ []))) vs rest
          → ((v : Value) → RefersTo p w (name_of p (method_at p m).class) v → RefersTo p w (name_of p (home_of (native_group x))) v)
          → Takes p w (arguments_of x ++ cond z [] (Object (name_of p (home_of (native_group x))) ∷ [])) vs rest
      by true k f = k
      by false k f = receiver_fits w (arguments_of x) (name_of p (method_at p m).class) (name_of p (home_of (native_group x))) vs rest f k

  pub native_gives : (m : ℕ) (x : Native) → (method_at p m).native ≡ Some x → types_of (return_type (method_at p m).descriptor) ≡ result_of x
  native_gives m x e =
      let r = method_at p m in
      let a = and_parts (types_same (reverse (flat_map types_of (parameters r.descriptor))) (arguments_of x)) _ (as_said m x e) in
      types_same_is (types_of (return_type r.descriptor)) (result_of x) (and_parts (types_same (types_of (return_type r.descriptor)) (result_of x)) _ a.1).0

  -- ---- strings, builders and throwables

  named : (c : ℕ) → c < 32 → name_of p c ≡ (get_or builtin_classes c no_class).name
  named c h = ap (λ (r : ClassRec). r.name) (builtin_class p lk.builtins c h)

  pub string_named : name_of p string_class ≡ string_name
  unfolding builtin_classes builtin_defs
  string_named = named 1 (omega arith)

  pub builder_named : name_of p builder_class ≡ builder_name
  unfolding builtin_classes builtin_defs
  builder_named = named 2 (omega arith)

  -- a kind that is String is a string
  pub string_instance : (k : Kind) → k ≡ kind.Class string_class → IsInstance p k string_name
  string_instance k e = subst (λ (a : List ℕ). IsInstance p k a) string_named (subst (λ (z : Kind). IsInstance p z (name_of p string_class)) (sym e) (instance_itself p lk string_class (builtin_is p lk 1 (omega arith))))

  plain_class : (c : ℕ) → c < 32 → is_interface (get_or builtin_classes c no_class).flags ≡ false → nat_eq c object_class ≡ false → takes_every p c ≡ false
  plain_class c h f n = rw (n, ap (λ (r : ClassRec). is_interface r.flags) (builtin_class p lk.builtins c h), f) refl

  -- what a constant object is an instance of is a class of the program
  pub constant_is_kind : (n : ℕ) → IsKind p (constant_kind n)
  constant_is_kind n = by (nat_eq n 0)
    where
      by : (b : Bool) → IsKind p (kind.Class (cond b stream_class string_class))
      by true = builtin_is p lk 4 (omega arith)
      by false = builtin_is p lk 1 (omega arith)

  -- no constant is one of a class that isn't Object, the stream's or String
  no_constant : (c : ℕ) → IsClass p c → takes_every p c ≡ false → nat_eq c 4 ≡ false → nat_eq c 1 ≡ false → nat_eq c 0 ≡ false → (n : ℕ) → IsInstance p (constant_kind n) (name_of p c) → ⊥
  unfolding is_below builtin_classes builtin_defs
  no_constant c h t f s o n i =
      let b = instance_below p lk (constant_kind n) c (constant_is_kind n) h t i in
      by (nat_eq n 0) b.class b.is b.below
    where
      same_class : {a b : ℕ} → kind.Class a ≡ kind.Class b → a ≡ b
      same_class q = cc

      one : (a : ℕ) → a < 32 → (get_or builtin_classes a no_class).superclass ≡ Some 0 → nat_eq c a ≡ false → is_below p a c ≡ true → ⊥
      one a l e q b = let z : member c (a ∷ 0 ∷ []) ≡ true = subst (λ (xs : List ℕ). member c xs ≡ true) (under_object p lk a l e) b in
          let y = rw (q, o) at z in cc

      by : (x : Bool) → (d : ℕ) → kind.Class (cond x stream_class string_class) ≡ kind.Class d → is_below p d c ≡ true → ⊥
      by true d q b = one 4 (omega arith) refl f (subst (λ (y : ℕ). is_below p y c ≡ true) (sym (same_class q)) b)
      by false d q b = one 1 (omega arith) refl s (subst (λ (y : ℕ). is_below p y c ≡ true) (sym (same_class q)) b)

  pub no_builder : (n : ℕ) → IsInstance p (constant_kind n) (name_of p builder_class) → ⊥
  unfolding builtin_classes builtin_defs
  no_builder n i = no_constant 2 (builtin_is p lk 2 (omega arith)) (plain_class 2 (omega arith) refl refl) refl refl refl n i

  -- Throwable is no interface, and neither Strings nor the stream are throwables
  pub throwable_plain : takes_every p throwable_class ≡ false
  unfolding builtin_classes builtin_defs
  throwable_plain = plain_class 7 (omega arith) refl refl

  pub no_throwable : (n : ℕ) → IsInstance p (constant_kind n) (name_of p throwable_class) → ⊥
  no_throwable n i = no_constant 7 (builtin_is p lk 7 (omega arith)) throwable_plain refl refl refl n i

  -- ---- the message of a throwable

  message_record : field_at p message_field ≡ record { class = 7; name = codes "message"; descriptor = codes "Ljava/lang/String;"; flags = 2; opening = value.Null }
  unfolding builtin_fields builtin_defs
  message_record = builtin_field p lk.builtins 1 (omega arith)

  message_text : (field_at p message_field).descriptor ≡ codes "Ljava/lang/String;"
  message_text = ap (λ (f : FieldRec). f.descriptor) message_record

  own_message : member message_field (plain_fields p throwable_class) ≡ true
  unfolding builtin_classes builtin_defs
  own_message = subst (λ (fs : List ℕ). member message_field (filter (λ g. not (is_static (field_at p g).flags)) fs) ≡ true) (sym (ap (λ (r : ClassRec). r.fields) (builtin_class p lk.builtins 7 (omega arith))))
      (subst (λ (f : FieldRec). member message_field (cond (not (is_static f.flags)) (1 ∷ []) []) ≡ true) (sym message_record) refl)

  -- a field of a class is one of the layout of a class below
  pub laid : (f d : ℕ) (cs : List ℕ) → member d cs ≡ true → member f (plain_fields p d) ≡ true → member f (layout_in p cs) ≡ true
  laid f d [] m h = absurd cc
  laid f d (c ∷ cs) m h = list_any-append (nat_eq f) (layout_in p cs) (plain_fields p c) ∙ elim (or_cases (nat_eq d c) (member d cs) m) [
    | inl e ↦ or_right (member f (layout_in p cs)) (member f (plain_fields p c)) (subst (λ (x : ℕ). member f (plain_fields p x) ≡ true) (eqb-true d c e) h)
    | inr e ↦ or_left (member f (layout_in p cs)) (member f (plain_fields p c)) (laid f d cs e h)
  ]

  -- a class below Throwable has the field
  pub message_of : (c : ℕ) → is_below p c throwable_class ≡ true → member message_field (layout p c) ≡ true
  unfolding is_below layout
  message_of c b = laid message_field throwable_class (upwards p c) b own_message

  pub message_spot : (w : World) (o : ℕ) → o < size w → IsKind p (kind_at w o) → IsInstance p (kind_at w o) (name_of p throwable_class) → IsSpot p w (place.Field o message_field)
  message_spot w o l k i = let b = instance_below p lk (kind_at w o) throwable_class k (builtin_is p lk 7 (omega arith)) throwable_plain i in (b.class, l, b.is, message_of b.class b.below)

  -- its value is null or a string
  pub message_set : (w : World) (v : Value) → RefersTo p w string_name v → IsDeclared p w (field_at p message_field).descriptor v
  message_set w v h = subst (λ (d : List ℕ). IsDeclared p w d v) (sym message_text) (by v h)
    where
      by : (v : Value) → RefersTo p w string_name v → IsDeclared p w (codes "Ljava/lang/String;") v
      by (value.Int n) h = absurd h
      by (value.Long n) h = absurd h
      by _ h = h

  pub message_got : (w : World) (v : Value) → IsDeclared p w (field_at p message_field).descriptor v → RefersTo p w string_name v
  message_got w v h = by v (subst (λ (d : List ℕ). IsDeclared p w d v) message_text h)
    where
      by : (v : Value) → IsDeclared p w (codes "Ljava/lang/String;") v → RefersTo p w string_name v
      by (value.Int n) h = absurd (let z : false ≡ true = h in cc)
      by (value.Long n) h = absurd (let z : 76 ≡ 74 = h in omega arith)
      by _ h = h
