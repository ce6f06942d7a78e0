-- What each instruction needs and leaves (JVMS 4.10.1.9): the table of the check.
use Rattle.std.specs.Prelude.{ℕ, List, [], ◌∷◌, ◌++◌, length, reverse, replicate, Bool, true, false, not, ◌&&◌, ◌||◌, cond, nat_eq, ◌+◌, Option, Some, None, slice_index_or, flat_map}
use Rattle.std.specs.{List.list_any, Str.bytes_eq}
use Rattle.jvm_model.specs.declared.{values.Value.Value, values.Kind.Kind, program.Program.Program, program.MethodRec.MethodRec, program.FieldRec.FieldRec}
use Rattle.jvm_model.specs.declared.values.Value.TheVariants as value
use Rattle.jvm_model.specs.declared.instr.{Instr.Instr, Sort.Sort, Cell.Cell, Op.Op, Conv.Conv}
use Rattle.jvm_model.specs.declared.instr.Instr.TheVariants as form
use Rattle.jvm_model.specs.declared.instr.Sort.TheVariants as sort
use Rattle.jvm_model.specs.declared.instr.Cell.TheVariants as cell
use Rattle.jvm_model.specs.declared.instr.Op.TheVariants as op
use Rattle.jvm_model.specs.declared.instr.Conv.TheVariants as conv
use Rattle.jvm_model.specs.Classes.{class_at, field_at, method_at, init_name, clinit_name}
use Rattle.jvm_model.specs.{Descriptors.parameters, Descriptors.return_type, Builtin.object_class, Builtin.string_class, Builtin.throwable_class}
use Rattle.type_frames.specs.declared.{vtype.VType.VType, stack_effect.OperandConstraint.OperandConstraint, stack_effect.Reading.Reading}
use Rattle.type_frames.specs.declared.vtype.VType.TheVariants.{Top, Int, Long, Null, Object, UninitThis, Uninit}
use Rattle.type_frames.specs.declared.stack_effect.{LocalUpdate.LocalUpdate, Substitution.TheVariants.Keep, Substitution.TheVariants.All}
use Rattle.type_frames.specs.declared.stack_effect.OperandConstraint.TheVariants.{Fits, One, Half, Ref, Raw, Small, Array, Never}
use Rattle.type_frames.specs.{declared.stack_effect.StackEffect.StackEffect, Frames.Slots, Frames.same, Frames.spread}
use Rattle.type_frames.specs.{Descriptors.types_of, Descriptors.class_name, Descriptors.name_of, Descriptors.kind_name, Assign.assignable}
use Rattle.type_frames.specs.Environment.{Environment, made_at}

abbrev pub plain : List OperandConstraint → List VType → StackEffect
plain ts gs = record { takes = ts; gives = gs; reads = []; sets = []; turn = Keep; falls = true; returns_well = true; starts_well = true; calls_well = true }

abbrev pub reading : ℕ → OperandConstraint → Reading
reading n r = record { local = n; need = r }

abbrev pub setting : ℕ → VType → LocalUpdate
setting n t = record { local = n; to = t }

-- the reference type of a class
abbrev pub object_of : Program → ℕ → VType
object_of p c = Object (name_of p c)

-- the type of place n of the stack, from its top
abbrev pub place_of : Slots → ℕ → VType
place_of f n = slice_index_or f.stack n Top

-- types as they stand on the stack, top first
abbrev pub on_stack : List VType → List VType
on_stack ts = reverse (spread ts)

-- the needs of a value of a type's text, top first; nothing is a float or a double
abbrev pub needs_of : List ℕ → List OperandConstraint
needs_of [] = []
needs_of (u ∷ us) = elim (nat_eq u 74) [
  | true ↦ Half ∷ Fits Long ∷ []
  | false ↦
      elim (nat_eq u 76) [
        | true ↦ Fits (Object (class_name us)) ∷ []
        | false ↦
            elim (nat_eq u 91) [
              | true ↦ Fits (Object (u ∷ us)) ∷ []
              | false ↦
                  elim (nat_eq u 86) [
                    | true ↦ []
                    | false ↦
                        elim (nat_eq u 70) [
                          | true ↦ Never ∷ []
                          | false ↦
                              elim (nat_eq u 68) [ true ↦ Never ∷ Never ∷ [] | false ↦ Fits Int ∷ [] ]
                        ]
                  ]
            ]
      ]
]

abbrev pub long_need : List OperandConstraint
long_need = Half ∷ Fits Long ∷ []

abbrev pub long_type : List VType
long_type = Top ∷ Long ∷ []

abbrev pub int_need : List OperandConstraint
int_need = Fits Int ∷ []

abbrev pub int_type : List VType
int_type = Int ∷ []

-- Moves of the stack. Two places are a long or two values of one place each.

abbrev pub two : VType → List OperandConstraint
two t = cond (same t Top) long_need (One ∷ One ∷ [])

abbrev pub dup_sides : VType → StackEffect
dup_sides t = plain (One ∷ []) (t ∷ t ∷ [])

abbrev pub dup_x1_sides : VType → VType → StackEffect
dup_x1_sides t u = plain (One ∷ One ∷ []) (t ∷ u ∷ t ∷ [])

abbrev pub dup_x2_sides : VType → VType → VType → StackEffect
dup_x2_sides t u v = plain (One ∷ two u) (t ∷ u ∷ v ∷ t ∷ [])

abbrev pub dup2_sides : VType → VType → StackEffect
dup2_sides t u = plain (two t) (t ∷ u ∷ t ∷ u ∷ [])

abbrev pub dup2_x1_sides : VType → VType → VType → StackEffect
dup2_x1_sides t u v = plain (two t ++ One ∷ []) (t ∷ u ∷ v ∷ t ∷ u ∷ [])

abbrev pub dup2_x2_sides : VType → VType → VType → VType → StackEffect
dup2_x2_sides t u v w = plain (two t ++ two v) (t ∷ u ∷ v ∷ w ∷ t ∷ u ∷ [])

abbrev pub swap_sides : VType → VType → StackEffect
swap_sides t u = plain (One ∷ One ∷ []) (u ∷ t ∷ [])

-- Constants and arithmetic.

abbrev pub const_type : Program → Value → List VType
const_type p (value.Int n) = int_type
const_type p (value.Long n) = long_type
const_type p value.Null = Null ∷ []
const_type p (value.Lit n) = object_of p string_class ∷ []
const_type p (value.Obj o) = Top ∷ []

-- a whole number of either width
abbrev pub number_need : Bool → List OperandConstraint
number_need wide = cond wide long_need int_need

abbrev pub number_type : Bool → List VType
number_type wide = cond wide long_type int_type

-- what stands on top as the second operand: an int for a shift of longs too
abbrev pub second_need : Op → Bool → List OperandConstraint
second_need op.Shl wide = int_need
second_need op.Shr wide = int_need
second_need op.Ushr wide = int_need
second_need _ wide = number_need wide

abbrev pub convert_sides : Conv → StackEffect
convert_sides conv.I2l = plain int_need long_type
convert_sides conv.L2i = plain long_need int_type
convert_sides _ = plain int_need int_type

-- Loads, stores and iinc. A long has two places (JVMS 2.6.1). Its second one is set first: a place that is set cuts the long before it.

abbrev pub load_sides : Slots → Sort → ℕ → StackEffect
load_sides f sort.Int n = record (plain [] int_type) { reads = reading n (Fits Int) ∷ [] }
load_sides f sort.Long n = record (plain [] long_type) { reads = reading n (Fits Long) ∷ reading (n + 1) Half ∷ [] }
load_sides f sort.Ref n = record (plain [] (slice_index_or f.locals n Top ∷ [])) { reads = reading n Ref ∷ [] }

abbrev pub store_sides : Slots → Sort → ℕ → StackEffect
store_sides f sort.Int n = record (plain int_need []) { sets = setting n Int ∷ [] }
store_sides f sort.Long n = record (plain long_need []) { sets = setting (n + 1) Top ∷ setting n Long ∷ [] }
store_sides f sort.Ref n = record (plain (Ref ∷ []) []) { sets = setting n (place_of f 0) ∷ [] }

abbrev pub inc_sides : ℕ → StackEffect
inc_sides n = record (plain [] []) { reads = reading n (Fits Int) ∷ [] }

-- Branches, returns and athrow. Where any reference would do, an uninitialised one is no good.

abbrev pub is_raw : VType → Bool
is_raw UninitThis = true
is_raw (Uninit pc) = true
is_raw _ = false

abbrev pub ref_sides : VType → StackEffect
ref_sides t = record (plain (Ref ∷ []) []) { starts_well = not (is_raw t) }

abbrev pub refs_sides : VType → VType → StackEffect
refs_sides t u = record (plain (Ref ∷ Ref ∷ []) []) { starts_well = not (is_raw t) && not (is_raw u) }

-- control doesn't go on at the next instruction
abbrev pub leaving : StackEffect → StackEffect
leaving s = record s { falls = false }

abbrev pub returns : List OperandConstraint → Bool → StackEffect
returns ts well = record (plain ts []) { falls = false; returns_well = well }

-- what is returned is of a type that the descriptor has
abbrev pub return_typed : List VType → Bool → Option Sort → StackEffect
return_typed [] early None = returns [] (not early)
return_typed (Int ∷ []) early (Some sort.Int) = returns int_need (not early)
return_typed (Long ∷ []) early (Some sort.Long) = returns long_need (not early)
return_typed (Object a ∷ []) early (Some sort.Ref) = returns (Fits (Object a) ∷ []) (not early)
return_typed _ early None = returns [] false
return_typed _ early (Some sort.Int) = returns int_need false
return_typed _ early (Some sort.Long) = returns long_need false
return_typed _ early (Some sort.Ref) = returns (Ref ∷ []) false

-- an `<init>` doesn't return before it called another one for its object
abbrev pub return_sides : Environment → Slots → Option Sort → StackEffect
return_sides e f s = return_typed e.result (e.starts && f.flag) s

-- Fields.

-- The object of a putfield: before its `<init>` called another one, also `this` of an `<init>`, where the class that the
-- entry names and the class that declares the field are both the current one (JVMS 4.10.1.9, putfield).
abbrev pub owner_need : Program → Environment → ℕ → FieldRec → VType → OperandConstraint
owner_need p e named x t = cond (same t UninitThis && (nat_eq named e.class && nat_eq x.class e.class)) (Fits UninitThis) (Fits (object_of p named))

abbrev pub put_field_sides : Program → Environment → Slots → ℕ → FieldRec → StackEffect
put_field_sides p e f named x = plain (needs_of x.descriptor ++ owner_need p e named x (place_of f (length (needs_of x.descriptor))) ∷ []) []

-- Calls.

-- the needs of a call's arguments, top first
abbrev pub argument_needs : List ℕ → List OperandConstraint
argument_needs d = flat_map needs_of (reverse (parameters d))

abbrev pub result_types : List ℕ → List VType
result_types d = on_stack (types_of (return_type d))

-- a call with these needs of its receiver; `<clinit>` and `<init>` aren't called so
abbrev pub call_sides : MethodRec → List OperandConstraint → StackEffect
call_sides m receiver = record (plain (argument_needs m.descriptor ++ receiver) (result_types m.descriptor)) { calls_well = not (bytes_eq m.name clinit_name || bytes_eq m.name init_name) }

-- The receiver of invokespecial is of the current class, which is the named one or below it.
abbrev pub special_need : Program → Environment → Kind → OperandConstraint
special_need p e named = cond (assignable p (object_of p e.class) (Object (kind_name p named))) (Fits (object_of p e.class)) Never

-- the class is this one, if there is one
abbrev pub is_that : ℕ → Option ℕ → Bool
is_that c None = false
is_that c (Some d) = nat_eq c d

-- whether an `<init>` of the class may start this: what a `new` of the class made, or `this` of an `<init>` where the
-- class is the current one or its superclass
abbrev pub is_start : Program → Environment → ℕ → VType → Bool
is_start p e c (Uninit pc) = is_that c (made_at e pc)
is_start p e c UninitThis = nat_eq c e.class || is_that c (class_at p e.class).superclass
is_start p e c _ = false

abbrev pub started : Program → Environment → ℕ → VType → VType
started p e c UninitThis = object_of p e.class
started p e c t = object_of p c

abbrev pub init_sides : Program → Environment → Slots → MethodRec → VType → StackEffect
init_sides p e f m t = record (plain (argument_needs m.descriptor ++ Raw ∷ []) (result_types m.descriptor)) { turn = All t (started p e m.class t); starts_well = is_start p e m.class t }

abbrev pub special_sides : Program → Environment → Slots → Kind → MethodRec → StackEffect
special_sides p e f named m = elim (bytes_eq m.name init_name) [
  | true ↦ init_sides p e f m (place_of f (length (argument_needs m.descriptor)))
  | false ↦ call_sides m (special_need p e named ∷ [])
]

-- Objects and arrays.

abbrev pub is_unset : List VType → ℕ → Bool
is_unset ts pc = not (list_any (λ t. same t (Uninit pc)) ts)

-- no local keeps what an earlier `new` at this place made, and no place of the stack may
abbrev pub new_sides : Slots → ℕ → StackEffect
new_sides f pc = record (plain [] (Uninit pc ∷ [])) { turn = All (Uninit pc) Top; starts_well = is_unset f.stack pc }

-- the array type of one dimension over Object
abbrev pub objects_text : Program → List ℕ
objects_text p = 91 ∷ 76 ∷ (name_of p object_class ++ 59 ∷ [])

-- the array that a load or a store works on
abbrev pub array_need : Program → Cell → OperandConstraint
array_need p cell.Int = Fits (Object (91 ∷ 73 ∷ []))
array_need p cell.Long = Fits (Object (91 ∷ 74 ∷ []))
array_need p cell.Ref = Fits (Object (objects_text p))
array_need p cell.Byte = Small
array_need p cell.Char = Fits (Object (91 ∷ 67 ∷ []))
array_need p cell.Short = Fits (Object (91 ∷ 83 ∷ []))

-- the type of the elements of an array of references; null's are null
abbrev pub element_type : VType → VType
element_type (Object []) = Top
element_type (Object (u ∷ [])) = Top
element_type (Object (u ∷ w ∷ ws)) = elim (nat_eq w 76) [ true ↦ Object (class_name ws) | false ↦ Object (w ∷ ws) ]
element_type t = t

-- what a load from an array gives
abbrev pub loaded : Slots → Cell → List VType
loaded f cell.Long = long_type
loaded f cell.Ref = element_type (place_of f 1) ∷ []
loaded f _ = int_type

-- what a store into an array takes
abbrev pub stored : Program → Cell → List OperandConstraint
stored p cell.Long = long_need
stored p cell.Ref = Fits (object_of p object_class) ∷ []
stored p _ = int_need

-- The table. Loads, stores and moves of references, putfield, `<init>` and aaload look at the frame too.
unfoldable pub sides : Program → Environment → ℕ → Slots → Instr → StackEffect
sides p e pc f form.Nop = plain [] []
sides p e pc f (form.Const v) = plain [] (const_type p v)
sides p e pc f (form.Load x n) = load_sides f x n
sides p e pc f (form.Store x n) = store_sides f x n
sides p e pc f (form.ArrayLoad x) = plain (Fits Int ∷ array_need p x ∷ []) (loaded f x)
sides p e pc f (form.ArrayStore x) = plain (stored p x ++ (Fits Int ∷ array_need p x ∷ [])) []
sides p e pc f form.Pop = plain (One ∷ []) []
sides p e pc f form.Pop2 = plain (two (place_of f 0)) []
sides p e pc f form.Dup = dup_sides (place_of f 0)
sides p e pc f form.DupX1 = dup_x1_sides (place_of f 0) (place_of f 1)
sides p e pc f form.DupX2 = dup_x2_sides (place_of f 0) (place_of f 1) (place_of f 2)
sides p e pc f form.Dup2 = dup2_sides (place_of f 0) (place_of f 1)
sides p e pc f form.Dup2X1 = dup2_x1_sides (place_of f 0) (place_of f 1) (place_of f 2)
sides p e pc f form.Dup2X2 = dup2_x2_sides (place_of f 0) (place_of f 1) (place_of f 2) (place_of f 3)
sides p e pc f form.Swap = swap_sides (place_of f 0) (place_of f 1)
sides p e pc f (form.Binary x wide) = plain (second_need x wide ++ number_need wide) (number_type wide)
sides p e pc f (form.Neg wide) = plain (number_need wide) (number_type wide)
sides p e pc f (form.Inc n by) = inc_sides n
sides p e pc f (form.Convert x) = convert_sides x
sides p e pc f form.Compare = plain (long_need ++ long_need) int_type
sides p e pc f (form.IfZero test to) = plain int_need []
sides p e pc f (form.IfInts test to) = plain (int_need ++ int_need) []
sides p e pc f (form.IfRefs equal to) = refs_sides (place_of f 0) (place_of f 1)
sides p e pc f (form.IfNull null to) = ref_sides (place_of f 0)
sides p e pc f (form.Goto to) = leaving (plain [] [])
sides p e pc f (form.Table low targets other) = leaving (plain int_need [])
sides p e pc f (form.Lookup pairs other) = leaving (plain int_need [])
sides p e pc f (form.Return x) = return_sides e f x
sides p e pc f (form.GetStatic n) = plain [] (on_stack (types_of (field_at p n).descriptor))
sides p e pc f (form.PutStatic n) = plain (needs_of (field_at p n).descriptor) []
sides p e pc f (form.GetField c n) = plain (Fits (object_of p c) ∷ []) (on_stack (types_of (field_at p n).descriptor))
sides p e pc f (form.PutField c n) = put_field_sides p e f c (field_at p n)
sides p e pc f (form.InvokeVirtual k n) = call_sides (method_at p n) (Fits (Object (kind_name p k)) ∷ [])
sides p e pc f (form.InvokeSpecial k n) = special_sides p e f k (method_at p n)
sides p e pc f (form.InvokeStatic n) = call_sides (method_at p n) []
sides p e pc f (form.InvokeInterface c n) = call_sides (method_at p n) (Fits (object_of p c) ∷ [])
sides p e pc f (form.New c) = new_sides f pc
sides p e pc f (form.NewArray k) = plain int_need (Object (kind_name p k) ∷ [])
sides p e pc f (form.MultiNewArray k n) = plain (replicate n (Fits Int)) (Object (kind_name p k) ∷ [])
sides p e pc f form.ArrayLength = plain (Array ∷ []) int_type
sides p e pc f form.Throw = leaving (plain (Fits (object_of p throwable_class) ∷ []) [])
sides p e pc f (form.CheckCast k) = plain (Fits (object_of p object_class) ∷ []) (Object (kind_name p k) ∷ [])
sides p e pc f (form.InstanceOf k) = plain (Fits (object_of p object_class) ∷ []) int_type
sides p e pc f form.Monitor = ref_sides (place_of f 0)
