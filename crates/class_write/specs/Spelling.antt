-- The bytes of a class file as they are written: the pool as it is, and of the attributes Code, ConstantValue and StackMapTable alone.
use Rattle.std.specs.Prelude.{ℕ, List, [], ◌++◌, length, Option, Some, None, unwrap_or, codes, ◌==◌, ◌||◌, if◌then◌else◌}
use Rattle.std.specs.{List.flat_map, Int.w8, Int.w16, Int.w32, Int.to_be_bytes}
use Rattle.class_pool.specs.{declared.pool.Entry.Entry, PoolGrammar.pool_spelling}
use Rattle.code_decode.specs.{declared.decoding.Code.Code, Spelling.code_spelling}
use Rattle.class_reader.specs.declared.parts.{RawHandler.RawHandler, MapType.MapType, MapFrame.MapFrame, MapPart.MapPart, CodePart.CodePart}
use Rattle.class_reader.specs.{declared.parts.MemberPart.MemberPart, declared.parts.ClassParts.ClassParts, Texts.first_from, Maps.tells_delta}
use Rattle.class_write.specs.declared.names.Names.{Names}

-- ---- parts that many places have

abbrev pub short_bytes : ℕ → List ℕ
short_bytes n = to_be_bytes w16 n

-- items, and how many there are before them
abbrev pub listed_bytes : {A : Type 0} → (A → List ℕ) → List A → List ℕ
listed_bytes view xs = short_bytes (length xs) ++ flat_map view xs

-- a content, and its length before it
abbrev pub sized_bytes : List ℕ → List ℕ
sized_bytes content = to_be_bytes w32 (length content) ++ content

-- the attributes of one place: one of this name, or none
abbrev pub attribute_bytes : {A : Type 0} → ℕ → (A → List ℕ) → Option A → List ℕ
attribute_bytes name view None = short_bytes 0
attribute_bytes name view (Some x) = short_bytes 1 ++ (short_bytes name ++ sized_bytes (view x))

-- the index of the first entry that is this text, or 0
abbrev pub index_of : List (Option Entry) → List ℕ → ℕ
index_of slots text = unwrap_or (first_from 1 slots text) 0

-- the indices of the attributes' names in a pool with these slots
abbrev pub names_of : List (Option Entry) → Names
names_of slots = record { constant_value = index_of slots (codes "ConstantValue"); code = index_of slots (codes "Code"); stack_map = index_of slots (codes "StackMapTable") }

-- ---- stack maps (JVMS 4.7.4)

-- Behind Object stands an index, and behind Uninitialized an offset.
abbrev pub type_bytes : MapType → List ℕ
type_bytes t = to_be_bytes w8 t.tag ++ (if t.tag == 7 || t.tag == 8 then short_bytes t.arg else [])

-- types, with their number where it is told
abbrev pub types_bytes : ℕ → List MapType → List ℕ
types_bytes tag types = (if tag == 255 then short_bytes (length types) else []) ++ flat_map type_bytes types

abbrev pub frame_bytes : MapFrame → List ℕ
frame_bytes f = to_be_bytes w8 f.tag ++ ((if tells_delta f.tag then short_bytes f.delta else []) ++ (types_bytes f.tag f.locals ++ types_bytes f.tag f.stack))

abbrev pub map_bytes : MapPart → List ℕ
map_bytes m = short_bytes m.count ++ (flat_map frame_bytes m.frames ++ m.rest)

-- ---- Code (JVMS 4.7.3)

abbrev pub handler_bytes : RawHandler → List ℕ
handler_bytes h = (short_bytes h.from ++ short_bytes h.to) ++ (short_bytes h.at ++ short_bytes h.catch_class)

-- the instructions, and their length before them
abbrev pub run_bytes : Code → List ℕ
run_bytes code = to_be_bytes w32 code.length ++ code_spelling code

abbrev pub part_bytes : Names → CodePart → List ℕ
part_bytes names p = short_bytes p.max_stack ++ (short_bytes p.max_locals ++ (run_bytes p.code ++ (listed_bytes handler_bytes p.handlers ++ attribute_bytes names.stack_map map_bytes p.map)))

-- ---- members and the file (JVMS 4.1, 4.5 and 4.6)

abbrev pub member_bytes : MemberPart → List ℕ → List ℕ
member_bytes m attributes = short_bytes m.flags ++ (short_bytes m.name ++ (short_bytes m.descriptor ++ attributes))

abbrev pub field_bytes : Names → MemberPart → List ℕ
field_bytes names m = member_bytes m (attribute_bytes names.constant_value short_bytes m.constant)

abbrev pub method_bytes : Names → MemberPart → List ℕ
method_bytes names m = member_bytes m (attribute_bytes names.code (part_bytes names) m.code)

-- the magic number and the version
abbrev pub head_bytes : ClassParts → List ℕ
head_bytes c = to_be_bytes w32 3405691582 ++ (short_bytes c.minor ++ short_bytes c.major)

-- the fields, the methods, and no attribute behind them
abbrev pub members_bytes : Names → ClassParts → List ℕ
members_bytes names c = listed_bytes (field_bytes names) c.fields ++ (listed_bytes (method_bytes names) c.methods ++ short_bytes 0)

abbrev pub body_bytes : ClassParts → List ℕ
body_bytes c = short_bytes c.flags ++ (short_bytes c.this_class ++ (short_bytes c.super_class ++ (listed_bytes short_bytes c.interfaces ++ members_bytes (names_of c.pool) c)))

abbrev pub class_spelling : ClassParts → List ℕ
class_spelling c = head_bytes c ++ (pool_spelling c.pool ++ body_bytes c)
