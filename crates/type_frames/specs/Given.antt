-- The frames that a method's stack map gives (JVMS 4.7.4 and 4.10.1.5), or none where the map is malformed.
use Rattle.std.specs.Prelude.{ℕ, List, [], ◌∷◌, ◌++◌, length, take, map, Bool, true, false, not, ◌&&◌, ◌||◌, nat_eq, nat_lt, nat_le, ◌+◌, ◌-◌, Option, Some, None, flat_map, is_some}
use Rattle.std.specs.Str.{bytes_eq}
use Rattle.jvm_model.specs.declared.program.{Program.Program, MethodRec.MethodRec, Body.Body, Placed.Placed, FrameRec.FrameRec, TypeRec.TypeRec}
use Rattle.jvm_model.specs.declared.program.TypeRec.TheVariants as entry
use Rattle.jvm_model.specs.{Classes.is_static, Classes.init_name, Descriptors.parameters}
use Rattle.type_frames.specs.declared.vtype.{VType.VType, Frame.Frame}
use Rattle.type_frames.specs.declared.vtype.VType.TheVariants.{Top, Int, Long, Null, Object, UninitThis, Uninit}
use Rattle.type_frames.specs.{Frames.spread, Frames.padded, Frames.holds_this, Frames.index_of, Descriptors.types_of, Descriptors.name_of}

-- an instance method `<init>`; a static one is an ordinary method
abbrev pub is_constructor : MethodRec → Bool
is_constructor m = not (is_static m.flags) && bytes_eq m.name init_name

-- the type of `this`, if there is one
abbrev pub this_types : Program → MethodRec → List VType
this_types p m = elim (is_static m.flags) [ true ↦ [] | false ↦ elim (is_constructor m) [ true ↦ UninitThis ∷ [] | false ↦ Object (name_of p m.class) ∷ [] ] ]

-- the types with which a method is entered, a long as one (JVMS 4.10.1.6)
abbrev pub entry_types : Program → MethodRec → List VType
entry_types p m = this_types p m ++ flat_map types_of (parameters m.descriptor)

-- a type of a stack map entry (JVMS 4.7.4); none for float, double and tags past the last
abbrev pub plain_type : ℕ → Option VType
plain_type t = elim (nat_eq t 0) [
  | true ↦ Some Top
  | false ↦
      elim (nat_eq t 1) [
        | true ↦ Some Int
        | false ↦
            elim (nat_eq t 4) [
              | true ↦ Some Long
              | false ↦
                  elim (nat_eq t 5) [
                    | true ↦ Some Null
                    | false ↦
                        elim (nat_eq t 6) [ true ↦ Some UninitThis | false ↦ None ]
                  ]
            ]
      ]
]

abbrev pub type_of : TypeRec → Option VType
type_of (entry.Plain t) = plain_type t
type_of (entry.Object name) = Some (Object name)
type_of (entry.Uninit pc) = Some (Uninit pc)

-- a list with one more in front, if both are there
abbrev pub joined : {A : Type 0} → Option A → Option (List A) → Option (List A)
joined None xs = None
joined (Some x) None = None
joined (Some x) (Some xs) = Some (x ∷ xs)

abbrev pub all_types : List TypeRec → Option (List VType)
all_types [] = Some []
all_types (r ∷ rs) = joined (type_of r) (all_types rs)

-- without the last k, if there are so many
abbrev pub chopped : List VType → ℕ → Option (List VType)
chopped ts k = elim (nat_le k (length ts)) [ true ↦ Some (take (length ts - k) ts) | false ↦ None ]

-- with further ones, if they stay within the locals
abbrev pub appended : ℕ → List VType → Option (List VType) → Option (List VType)
appended most ts None = None
appended most ts (Some us) = elim (nat_le (length (spread (ts ++ us))) most) [ true ↦ Some (ts ++ us) | false ↦ None ]

-- the locals of an entry after those of the entry before it
unfoldable pub locals_after : ℕ → List VType → FrameRec → Option (List VType)
locals_after most ts f = elim (nat_lt f.tag 128 || (nat_eq f.tag 247 || nat_eq f.tag 251)) [
  | true ↦ Some ts
  | false ↦
      elim (nat_lt f.tag 247) [
        | true ↦ None
        | false ↦
            elim (nat_lt f.tag 251) [
              | true ↦ chopped ts (251 - f.tag)
              | false ↦
                  elim (nat_lt f.tag 255) [ true ↦ appended most ts (all_types f.locals) | false ↦ all_types f.locals ]
            ]
      ]
]

-- the places of the instructions
abbrev pub places : List Placed → List ℕ
places code = map (λ x. x.pc) code

abbrev pub is_place : List Placed → ℕ → Bool
is_place code pc = is_some (index_of pc (places code))

abbrev pub frame_at : ℕ → ℕ → List VType → List VType → Frame
frame_at most pc locals stack = record { pc = pc; locals = padded most (spread locals); stack = spread stack; flag = holds_this locals }

-- a frame at a place, if an instruction stands there, its stack and what comes after it are there
abbrev pub frame_then : Body → ℕ → List VType → Option (List VType) → Option (List Frame) → Option (List Frame)
frame_then b pc locals None rest = None
frame_then b pc locals (Some stack) rest = elim (is_place b.code pc) [ true ↦ joined (Some (frame_at b.max_locals pc locals stack)) rest | false ↦ None ]

-- the frames of the entries from one on; least: the least place that its offset delta leads to
abbrev pub frames_from : Body → ℕ → List VType → List FrameRec → Option (List Frame)
frames_from b least ts [] = Some []
frames_from b least ts (f ∷ fs) = elim (locals_after b.max_locals ts f) [
  | None ↦ None
  | Some us ↦ frame_then b (least + f.delta) us (all_types f.stack) (frames_from b (least + f.delta + 1) us fs)
]

unfoldable pub body_frames : Body → List VType → Option (List Frame)
body_frames b ts = elim b.malformed [ true ↦ None | false ↦ frames_from b 0 ts b.frames ]

-- the given frames of a method; of one without code there are none, and its map isn't malformed
unfoldable pub given_frames : Program → MethodRec → Option (List Frame)
given_frames p m = elim m.body [ None ↦ Some [] | Some b ↦ body_frames b (entry_types p m) ]
