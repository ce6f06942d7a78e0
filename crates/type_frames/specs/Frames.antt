-- Frames as the rules see them (JVMS 4.10.1.4).
use Rattle.std.specs.Prelude.{ℕ, List, [], ◌∷◌, ◌++◌, length, reverse, replicate, Bool, true, false, nat_eq, ◌-◌, Option, slice_index_or, flat_map}
use Rattle.std.specs.{List.position_from, List.list_any, Str.bytes_eq}
use Rattle.type_frames.specs.declared.vtype.{VType.VType, Frame.Frame}
use Rattle.type_frames.specs.declared.vtype.VType.TheVariants.{Top, Int, Long, Null, Object, UninitThis, Uninit}

-- the types of the locals and of the stack, top first; flag: flagThisUninit, this isn't initialised yet
pub record Slots : Type 0 where
  pub locals : List VType
  pub stack : List VType
  pub flag : Bool

-- two types are one
abbrev pub same : VType → VType → Bool
same Top Top = true
same Int Int = true
same Long Long = true
same Null Null = true
same (Object a) (Object b) = bytes_eq a b
same UninitThis UninitThis = true
same (Uninit a) (Uninit b) = nat_eq a b
same _ _ = false

-- a given frame, its stack seen from the top
abbrev pub slots_of : Frame → Slots
slots_of g = record { locals = g.locals; stack = reverse g.stack; flag = g.flag }

-- the places of a type: a long takes two, the second is Top
abbrev pub places_of : VType → List VType
places_of Long = Long ∷ Top ∷ []
places_of t = t ∷ []

-- types by place
abbrev pub spread : List VType → List VType
spread ts = flat_map places_of ts

-- at least n places, those past the list unknown (JVMS 4.10.1.6)
abbrev pub padded : ℕ → List VType → List VType
padded n ts = ts ++ replicate (n - length ts) Top

abbrev pub holds_this : List VType → Bool
holds_this ts = list_any (λ t. same t UninitThis) ts

abbrev pub top_of : List VType → VType
top_of ts = slice_index_or ts 0 Top

-- where a number stands first in a list
unfoldable pub index_of : ℕ → List ℕ → Option ℕ
index_of n ns = position_from (λ m. nat_eq m n) 0 ns
