-- Stack maps (JVMS 4.7.4): how they are read, and the first fault.
use Rattle.std.specs.Prelude.{ℕ, zero, suc, ◌-◌, ◌%◌, List, [], ◌∷◌, ◌++◌, length, take, Option, Result, Ok, Err, Bool, true, false, not, nat_lt, ◌==◌, ◌&&◌, ◌||◌, if◌then◌else◌}
use Rattle.std.specs.Int.{w8, w16, w32}
use Rattle.class_pool.specs.declared.{fault.Fault.Fault, fault.Fault.TheVariants.BadLength, pool.Entry.Entry}
use Rattle.et_base.specs.Answers.{◌>>=◌, tested}
use Rattle.class_pool.specs.{Reading.number_at, Reading.run_at, Loops.counted, Pool.is_class}
use Rattle.class_reader.specs.{declared.parts.MapType.MapType, declared.parts.MapFrame.MapFrame, declared.parts.MapPart.MapPart, Indices.index_at}

abbrev pub type_of : ℕ → ℕ → MapType
type_of tag arg = record { tag = tag; arg = arg }

abbrev pub frame_of : ℕ → ℕ → List MapType → List MapType → MapFrame
frame_of tag delta locals stack = record { tag = tag; delta = delta; locals = locals; stack = stack }

-- whether an Object type may name this entry; where that isn't checked, it may name any
abbrev pub is_object : Bool → Option Entry → Bool
is_object checked entry = not checked || is_class entry

-- what stands behind a type's tag: behind Object an index, behind Uninitialized an offset; a tag above 8 is none
unfoldable pub tagged_at : Bool → List (Option Entry) → ℕ → ℕ → List ℕ → Result (MapType × List ℕ) Fault
tagged_at checked slots left tag bytes = if nat_lt tag 7 then Ok (type_of tag 0, bytes)
    else if tag == 7 then (do
      index ← index_at (is_object checked) slots bytes
      Ok (type_of tag index.0, index.1))
    else if tag == 8 then (do
      offset ← number_at w16 bytes
      Ok (type_of tag offset.0, offset.1))
    else Err (BadLength left)

unfoldable pub type_at : Bool → List (Option Entry) → ℕ → List ℕ → Result (MapType × List ℕ) Fault
type_at checked slots left bytes = do
  tag ← number_at w8 bytes
  tagged_at checked slots left tag.0 tag.1

-- a number that the tag gives, or that is told behind it
abbrev pub given_at : Bool → ℕ → List ℕ → Result (ℕ × List ℕ) Fault
given_at told given bytes = if told then number_at w16 bytes else Ok (given, bytes)

-- types, of which there are as many as the tag gives or as is told before them
unfoldable pub types_at : Bool → List (Option Entry) → ℕ → Bool → ℕ → List ℕ → Result (List MapType × List ℕ) Fault
types_at checked slots left told given bytes = do
  count ← given_at told given bytes
  counted (λ _ _ b. type_at checked slots left b) [] count.0 count.1

-- the tags 128 to 246 are none
abbrev pub is_frame_tag : ℕ → Bool
is_frame_tag tag = nat_lt tag 128 || nat_lt 246 tag

-- The offset delta of the tags 0 to 127 is in the tag.
abbrev pub tells_delta : ℕ → Bool
tells_delta tag = nat_lt 127 tag

-- same_locals_1_stack_item_frame and same_locals_1_stack_item_frame_extended have one type on the stack
abbrev pub stack_given : ℕ → ℕ
stack_given tag = if tag == 247 || nat_lt 63 tag && nat_lt tag 128 then 1 else 0

-- An entry: append_frame gives its locals by the tag less 251, and full_frame, 255, tells how many of both there are.
unfoldable pub frame_at : Bool → List (Option Entry) → ℕ → List ℕ → Result (MapFrame × List ℕ) Fault
frame_at checked slots left bytes = do
  tag ← number_at w8 bytes
  right ← tested (is_frame_tag tag.0) (BadLength left)
  delta ← given_at (tells_delta tag.0) (tag.0 % 64) tag.1
  locals ← types_at checked slots left (tag.0 == 255) (tag.0 - 251) delta.1
  stack ← types_at checked slots left (tag.0 == 255) (stack_given tag.0) locals.1
  Ok (frame_of tag.0 delta.0 locals.0 stack.0, stack.1)

abbrev pub is_bad_length : Result (MapFrame × List ℕ) Fault → Bool
is_bad_length (Err (BadLength left)) = true
is_bad_length _ = false

-- whether the entry at the front, wherever its indices lead, has a tag that is none within these bytes
unfoldable pub has_bad_tag : List (Option Entry) → List ℕ → Bool
has_bad_tag slots bytes = is_bad_length (frame_at false slots 0 bytes)

-- how many of these bytes, of total at the attribute's content of len bytes, are within it
abbrev pub within : ℕ → ℕ → List ℕ → ℕ
within len total bytes = len - (total - length bytes)

-- what is kept unread, to the attribute's end
unfoldable pub kept_at : List MapFrame → ℕ → List ℕ → Result ((List MapFrame × List ℕ) × List ℕ) Fault
kept_at front n bytes = do
  kept ← run_at n bytes
  Ok ((front, kept.0), kept.1)

-- n more entries behind those of front, up to the first with a bad tag; from there on the bytes are kept
unfoldable pub frames_at : List (Option Entry) → ℕ → ℕ → ℕ → ℕ → List MapFrame → List ℕ → Result ((List MapFrame × List ℕ) × List ℕ) Fault
frames_at slots left len total zero front bytes = Ok ((front, []), bytes)
frames_at slots left len total (suc n) front bytes = if has_bad_tag slots (take (within len total bytes) bytes) then kept_at front (within len total bytes) bytes else (do
  frame ← frame_at true slots left bytes
  frames_at slots left len total n (front ++ frame.0 ∷ []) frame.1)

-- a StackMapTable behind its name
unfoldable pub map_at : List (Option Entry) → List ℕ → Result (MapPart × List ℕ) Fault
map_at slots bytes = do
  len ← number_at w32 bytes
  count ← number_at w16 len.1
  frames ← frames_at slots (length bytes) len.0 (length len.1) count.0 [] count.1
  fits ← tested (length len.1 - length frames.1 == len.0) (BadLength (length bytes))
  Ok (record { count = count.0; frames = frames.0.0; rest = frames.0.1 }, frames.1)
