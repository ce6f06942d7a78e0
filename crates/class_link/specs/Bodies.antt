-- The code of a method, its references resolved (JVMS 4.7.3 and 4.7.4).
use Rattle.std.specs.Prelude.{ℕ, zero, suc, List, [], length, map, Option, Some, None, Bool, false, cond, nat_eq, nat_lt, slice_index_or, ◌==◌, if◌then◌else◌}
use Rattle.class_pool.specs.{declared.pool.Entry.Entry, Pool.entry_of}
use Rattle.code_decode.specs.declared.instructions.RawOp.{RawOp}
use Rattle.class_reader.specs.declared.parts.{CodePart.CodePart, RawHandler.RawHandler, MapPart.MapPart, MapFrame.MapFrame, MapType.MapType}
use Rattle.jvm_model.specs.declared.program.{Body.Body, Placed.Placed, Handler.Handler, FrameRec.FrameRec, TypeRec.TypeRec}
use Rattle.jvm_model.specs.declared.program.TypeRec.TheVariants.{Plain, Object, Uninit}
use Rattle.code_forms.specs.{declared.references.Target.Target, Operands.index_in, Forms.form_of}
use Rattle.class_link.specs.{ClassNames.name_at, ClassNames.number_or_first, References.LinkEnvironment, References.target_of}

-- what the entries of a pool stand for, from index 1 on, and the one of an index
abbrev pub targets : LinkEnvironment → List (Option Entry) → List (Option Target)
targets s slots = map (target_of s slots) slots

abbrev pub target_in : List (Option Target) → ℕ → Option Target
target_in ts zero = None
target_in ts (suc i) = slice_index_or ts i None

-- an instruction whose pool entry, if it names one, stands for this target
abbrev pub placed_by : Option Target → RawOp → Placed
placed_by t o = record { pc = o.pc; form = form_of t o }

abbrev pub placed : LinkEnvironment → List (Option Entry) → RawOp → Placed
placed s slots o = placed_by (target_of s slots (entry_of slots (index_in o))) o

abbrev pub caught : List (List ℕ) → List (Option Entry) → ℕ → Option ℕ
caught names slots i = cond (nat_eq i 0) None (Some (number_or_first names (name_at slots i)))

abbrev pub handler_rec : List (List ℕ) → List (Option Entry) → RawHandler → Handler
handler_rec names slots h = record { from = h.from; to = h.to; at = h.at; catches = caught names slots h.catch_class }

abbrev pub type_rec : List (Option Entry) → MapType → TypeRec
type_rec slots t = if t.tag == 7 then Object (name_at slots t.arg) else if t.tag == 8 then Uninit t.arg else Plain t.tag

abbrev pub frame_rec : List (Option Entry) → MapFrame → FrameRec
frame_rec slots f = record { tag = f.tag; delta = f.delta; locals = map (type_rec slots) f.locals; stack = map (type_rec slots) f.stack }

abbrev pub frame_recs : List (Option Entry) → Option MapPart → List FrameRec
frame_recs slots None = []
frame_recs slots (Some part) = map (frame_rec slots) part.frames

-- an entry of the stack map was kept unread
abbrev pub is_cut : Option MapPart → Bool
is_cut None = false
is_cut (Some part) = nat_lt (length part.frames) part.count

unfoldable pub linked_body : LinkEnvironment → List (Option Entry) → CodePart → Body
linked_body s slots code = record {
  max_stack = code.max_stack;
  max_locals = code.max_locals;
  length = code.code.length;
  code = map (placed s slots) code.code.ops;
  handlers = map (handler_rec s.names slots) code.handlers;
  frames = frame_recs slots code.map;
  malformed = is_cut code.map;
}
