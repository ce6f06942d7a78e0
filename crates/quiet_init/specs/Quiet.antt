-- Quiet initialisers (JVMS 2.9 and 5.5), and the program without them (this project's). A quiet one sets statics of its own class
-- from constants, so what it leaves is known before any test runs.
use Rattle.std.specs.Prelude.{ℕ, List, [], ◌∷◌, length, map, filter, Bool, true, false, not, ◌&&◌, ◌||◌, cond, nat_eq, Option, Some, None}
use Rattle.std.specs.List.{list_all, range_with_len}
use Rattle.jvm_model.specs.declared.{values.InitState.TheVariants.Running, instr.Instr.Instr}
use Rattle.jvm_model.specs.declared.values.Location.TheVariants as place
use Rattle.jvm_model.specs.declared.instr.Instr.TheVariants as form
use Rattle.jvm_model.specs.declared.program.{Body.Body, ClassRec.ClassRec, FieldRec.FieldRec, Handler.Handler, Placed.Placed, Program.Program}
use Rattle.jvm_model.specs.{World.World, World.at, World.put, Entries.Entries, Entries.entries_of, Entries.frame_of, Rows.Answer, Rows.answer, Rows.stuck_row}
use Rattle.jvm_model.specs.{Access.run, RowsArith.divides, Step.row, Suite.opening}
use Rattle.jvm_model.specs.Classes.{class_at, field_at, method_at, is_interface, is_trivial, default_interfaces, upwards}

-- nop, a constant, a move of operands, and the int and long forms but division and remainder: such an instruction goes on at the
-- next one, and touches nothing
abbrev pub is_calm : Instr → Bool
is_calm form.Nop = true
is_calm (form.Const v) = true
is_calm form.Pop = true
is_calm form.Pop2 = true
is_calm form.Dup = true
is_calm form.DupX1 = true
is_calm form.DupX2 = true
is_calm form.Dup2 = true
is_calm form.Dup2X1 = true
is_calm form.Dup2X2 = true
is_calm form.Swap = true
is_calm (form.Binary x w) = not (divides x)
is_calm (form.Neg w) = true
is_calm (form.Convert x) = true
is_calm form.Compare = true
is_calm _ = false

-- a static that the class itself declares is read or set
abbrev pub is_own : Program → ℕ → Instr → Bool
is_own p c (form.GetStatic f) = nat_eq (field_at p f).class c
is_own p c (form.PutStatic f) = nat_eq (field_at p f).class c
is_own p c _ = false

abbrev pub is_end : Instr → Bool
is_end (form.Return None) = true
is_end _ = false

-- such instructions, and the return at the end
abbrev pub is_still : Program → ℕ → List Placed → Bool
is_still p c [] = false
is_still p c (x ∷ []) = is_end x.form
is_still p c (x ∷ y ∷ ys) = (is_calm x.form || is_own p c x.form) && is_still p c (y ∷ ys)

abbrev pub no_handler : List Handler → Bool
no_handler [] = true
no_handler (h ∷ hs) = false

abbrev pub is_still_body : Program → ℕ → Option Body → Bool
is_still_body p c None = false
is_still_body p c (Some b) = no_handler b.handlers && is_still p c b.code

-- the class declares `<clinit>`, and its code is such
abbrev pub starts_still : Program → ℕ → Option ℕ → Bool
starts_still p c None = false
starts_still p c (Some m) = is_still_body p c (method_at p m).body

abbrev pub is_still_start : Program → ℕ → Bool
is_still_start p c = starts_still p c (class_at p c).initialiser

-- A class is quiet where it starts so, and where each class from it upwards and each default interface of one of them does too,
-- trivial ones left aside. For an interface its own start decides.
unfoldable pub is_quiet : Program → ℕ → Bool
is_quiet p c = is_still_start p c && cond (is_interface (class_at p c).flags)
    true
    (list_all (λ d. is_trivial p d || (is_still_start p d && list_all (λ i. is_trivial p i || is_still_start p i) (default_interfaces p d))) (upwards p c))

-- ---- what a quiet initialiser leaves

abbrev pub goes_with : Entries → Answer Entries → Entries
goes_with s (answer x t) = t
goes_with s stuck_row = s

-- the world that these instructions leave, one after the other, begun with these entries
abbrev pub left_after : Program → List Placed → Entries → World → World
left_after p [] s w = w
left_after p (x ∷ xs) s w = let r = run (row p x.form s) w in left_after p xs (goes_with s r.value) r.world

-- the world of the opening values in which the class is being initialised
abbrev pub begun_world : Program → ℕ → World
begun_world p c = put (opening p) (place.Init c) Running

abbrev pub left_by_body : Program → ℕ → ℕ → Option Body → World
left_by_body p c m None = opening p
left_by_body p c m (Some b) = left_after p b.code (entries_of (frame_of b m [] ∷ [])) (begun_world p c)

abbrev pub left_by_start : Program → ℕ → Option ℕ → World
left_by_start p c None = opening p
left_by_start p c (Some m) = left_by_body p c m (method_at p m).body

-- what the class's `<clinit>` leaves where it starts on the opening values
unfoldable pub left_by : Program → ℕ → World
left_by p c = left_by_start p c (class_at p c).initialiser

-- ---- the program without quiet initialisers

-- a quiet class has no initialiser
abbrev pub quiet_class : Program → ℕ → ClassRec
quiet_class p c = cond (is_quiet p c) (record (class_at p c) { initialiser = None }) (class_at p c)

-- and its fields open with what the initialiser leaves
abbrev pub quiet_field : Program → ℕ → FieldRec
quiet_field p f = cond (is_quiet p (field_at p f).class) (record (field_at p f) { opening = at (left_by p (field_at p f).class) (place.Static f) }) (field_at p f)

unfoldable pub quiet : Program → Program
quiet p = record p {
  classes = map (quiet_class p) (range_with_len 0 (length p.classes));
  fields = map (quiet_field p) (range_with_len 0 (length p.fields));
}

-- the quiet classes, ascending
unfoldable pub quiet_classes : Program → List ℕ
quiet_classes p = filter (is_quiet p) (range_with_len 0 (length p.classes))
