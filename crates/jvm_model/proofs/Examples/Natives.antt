-- A call of each built-in method by computation, with null and places out of range among the arguments: how the step goes on,
-- the operands then, what is touched in order, the units besides the step's own, what is printed, and the texts of new Strings.
use Rattle.std.proofs.Common.{◌≡◌, ℕ, ◌+◌, ◌*◌, List, [], ◌∷◌, ◌++◌, Option, Some, None, Bool, drop, map, refl, pos, negsuc}
use Rattle.std.specs.Prelude.{codes}
use Rattle.std.specs.List.{range_with_len}
use Rattle.jvm_model.specs.declared.{values.Value.Value, values.Kind.Kind, values.Location.Location, state.EntryKind.TheVariants.InMethod, outcome.Next.Next}
use Rattle.jvm_model.specs.declared.values.Value.TheVariants.{Int, Long, Null, Lit, Obj}
use Rattle.jvm_model.specs.declared.values.Base.TheVariants as base
use Rattle.jvm_model.specs.declared.values.Kind.TheVariants as kind
use Rattle.jvm_model.specs.declared.values.Location.TheVariants as place
use Rattle.jvm_model.specs.declared.{outcome.Next.TheVariants.Go, outcome.Next.TheVariants.Fault, library.Native.Native, program.Program.Program}
use Rattle.jvm_model.specs.{World.World, World.Object, Classes.method_at, Working.Working, Natives.row_native, Access.Access, Access.done, Access.run}
use Rattle.jvm_model.specs.Rows.{Answer, answer, stuck_row}
use Rattle.jvm_model.proofs.{OnLiterals.machine_on_literals, Examples.Parts.program, Examples.Parts.gets, Examples.Parts.sets, Examples.Parts.line}

-- the string constants 1 to 5; the last is an e with an acute accent and half of a surrogate pair
abbrev texts : Program
texts = program [] [] [] (codes "abc" ∷ [] ∷ codes "f" ∷ codes "k" ∷ (233 ∷ 0xD800 ∷ []) ∷ []) []

-- the objects 0 to 3: a builder of ab, a String abc, an exception with the message abc, and an array of no ints
abbrev object : Kind → List (ℕ × Value) → Option (List ℕ) → Object
object k fs t = record { head = record { kind = k; length = 0 }; fields = fs; elems = []; text = t }

abbrev before : World
before = record {
  objects = object (kind.Class 2) [] (Some (codes "ab")) ∷ object (kind.Class 1) [] (Some (codes "abc"))
      ∷ object (kind.Class 19) ((1, Lit 1) ∷ []) None ∷ object (kind.Array 1 base.Int) [] None ∷ [];
  statics = [];
  states = [];
  files = (codes "f", Some (codes "hi")) ∷ [];
  props = (codes "k", Some (codes "v")) ∷ [];
}

-- a frame with these operands, the top one first, in a test with the clock 100 and the random word 0
abbrev working : List Value → Working
working vs = record {
  entries = record { top = record { kind = InMethod; number = 0; pc = 0; stack = vs; locals = [] }; below = [] };
  own = record { output = []; clock = pos 100; random = 0 };
}

pub record Called : Type 0 where
  pub next : Option Next
  pub operands : List Value
  pub touches : List (Bool × Location)
  pub units : ℕ
  pub printed : List ℕ
  pub made : List (Option (List ℕ))

abbrev row_of_method : Option Native → List Value → Access (Answer Working)
row_of_method None vs = done stuck_row
row_of_method (Some x) vs = row_native texts x (working vs)

abbrev next_of : Answer Working → Option Next
next_of stuck_row = None
next_of (answer x s) = Some x

abbrev working_of : Answer Working → Working
working_of stuck_row = working []
working_of (answer x s) = s

-- what a call of the built-in method m gives
abbrev call : ℕ → List Value → Called
call m vs = let r = run (row_of_method (method_at texts m).native vs) before in record {
  next = next_of r.value;
  operands = (working_of r.value).entries.top.stack;
  touches = map (λ t. (t.write, t.location)) r.touches;
  units = r.units;
  printed = (working_of r.value).own.output;
  made = map (λ x. x.text) (drop 4 r.world.objects);
}

-- these operands are answered
abbrev gives : List Value → List (Bool × Location) → ℕ → Called
gives vs ts n = record { next = Some Go; operands = vs; touches = ts; units = n; printed = []; made = [] }

-- a new String, the object 4, is answered
abbrev gives_text : List ℕ → List (Bool × Location) → ℕ → Called
gives_text t ts n = record (gives (Obj 4 ∷ []) (ts ++ (sets (place.Head 4) ∷ sets (place.Text 4) ∷ [])) n) { made = Some t ∷ [] }

-- a new String, the object 4, is the message of the object 2
abbrev gives_message : List ℕ → ℕ → Called
gives_message t n = record (gives [] (sets (place.Head 4) ∷ sets (place.Text 4) ∷ sets (place.Field 2 1) ∷ []) n) { made = Some t ∷ [] }

abbrev prints : List ℕ → List (Bool × Location) → ℕ → Called
prints bytes ts n = record (gives [] ts n) { printed = bytes }

-- the call throws
abbrev throws : ℕ → List Value → List (Bool × Location) → Called
throws c vs ts = record (gives vs ts 0) { next = Some (Fault c) }

-- the texts of the builder and of the String are read
abbrev built : Bool × Location
built = gets (place.Text 0)

abbrev spelled : Bool × Location
spelled = gets (place.Text 1)

abbrev int : ℕ → Value
int n = Int (pos n)

-- the number of a method, its arguments, the last one first, and what a call of it gives
abbrev Row : Type 0
Row = ℕ × List Value × Called

-- `<init>`, equals and hashCode of Object
abbrev of_object : List Row
of_object =
    (0, Obj 3 ∷ [], gives ([]) ([]) 0)
    ∷ (1, Obj 3 ∷ Obj 3 ∷ [], gives (int 1 ∷ []) ([]) 0)
    ∷ (1, Null ∷ Obj 3 ∷ [], gives (int 0 ∷ []) ([]) 0)
    ∷ (1, Lit 1 ∷ Obj 3 ∷ [], gives (int 0 ∷ []) ([]) 0)
    ∷ (2, Obj 3 ∷ [], gives (int 0 ∷ []) ([]) 0) ∷ []

-- length, isEmpty, charAt, equals, hashCode, both forms of substring, concat, toString and the four of valueOf
abbrev of_string : List Row
of_string =
    (3, Lit 1 ∷ [], gives (int 3 ∷ []) ([]) 0)
    ∷ (3, Obj 1 ∷ [], gives (int 3 ∷ []) (spelled ∷ []) 0)
    ∷ (3, Null ∷ [], throws 24 ([]) ([]))
    ∷ (4, Lit 2 ∷ [], gives (int 1 ∷ []) ([]) 0)
    ∷ (4, Obj 1 ∷ [], gives (int 0 ∷ []) (spelled ∷ []) 0)
    ∷ (5, int 2 ∷ Lit 1 ∷ [], gives (int 99 ∷ []) ([]) 0)
    ∷ (5, int 3 ∷ Lit 1 ∷ [], throws 30 ([]) ([]))
    ∷ (5, Int (negsuc 0) ∷ Obj 1 ∷ [], throws 30 ([]) (spelled ∷ []))
    ∷ (6, Null ∷ Lit 1 ∷ [], gives (int 0 ∷ []) ([]) 0)
    ∷ (6, Obj 1 ∷ Lit 1 ∷ [], gives (int 1 ∷ []) (gets (place.Head 1) ∷ spelled ∷ []) 3)
    ∷ (6, Obj 3 ∷ Lit 1 ∷ [], gives (int 0 ∷ []) (gets (place.Head 3) ∷ []) 0)
    ∷ (6, Lit 2 ∷ Obj 1 ∷ [], gives (int 0 ∷ []) (spelled ∷ []) 3)
    ∷ (7, Lit 1 ∷ [], gives (int 96354 ∷ []) ([]) 3)
    ∷ (7, Lit 2 ∷ [], gives (int 0 ∷ []) ([]) 0)
    ∷ (8, int 1 ∷ Lit 1 ∷ [], gives_text (codes "bc") ([]) 3)
    ∷ (8, int 4 ∷ Obj 1 ∷ [], throws 30 ([]) (spelled ∷ []))
    ∷ (8, Int (negsuc 0) ∷ Lit 1 ∷ [], throws 30 ([]) ([]))
    ∷ (9, int 3 ∷ int 3 ∷ Lit 1 ∷ [], gives_text (codes "") ([]) 1)
    ∷ (9, int 1 ∷ int 2 ∷ Lit 1 ∷ [], throws 30 ([]) ([]))
    ∷ (9, int 2 ∷ int 0 ∷ Obj 1 ∷ [], gives_text (codes "ab") (spelled ∷ []) 3)
    ∷ (10, Lit 1 ∷ Obj 1 ∷ [], gives_text (codes "abcabc") (spelled ∷ []) 7)
    ∷ (10, Lit 2 ∷ Obj 1 ∷ [], gives (Obj 1 ∷ []) (spelled ∷ []) 0)
    ∷ (10, Null ∷ Lit 1 ∷ [], throws 24 ([]) ([]))
    ∷ (11, Obj 1 ∷ [], gives (Obj 1 ∷ []) ([]) 0)
    ∷ (12, Int (negsuc 11) ∷ [], gives_text (codes "-12") ([]) 4)
    ∷ (13, Long (pos 9223372036854775807) ∷ [], gives_text (codes "9223372036854775807") ([]) 20)
    ∷ (14, int 1 ∷ [], gives_text (codes "true") ([]) 5)
    ∷ (14, int 2 ∷ [], gives_text (codes "false") ([]) 6)
    ∷ (15, int 65 ∷ [], gives_text (codes "A") ([]) 2) ∷ []

-- both forms of `<init>`, the five of append, length and toString of StringBuilder
abbrev of_builder : List Row
of_builder =
    (16, Obj 0 ∷ [], gives ([]) (sets (place.Text 0) ∷ []) 0)
    ∷ (17, Lit 1 ∷ Obj 0 ∷ [], gives ([]) (sets (place.Text 0) ∷ []) 3)
    ∷ (17, Null ∷ Obj 0 ∷ [], throws 24 ([]) ([]))
    ∷ (18, Lit 1 ∷ Obj 0 ∷ [], gives (Obj 0 ∷ []) (built ∷ sets (place.Text 0) ∷ []) 3)
    ∷ (18, Obj 1 ∷ Obj 0 ∷ [], gives (Obj 0 ∷ []) (spelled ∷ built ∷ sets (place.Text 0) ∷ []) 3)
    ∷ (18, Null ∷ Obj 0 ∷ [], gives (Obj 0 ∷ []) (built ∷ sets (place.Text 0) ∷ []) 4)
    ∷ (19, Int (negsuc 4) ∷ Obj 0 ∷ [], gives (Obj 0 ∷ []) (built ∷ sets (place.Text 0) ∷ []) 2)
    ∷ (20, Long (pos 7) ∷ Obj 0 ∷ [], gives (Obj 0 ∷ []) (built ∷ sets (place.Text 0) ∷ []) 1)
    ∷ (21, int 0 ∷ Obj 0 ∷ [], gives (Obj 0 ∷ []) (built ∷ sets (place.Text 0) ∷ []) 5)
    ∷ (22, int 120 ∷ Obj 0 ∷ [], gives (Obj 0 ∷ []) (built ∷ sets (place.Text 0) ∷ []) 1)
    ∷ (22, int 120 ∷ Null ∷ [], throws 24 ([]) ([]))
    ∷ (23, Obj 0 ∷ [], gives (int 2 ∷ []) (built ∷ []) 0)
    ∷ (24, Obj 0 ∷ [], gives_text (codes "ab") (built ∷ []) 3)
    ∷ (24, Null ∷ [], throws 24 ([]) ([])) ∷ []

-- currentTimeMillis, getProperty, setProperty and clearProperty of System
abbrev of_system : List Row
of_system =
    (25, [], gives (Long (pos 100) ∷ []) ([]) 0)
    ∷ (26, Lit 4 ∷ [], gives_text (codes "v") (gets (place.Prop (codes "k")) ∷ []) 3)
    ∷ (26, Lit 3 ∷ [], gives (Null ∷ []) (gets (place.Prop (codes "f")) ∷ []) 1)
    ∷ (26, Null ∷ [], throws 24 ([]) ([]))
    ∷ (27, Lit 1 ∷ Lit 4 ∷ [], gives_text (codes "v") (gets (place.Prop (codes "k")) ∷ sets (place.Prop (codes "k")) ∷ []) 6)
    ∷ (27, Lit 1 ∷ Lit 3 ∷ [], gives (Null ∷ []) (gets (place.Prop (codes "f")) ∷ sets (place.Prop (codes "f")) ∷ []) 4)
    ∷ (27, Null ∷ Lit 4 ∷ [], throws 24 ([]) ([]))
    ∷ (28, Lit 4 ∷ [], gives_text (codes "v") (gets (place.Prop (codes "k")) ∷ sets (place.Prop (codes "k")) ∷ []) 3)
    ∷ (28, Lit 3 ∷ [], gives (Null ∷ []) (gets (place.Prop (codes "f")) ∷ sets (place.Prop (codes "f")) ∷ []) 1) ∷ []

-- the five forms of print and the six of println
abbrev of_stream : List Row
of_stream =
    (29, Lit 1 ∷ Lit 0 ∷ [], prints (codes "abc") ([]) 3)
    ∷ (29, Null ∷ Lit 0 ∷ [], prints (codes "null") ([]) 4)
    ∷ (29, Lit 5 ∷ Lit 0 ∷ [], prints (195 ∷ 169 ∷ 63 ∷ []) ([]) 3)
    ∷ (30, Int (negsuc 0) ∷ Lit 0 ∷ [], prints (codes "-1") ([]) 2)
    ∷ (31, Long (pos 10) ∷ Lit 0 ∷ [], prints (codes "10") ([]) 2)
    ∷ (32, int 1 ∷ Lit 0 ∷ [], prints (codes "true") ([]) 4)
    ∷ (33, int 97 ∷ Lit 0 ∷ [], prints (codes "a") ([]) 1)
    ∷ (34, Obj 1 ∷ Lit 0 ∷ [], prints (line (codes "abc")) (spelled ∷ []) 4)
    ∷ (34, Null ∷ Lit 0 ∷ [], prints (line (codes "null")) ([]) 5)
    ∷ (35, int 7 ∷ Lit 0 ∷ [], prints (line (codes "7")) ([]) 2)
    ∷ (36, Long (negsuc 0) ∷ Lit 0 ∷ [], prints (line (codes "-1")) ([]) 3)
    ∷ (37, int 0 ∷ Lit 0 ∷ [], prints (line (codes "false")) ([]) 6)
    ∷ (38, int 98 ∷ Lit 0 ∷ [], prints (line (codes "b")) ([]) 2)
    ∷ (39, Lit 0 ∷ [], prints (line (codes "")) ([]) 1) ∷ []

-- read, write, append, delete and exists of Files; print and random of Env
abbrev of_files : List Row
of_files =
    (40, Lit 3 ∷ [], gives_text (codes "hi") (gets (place.File (codes "f")) ∷ []) 4)
    ∷ (40, Lit 4 ∷ [], gives (Null ∷ []) (gets (place.File (codes "k")) ∷ []) 1)
    ∷ (40, Null ∷ [], throws 24 ([]) ([]))
    ∷ (41, Lit 1 ∷ Lit 3 ∷ [], gives ([]) (sets (place.File (codes "f")) ∷ []) 4)
    ∷ (41, Null ∷ Lit 3 ∷ [], throws 24 ([]) ([]))
    ∷ (42, Lit 1 ∷ Lit 3 ∷ [], gives ([]) (gets (place.File (codes "f")) ∷ sets (place.File (codes "f")) ∷ []) 4)
    ∷ (42, Lit 1 ∷ Lit 4 ∷ [], gives ([]) (gets (place.File (codes "k")) ∷ sets (place.File (codes "k")) ∷ []) 4)
    ∷ (43, Lit 3 ∷ [], gives (int 1 ∷ []) (gets (place.File (codes "f")) ∷ sets (place.File (codes "f")) ∷ []) 1)
    ∷ (43, Lit 4 ∷ [], gives (int 0 ∷ []) (gets (place.File (codes "k")) ∷ sets (place.File (codes "k")) ∷ []) 1)
    ∷ (44, Lit 3 ∷ [], gives (int 1 ∷ []) (gets (place.File (codes "f")) ∷ []) 1)
    ∷ (44, Lit 4 ∷ [], gives (int 0 ∷ []) (gets (place.File (codes "k")) ∷ []) 1)
    ∷ (45, int 5 ∷ [], prints (line (codes "5")) ([]) 2)
    ∷ (46, [], gives (int 335903614 ∷ []) ([]) 0) ∷ []

-- getMessage of Throwable; `<init>` of AssertionError of an object, an int, a long, a boolean and a char
abbrev of_throwable : List Row
of_throwable =
    (49, Obj 2 ∷ [], gives (Lit 1 ∷ []) (gets (place.Field 2 1) ∷ []) 0)
    ∷ (49, Null ∷ [], throws 24 ([]) ([]))
    ∷ (55, Lit 2 ∷ Obj 2 ∷ [], gives ([]) (sets (place.Field 2 1) ∷ []) 0)
    ∷ (55, Obj 1 ∷ Obj 2 ∷ [], gives ([]) (gets (place.Head 1) ∷ sets (place.Field 2 1) ∷ []) 0)
    ∷ (55, Null ∷ Obj 2 ∷ [], gives_message (codes "null") 5)
    ∷ (55, Obj 3 ∷ Obj 2 ∷ [], gives ([]) (gets (place.Head 3) ∷ []) 0)
    ∷ (56, int 3 ∷ Obj 2 ∷ [], gives_message (codes "3") 2)
    ∷ (57, Long (negsuc 8) ∷ Obj 2 ∷ [], gives_message (codes "-9") 3)
    ∷ (58, int 1 ∷ Obj 2 ∷ [], gives_message (codes "true") 5)
    ∷ (59, int 90 ∷ Obj 2 ∷ [], gives_message (codes "Z") 2) ∷ []

-- the numbers of the forms of `<init>` of throwables without a message; those with one have the next numbers
abbrev plain_inits : List ℕ
plain_inits = 47 ∷ 50 ∷ 52 ∷ 54 ∷ map (λ n. 60 + 2 * n) (range_with_len 0 21)

abbrev message_inits : List ℕ
message_inits = 48 ∷ 51 ∷ 53 ∷ map (λ n. 61 + 2 * n) (range_with_len 0 21)

abbrev computed : List Row → List Called
computed xs = map (λ x. call x.0 x.1) xs

abbrev expected : List Row → List Called
expected xs = map (λ x. x.2) xs

of_object_calls : computed of_object ≡ expected of_object
unfolding machine_on_literals
of_object_calls = refl

of_string_calls : computed of_string ≡ expected of_string
unfolding machine_on_literals
of_string_calls = refl

of_builder_calls : computed of_builder ≡ expected of_builder
unfolding machine_on_literals
of_builder_calls = refl

of_system_calls : computed of_system ≡ expected of_system
unfolding machine_on_literals
of_system_calls = refl

of_stream_calls : computed of_stream ≡ expected of_stream
unfolding machine_on_literals
of_stream_calls = refl

of_files_calls : computed of_files ≡ expected of_files
unfolding machine_on_literals
of_files_calls = refl

of_throwable_calls : computed of_throwable ≡ expected of_throwable
unfolding machine_on_literals
of_throwable_calls = refl

-- `<init>` of each throwable without a message, and with a constant or null as one
plain_init_calls : map (λ m. call m (Obj 2 ∷ [])) plain_inits ≡ map (λ m. gives [] [] 0) plain_inits
unfolding machine_on_literals
plain_init_calls = refl

message_init_calls : map (λ m. call m (Lit 2 ∷ Obj 2 ∷ [])) message_inits ≡ map (λ m. gives [] (sets (place.Field 2 1) ∷ []) 0) message_inits
unfolding machine_on_literals
message_init_calls = refl

null_init_calls : map (λ m. call m (Null ∷ Obj 2 ∷ [])) message_inits ≡ map (λ m. gives [] (sets (place.Field 2 1) ∷ []) 0) message_inits
unfolding machine_on_literals
null_init_calls = refl
