-- The driver: what a test calls, in order, and how it is judged (this project's).
use Rattle.std.specs.Prelude.{ℕ, List, [], ◌∷◌, ◌+◌, length, not, ◌&&◌, cond, Option, Some, None}
use Rattle.jvm_model.specs.declared.values.Value.{Value}
use Rattle.jvm_model.specs.declared.values.Value.TheVariants.{Int, Long, Null, Lit, Obj}
use Rattle.jvm_model.specs.declared.values.Location.TheVariants as place
use Rattle.jvm_model.specs.declared.outcome.Verdict.TheVariants.{Passed, Failed, Error}
use Rattle.jvm_model.specs.declared.{program.Body.Body, program.Program.Program, state.Stage.Stage}
use Rattle.jvm_model.specs.declared.state.Stage.TheVariants.{First, Made, Built, SetUp, Called, Last}
use Rattle.std.specs.Str.{bytes_eq}
use Rattle.jvm_model.specs.Access.{Access, done, read, make, spend, bind}
use Rattle.jvm_model.specs.Builtin.{abstract_method_error, assertion_error, message_field}
use Rattle.jvm_model.specs.Classes.{class_at, method_at, literal_at, upwards, is_below, is_static, layout, blank, instance_head, init_name}
use Rattle.jvm_model.specs.{Entries.with_entry, Entries.frame_of, Entries.frame_cost, Kinds.class_of, Throwing.throws}
use Rattle.jvm_model.specs.Rows.{Used, ready, begun, refused, begin}
use Rattle.jvm_model.specs.State.{State, Turn, next, ended, stuck_turn, test_at, with_entries}

-- the units of `()V`, `setUp` and `tearDown`
abbrev pub no_arguments : List ℕ
no_arguments = 40 ∷ 41 ∷ 86 ∷ []

abbrev pub set_up_name : List ℕ
set_up_name = 115 ∷ 101 ∷ 116 ∷ 85 ∷ 112 ∷ []

abbrev pub tear_down_name : List ℕ
tear_down_name = 116 ∷ 101 ∷ 97 ∷ 114 ∷ 68 ∷ 111 ∷ 119 ∷ 110 ∷ []

-- the first instance method of a name and `()V` in a list of methods, and in a list of classes
abbrev pub plain_method_in : Program → List ℕ → List ℕ → Option ℕ
plain_method_in p name [] = None
plain_method_in p name (m ∷ ms) = cond (not (is_static (method_at p m).flags) && (bytes_eq (method_at p m).name name && bytes_eq (method_at p m).descriptor no_arguments))
    (Some m) (plain_method_in p name ms)

abbrev pub plain_method_of : Program → List ℕ → List ℕ → Option ℕ
plain_method_of p name [] = None
plain_method_of p name (c ∷ cs) = elim (plain_method_in p name (class_at p c).methods) [ Some m ↦ Some m | None ↦ plain_method_of p name cs ]

-- a method is called by the driver, and this is what comes after it; one without code throws
abbrev pub driven : Program → Option Body → ℕ → List Value → Stage → State → Access Turn
driven p None m args after s = throws p abstract_method_error (record s { stage = after })
driven p (Some b) m args after s = spend (frame_cost b) (done (next (record s { stage = after; entries = with_entry (frame_of b m args) s.entries })))

unfoldable pub drives : Program → ℕ → List Value → Stage → State → Access Turn
drives p m args after s = driven p (method_at p m).body m args after s

-- what comes once the test's class may be used
abbrev pub once_driven : Program → State → Access Turn → Used → Access Turn
once_driven p s k ready = k
once_driven p s k (begun t) = done (next (with_entries s t))
once_driven p s k (refused c) = throws p c s

-- the object is made, as new does
abbrev pub makes : Program → ℕ → State → Access Turn
makes p c s = spend (1 + length (layout p c)) (make (blank p (instance_head c)) (λ o. done (next (record s { stage = Made o }))))

-- the first step: a static method is called alone, else the object is made
unfoldable pub drive_first : Program → State → Access Turn
drive_first p s = let t = test_at p s.test in cond (is_static (method_at p t.method).flags)
    (bind (begin p (method_at p t.method).class s.entries) (once_driven p s (drives p t.method [] (Last None) s)))
    (bind (begin p t.class s.entries) (once_driven p s (makes p t.class s)))

-- `<init>` of the test's own class
unfoldable pub drive_init : Program → ℕ → State → Access Turn
drive_init p o s = elim (plain_method_in p init_name (class_at p (test_at p s.test).class).methods) [
  | None ↦ done stuck_turn
  | Some m ↦ drives p m (Obj o ∷ []) (Built o) s
]

unfoldable pub drive_method : Program → ℕ → State → Access Turn
drive_method p o s = drives p (test_at p s.test).method (Obj o ∷ []) (Called o None) s

unfoldable pub drive_set_up : Program → ℕ → State → Access Turn
drive_set_up p o s = elim (plain_method_of p set_up_name (upwards p (test_at p s.test).class)) [
  | None ↦ drive_method p o s
  | Some m ↦ drives p m (Obj o ∷ []) (SetUp o) s
]

-- the class and message of a throwable: an AssertionError failed, any other is an error
abbrev pub judged : Program → List ℕ → ℕ → Option (List ℕ) → Turn
judged p output c text = cond (is_below p c assertion_error)
    (ended (Failed (record { class = c; message = text })) output)
    (ended (Error (record { class = c; message = text })) output)

abbrev pub judged_text : Program → List ℕ → ℕ → List ℕ → Access Turn
judged_text p output c text = spend (length text) (done (judged p output c (Some text)))

-- the field message of a throwable is null, a constant, or a string whose text is read
abbrev pub judged_message : Program → List ℕ → ℕ → Value → Access Turn
judged_message p output c (Int n) = done stuck_turn
judged_message p output c (Long n) = done stuck_turn
judged_message p output c Null = done (judged p output c None)
judged_message p output c (Lit n) = judged_text p output c (literal_at p n)
judged_message p output c (Obj o) = read (place.Text o) (judged_text p output c)

abbrev pub judged_value : Program → List ℕ → Value → Access Turn
judged_value p output (Int n) = done stuck_turn
judged_value p output (Long n) = done stuck_turn
judged_value p output Null = done stuck_turn
judged_value p output (Lit n) = done stuck_turn
judged_value p output (Obj o) = read (place.Head o) (λ h. read (place.Field o message_field) (judged_message p output (class_of h.kind)))

-- the verdict: it costs 1 and the message's units
unfoldable pub judge : Program → Option Value → State → Access Turn
judge p None s = done (ended Passed s.own.output)
judge p (Some v) s = judged_value p s.own.output v

unfoldable pub drive_tear_down : Program → ℕ → Option Value → State → Access Turn
drive_tear_down p o v s = elim (plain_method_of p tear_down_name (upwards p (test_at p s.test).class)) [
  | None ↦ judge p v s
  | Some m ↦ drives p m (Obj o ∷ []) (Last v) s
]

abbrev pub drive_at : Program → Stage → State → Access Turn
drive_at p First s = drive_first p s
drive_at p (Made o) s = drive_init p o s
drive_at p (Built o) s = drive_set_up p o s
drive_at p (SetUp o) s = drive_method p o s
drive_at p (Called o v) s = drive_tear_down p o v s
drive_at p (Last v) s = judge p v s

-- a step of the driver, where no entry is left
unfoldable pub drive : Program → State → Access Turn
drive p s = drive_at p s.stage s
