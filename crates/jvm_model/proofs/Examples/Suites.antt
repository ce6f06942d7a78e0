-- Small suites that are run by computation: the definitions give the verdicts, outputs, units and touches that they
-- should.
use Rattle.std.proofs.Common.{◌≡◌, ℕ, List, [], ◌∷◌, ◌++◌, Some, None, refl, map, pos, false}
use Rattle.std.specs.Prelude.{codes}
use Rattle.jvm_model.specs.declared.values.{Value.TheVariants.Int, Value.TheVariants.Null, InitState.InitState}
use Rattle.jvm_model.specs.declared.values.Kind.TheVariants as kind
use Rattle.jvm_model.specs.declared.values.InitState.TheVariants.{Idle, Running, Done}
use Rattle.jvm_model.specs.declared.values.Location.TheVariants as place
use Rattle.jvm_model.specs.declared.{instr.Instr.Instr, instr.Op.TheVariants.Div, program.Program.Program}
use Rattle.jvm_model.specs.declared.instr.Instr.TheVariants as form
use Rattle.jvm_model.specs.{World.at, Access.run, State.started, Classes.literal_at, Descriptors.parameters, Descriptors.return_type}
use Rattle.jvm_model.specs.Suite.{opening, whole, runs, all_tests}
use Rattle.jvm_model.proofs.OnLiterals.{machine_on_literals}
use Rattle.jvm_model.proofs.Examples.Parts.{program, class, body, fixed, plain, static, field, static_int, test, int_const, literal, get_static, put_static, call_static, returns, load_this, dup, print_number, gets, sets, shown, passed, failed, error, line}

-- a test that only returns
abbrev pub return_suite : Program
return_suite = program (class (codes "T") [] (102 ∷ []) ∷ []) [] (fixed 32 (codes "t") (codes "()V") (body 0 0 (returns ∷ [])) ∷ []) [] (test 32 102 ∷ [])

-- one test sets a static, the next prints it
abbrev pub counter_suite : Program
counter_suite = program (class (codes "Counter") (2 ∷ []) (102 ∷ 103 ∷ []) ∷ []) (static_int 32 (codes "n") ∷ [])
    (fixed 32 (codes "set") (codes "()V") (body 1 0 (int_const 5 ∷ put_static 2 ∷ returns ∷ []))
    ∷ fixed 32 (codes "show") (codes "()V") (body 1 0 (get_static 2 ∷ print_number)) ∷ [])
    [] (test 32 102 ∷ test 32 103 ∷ [])

-- the second test writes before it reads
abbrev pub again_suite : Program
again_suite = program (class (codes "Counter") (2 ∷ []) (102 ∷ 103 ∷ []) ∷ []) (static_int 32 (codes "n") ∷ [])
    (fixed 32 (codes "set") (codes "()V") (body 1 0 (int_const 5 ∷ put_static 2 ∷ returns ∷ []))
    ∷ fixed 32 (codes "again") (codes "()V") (body 1 0 (int_const 1 ∷ put_static 2 ∷ get_static 2 ∷ print_number)) ∷ [])
    [] (test 32 102 ∷ test 32 103 ∷ [])

-- one test reads a static, the next writes it
abbrev pub read_write_suite : Program
read_write_suite = program (class (codes "P") (2 ∷ []) (102 ∷ 103 ∷ []) ∷ []) (static_int 32 (codes "n") ∷ [])
    (fixed 32 (codes "read") (codes "()V") (body 1 0 (get_static 2 ∷ print_number))
    ∷ fixed 32 (codes "write") (codes "()V") (body 1 0 (int_const 5 ∷ put_static 2 ∷ returns ∷ [])) ∷ [])
    [] (test 32 102 ∷ test 32 103 ∷ [])

-- `<init>` that calls that of Object
abbrev plain_init : List (ℕ × Instr)
plain_init = load_this ∷ (3, form.InvokeSpecial (kind.Class 0) 0) ∷ returns ∷ []

-- two objects in a list, and their fields
abbrev pub node_suite : Program
node_suite = program
    (class (codes "Node") (2 ∷ 3 ∷ []) (102 ∷ []) ∷ class (codes "List") (4 ∷ []) (103 ∷ 104 ∷ 105 ∷ []) ∷ [])
    (field 32 (codes "v") (codes "I") (Int (pos 0)) ∷ field 32 (codes "next") (codes "LNode;") Null ∷ static 33 (codes "head") (codes "LNode;") Null ∷ [])
    (plain 32 (codes "<init>") (codes "()V") (body 1 1 plain_init)
    ∷ fixed 33 (codes "build") (codes "()V") (body 3 0 ((3, form.New 32) ∷ dup ∷ (3, form.InvokeSpecial (kind.Class 32) 102) ∷ put_static 4
    ∷ get_static 4 ∷ (3, form.New 32) ∷ dup ∷ (3, form.InvokeSpecial (kind.Class 32) 102) ∷ (3, form.PutField 32 3)
    ∷ get_static 4 ∷ (3, form.GetField 32 3) ∷ (2, form.Const (Int (pos 9))) ∷ (3, form.PutField 32 2) ∷ returns ∷ []))
    ∷ fixed 33 (codes "idle") (codes "()V") (body 0 0 (returns ∷ []))
    ∷ fixed 33 (codes "show") (codes "()V") (body 1 0 (get_static 4 ∷ (3, form.GetField 32 3) ∷ (3, form.GetField 32 2) ∷ print_number)) ∷ [])
    [] (test 33 103 ∷ test 33 104 ∷ test 33 105 ∷ [])

-- a class whose superclass looks at it while it is initialised
abbrev init_order_suite : Program
init_order_suite = program
    (record (class (codes "A") (2 ∷ []) (102 ∷ [])) { superclass = Some 33; initialiser = Some 102 }
    ∷ record (class (codes "B") [] (103 ∷ [])) { initialiser = Some 103 }
    ∷ class (codes "Cy") [] (104 ∷ []) ∷ [])
    (static_int 32 (codes "x") ∷ [])
    (fixed 32 (codes "<clinit>") (codes "()V") (body 1 0 (int_const 1 ∷ put_static 2 ∷ returns ∷ []))
    ∷ fixed 33 (codes "<clinit>") (codes "()V") (body 1 0 (get_static 2 ∷ print_number))
    ∷ fixed 34 (codes "go") (codes "()V") (body 1 0 (get_static 2 ∷ print_number)) ∷ [])
    [] (test 34 104 ∷ [])

-- a class whose initialisation throws
abbrev pub bad_init_suite : Program
bad_init_suite = program
    (record (class (codes "Bad") (2 ∷ []) (102 ∷ [])) { initialiser = Some 102 } ∷ class (codes "Use") [] (103 ∷ 104 ∷ []) ∷ [])
    (static_int 32 (codes "v") ∷ [])
    (fixed 32 (codes "<clinit>") (codes "()V") (body 2 0 (int_const 1 ∷ int_const 0 ∷ (1, form.Binary Div false) ∷ put_static 2 ∷ returns ∷ []))
    ∷ fixed 33 (codes "first") (codes "()V") (body 1 0 (get_static 2 ∷ (1, form.Pop) ∷ returns ∷ []))
    ∷ fixed 33 (codes "second") (codes "()V") (body 1 0 (get_static 2 ∷ (1, form.Pop) ∷ returns ∷ [])) ∷ [])
    [] (test 33 103 ∷ test 33 104 ∷ [])

-- an object with setUp, a method that fails and tearDown
abbrev driver_suite : Program
driver_suite = program (class (codes "I") [] (102 ∷ 103 ∷ 104 ∷ 105 ∷ []) ∷ []) []
    (plain 32 (codes "<init>") (codes "()V") (body 1 1 plain_init)
    ∷ plain 32 (codes "setUp") (codes "()V") (body 1 1 (int_const 1 ∷ print_number))
    ∷ plain 32 (codes "bad") (codes "()V") (body 2 1 ((3, form.New 10) ∷ dup ∷ (3, form.InvokeSpecial (kind.Class 10) 54) ∷ (1, form.Throw) ∷ []))
    ∷ plain 32 (codes "tearDown") (codes "()V") (body 1 1 (int_const 2 ∷ print_number)) ∷ [])
    [] (test 32 104 ∷ [])

-- a throwable that is kept in a static, and thrown by another test
abbrev pub kept_error_suite : Program
kept_error_suite = program (class (codes "X") (2 ∷ []) (102 ∷ 103 ∷ []) ∷ []) (static 32 (codes "e") (codes "Ljava/lang/RuntimeException;") Null ∷ [])
    (fixed 32 (codes "keep") (codes "()V") (body 3 0 ((3, form.New 19) ∷ dup ∷ literal 1 ∷ (3, form.InvokeSpecial (kind.Class 19) 77) ∷ put_static 2 ∷ returns ∷ []))
    ∷ fixed 32 (codes "toss") (codes "()V") (body 1 0 (get_static 2 ∷ (1, form.Throw) ∷ [])) ∷ [])
    (codes "boom" ∷ []) (test 32 102 ∷ test 32 103 ∷ [])

-- a simulated file that is asked for, made, looked at and dropped
abbrev pub files_suite : Program
files_suite = program (class (codes "F") [] (102 ∷ 103 ∷ 104 ∷ 105 ∷ []) ∷ []) []
    (fixed 32 (codes "ask") (codes "()V") (body 1 0 (literal 1 ∷ call_static 44 ∷ print_number))
    ∷ fixed 32 (codes "make") (codes "()V") (body 2 0 (literal 1 ∷ literal 2 ∷ call_static 41 ∷ returns ∷ []))
    ∷ fixed 32 (codes "look") (codes "()V") (body 2 0 (get_static 0 ∷ literal 1 ∷ call_static 40 ∷ (3, form.InvokeVirtual (kind.Class 4) 34) ∷ returns ∷ []))
    ∷ fixed 32 (codes "drop") (codes "()V") (body 1 0 (literal 1 ∷ call_static 43 ∷ (1, form.Pop) ∷ returns ∷ [])) ∷ [])
    (codes "log" ∷ codes "hi" ∷ []) (test 32 102 ∷ test 32 103 ∷ test 32 104 ∷ test 32 105 ∷ [])

-- a test's own clock and random numbers
abbrev clock_suite : Program
clock_suite = program (class (codes "K") [] (102 ∷ []) ∷ []) []
    (fixed 32 (codes "t") (codes "()V") (body 3 0 (get_static 0 ∷ call_static 25 ∷ (3, form.InvokeVirtual (kind.Class 4) 36) ∷ call_static 46 ∷ print_number)) ∷ [])
    [] (record (test 32 102) { clock = pos 100 } ∷ [])

-- a class with a default interface, both with `<clinit>`
abbrev default_suite : Program
default_suite = program
    (record (class (codes "Hi") [] (102 ∷ 103 ∷ [])) { flags = 0x0600; initialiser = Some 102 }
    ∷ record (class (codes "D") [] (104 ∷ 105 ∷ [])) { interfaces = 32 ∷ []; initialiser = Some 104 }
    ∷ class (codes "Dt") [] (106 ∷ []) ∷ [])
    []
    (fixed 32 (codes "<clinit>") (codes "()V") (body 1 0 (int_const 4 ∷ print_number))
    ∷ plain 32 (codes "m") (codes "()V") (body 1 1 (int_const 1 ∷ print_number))
    ∷ fixed 33 (codes "<clinit>") (codes "()V") (body 1 0 (int_const 5 ∷ print_number))
    ∷ plain 33 (codes "<init>") (codes "()V") (body 1 1 plain_init)
    ∷ fixed 34 (codes "go") (codes "()V") (body 2 0 ((3, form.New 33) ∷ dup ∷ (3, form.InvokeSpecial (kind.Class 33) 105) ∷ (5, form.InvokeInterface 32 103) ∷ returns ∷ [])) ∷ [])
    [] (test 34 106 ∷ [])

-- two default methods that conflict
abbrev conflict_suite : Program
conflict_suite = program
    (record (class (codes "J1") [] (102 ∷ [])) { flags = 0x0600 }
    ∷ record (class (codes "J2") [] (103 ∷ [])) { flags = 0x0600 }
    ∷ record (class (codes "E") [] (104 ∷ [])) { interfaces = 32 ∷ 33 ∷ [] }
    ∷ class (codes "Et") [] (105 ∷ []) ∷ [])
    []
    (plain 32 (codes "m") (codes "()V") (body 0 1 (returns ∷ []))
    ∷ plain 33 (codes "m") (codes "()V") (body 0 1 (returns ∷ []))
    ∷ plain 34 (codes "<init>") (codes "()V") (body 1 1 plain_init)
    ∷ fixed 35 (codes "go") (codes "()V") (body 2 0 ((3, form.New 34) ∷ dup ∷ (3, form.InvokeSpecial (kind.Class 34) 104) ∷ (5, form.InvokeInterface 32 102) ∷ returns ∷ [])) ∷ [])
    [] (test 35 105 ∷ [])

return_runs : shown (runs return_suite (all_tests return_suite)) ≡ Some (
    (passed [] 3, []) ∷ [])
unfolding machine_on_literals
return_runs = refl

counter_runs : shown (runs counter_suite (all_tests counter_suite)) ≡ Some (
    (passed [] 6, sets (place.Static 2) ∷ []) ∷
    (passed (line (codes "5")) 8, gets (place.Static 2) ∷ []) ∷ [])
unfolding machine_on_literals
counter_runs = refl

again_runs : shown (runs again_suite (all_tests again_suite)) ≡ Some (
    (passed [] 6, sets (place.Static 2) ∷ []) ∷
    (passed (line (codes "1")) 10, sets (place.Static 2) ∷ gets (place.Static 2) ∷ []) ∷ [])
unfolding machine_on_literals
again_runs = refl

read_write_runs : shown (runs read_write_suite (all_tests read_write_suite)) ≡ Some (
    (passed (line (codes "0")) 8, gets (place.Static 2) ∷ []) ∷
    (passed [] 6, sets (place.Static 2) ∷ []) ∷ [])
unfolding machine_on_literals
read_write_runs = refl

-- a new object: its head and each field are written
node_runs : shown (runs node_suite (all_tests node_suite)) ≡ Some (
    (passed [] 35, sets (place.Head 0) ∷ sets (place.Field 0 2) ∷ sets (place.Field 0 3) ∷ sets (place.Static 4) ∷ gets (place.Static 4) ∷ sets (place.Head 1) ∷ sets (place.Field 1 2) ∷ sets (place.Field 1 3) ∷ sets (place.Field 0 3) ∷ gets (place.Static 4) ∷ gets (place.Field 0 3) ∷ sets (place.Field 1 2) ∷ []) ∷
    (passed [] 3, []) ∷
    (passed (line (codes "9")) 10, gets (place.Static 4) ∷ gets (place.Field 0 3) ∷ gets (place.Field 1 2) ∷ []) ∷ [])
unfolding machine_on_literals
node_runs = refl

-- the class is begun, then its superclass, whose `<clinit>` reads the class's static and ends; then its own runs and ends
init_order_runs : shown (runs init_order_suite (all_tests init_order_suite)) ≡ Some (
    (passed (line (codes "0") ++ line (codes "1")) 24, gets (place.Init 32) ∷ sets (place.Init 32) ∷ gets (place.Init 33) ∷ sets (place.Init 33) ∷ gets (place.Init 32) ∷ gets (place.Static 2) ∷ sets (place.Init 33) ∷ gets (place.Init 33) ∷ gets (place.Init 32) ∷ sets (place.Static 2) ∷ sets (place.Init 32) ∷ gets (place.Init 32) ∷ gets (place.Static 2) ∷ []) ∷ [])
unfolding machine_on_literals
init_order_runs = refl

-- what `<clinit>` threw is looked at by its frame and by the entry, which becomes erroneous and makes another throwable
bad_init_runs : shown (runs bad_init_suite (all_tests bad_init_suite)) ≡ Some (
    (error 13 None [] 17, gets (place.Init 32) ∷ sets (place.Init 32) ∷ sets (place.Head 0) ∷ sets (place.Field 0 1) ∷ gets (place.Head 0) ∷ gets (place.Head 0) ∷ sets (place.Init 32) ∷ sets (place.Head 1) ∷ sets (place.Field 1 1) ∷ gets (place.Head 1) ∷ gets (place.Head 1) ∷ gets (place.Field 1 1) ∷ []) ∷
    (error 14 None [] 7, gets (place.Init 32) ∷ sets (place.Head 2) ∷ sets (place.Field 2 1) ∷ gets (place.Head 2) ∷ gets (place.Head 2) ∷ gets (place.Field 2 1) ∷ []) ∷ [])
unfolding machine_on_literals
bad_init_runs = refl

driver_runs : shown (runs driver_suite (all_tests driver_suite)) ≡ Some (
    (failed 10 None (line (codes "1") ++ line (codes "2")) 36, sets (place.Head 0) ∷ sets (place.Head 1) ∷ sets (place.Field 1 1) ∷ gets (place.Head 1) ∷ gets (place.Head 1) ∷ gets (place.Field 1 1) ∷ []) ∷ [])
unfolding machine_on_literals
driver_runs = refl

kept_error_runs : shown (runs kept_error_suite (all_tests kept_error_suite)) ≡ Some (
    (passed [] 13, sets (place.Head 0) ∷ sets (place.Field 0 1) ∷ sets (place.Field 0 1) ∷ sets (place.Static 2) ∷ []) ∷
    (error 19 (Some (codes "boom")) [] 10, gets (place.Static 2) ∷ gets (place.Head 0) ∷ gets (place.Head 0) ∷ gets (place.Field 0 1) ∷ []) ∷ [])
unfolding machine_on_literals
kept_error_runs = refl

files_runs : shown (runs files_suite (all_tests files_suite)) ≡ Some (
    (passed (line (codes "0")) 12, gets (place.File (codes "log")) ∷ []) ∷
    (passed [] 13, sets (place.File (codes "log")) ∷ []) ∷
    (passed (line (codes "hi")) 18, gets (place.Static 0) ∷ gets (place.File (codes "log")) ∷ sets (place.Head 0) ∷ sets (place.Text 0) ∷ gets (place.Text 0) ∷ []) ∷
    (passed [] 10, gets (place.File (codes "log")) ∷ sets (place.File (codes "log")) ∷ []) ∷ [])
unfolding machine_on_literals
files_runs = refl

clock_runs : shown (runs clock_suite (all_tests clock_suite)) ≡ Some (
    (passed (line (codes "100") ++ line (codes "335903614")) 25, gets (place.Static 0) ∷ []) ∷ [])
unfolding machine_on_literals
clock_runs = refl

-- the default interface is begun and ended before the class's own `<clinit>`
default_runs : shown (runs default_suite (all_tests default_suite)) ≡ Some (
    (passed (line (codes "4") ++ (line (codes "5") ++ line (codes "1"))) 42, gets (place.Init 33) ∷ sets (place.Init 33) ∷ gets (place.Init 32) ∷ sets (place.Init 32) ∷ sets (place.Init 32) ∷ gets (place.Init 32) ∷ sets (place.Init 33) ∷ gets (place.Init 33) ∷ sets (place.Head 0) ∷ gets (place.Head 0) ∷ []) ∷ [])
unfolding machine_on_literals
default_runs = refl

conflict_runs : shown (runs conflict_suite (all_tests conflict_suite)) ≡ Some (
    (error 15 None [] 17, sets (place.Head 0) ∷ gets (place.Head 0) ∷ sets (place.Head 1) ∷ sets (place.Field 1 1) ∷ gets (place.Head 1) ∷ gets (place.Head 1) ∷ gets (place.Field 1 1) ∷ []) ∷ [])
unfolding machine_on_literals
conflict_runs = refl

-- a class that is used once
abbrev state_suite : Program
state_suite = program
    (record (class (codes "Up") (2 ∷ []) (102 ∷ [])) { initialiser = Some 102 } ∷ class (codes "Use") [] (103 ∷ []) ∷ [])
    (static_int 32 (codes "n") ∷ [])
    (fixed 32 (codes "<clinit>") (codes "()V") (body 0 0 (returns ∷ []))
    ∷ fixed 33 (codes "use") (codes "()V") (body 1 0 (get_static 2 ∷ (1, form.Pop) ∷ returns ∷ [])) ∷ [])
    [] (test 33 103 ∷ [])

-- its state after so many steps of the test
abbrev state_after : ℕ → InitState
state_after n = at (run (whole state_suite n (started state_suite 1)) (opening state_suite)).world (place.Init 32)

-- The first step calls the test's method, the second begins the class, the third enters `<clinit>`, the fourth returns from
-- it, and the fifth ends the initialisation.
class_states : map state_after (1 ∷ 2 ∷ 3 ∷ 4 ∷ 5 ∷ []) ≡ Idle ∷ Running ∷ Running ∷ Running ∷ Done ∷ []
unfolding machine_on_literals
class_states = refl

-- the stream is no string constant, and those are numbered from 1
constant_texts : map (λ n. literal_at files_suite n) (0 ∷ 1 ∷ 2 ∷ 3 ∷ []) ≡ [] ∷ codes "log" ∷ codes "hi" ∷ [] ∷ []
constant_texts = refl

-- a class's name may hold a parenthesis
odd_return : return_type (codes "(La)b;[I)V") ≡ codes "V"
unfolding return_type
odd_return = refl

odd_parameters : parameters (codes "(La)b;[I)V") ≡ codes "La)b;" ∷ codes "[I" ∷ []
unfolding parameters
odd_parameters = refl
