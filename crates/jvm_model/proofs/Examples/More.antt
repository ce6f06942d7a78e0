-- Branches, arrays, strings, calls and budgets by computation.
use Rattle.std.proofs.Common.{zero, suc, map, ◌≡◌, ℕ, ◌+◌, ◌-◌, ◌^◌, List, [], ◌∷◌, ◌++◌, Option, Some, None, refl, pos, false}
use Rattle.std.specs.Prelude.{codes}
use Rattle.jvm_model.specs.declared.{values.Value.TheVariants.Int, values.Value.TheVariants.Long, values.Value.TheVariants.Null, outcome.Outcome.Outcome}
use Rattle.jvm_model.specs.declared.values.Base.TheVariants as base
use Rattle.jvm_model.specs.declared.values.Location.TheVariants as place
use Rattle.jvm_model.specs.declared.instr.Cell.TheVariants as cell
use Rattle.jvm_model.specs.declared.instr.Conv.TheVariants as conv
use Rattle.jvm_model.specs.declared.{instr.Instr.Instr, instr.Op.TheVariants.Add, instr.Op.TheVariants.Div, program.Program.Program}
use Rattle.jvm_model.specs.declared.values.Kind.TheVariants as kind
use Rattle.jvm_model.specs.declared.instr.Instr.TheVariants as form
use Rattle.jvm_model.specs.declared.instr.Sort.TheVariants as sort
use Rattle.jvm_model.specs.declared.instr.IfTest.TheVariants as if_test
use Rattle.jvm_model.specs.Suite.{Given, opening, one_test, runs, all_tests, over_budget, suite_fault}
use Rattle.jvm_model.specs.{Step.step, RowsCreate.nest_cost, World.World, Access.run, Step.step, Step.turn, Reached.thrown_itself}
use Rattle.jvm_model.specs.State.{State, started, next, ended, stuck_turn}
use Rattle.jvm_model.proofs.OnLiterals.{machine_on_literals}
use Rattle.jvm_model.proofs.Examples.Parts.{program, class, body, fixed, plain, test, int_const, literal, static_int, get_static, put_static, returns, load_this, print, print_number, gets, sets, shown, passed, error, line}

-- `<init>` that calls that of Object
abbrev plain_init : List (ℕ × Instr)
plain_init = load_this ∷ (3, form.InvokeSpecial (kind.Class 0) 0) ∷ returns ∷ []

abbrev outcome_of : Option Given → Option Outcome
outcome_of None = None
outcome_of (Some x) = Some x.outcome

-- a loop that adds the numbers below 10
abbrev sum_suite : Program
sum_suite = program (class (codes "Q") [] (102 ∷ []) ∷ []) []
    (fixed 32 (codes "sum") (codes "()V") (body 2 2 (int_const 0 ∷ (1, form.Store sort.Int 0) ∷ int_const 0 ∷ (1, form.Store sort.Int 1)
    ∷ (1, form.Load sort.Int 1) ∷ (2, form.Const (Int (pos 10))) ∷ (3, form.IfInts if_test.Ge 20) ∷ (1, form.Load sort.Int 0) ∷ (1, form.Load sort.Int 1) ∷ (1, form.Binary Add false) ∷ (1, form.Store sort.Int 0)
    ∷ (3, form.Inc 1 (pos 1)) ∷ (3, form.Goto 4) ∷ (1, form.Load sort.Int 0) ∷ print_number)) ∷ [])
    [] (test 32 102 ∷ [])

sum_runs : shown (runs sum_suite (all_tests sum_suite)) ≡ Some ((passed (line (codes "45")) 109, []) ∷ [])
unfolding machine_on_literals
sum_runs = refl

-- one unit less is too few
sum_under : outcome_of (one_test sum_suite (opening sum_suite) 1 108) ≡ None
unfolding machine_on_literals
sum_under = refl

-- an array of two arrays of three ints: 12 units for it, and its touches
abbrev grid_suite : Program
grid_suite = program (class (codes "G") [] (102 ∷ []) ∷ []) []
    (fixed 32 (codes "grid") (codes "()V") (body 2 0 (int_const 2 ∷ int_const 3 ∷ (4, form.MultiNewArray (kind.Array 2 base.Int) 2) ∷ int_const 1 ∷ (1, form.ArrayLoad cell.Ref) ∷ (1, form.ArrayLength) ∷ print_number)) ∷ [])
    [] (test 32 102 ∷ [])

grid_runs : shown (runs grid_suite (all_tests grid_suite)) ≡ Some ((
  passed (line (codes "3")) 25,
  sets (place.Head 0) ∷ sets (place.Elem 0 0) ∷ sets (place.Elem 0 1) ∷ sets (place.Head 1) ∷ sets (place.Elem 1 0) ∷ sets (place.Elem 1 1) ∷
      sets (place.Elem 1 2) ∷ sets (place.Elem 0 0) ∷ sets (place.Head 2) ∷ sets (place.Elem 2 0) ∷ sets (place.Elem 2 1) ∷ sets (place.Elem 2 2) ∷
      sets (place.Elem 0 1) ∷ gets (place.Head 0) ∷ gets (place.Elem 0 1) ∷ gets (place.Head 2) ∷ [],
) ∷ [])
unfolding machine_on_literals
grid_runs = refl

-- sizes whose sum of costs passes 64 bits: the step costs the greatest 64-bit number
grid_limit : 1 + nest_cost 2147483647 (2147483647 ∷ 2147483647 ∷ []) ≡ 2 ^ 64 - 1
unfolding nest_cost
grid_limit = refl

-- a String is stored into an array of Throwables, and null past its end
abbrev store_suite : Program
store_suite = program (class (codes "S") [] (102 ∷ 103 ∷ []) ∷ []) []
    (fixed 32 (codes "store") (codes "()V") (body 3 0 (int_const 1 ∷ (3, form.NewArray (kind.Array 1 (base.Class 7))) ∷ int_const 0 ∷ literal 1 ∷ (1, form.ArrayStore cell.Ref) ∷ returns ∷ []))
    ∷ fixed 32 (codes "beyond") (codes "()V") (body 3 0 (int_const 1 ∷ (3, form.NewArray (kind.Array 1 (base.Class 7))) ∷ int_const 1 ∷ (1, form.Const Null) ∷ (1, form.ArrayStore cell.Ref) ∷ returns ∷ [])) ∷ [])
    (codes "x" ∷ []) (test 32 102 ∷ test 32 103 ∷ [])

store_runs : shown (runs store_suite (all_tests store_suite)) ≡ Some ((
  error 21 None [] 15,
  sets (place.Head 0) ∷ sets (place.Elem 0 0) ∷ gets (place.Head 0) ∷ sets (place.Head 1) ∷ sets (place.Field 1 1) ∷ gets (place.Head 1) ∷
      gets (place.Head 1) ∷ gets (place.Field 1 1) ∷ [],
) ∷ (
  error 29 None [] 15,
  sets (place.Head 2) ∷ sets (place.Elem 2 0) ∷ gets (place.Head 2) ∷ sets (place.Head 3) ∷ sets (place.Field 3 1) ∷ gets (place.Head 3) ∷
      gets (place.Head 3) ∷ gets (place.Field 3 1) ∷ [],
) ∷ [])
unfolding machine_on_literals
store_runs = refl

-- substring, concat and charAt; the last is out of range
abbrev text_suite : Program
text_suite = program (class (codes "T") [] (102 ∷ 103 ∷ []) ∷ []) []
    (fixed 32 (codes "parts") (codes "()V") (body 3 0 (get_static 0 ∷ literal 1 ∷ int_const 1 ∷ int_const 3 ∷ (3, form.InvokeVirtual (kind.Class 1) 9) ∷ literal 2 ∷ (3, form.InvokeVirtual (kind.Class 1) 10)
    ∷ (3, form.InvokeVirtual (kind.Class 4) 34) ∷ returns ∷ []))
    ∷ fixed 32 (codes "beyond") (codes "()V") (body 2 0 (literal 1 ∷ int_const 4 ∷ (3, form.InvokeVirtual (kind.Class 1) 5) ∷ print_number)) ∷ [])
    (codes "abcd" ∷ codes "!" ∷ []) (test 32 102 ∷ test 32 103 ∷ [])

text_runs : shown (runs text_suite (all_tests text_suite)) ≡ Some ((
  passed (line (codes "bc!")) 25,
  gets (place.Static 0) ∷ sets (place.Head 0) ∷ sets (place.Text 0) ∷ gets (place.Head 0) ∷ gets (place.Text 0) ∷ sets (place.Head 1) ∷
      sets (place.Text 1) ∷ gets (place.Text 1) ∷ [],
) ∷
    (error 30 None [] 10, sets (place.Head 2) ∷ sets (place.Field 2 1) ∷ gets (place.Head 2) ∷ gets (place.Head 2) ∷ gets (place.Field 2 1) ∷ []) ∷ [])
unfolding machine_on_literals
text_runs = refl

-- a long is copied below an int: dup2_x1
abbrev moves_suite : Program
moves_suite = program (class (codes "M") [] (102 ∷ []) ∷ []) []
    (fixed 32 (codes "moves") (codes "()V") (body 6 0 ((1, form.Const (Int (pos 7))) ∷ (1, form.Const (Long (pos 1))) ∷ (1, form.Dup2X1) ∷ (1, form.Pop2) ∷ print ∷ (1, form.Convert conv.L2i) ∷ print_number)) ∷ [])
    [] (test 32 102 ∷ [])

moves_runs : shown (runs moves_suite (all_tests moves_suite)) ≡ Some ((passed (line (codes "7") ++ line (codes "1")) 20, []) ∷ [])
unfolding machine_on_literals
moves_runs = refl

-- a method that a superclass has is called past the one that overrides it, and an abstract one throws
abbrev super_suite : Program
super_suite = program
    (record (class (codes "Up") [] (102 ∷ 103 ∷ 104 ∷ [])) { flags = 0x0400 }
    ∷ record (class (codes "Down") [] (105 ∷ 106 ∷ 107 ∷ 108 ∷ [])) { superclass = Some 32 } ∷ [])
    []
    (plain 32 (codes "<init>") (codes "()V") (body 1 1 plain_init)
    ∷ plain 32 (codes "m") (codes "()V") (body 1 1 (int_const 1 ∷ print_number))
    ∷ record { class = 32; name = codes "a"; descriptor = codes "()V"; flags = 0x0400; native = None; body = None }
    ∷ plain 33 (codes "<init>") (codes "()V") (body 1 1 (load_this ∷ (3, form.InvokeSpecial (kind.Class 32) 102) ∷ returns ∷ []))
    ∷ plain 33 (codes "m") (codes "()V") (body 1 1 (int_const 2 ∷ print_number))
    ∷ plain 33 (codes "over") (codes "()V") (body 1 1 (load_this ∷ (3, form.InvokeVirtual (kind.Class 32) 103) ∷ load_this ∷ (3, form.InvokeSpecial (kind.Class 32) 103) ∷ returns ∷ []))
    ∷ plain 33 (codes "bare") (codes "()V") (body 1 1 (load_this ∷ (3, form.InvokeVirtual (kind.Class 32) 104) ∷ returns ∷ [])) ∷ [])
    [] (test 33 107 ∷ test 33 108 ∷ [])

super_runs : shown (runs super_suite (all_tests super_suite)) ≡ Some (
    (passed (line (codes "2") ++ line (codes "1")) 36, sets (place.Head 0) ∷ gets (place.Head 0) ∷ []) ∷ (
      error 16 None [] 22,
      sets (place.Head 1) ∷ gets (place.Head 1) ∷ sets (place.Head 2) ∷ sets (place.Field 2 1) ∷ gets (place.Head 2) ∷ gets (place.Head 2) ∷
          gets (place.Field 2 1) ∷ [],
    ) ∷ [])
unfolding machine_on_literals
super_runs = refl

-- a static that is set and printed, under a budget of each test
abbrev counter_suite : ℕ → Program
counter_suite b = program (class (codes "Counter") (2 ∷ []) (102 ∷ 103 ∷ []) ∷ []) (static_int 32 (codes "n") ∷ [])
    (fixed 32 (codes "set") (codes "()V") (body 1 0 (int_const 5 ∷ put_static 2 ∷ returns ∷ []))
    ∷ fixed 32 (codes "show") (codes "()V") (body 1 0 (get_static 2 ∷ print_number)) ∷ [])
    [] (record (test 32 102) { budget = b } ∷ record (test 32 103) { budget = b } ∷ [])

budget_kept : suite_fault (counter_suite 8) ≡ None
unfolding machine_on_literals
budget_kept = refl

budget_passed : suite_fault (counter_suite 7) ≡ Some (over_budget 2 7)
unfolding machine_on_literals
budget_passed = refl

-- an interface, arrays of it and of arrays of it
abbrev interface_suite : Program
interface_suite = program
    (record (class (codes "I") [] []) { flags = 0x0600 } ∷ class (codes "J") [] (102 ∷ 103 ∷ 104 ∷ []) ∷ [])
    []
    (fixed 33 (codes "asked") (codes "()V") (body 1 0 (int_const 2 ∷ (3, form.NewArray (kind.Array 1 (base.Class 32))) ∷ (3, form.InstanceOf (kind.Array 1 (base.Class 32))) ∷ print_number))
    ∷ fixed 33 (codes "cast") (codes "()V") (body 1 0 (int_const 2 ∷ (3, form.NewArray (kind.Array 1 (base.Class 32))) ∷ (3, form.CheckCast (kind.Array 1 (base.Class 32))) ∷ (1, form.ArrayLength) ∷ print_number))
    ∷ fixed 33 (codes "stored") (codes "()V") (body 3 0 (int_const 1 ∷ (3, form.NewArray (kind.Array 2 (base.Class 32))) ∷ int_const 0 ∷ int_const 0 ∷ (3, form.NewArray (kind.Array 1 (base.Class 32))) ∷ (1, form.ArrayStore cell.Ref) ∷ returns ∷ [])) ∷ [])
    [] (test 33 102 ∷ test 33 103 ∷ test 33 104 ∷ [])

-- an array of an interface is one of that interface's arrays, and an element of an array of such arrays (JVMS 6.5)
interface_runs : shown (runs interface_suite (all_tests interface_suite)) ≡ Some (
    (passed (line (codes "1")) 13, sets (place.Head 0) ∷ sets (place.Elem 0 0) ∷ sets (place.Elem 0 1) ∷ gets (place.Head 0) ∷ []) ∷
    (passed (line (codes "2")) 14, sets (place.Head 1) ∷ sets (place.Elem 1 0) ∷ sets (place.Elem 1 1) ∷ gets (place.Head 1) ∷ gets (place.Head 1) ∷ []) ∷
    (passed [] 15, sets (place.Head 2) ∷ sets (place.Elem 2 0) ∷ sets (place.Head 3) ∷ gets (place.Head 2) ∷ gets (place.Head 3) ∷ sets (place.Elem 2 0) ∷ []) ∷ [])
unfolding machine_on_literals
interface_runs = refl

-- what the step after so many steps throws by itself
abbrev thrown_at_step : Program → ℕ → State → World → Option ℕ
thrown_at_step p zero s w = thrown_itself p s w
thrown_at_step p (suc n) s w = elim (turn p s w) [ next t ↦ thrown_at_step p n t (run (step p s) w).world | ended v output ↦ None | stuck_turn ↦ None ]

-- a division by zero
abbrev divide_suite : Program
divide_suite = program (class (codes "D") [] (102 ∷ []) ∷ []) []
    (fixed 32 (codes "t") (codes "()V") (body 2 0 (int_const 1 ∷ int_const 0 ∷ (1, form.Binary Div false) ∷ returns ∷ [])) ∷ [])
    [] (test 32 102 ∷ [])

-- the fourth step divides, and the fifth raises what was thrown before
divide_thrown : map (λ n. thrown_at_step divide_suite n (started divide_suite 1) (opening divide_suite)) (0 ∷ 1 ∷ 2 ∷ 3 ∷ 4 ∷ []) ≡ None ∷ None ∷ None ∷ Some 20 ∷ None ∷ []
unfolding machine_on_literals thrown_itself
divide_thrown = refl
