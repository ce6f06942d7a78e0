-- Larger suites that are run by computation.
use Rattle.std.proofs.Common.{◌≡◌, [], ◌∷◌, ◌++◌, replicate, Some, refl, pos, negsuc, false}
use Rattle.std.specs.Prelude.{codes, flat_map}
use Rattle.jvm_model.specs.declared.{values.Value.TheVariants.Int, values.Value.TheVariants.Null, values.Value.TheVariants.Lit, instr.Op.TheVariants.Add}
use Rattle.jvm_model.specs.declared.values.Kind.TheVariants as kind
use Rattle.jvm_model.specs.declared.values.Location.TheVariants as place
use Rattle.jvm_model.specs.declared.instr.Instr.TheVariants as form
use Rattle.jvm_model.specs.declared.instr.Sort.TheVariants as sort
use Rattle.jvm_model.specs.declared.instr.IfTest.TheVariants as if_test
use Rattle.jvm_model.specs.{declared.program.Program.Program, Suite.runs, Suite.all_tests}
use Rattle.jvm_model.proofs.OnLiterals.{machine_on_literals}
use Rattle.jvm_model.proofs.Examples.Parts.{program, class, body, fixed, plain, field, static_int, test, int_const, get_static, put_static, call_static, returns, load_this, dup, print_number, gets, sets, shown, passed, line}

-- a method that calls itself until no entry may be pushed
abbrev recursion_suite : Program
recursion_suite = program (class (codes "R") (2 ∷ []) (102 ∷ 103 ∷ []) ∷ []) (static_int 32 (codes "d") ∷ [])
    (fixed 32 (codes "down") (codes "()V") (body 2 0 (get_static 2 ∷ int_const 1 ∷ (1, form.Binary Add false) ∷ put_static 2 ∷ call_static 102 ∷ returns ∷ []))
    ∷ fixed 32 (codes "deep") (codes "()V") (record (body 1 0 (call_static 102 ∷ returns ∷ (1, form.Pop) ∷ get_static 2 ∷ print_number)) { handlers = record { from = 0; to = 3; at = 4; catches = Some 18 } ∷ [] }) ∷ [])
    [] (test 32 103 ∷ [])

-- each call reads and writes the static; the error is made once, and looked at by each frame that it leaves and the one that
-- handles it
recursion_runs : shown (runs recursion_suite (all_tests recursion_suite)) ≡ Some ((
  passed (line (codes "1023")) 8200,
  flat_map (λ x. x) (replicate 1023 (gets (place.Static 2) ∷ sets (place.Static 2) ∷ [])) ++ (sets (place.Head 0) ∷ sets (place.Field 0 1) ∷ (replicate 1024 (gets (place.Head 0)) ++ (gets (place.Static 2) ∷ []))),
) ∷ [])
unfolding machine_on_literals
recursion_runs = refl

-- an inner class, a string switch, concatenation and a loop, as the usual compiler lays them out
abbrev outer_suite : Program
outer_suite = program
    (class (codes "Outer$In") (2 ∷ []) (102 ∷ 103 ∷ []) ∷ class (codes "Outer") (3 ∷ []) (104 ∷ 105 ∷ []) ∷ [])
    (field 32 (codes "this$0") (codes "LOuter;") Null ∷ field 33 (codes "n") (codes "I") (Int (pos 0)) ∷ [])
    (plain 32 (codes "<init>") (codes "(LOuter;)V") (body 2 2 (load_this ∷ (1, form.Load sort.Ref 1) ∷ (3, form.PutField 32 2) ∷ load_this ∷ (3, form.InvokeSpecial (kind.Class 0) 0) ∷ returns ∷ []))
    ∷ plain 32 (codes "twice") (codes "()I") (body 2 1 (load_this ∷ (3, form.GetField 32 2) ∷ (3, form.GetField 33 3) ∷ load_this ∷ (3, form.GetField 32 2) ∷ (3, form.GetField 33 3) ∷ (1, form.Binary Add false) ∷ (1, form.Return (Some sort.Int)) ∷ []))
    ∷ plain 33 (codes "<init>") (codes "()V") (body 2 1 (load_this ∷ (3, form.InvokeSpecial (kind.Class 0) 0) ∷ load_this ∷ int_const 3 ∷ (3, form.PutField 33 3) ∷ returns ∷ []))
    ∷ plain 33 (codes "testAll") (codes "()V") (body 5 4 (
    (2, form.Const (Lit 1)) ∷ (1, form.Store sort.Ref 1) ∷ (1, form.Const (Int (pos 0))) ∷ (1, form.Store sort.Int 2) ∷ (1, form.Load sort.Int 2) ∷ (1, form.Const (Int (pos 3))) ∷ (3, form.IfInts if_test.Ge 35)
    ∷ (3, form.New 2) ∷ dup ∷ (3, form.InvokeSpecial (kind.Class 2) 16) ∷ (1, form.Load sort.Ref 1) ∷ (3, form.InvokeVirtual (kind.Class 2) 18)
    ∷ (1, form.Load sort.Int 2) ∷ (3, form.InvokeVirtual (kind.Class 2) 19) ∷ (3, form.InvokeVirtual (kind.Class 2) 24) ∷ (1, form.Store sort.Ref 1)
    ∷ (3, form.Inc 2 (pos 1)) ∷ (3, form.Goto 5) ∷ (1, form.Load sort.Ref 1) ∷ (1, form.Store sort.Ref 2) ∷ (1, form.Const (Int (negsuc 0))) ∷ (1, form.Store sort.Int 3) ∷ (1, form.Load sort.Ref 2)
    ∷ (3, form.InvokeVirtual (kind.Class 1) 7) ∷ (17, form.Lookup ((pos 47697, 60) ∷ []) 71)
    ∷ (1, form.Load sort.Ref 2) ∷ (2, form.Const (Lit 2)) ∷ (3, form.InvokeVirtual (kind.Class 1) 6) ∷ (3, form.IfZero if_test.Eq 71) ∷ (1, form.Const (Int (pos 0))) ∷ (1, form.Store sort.Int 3)
    ∷ (1, form.Load sort.Int 3) ∷ (20, form.Lookup ((pos 0, 92) ∷ []) 129)
    ∷ get_static 0 ∷ (3, form.New 2) ∷ dup ∷ (3, form.InvokeSpecial (kind.Class 2) 16) ∷ (1, form.Load sort.Ref 1)
    ∷ (3, form.InvokeVirtual (kind.Class 2) 18) ∷ (3, form.New 32) ∷ dup ∷ load_this
    ∷ (3, form.InvokeSpecial (kind.Class 32) 102) ∷ (3, form.InvokeVirtual (kind.Class 32) 103) ∷ (3, form.InvokeVirtual (kind.Class 2) 19)
    ∷ (3, form.InvokeVirtual (kind.Class 2) 24) ∷ (3, form.InvokeVirtual (kind.Class 4) 34) ∷ (3, form.Goto 138)
    ∷ (3, form.New 10) ∷ dup ∷ (1, form.Load sort.Ref 1) ∷ (3, form.InvokeSpecial (kind.Class 10) 55)
    ∷ (1, form.Throw) ∷ returns ∷ [])) ∷ [])
    ([] ∷ codes "012" ∷ []) (test 33 105 ∷ [])

outer_runs : shown (runs outer_suite (all_tests outer_suite)) ≡ Some ((
  passed (line (codes "0126")) 166,
  sets (place.Head 0) ∷ sets (place.Field 0 3) ∷ sets (place.Field 0 3) ∷ sets (place.Head 1) ∷ sets (place.Text 1) ∷ gets (place.Head 1) ∷
      gets (place.Text 1) ∷ sets (place.Text 1) ∷ gets (place.Head 1) ∷ gets (place.Text 1) ∷ sets (place.Text 1) ∷ gets (place.Head 1) ∷
      gets (place.Text 1) ∷ sets (place.Head 2) ∷ sets (place.Text 2) ∷ sets (place.Head 3) ∷ sets (place.Text 3) ∷ gets (place.Head 3) ∷
      gets (place.Text 2) ∷ gets (place.Text 3) ∷ sets (place.Text 3) ∷ gets (place.Head 3) ∷ gets (place.Text 3) ∷ sets (place.Text 3) ∷
      gets (place.Head 3) ∷ gets (place.Text 3) ∷ sets (place.Head 4) ∷ sets (place.Text 4) ∷ sets (place.Head 5) ∷ sets (place.Text 5) ∷
      gets (place.Head 5) ∷ gets (place.Text 4) ∷ gets (place.Text 5) ∷ sets (place.Text 5) ∷ gets (place.Head 5) ∷ gets (place.Text 5) ∷
      sets (place.Text 5) ∷ gets (place.Head 5) ∷ gets (place.Text 5) ∷ sets (place.Head 6) ∷ sets (place.Text 6) ∷ gets (place.Head 6) ∷
      gets (place.Text 6) ∷ gets (place.Head 6) ∷ gets (place.Text 6) ∷ gets (place.Static 0) ∷ sets (place.Head 7) ∷ sets (place.Text 7) ∷
      gets (place.Head 7) ∷ gets (place.Text 6) ∷ gets (place.Text 7) ∷ sets (place.Text 7) ∷ sets (place.Head 8) ∷ sets (place.Field 8 2) ∷
      sets (place.Field 8 2) ∷ gets (place.Head 8) ∷ gets (place.Field 8 2) ∷ gets (place.Field 0 3) ∷ gets (place.Field 8 2) ∷ gets (place.Field 0 3) ∷
      gets (place.Head 7) ∷ gets (place.Text 7) ∷ sets (place.Text 7) ∷ gets (place.Head 7) ∷ gets (place.Text 7) ∷ sets (place.Head 9) ∷
      sets (place.Text 9) ∷ gets (place.Text 9) ∷ [],
) ∷ [])
unfolding machine_on_literals
outer_runs = refl
