-- Instructions of two programs that are the same but for their numbers.
use Rattle.std.specs.Prelude.{◌≡◌, ℕ, ℤ, List, Bool, true, Option}
use Rattle.jvm_model.specs.declared.values.Value.{Value, TheVariants.Int, TheVariants.Long, TheVariants.Null, TheVariants.Lit}
use Rattle.jvm_model.specs.declared.{values.Kind.Kind, instr.Sort.Sort, instr.Cell.Cell, instr.Op.Op, instr.Conv.Conv, instr.IfTest.IfTest, instr.Instr.Instr}
use Rattle.jvm_model.specs.declared.instr.Instr.TheVariants as form
use Rattle.order_law.specs.{Pairing.PairedKind, Numbers.Numbers, Numbers.Tested}

-- a constant is no object
pub data PairedConstant (n : Numbers) : Value → Value → Type 0 where
  const_int : (k : ℤ) → PairedConstant n (Int k) (Int k)
  const_long : (k : ℤ) → PairedConstant n (Long k) (Long k)
  const_null : PairedConstant n Null Null
  const_literal : {a b : ℕ} → n.literal a b ≡ true → PairedConstant n (Lit a) (Lit b)

pub data PairedInstr (n : Numbers) : Instr → Instr → Type 0 where
  nop : PairedInstr n form.Nop form.Nop
  const : {v w : Value} → PairedConstant n v w → PairedInstr n (form.Const v) (form.Const w)
  load : (x : Sort) (i : ℕ) → PairedInstr n (form.Load x i) (form.Load x i)
  store : (x : Sort) (i : ℕ) → PairedInstr n (form.Store x i) (form.Store x i)
  array_load : (x : Cell) → PairedInstr n (form.ArrayLoad x) (form.ArrayLoad x)
  array_store : (x : Cell) → PairedInstr n (form.ArrayStore x) (form.ArrayStore x)
  pop : PairedInstr n form.Pop form.Pop
  pop2 : PairedInstr n form.Pop2 form.Pop2
  dup : PairedInstr n form.Dup form.Dup
  dup_x1 : PairedInstr n form.DupX1 form.DupX1
  dup_x2 : PairedInstr n form.DupX2 form.DupX2
  dup2 : PairedInstr n form.Dup2 form.Dup2
  dup2_x1 : PairedInstr n form.Dup2X1 form.Dup2X1
  dup2_x2 : PairedInstr n form.Dup2X2 form.Dup2X2
  swap : PairedInstr n form.Swap form.Swap
  binary : (x : Op) (w : Bool) → PairedInstr n (form.Binary x w) (form.Binary x w)
  neg : (w : Bool) → PairedInstr n (form.Neg w) (form.Neg w)
  inc : (i : ℕ) (by : ℤ) → PairedInstr n (form.Inc i by) (form.Inc i by)
  convert : (x : Conv) → PairedInstr n (form.Convert x) (form.Convert x)
  compare : PairedInstr n form.Compare form.Compare
  if_zero : (x : IfTest) (to : ℕ) → PairedInstr n (form.IfZero x to) (form.IfZero x to)
  if_ints : (x : IfTest) (to : ℕ) → PairedInstr n (form.IfInts x to) (form.IfInts x to)
  if_refs : (x : Bool) (to : ℕ) → PairedInstr n (form.IfRefs x to) (form.IfRefs x to)
  if_null : (x : Bool) (to : ℕ) → PairedInstr n (form.IfNull x to) (form.IfNull x to)
  goto : (to : ℕ) → PairedInstr n (form.Goto to) (form.Goto to)
  table : (low : ℤ) (ts : List ℕ) (other : ℕ) → PairedInstr n (form.Table low ts other) (form.Table low ts other)
  lookup : (ps : List (ℤ × ℕ)) (other : ℕ) → PairedInstr n (form.Lookup ps other) (form.Lookup ps other)
  return : (x : Option Sort) → PairedInstr n (form.Return x) (form.Return x)
  get_static : {f g : ℕ} → n.fields f g ≡ true → PairedInstr n (form.GetStatic f) (form.GetStatic g)
  put_static : {f g : ℕ} → n.fields f g ≡ true → PairedInstr n (form.PutStatic f) (form.PutStatic g)
  get_field : {c d f g : ℕ} → n.class c d ≡ true → n.fields f g ≡ true → PairedInstr n (form.GetField c f) (form.GetField d g)
  put_field : {c d f g : ℕ} → n.class c d ≡ true → n.fields f g ≡ true → PairedInstr n (form.PutField c f) (form.PutField d g)
  invoke_virtual : {k l : Kind} {a b : ℕ} → PairedKind (Tested n.class) k l → n.method a b ≡ true → PairedInstr n (form.InvokeVirtual k a) (form.InvokeVirtual l b)
  invoke_special : {k l : Kind} {a b : ℕ} → PairedKind (Tested n.class) k l → n.method a b ≡ true → PairedInstr n (form.InvokeSpecial k a) (form.InvokeSpecial l b)
  invoke_static : {a b : ℕ} → n.method a b ≡ true → PairedInstr n (form.InvokeStatic a) (form.InvokeStatic b)
  invoke_interface : {c d a b : ℕ} → n.class c d ≡ true → n.method a b ≡ true → PairedInstr n (form.InvokeInterface c a) (form.InvokeInterface d b)
  new : {c d : ℕ} → n.class c d ≡ true → PairedInstr n (form.New c) (form.New d)
  new_array : {k l : Kind} → PairedKind (Tested n.class) k l → PairedInstr n (form.NewArray k) (form.NewArray l)
  multi_new_array : {k l : Kind} (d : ℕ) → PairedKind (Tested n.class) k l → PairedInstr n (form.MultiNewArray k d) (form.MultiNewArray l d)
  array_length : PairedInstr n form.ArrayLength form.ArrayLength
  throw : PairedInstr n form.Throw form.Throw
  check_cast : {k l : Kind} → PairedKind (Tested n.class) k l → PairedInstr n (form.CheckCast k) (form.CheckCast l)
  instance_of : {k l : Kind} → PairedKind (Tested n.class) k l → PairedInstr n (form.InstanceOf k) (form.InstanceOf l)
  monitor : PairedInstr n form.Monitor form.Monitor
