-- The form of each instruction, its references resolved (JVMS 6.5).
use Rattle.std.specs.Prelude.{ℕ, ℤ, pos, ◌+◌, ◌-◌, ◌%◌, ◌-ℤ◌, List, [], ◌∷◌, drop, map, min, Option, Some, None, Bool, ◌&&◌, ◌||◌, nat_le, ◌==◌, if◌then◌else◌}
use Rattle.std.specs.Int.{w32, cast_unsigned}
use Rattle.code_decode.specs.declared.instructions.RawOp.{RawOp}
use Rattle.jvm_model.specs.declared.values.{Value.TheVariants.Int, Value.TheVariants.Long, Value.TheVariants.Null, Kind.Kind}
use Rattle.jvm_model.specs.declared.values.Base.TheVariants as base
use Rattle.jvm_model.specs.declared.values.Kind.TheVariants as kind
use Rattle.jvm_model.specs.{declared.instr.Instr.Instr, declared.instr.Sort.Sort, declared.instr.Op.Op, declared.instr.IfTest.IfTest, Selection.named_class}
use Rattle.jvm_model.specs.declared.instr.Instr.TheVariants as form
use Rattle.jvm_model.specs.declared.instr.Sort.TheVariants as sort
use Rattle.jvm_model.specs.declared.instr.Cell.TheVariants as cell
use Rattle.jvm_model.specs.declared.instr.Op.TheVariants as op
use Rattle.jvm_model.specs.declared.instr.Conv.TheVariants as conv
use Rattle.jvm_model.specs.declared.instr.IfTest.TheVariants as test
use Rattle.code_forms.specs.{declared.references.Target.Target, Operands.operand, Operands.number_in}
use Rattle.code_forms.specs.declared.references.Target.TheVariants as target

-- ---- operands

-- a local variable, of 16 bits
abbrev pub local_in : RawOp → ℕ
local_in o = number_in o 0 % 65536

-- the places that operands are
abbrev pub places : List ℤ → List ℕ
places zs = map (λ z. cast_unsigned w32 z) zs

-- keys and places in turn
abbrev pub pairs : List ℤ → List (ℤ × ℕ)
pairs [] = []
pairs (key ∷ []) = []
pairs (key ∷ to ∷ rest) = (key, cast_unsigned w32 to) ∷ pairs rest

-- ---- forms by opcode; what is no opcode of a group is Nop, which the reading of code has excluded

-- the value that a target is
abbrev pub constant_form : Option Target → Instr
constant_form (Some (target.Constant v)) = form.Const v
constant_form _ = form.Nop

-- 0 to 20: constants
unfoldable pub constants : Option Target → RawOp → Instr
constants t o = if o.opcode == 1 then form.Const Null
    else if nat_le 2 o.opcode && nat_le o.opcode 8 then form.Const (Int (pos o.opcode -ℤ pos 3))
    else if o.opcode == 9 || o.opcode == 10 then form.Const (Long (pos o.opcode -ℤ pos 9))
    else if o.opcode == 16 || o.opcode == 17 then form.Const (Int (operand o 0))
    else if nat_le 18 o.opcode && nat_le o.opcode 20 then constant_form t
    else form.Nop

abbrev pub load : Sort → ℕ → Instr
load of local = form.Load of local

abbrev pub store : Sort → ℕ → Instr
store of local = form.Store of local

-- 21 to 53: loads of locals and of array cells
unfoldable pub loads : RawOp → Instr
loads o = if o.opcode == 21 then load sort.Int (local_in o)
    else if o.opcode == 22 then load sort.Long (local_in o)
    else if o.opcode == 25 then load sort.Ref (local_in o)
    else if nat_le 26 o.opcode && nat_le o.opcode 29 then load sort.Int (o.opcode - 26)
    else if nat_le 30 o.opcode && nat_le o.opcode 33 then load sort.Long (o.opcode - 30)
    else if nat_le 42 o.opcode && nat_le o.opcode 45 then load sort.Ref (o.opcode - 42)
    else if o.opcode == 46 then form.ArrayLoad cell.Int
    else if o.opcode == 47 then form.ArrayLoad cell.Long
    else if o.opcode == 50 then form.ArrayLoad cell.Ref
    else if o.opcode == 51 then form.ArrayLoad cell.Byte
    else if o.opcode == 52 then form.ArrayLoad cell.Char
    else if o.opcode == 53 then form.ArrayLoad cell.Short
    else form.Nop

-- 54 to 86: stores to locals and to array cells
unfoldable pub stores : RawOp → Instr
stores o = if o.opcode == 54 then store sort.Int (local_in o)
    else if o.opcode == 55 then store sort.Long (local_in o)
    else if o.opcode == 58 then store sort.Ref (local_in o)
    else if nat_le 59 o.opcode && nat_le o.opcode 62 then store sort.Int (o.opcode - 59)
    else if nat_le 63 o.opcode && nat_le o.opcode 66 then store sort.Long (o.opcode - 63)
    else if nat_le 75 o.opcode && nat_le o.opcode 78 then store sort.Ref (o.opcode - 75)
    else if o.opcode == 79 then form.ArrayStore cell.Int
    else if o.opcode == 80 then form.ArrayStore cell.Long
    else if o.opcode == 83 then form.ArrayStore cell.Ref
    else if o.opcode == 84 then form.ArrayStore cell.Byte
    else if o.opcode == 85 then form.ArrayStore cell.Char
    else if o.opcode == 86 then form.ArrayStore cell.Short
    else form.Nop

-- 87 to 95: stack moves
unfoldable pub moves : ℕ → Instr
moves n = if n == 87 then form.Pop
    else if n == 88 then form.Pop2
    else if n == 89 then form.Dup
    else if n == 90 then form.DupX1
    else if n == 91 then form.DupX2
    else if n == 92 then form.Dup2
    else if n == 93 then form.Dup2X1
    else if n == 94 then form.Dup2X2
    else if n == 95 then form.Swap
    else form.Nop

-- the odd opcode of each pair works on longs
abbrev pub is_wide : ℕ → Bool
is_wide n = n % 2 == 1

abbrev pub binary : Op → ℕ → Instr
binary x n = form.Binary x (is_wide n)

-- 96 to 132: arithmetic, shifts, logic and iinc
unfoldable pub numbers : RawOp → Instr
numbers o = if o.opcode == 96 || o.opcode == 97 then binary op.Add o.opcode
    else if o.opcode == 100 || o.opcode == 101 then binary op.Sub o.opcode
    else if o.opcode == 104 || o.opcode == 105 then binary op.Mul o.opcode
    else if o.opcode == 108 || o.opcode == 109 then binary op.Div o.opcode
    else if o.opcode == 112 || o.opcode == 113 then binary op.Rem o.opcode
    else if o.opcode == 116 || o.opcode == 117 then form.Neg (is_wide o.opcode)
    else if o.opcode == 120 || o.opcode == 121 then binary op.Shl o.opcode
    else if o.opcode == 122 || o.opcode == 123 then binary op.Shr o.opcode
    else if o.opcode == 124 || o.opcode == 125 then binary op.Ushr o.opcode
    else if o.opcode == 126 || o.opcode == 127 then binary op.And o.opcode
    else if o.opcode == 128 || o.opcode == 129 then binary op.Or o.opcode
    else if o.opcode == 130 || o.opcode == 131 then binary op.Xor o.opcode
    else if o.opcode == 132 then form.Inc (local_in o) (operand o 1)
    else form.Nop

-- 133 to 148: conversions and lcmp
unfoldable pub conversions : ℕ → Instr
conversions n = if n == 133 then form.Convert conv.I2l
    else if n == 136 then form.Convert conv.L2i
    else if n == 145 then form.Convert conv.I2b
    else if n == 146 then form.Convert conv.I2c
    else if n == 147 then form.Convert conv.I2s
    else if n == 148 then form.Compare
    else form.Nop

-- the tests in the order of their opcodes
unfoldable pub test_of : ℕ → IfTest
test_of n = if n == 0 then test.Eq
    else if n == 1 then test.Ne
    else if n == 2 then test.Lt
    else if n == 3 then test.Ge
    else if n == 4 then test.Gt
    else test.Le

abbrev pub table : RawOp → Instr
table o = form.Table (operand o 1) (places (drop 3 o.args)) (number_in o 0)

abbrev pub look_up : RawOp → Instr
look_up o = form.Lookup (pairs (drop 1 o.args)) (number_in o 0)

-- 153 to 177: branches, switches and returns
unfoldable pub branches : RawOp → Instr
branches o = if nat_le 153 o.opcode && nat_le o.opcode 158 then form.IfZero (test_of (o.opcode - 153)) (number_in o 0)
    else if nat_le 159 o.opcode && nat_le o.opcode 164 then form.IfInts (test_of (o.opcode - 159)) (number_in o 0)
    else if o.opcode == 165 || o.opcode == 166 then form.IfRefs (o.opcode == 165) (number_in o 0)
    else if o.opcode == 167 then form.Goto (number_in o 0)
    else if o.opcode == 170 then table o
    else if o.opcode == 171 then look_up o
    else if o.opcode == 172 then form.Return (Some sort.Int)
    else if o.opcode == 173 then form.Return (Some sort.Long)
    else if o.opcode == 176 then form.Return (Some sort.Ref)
    else if o.opcode == 177 then form.Return None
    else form.Nop

abbrev pub field_form : ℕ → ℕ → ℕ → Instr
field_form n named f = if n == 178 then form.GetStatic f
    else if n == 179 then form.PutStatic f
    else if n == 180 then form.GetField named f
    else form.PutField named f

abbrev pub method_form : ℕ → Kind → ℕ → Instr
method_form n named m = if n == 182 then form.InvokeVirtual named m
    else if n == 183 then form.InvokeSpecial named m
    else if n == 184 then form.InvokeStatic m
    else form.InvokeInterface (named_class named) m

-- 178 to 185: fields and calls
unfoldable pub members : Option Target → ℕ → Instr
members (Some (target.Field named f)) n = field_form n named f
members (Some (target.Method named m)) n = method_form n named m
members _ n = form.Nop

-- the array type of elements of a kind; none has more than 255 dimensions (JVMS 4.9.1)
abbrev pub array_of : Kind → Kind
array_of (kind.Class c) = kind.Array 1 (base.Class c)
array_of (kind.Array d b) = kind.Array (min (d + 1) 255) b

-- the array type of a newarray (JVMS table 6.5.newarray-A)
abbrev pub number_array : ℕ → Kind
number_array n = if n == 4 then kind.Array 1 base.Boolean
    else if n == 5 then kind.Array 1 base.Char
    else if n == 8 then kind.Array 1 base.Byte
    else if n == 9 then kind.Array 1 base.Short
    else if n == 10 then kind.Array 1 base.Int
    else kind.Array 1 base.Long

abbrev pub type_form : RawOp → Kind → Instr
type_form o k = if o.opcode == 187 then form.New (named_class k)
    else if o.opcode == 189 then form.NewArray (array_of k)
    else if o.opcode == 192 then form.CheckCast k
    else if o.opcode == 193 then form.InstanceOf k
    else form.MultiNewArray k (number_in o 1 % 256)

-- 187, 189, 192, 193 and 197: types
unfoldable pub types : Option Target → RawOp → Instr
types (Some (target.Type k)) o = type_form o k
types _ o = form.Nop

-- 188 and above: newarray, arraylength, athrow, monitors, ifnull, ifnonnull and goto_w, and types
unfoldable pub others : Option Target → RawOp → Instr
others t o = if o.opcode == 188 then form.NewArray (number_array (number_in o 0))
    else if o.opcode == 190 then form.ArrayLength
    else if o.opcode == 191 then form.Throw
    else if o.opcode == 194 || o.opcode == 195 then form.Monitor
    else if o.opcode == 198 || o.opcode == 199 then form.IfNull (o.opcode == 198) (number_in o 0)
    else if o.opcode == 200 then form.Goto (number_in o 0)
    else types t o

-- the form of an instruction whose pool entry, if it names one, stands for this target
unfoldable pub form_of : Option Target → RawOp → Instr
form_of t o = if nat_le o.opcode 20 then constants t o
    else if nat_le o.opcode 53 then loads o
    else if nat_le o.opcode 86 then stores o
    else if nat_le o.opcode 95 then moves o.opcode
    else if nat_le o.opcode 132 then numbers o
    else if nat_le o.opcode 148 then conversions o.opcode
    else if nat_le o.opcode 177 then branches o
    else if nat_le o.opcode 185 then members t o.opcode
    else others t o
