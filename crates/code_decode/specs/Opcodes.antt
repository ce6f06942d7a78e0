-- The form of each opcode's operands (JVMS 6.5).
use Rattle.std.specs.Prelude.{ℕ, Bool, ◌&&◌, ◌||◌, ◌==◌, nat_le, Option, Some, None, if◌then◌else◌}
use Rattle.code_decode.specs.declared.opcodes.{Shape.Shape, Constant.TheVariants.Single, Constant.TheVariants.Double}
use Rattle.code_decode.specs.declared.opcodes.Shape.TheVariants.{Plain, Byte, Short, Local, Increment, Near, Far, Entry, Interface, Kind, Dimensions, Branch, FarBranch, Table, Lookup}
use Rattle.code_decode.specs.declared.opcodes.Named.TheVariants.{Field, Virtual, Direct, Made, Element, Tested}

abbrev pub is_within : ℕ → ℕ → ℕ → Bool
is_within low high n = nat_le low n && nat_le n high

-- constants, loads and stores of a fixed local, of arrays; the stack, arithmetic on ints and longs,
-- conversions and comparison; returns, arraylength, athrow and monitors
abbrev pub has_no_operands : ℕ → Bool
has_no_operands n = is_within 0 10 n || is_within 26 33 n || is_within 42 47 n || is_within 50 53 n || is_within 59 66 n || is_within 75 80 n
    || is_within 83 97 n || n == 100 || n == 101 || n == 104 || n == 105 || n == 108 || n == 109 || n == 112 || n == 113 || n == 116 || n == 117 || is_within 120 131 n
    || n == 133 || n == 136 || is_within 145 148 n
    || n == 172 || n == 173 || n == 176 || n == 177 || n == 190 || n == 191 || n == 194 || n == 195

-- iload, lload, aload, istore, lstore, astore
abbrev pub takes_local : ℕ → Bool
takes_local n = n == 21 || n == 22 || n == 25 || n == 54 || n == 55 || n == 58

-- ifeq to if_acmpne, goto, ifnull, ifnonnull
abbrev pub takes_branch : ℕ → Bool
takes_branch n = is_within 153 167 n || n == 198 || n == 199

unfoldable pub shape_of : ℕ → Option Shape
shape_of n = if has_no_operands n then Some Plain
    else if takes_local n then Some Local
    else if takes_branch n then Some Branch
    else if n == 16 then Some Byte
    else if n == 17 then Some Short
    else if n == 18 then Some (Near Single)
    else if n == 19 then Some (Far Single)
    else if n == 20 then Some (Far Double)
    else if n == 132 then Some Increment
    else if n == 170 then Some Table
    else if n == 171 then Some Lookup
    else if is_within 178 181 n then Some (Entry Field)
    else if n == 182 then Some (Entry Virtual)
    else if n == 183 || n == 184 then Some (Entry Direct)
    else if n == 185 then Some Interface
    else if n == 187 then Some (Entry Made)
    else if n == 188 then Some Kind
    else if n == 189 then Some (Entry Element)
    else if n == 192 || n == 193 then Some (Entry Tested)
    else if n == 197 then Some Dimensions
    else if n == 200 then Some FarBranch
    else None
