-- Parts of the rows of the methods of System, PrintStream, Files and Env.
use Rattle.std.specs.Prelude.{ℕ, List, ◌++◌, Bool, true, false}
use Rattle.jvm_model.specs.{Rows.popping, NativesOutside.line_feed, NativesOutside.on_printed, NativesOutside.prints_string}
use Rattle.jvm_model.specs.Working.{Working, operands, prints}
use Rattle.vm_mem.specs.Refines.{Row}

-- the call prints these bytes
abbrev pub bytes_row : List ℕ → Row Working
bytes_row bytes p s = prints p s (operands s) bytes

-- a String or null is printed, and then these bytes
abbrev pub string_print_row : List ℕ → Row Working
string_print_row end p s = on_printed s (λ v vs. prints_string p s vs end v)

-- the bytes, and a line feed behind those of a line
abbrev pub ended : Bool → List ℕ → List ℕ
ended false bytes = bytes
ended true bytes = bytes ++ line_feed

-- the stream below the argument is taken, and these bytes are printed
abbrev pub value_print_row : List ℕ → Row Working
value_print_row bytes p s = popping (operands s) (λ r vs. prints p s vs bytes)
