-- How one operand is written.
use Rattle.std.specs.Prelude.{ℕ, ℤ, List, [], ◌∷◌, ◌++◌}
use Rattle.std.specs.Int.{w8, w16, w32}
use Rattle.class_write.specs.declared.operands.Form.{Form}
use Rattle.class_write.specs.declared.operands.Form.TheVariants.{Byte, Short, SignedByte, SignedShort, SignedWord, Near, Far, Counted}
use Rattle.code_decode.specs.Spelling.{number_bytes, signed_bytes, offset_bytes}

abbrev pub form_bytes : Form → ℤ → List ℕ
form_bytes Byte = λ z. number_bytes w8 z
form_bytes Short = λ z. number_bytes w16 z
form_bytes SignedByte = λ z. signed_bytes w8 z
form_bytes SignedShort = λ z. signed_bytes w16 z
form_bytes SignedWord = λ z. signed_bytes w32 z
form_bytes (Near pc) = λ z. offset_bytes w16 pc z
form_bytes (Far pc) = λ z. offset_bytes w32 pc z
form_bytes Counted = λ z. number_bytes w8 z ++ 0 ∷ []
