-- The grammar of code, part by part (JVMS 4.7.3, 4.9.1 and 6.5). Offsets stand in the bytes, pcs in the operands.
use Rattle.std.specs.Prelude.{◌≡◌, ℕ, ◌+◌, ◌*◌, ◌^◌, ℤ, pos, int_le, List, [], ◌∷◌, ◌++◌, length, Option, Some, None, Bool, true, false, nat_lt, nat_le, ◌==◌, ◌&&◌, cond}
use Rattle.std.specs.List.{AllByRecursion}
use Rattle.std.specs.Int.{Width, w8, w16, w32, byte_len, cast_signed}
use Rattle.class_pool.specs.{declared.pool.Entry.Entry, Pool.entry_of}
use Rattle.class_pool.specs.Grammar.{Nothing, Then, Mapped, Never, Tested, Number, Run, Counted, Chain}
use Rattle.code_decode.specs.declared.{instructions.RawOp.RawOp, decoding.Code.Code, judging.Fit.Fit}
use Rattle.code_decode.specs.declared.judging.Fit.TheVariants as fit
use Rattle.code_decode.specs.declared.opcodes.{Shape.Shape, Named.TheVariants.Nested, Named.TheVariants.Interface}
use Rattle.code_decode.specs.declared.opcodes.Shape.TheVariants as shape
use Rattle.code_decode.specs.{Place.target, Opcodes.shape_of, Opcodes.takes_local, Instructions.op, Targets.is_start, Targets.leads_to}
use Rattle.code_decode.specs.Judging.{constant_fit, named_fit, kind_fit, class_name, dimensions, interface_units, counts_units}
use Rattle.code_decode.specs.Switches.{padding, span, keys_rise}

-- a number of this width
abbrev pub Word : Width → List ℕ → ℕ → Type 0
Word w = Number w (2 ^ (8 * byte_len w))

-- one operand
abbrev pub OneText : Width → (ℕ → ℤ) → List ℕ → List ℤ → Type 0
OneText w view = Mapped (λ n. view n ∷ []) (Word w)

-- a local variable and what is added to it
abbrev pub IncrementText : Width → List ℕ → List ℤ → Type 0
IncrementText w = Then (Word w) (λ local. Mapped (λ by. pos local ∷ cast_signed w by ∷ []) (Word w))

abbrev pub is_right : Fit → Bool
is_right fit.Right = true
is_right _ = false

-- an operand that fits
abbrev pub FittingText : Width → (ℕ → Fit) → List ℕ → List ℤ → Type 0
FittingText w fits = Then (Word w) (λ n. Tested (is_right (fits n)) (Nothing (pos n ∷ [])))

-- an interface's method, the units of its arguments with the object, and a zero
abbrev pub InterfaceText : List (Option Entry) → List ℕ → List ℤ → Type 0
InterfaceText slots = Then (Word w16) (λ n. Then (Word w8) (λ count. Then (Word w8) (λ zero. Tested (is_right (named_fit Interface slots (entry_of slots n)))
    (Tested (counts_units (interface_units slots (entry_of slots n)) count && zero == 0) (Nothing (pos n ∷ pos count ∷ []))))))

-- an array class, and how many of its dimensions are made
abbrev pub DimensionsText : List (Option Entry) → List ℕ → List ℤ → Type 0
DimensionsText slots = Then (Word w16) (λ n. Then (Word w8) (λ count. Tested (is_right (named_fit Nested slots (entry_of slots n)))
    (Tested (nat_lt 0 count && nat_le count (dimensions (class_name slots (entry_of slots n)))) (Nothing (pos n ∷ pos count ∷ [])))))

-- a signed number of four bytes
abbrev pub WordText : List ℕ → ℤ → Type 0
WordText = Mapped (λ n. cast_signed w32 n) (Word w32)

-- a place, by its offset of four bytes from pc
abbrev pub PlaceText : ℕ → ℕ → List ℕ → ℤ → Type 0
PlaceText total pc = Mapped (λ n. target total pc (cast_signed w32 n)) (Word w32)

-- the padding, of any bytes, and the place for every other number
abbrev pub OtherText : ℕ → ℕ → List ℕ → ℤ → Type 0
OtherText total pc = Then (Run (padding pc)) (λ _. PlaceText total pc)

abbrev pub EndsText : List ℕ → ℤ × ℤ → Type 0
EndsText = Then WordText (λ low. Then WordText (λ high. Tested (int_le low high) (Nothing (low, high))))

abbrev pub TableText : ℕ → ℕ → List ℕ → List ℤ → Type 0
TableText total pc = Then (OtherText total pc) (λ other. Then EndsText (λ ends. Counted (λ _ _. PlaceText total pc) (other ∷ ends.0 ∷ ends.1 ∷ []) (span ends.0 ends.1)))

abbrev pub CountText : List ℕ → ℕ → Type 0
CountText = Then (Word w32) (λ n. Tested (nat_lt n 2147483648) (Nothing n))

-- one more key and its place
abbrev pub PairText : ℕ → ℕ → List ℤ → List ℕ → List ℤ → Type 0
PairText total pc now = Then WordText (λ key. Mapped (λ to. now ++ key ∷ to ∷ []) (PlaceText total pc))

abbrev pub PairsText : ℕ → ℕ → ℤ → List ℕ → List ℤ → Type 0
PairsText total pc other = Then CountText (λ n. Chain (PairText total pc) (other ∷ []) n)

abbrev pub LookupText : ℕ → ℕ → List ℕ → List ℤ → Type 0
LookupText total pc = Then (OtherText total pc) (λ other. Then (PairsText total pc other) (λ args. Tested (keys_rise args) (Nothing args)))

-- the operands of each form
abbrev pub ArgsText : List (Option Entry) → ℕ → ℕ → Shape → List ℕ → List ℤ → Type 0
ArgsText slots total pc shape.Plain = Nothing []
ArgsText slots total pc shape.Byte = OneText w8 (λ n. cast_signed w8 n)
ArgsText slots total pc shape.Short = OneText w16 (λ n. cast_signed w16 n)
ArgsText slots total pc shape.Local = OneText w8 (λ n. pos n)
ArgsText slots total pc shape.Increment = IncrementText w8
ArgsText slots total pc (shape.Near constant) = FittingText w8 (λ n. constant_fit constant (entry_of slots n))
ArgsText slots total pc (shape.Far constant) = FittingText w16 (λ n. constant_fit constant (entry_of slots n))
ArgsText slots total pc (shape.Entry named) = FittingText w16 (λ n. named_fit named slots (entry_of slots n))
ArgsText slots total pc shape.Interface = InterfaceText slots
ArgsText slots total pc shape.Kind = FittingText w8 kind_fit
ArgsText slots total pc shape.Dimensions = DimensionsText slots
ArgsText slots total pc shape.Branch = OneText w16 (λ n. target total pc (cast_signed w16 n))
ArgsText slots total pc shape.FarBranch = OneText w32 (λ n. target total pc (cast_signed w32 n))
ArgsText slots total pc shape.Table = TableText total pc
ArgsText slots total pc shape.Lookup = LookupText total pc

abbrev pub ShapedText : List (Option Entry) → ℕ → ℕ → ℕ → Option Shape → List ℕ → RawOp → Type 0
ShapedText slots total pc opcode None = Never
ShapedText slots total pc opcode (Some form) = Mapped (λ args. op pc opcode false args) (ArgsText slots total pc form)

-- behind wide: a load or a store, or iinc (132)
abbrev pub WideArgsText : ℕ → List ℕ → List ℤ → Type 0
WideArgsText opcode text args = cond (takes_local opcode) (OneText w16 (λ n. pos n) text args) (cond (opcode == 132) (IncrementText w16 text args) (Never text args))

abbrev pub WideText : ℕ → List ℕ → RawOp → Type 0
WideText pc = Then (Word w8) (λ opcode. Mapped (λ args. op pc opcode true args) (WideArgsText opcode))

-- the instruction at pc, in code of total bytes; 196 is wide
abbrev pub OpText : List (Option Entry) → ℕ → ℕ → List ℕ → RawOp → Type 0
OpText slots total pc = Then (Word w8) (λ opcode text o. cond (opcode == 196) (WideText pc text o) (ShapedText slots total pc opcode (shape_of opcode) text o))

-- instructions one after the other, from pc on
abbrev pub OpsText : List (Option Entry) → ℕ → ℕ → List ℕ → List RawOp → Type 0
OpsText slots total pc text [] = text ≡ []
OpsText slots total pc text (o ∷ ops) = (one more : List ℕ) × (text ≡ one ++ more) × OpText slots total pc one o × OpsText slots total (pc + length one) more ops

-- The bytes spell the code, in a class whose pool has these slots.
pub record CodeText (slots : List (Option Entry)) (text : List ℕ) (code : Code) : Type 0 where
  pub len : code.length ≡ length text
  pub instructions : OpsText slots (length text) 0 text code.ops
  -- each leads to places where instructions begin
  pub targets : AllByRecursion (λ o. leads_to (is_start code.ops (length text)) o ≡ true) code.ops
