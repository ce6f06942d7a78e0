-- Handler tables (JVMS 4.7.3): how they are read, the first fault, and their grammar.
use Rattle.std.specs.Prelude.{ℕ, pos, List, [], length, Option, Result, Ok, Bool, nat_lt, ◌==◌, ◌||◌}
use Rattle.std.specs.Int.{w16}
use Rattle.class_pool.specs.declared.{fault.Fault.Fault, fault.Fault.TheVariants.BadIndex, fault.Fault.TheVariants.BadTarget, pool.Entry.Entry}
use Rattle.et_base.specs.Answers.{◌>>=◌, tested}
use Rattle.class_pool.specs.{Reading.number_at, Loops.counted, Pool.entry_of, Pool.is_class}
use Rattle.class_pool.specs.Grammar.{Nothing, Then, Mapped, Tested, Counted}
use Rattle.code_decode.specs.{declared.decoding.Code.Code, Targets.is_start}
use Rattle.class_reader.specs.{declared.parts.RawHandler.RawHandler, Indices.Short}

-- whether an instruction of the code begins at a place
abbrev pub begins_at : Code → ℕ → Bool
begins_at code pc = is_start code.ops code.length (pos pc)

-- A range may end where the code does.
abbrev pub ends_at : Code → ℕ → Bool
ends_at code pc = begins_at code pc || pc == code.length

-- 0 catches everything.
abbrev pub is_caught : List (Option Entry) → ℕ → Bool
is_caught slots index = index == 0 || is_class (entry_of slots index)

-- a range of places that isn't empty
unfoldable pub range_at : ℕ → Code → List ℕ → Result ((ℕ × ℕ) × List ℕ) Fault
range_at method code bytes = do
  from ← number_at w16 bytes
  begins ← tested (begins_at code from.0) (BadTarget method from.0)
  to ← number_at w16 from.1
  ends ← tested (ends_at code to.0) (BadTarget method to.0)
  some ← tested (nat_lt from.0 to.0) (BadTarget method from.0)
  Ok ((from.0, to.0), to.1)

-- the index of the class that is caught
unfoldable pub catch_at : List (Option Entry) → List ℕ → Result (ℕ × List ℕ) Fault
catch_at slots bytes = do
  index ← number_at w16 bytes
  right ← tested (is_caught slots index.0) (BadIndex (length bytes))
  Ok index

abbrev pub handler_of : ℕ × ℕ → ℕ → ℕ → RawHandler
handler_of range at class = record { from = range.0; to = range.1; at = at; catch_class = class }

unfoldable pub handler_at : ℕ → List (Option Entry) → Code → List ℕ → Result (RawHandler × List ℕ) Fault
handler_at method slots code bytes = do
  range ← range_at method code bytes
  at ← number_at w16 range.1
  begins ← tested (begins_at code at.0) (BadTarget method at.0)
  class ← catch_at slots at.1
  Ok (handler_of range.0 at.0 class.0, class.1)

unfoldable pub handlers_at : ℕ → List (Option Entry) → Code → List ℕ → Result (List RawHandler × List ℕ) Fault
handlers_at method slots code bytes = do
  count ← number_at w16 bytes
  counted (λ _ _ b. handler_at method slots code b) [] count.0 count.1

-- ---- the grammar

abbrev pub RangeText : Code → List ℕ → ℕ × ℕ → Type 0
RangeText code = Then Short (λ from. Tested (begins_at code from) (Then Short (λ to. Tested (ends_at code to) (Tested (nat_lt from to) (Nothing (from, to))))))

abbrev pub CatchText : List (Option Entry) → List ℕ → ℕ → Type 0
CatchText slots = Then Short (λ index. Tested (is_caught slots index) (Nothing index))

abbrev pub HandlerText : List (Option Entry) → Code → List ℕ → RawHandler → Type 0
HandlerText slots code = Then (RangeText code) (λ range. Then Short (λ at. Tested (begins_at code at) (Mapped (handler_of range at) (CatchText slots))))

abbrev pub HandlersText : List (Option Entry) → Code → List ℕ → List RawHandler → Type 0
HandlersText slots code = Then Short (λ n. Counted (λ _ _. HandlerText slots code) [] n)
