-- Reading from left to right, with the first fault that is met and how many bytes are left there.
use Rattle.std.specs.Prelude.{ℕ, List, length, take, drop, Option, Some, None, Result, Ok, Err, nat_lt, if◌then◌else◌}
use Rattle.std.specs.Int.{Width, byte_len, from_be_bytes}
use Rattle.et_base.specs.Answers as answers
use Rattle.class_pool.specs.declared.fault.{Fault.Fault, Fault.TheVariants.Truncated, ReadError.ReadError}
use Rattle.class_pool.specs.declared.fault.ReadError.TheVariants as errors

-- the fault that an error names; none for want of memory
abbrev pub named : ReadError → Option Fault
named errors.Memory = None
named (errors.Fault f) = Some f

-- What a function returned, seen by view, is what reading gives, unless memory ran out.
abbrev pub Gives : {X Y : Type 0} → (X → Y) → Result X ReadError → Result Y Fault → Type 0
Gives = answers.Gives named

-- A field is a value and the bytes after it; fault is what is answered where it isn't wholly there.
abbrev pub number_or : Fault → Width → List ℕ → Result (ℕ × List ℕ) Fault
number_or fault w bytes = if nat_lt (length bytes) (byte_len w) then Err fault else Ok (from_be_bytes w (take (byte_len w) bytes), drop (byte_len w) bytes)

-- a run of n bytes
abbrev pub run_or : Fault → ℕ → List ℕ → Result (List ℕ × List ℕ) Fault
run_or fault n bytes = if nat_lt (length bytes) n then Err fault else Ok (take n bytes, drop n bytes)

abbrev pub number_at : Width → List ℕ → Result (ℕ × List ℕ) Fault
number_at w bytes = number_or (Truncated (length bytes)) w bytes

abbrev pub run_at : ℕ → List ℕ → Result (List ℕ × List ℕ) Fault
run_at n bytes = run_or (Truncated (length bytes)) n bytes
