-- A pool that begins at an offset in bytes, and the offset of its first fault.
use Rattle.std.specs.Prelude.{◌≡◌, ℕ, ◌+◌, ◌-◌, List, ◌++◌, length, drop, Option, Some, None, Result, Ok, Err}
use Rattle.et_base.specs.Answers.{Gives}
use Rattle.class_pool.specs.{declared.fault.Fault.Fault, declared.pool.Entry.Entry, declared.offsets.PoolFault.PoolFault, Pool.pool_at, PoolGrammar.PoolText}
use Rattle.class_pool.specs.declared.fault.Fault.TheVariants as faults
use Rattle.class_pool.specs.declared.offsets.PoolFault.TheVariants.{Truncated, BadTag, BadIndex, BadUtf, BadDescriptor, NoMemory}

-- the faults that a pool can have
abbrev pub IsPoolFault : Fault → Type 0
IsPoolFault (faults.Truncated left) = Unit {0}
IsPoolFault (faults.BadTag left tag) = Unit {0}
IsPoolFault (faults.BadIndex left) = Unit {0}
IsPoolFault (faults.BadUtf left) = Unit {0}
IsPoolFault (faults.BadDescriptor left) = Unit {0}
IsPoolFault _ = ⊥

-- the offset of a place at which so much is left, where `total` is left at `at`
abbrev pub place : ℕ → ℕ → ℕ → ℕ
place at total left = at + (total - left)

-- a fault by its offset; a pool has no others
abbrev pub pool_fault : (ℕ → ℕ) → Fault → PoolFault
pool_fault offset (faults.Truncated left) = Truncated (offset left)
pool_fault offset (faults.BadTag left tag) = BadTag (offset left) tag
pool_fault offset (faults.BadIndex left) = BadIndex (offset left)
pool_fault offset (faults.BadUtf left) = BadUtf (offset left)
pool_fault offset (faults.BadDescriptor left) = BadDescriptor (offset left)
pool_fault offset _ = NoMemory

-- what was read, with the offset after it, or the fault
abbrev pub by_offset : ℕ → ℕ → Result (List (Option Entry) × List ℕ) Fault → Result (List (Option Entry) × ℕ) PoolFault
by_offset at total (Ok x) = Ok (x.0, place at total (length x.1))
by_offset at total (Err fault) = Err (pool_fault (place at total) fault)

-- the pool that begins at an offset
unfoldable pub read_from : List ℕ → ℕ → Result (List (Option Entry) × ℕ) PoolFault
read_from bytes at = by_offset at (length (drop at bytes)) (pool_at (drop at bytes))

-- the bytes from one offset to another spell these slots
pub record SpelledFrom (bytes : List ℕ) (at : ℕ) (slots : List (Option Entry)) (after : ℕ) : Type 0 where
  pub text : List ℕ
  pub rest : List ℕ
  pub parts : drop at bytes ≡ text ++ rest
  pub spelled : PoolText text slots
  pub ends : after ≡ at + length text

-- the fault that is answered; want of memory is none
abbrev pub told : PoolFault → Option PoolFault
told NoMemory = None
told fault = Some fault

-- What was returned is what reading gives, unless memory ran out.
abbrev pub PoolGives : Result (List (Option Entry) × ℕ) PoolFault → Result (List (Option Entry) × ℕ) PoolFault → Type 0
PoolGives = Gives told (λ x. x)
