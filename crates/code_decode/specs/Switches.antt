-- The operands of tableswitch and lookupswitch (JVMS 6.5), and the first fault among them.
use Rattle.std.specs.Prelude.{ℕ, ℤ, pos, ◌+◌, ◌-◌, ◌%◌, ◌-ℤ◌, int_le, int_lt, nat_abs, List, [], ◌∷◌, ◌++◌, Result, Ok, Bool, nat_lt, ◌==◌, ◌||◌, slice_index_or}
use Rattle.std.specs.{Int.w32, Int.cast_signed, List.list_all, List.enumerate_from}
use Rattle.class_pool.specs.{declared.fault.Fault.Fault, Reading.number_or, Reading.run_or, Loops.counted, Loops.folded}
use Rattle.et_base.specs.Answers.{◌>>=◌, tested}
use Rattle.code_decode.specs.{declared.place.Spot.Spot, Place.cut, Place.wrong, Place.target}

-- the bytes, of any value, behind the opcode up to a pc that is a multiple of 4
abbrev pub padding : ℕ → ℕ
padding pc = 3 - pc % 4

-- a signed number of four bytes
abbrev pub word_at : Spot → List ℕ → Result (ℤ × List ℕ) Fault
word_at spot bytes = do
  n ← number_or (cut spot) w32 bytes
  Ok (cast_signed w32 n.0, n.1)

-- a place, by its offset of four bytes
abbrev pub place_at : Spot → List ℕ → Result (ℤ × List ℕ) Fault
place_at spot bytes = do
  n ← number_or (cut spot) w32 bytes
  Ok (target spot.total spot.pc (cast_signed w32 n.0), n.1)

-- the padding and the place for every other number
unfoldable pub other_at : Spot → List ℕ → Result (ℤ × List ℕ) Fault
other_at spot bytes = do
  pad ← run_or (cut spot) (padding spot.pc) bytes
  place_at spot pad.1

-- the lowest and the highest number, in order
unfoldable pub ends_at : Spot → List ℕ → Result ((ℤ × ℤ) × List ℕ) Fault
ends_at spot bytes = do
  low ← word_at spot bytes
  high ← word_at spot low.1
  right ← tested (int_le low.0 high.0) (wrong spot)
  Ok ((low.0, high.0), high.1)

-- how many numbers there are from low to high
abbrev pub span : ℤ → ℤ → ℕ
span low high = nat_abs (high -ℤ low) + 1

-- a place for each number from the lowest to the highest, behind the three operands before them
unfoldable pub rows_at : Spot → ℤ → ℤ → ℤ → List ℕ → Result (List ℤ × List ℕ) Fault
rows_at spot other low high bytes = counted (λ _ _ b. place_at spot b) (other ∷ low ∷ high ∷ []) (span low high) bytes

-- tableswitch: the other place, the ends, and the rows
unfoldable pub table_at : Spot → List ℕ → Result (List ℤ × List ℕ) Fault
table_at spot bytes = do
  other ← other_at spot bytes
  ends ← ends_at spot other.1
  rows_at spot other.0 ends.0.0 ends.0.1 ends.1

-- how many pairs there are: no negative number
unfoldable pub count_at : Spot → List ℕ → Result (ℕ × List ℕ) Fault
count_at spot bytes = do
  n ← number_or (cut spot) w32 bytes
  right ← tested (nat_lt n.0 2147483648) (wrong spot)
  Ok n

-- one more key and its place
unfoldable pub pair_at : Spot → List ℤ → List ℕ → Result (List ℤ × List ℕ) Fault
pair_at spot args bytes = do
  key ← word_at spot bytes
  to ← place_at spot key.1
  Ok (args ++ key.0 ∷ to.0 ∷ [], to.1)

-- as many pairs as their number says, behind the other place
unfoldable pub pairs_at : Spot → ℤ → List ℕ → Result (List ℤ × List ℕ) Fault
pairs_at spot other bytes = do
  n ← count_at spot bytes
  folded (λ now b. pair_at spot now b) (other ∷ []) n.0 n.1

-- Each key is above the one before it. Keys stand at 1, 3, 5 and so on.
abbrev pub keys_rise : List ℤ → Bool
keys_rise args = list_all (λ p. nat_lt p.0 3 || p.0 % 2 == 0 || int_lt (slice_index_or args (p.0 - 2) (pos 0)) p.1) (enumerate_from 0 args)

-- lookupswitch: the other place, then keys, which rise, and their places in turn
unfoldable pub lookup_at : Spot → List ℕ → Result (List ℤ × List ℕ) Fault
lookup_at spot bytes = do
  other ← other_at spot bytes
  args ← pairs_at spot other.0 other.1
  right ← tested (keys_rise args.0) (wrong spot)
  Ok args
