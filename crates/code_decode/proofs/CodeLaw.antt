-- What is taken from code is spelled so, what is spelled so is taken, and the faults are those of the code.
use Rattle.std.proofs.Common.{ℕ, ◌*◌, ◌^◌, Bool, true, false, cond, eqb, ltb, leb, ◌&&◌, List, [], ◌∷◌, ◌++◌, Option, Some, None, Ok, Err, refl}
use Rattle.std.specs.Prelude.{ℤ, pos, int_le}
use Rattle.std.specs.Int.{Width, w8, w16, w32, byte_len, cast_signed}
use Rattle.class_pool.specs.{declared.pool.Entry.Entry, Pool.entry_of, Reading.number_or, Reading.run_or, Loops.folded}
use Rattle.et_base.specs.Answers.{◌>>=◌, tested}
use Rattle.class_pool.specs.Grammar.{Nothing, Never, Tested, Run, Counted}
use Rattle.class_pool.proofs.Laws.{IsWide, wide8, wide16, wide32}
use Rattle.code_decode.proofs.Readers.{Takes, takes_nothing, takes_then, takes_mapped, takes_if, takes_never, takes_tested, takes_judged, takes_word, takes_run, takes_counted, takes_folded}
use Rattle.code_decode.specs.declared.{place.Spot.Spot, judging.Fit.Fit}
use Rattle.code_decode.specs.declared.judging.Fit.TheVariants as fit
use Rattle.code_decode.specs.declared.opcodes.{Shape.Shape, Named.TheVariants.Nested, Named.TheVariants.Interface}
use Rattle.code_decode.specs.declared.opcodes.Shape.TheVariants as shape
use Rattle.code_decode.specs.{Place.cut, Place.wrong, Place.foreign, Place.target, Opcodes.shape_of, Opcodes.takes_local}
use Rattle.code_decode.specs.Judging.{constant_fit, named_fit, kind_fit, class_name, dimensions, interface_units, counts_units}
use Rattle.code_decode.specs.Operands.{judged, one_at, local_at, increment_at, fitting_at, interface_at, dimensions_at}
use Rattle.code_decode.specs.Switches.{padding, span, keys_rise, word_at, place_at, other_at, ends_at, rows_at, table_at, count_at, pair_at, pairs_at, lookup_at}
use Rattle.code_decode.specs.Instructions.{op, args_at, shaped_at, wide_args_at, wide_at, op_at}
use Rattle.code_decode.specs.CodeGrammar.{Word, OneText, IncrementText, FittingText, InterfaceText, DimensionsText, WordText, PlaceText, OtherText, EndsText, TableText, CountText, PairText, PairsText, LookupText, ArgsText, ShapedText, WideArgsText, WideText, OpText}

-- ---- operands

abbrev Wide : Width → Type 0
Wide w = IsWide w (2 ^ (8 * byte_len w))

takes_one : (w : Width) (view : ℕ → ℤ) (spot : Spot) → Wide w → Takes spot (OneText w view) (λ b. one_at w view spot b)
unfolding one_at
takes_one w view spot wide = takes_mapped spot (λ n. view n ∷ []) (Word w) (λ b. number_or (cut spot) w b) (takes_word spot w wide)

takes_increment : (w : Width) (spot : Spot) → Wide w → Takes spot (IncrementText w) (λ b. increment_at w spot b)
unfolding increment_at
takes_increment w spot wide = takes_then spot _ _ (λ b. number_or (cut spot) w b) (λ local rest. number_or (cut spot) w rest >>= λ by. Ok (pos local ∷ cast_signed w by.0 ∷ [], by.1)) (takes_word spot w wide)
    (λ local. takes_mapped spot (λ by. pos local ∷ cast_signed w by ∷ []) (Word w) (λ b. number_or (cut spot) w b) (takes_word spot w wide))

takes_fitting : (w : Width) (fits : ℕ → Fit) (spot : Spot) (opcode : ℕ) → Wide w → Takes spot (FittingText w fits) (λ b. fitting_at w fits spot opcode b)
unfolding fitting_at
takes_fitting w fits spot opcode wide = takes_then spot _ _ (λ b. number_or (cut spot) w b) (λ n rest. judged spot opcode (fits n) >>= λ _. Ok (pos n ∷ [], rest)) (takes_word spot w wide)
    (λ n. takes_judged spot opcode (fits n) (Nothing (pos n ∷ [])) (λ rest. Ok (pos n ∷ [], rest)) (takes_nothing spot (pos n ∷ [])))

abbrev fits_array : List (Option Entry) → ℕ → ℕ → Bool
fits_array slots n count = ltb 0 count && leb count (dimensions (class_name slots (entry_of slots n)))

takes_dimensions : (slots : List (Option Entry)) (spot : Spot) → Takes spot (DimensionsText slots) (λ b. dimensions_at slots spot b)
unfolding dimensions_at
takes_dimensions slots spot = takes_then spot _ _ (λ b. number_or (cut spot) w16 b) (λ n rest. number_or (cut spot) w8 rest >>= λ count. judged spot 197 (named_fit Nested slots (entry_of slots n)) >>= λ _. tested (fits_array slots n count.0) (wrong spot) >>= λ _. Ok (pos n ∷ pos count.0 ∷ [], count.1)) (takes_word spot w16 wide16)
    (λ n. takes_then spot _ _ (λ b. number_or (cut spot) w8 b) (λ count rest. judged spot 197 (named_fit Nested slots (entry_of slots n)) >>= λ _. tested (fits_array slots n count) (wrong spot) >>= λ _. Ok (pos n ∷ pos count ∷ [], rest)) (takes_word spot w8 wide8)
    (λ count. takes_judged spot 197 (named_fit Nested slots (entry_of slots n)) (Tested (fits_array slots n count) (Nothing (pos n ∷ pos count ∷ []))) (λ rest. tested (fits_array slots n count) (wrong spot) >>= λ _. Ok (pos n ∷ pos count ∷ [], rest))
    (takes_tested spot (fits_array slots n count) (Nothing (pos n ∷ pos count ∷ [])) (λ rest. Ok (pos n ∷ pos count ∷ [], rest)) (takes_nothing spot (pos n ∷ pos count ∷ [])))))

abbrev fits_units : List (Option Entry) → ℕ → ℕ → ℕ → Bool
fits_units slots n count last = counts_units (interface_units slots (entry_of slots n)) count && eqb last 0

takes_interface : (slots : List (Option Entry)) (spot : Spot) → Takes spot (InterfaceText slots) (λ b. interface_at slots spot b)
unfolding interface_at
takes_interface slots spot = takes_then spot _ _ (λ b. number_or (cut spot) w16 b) (λ n rest. number_or (cut spot) w8 rest >>= λ count. number_or (cut spot) w8 count.1 >>= λ last. judged spot 185 (named_fit Interface slots (entry_of slots n)) >>= λ _. tested (fits_units slots n count.0 last.0) (wrong spot) >>= λ _. Ok (pos n ∷ pos count.0 ∷ [], last.1)) (takes_word spot w16 wide16)
    (λ n. takes_then spot _ _ (λ b. number_or (cut spot) w8 b) (λ count rest. number_or (cut spot) w8 rest >>= λ last. judged spot 185 (named_fit Interface slots (entry_of slots n)) >>= λ _. tested (fits_units slots n count last.0) (wrong spot) >>= λ _. Ok (pos n ∷ pos count ∷ [], last.1)) (takes_word spot w8 wide8)
    (λ count. takes_then spot _ _ (λ b. number_or (cut spot) w8 b) (λ last rest. judged spot 185 (named_fit Interface slots (entry_of slots n)) >>= λ _. tested (fits_units slots n count last) (wrong spot) >>= λ _. Ok (pos n ∷ pos count ∷ [], rest)) (takes_word spot w8 wide8)
    (λ last. takes_judged spot 185 (named_fit Interface slots (entry_of slots n)) (Tested (fits_units slots n count last) (Nothing (pos n ∷ pos count ∷ []))) (λ rest. tested (fits_units slots n count last) (wrong spot) >>= λ _. Ok (pos n ∷ pos count ∷ [], rest))
    (takes_tested spot (fits_units slots n count last) (Nothing (pos n ∷ pos count ∷ [])) (λ rest. Ok (pos n ∷ pos count ∷ [], rest)) (takes_nothing spot (pos n ∷ pos count ∷ []))))))

-- ---- switches

takes_signed : (spot : Spot) → Takes spot WordText (λ b. word_at spot b)
takes_signed spot = takes_mapped spot (λ n. cast_signed w32 n) (Word w32) (λ b. number_or (cut spot) w32 b) (takes_word spot w32 wide32)

takes_place : (spot : Spot) → Takes spot (PlaceText spot.total spot.pc) (λ b. place_at spot b)
takes_place spot = takes_mapped spot (λ n. target spot.total spot.pc (cast_signed w32 n)) (Word w32) (λ b. number_or (cut spot) w32 b) (takes_word spot w32 wide32)

takes_other : (spot : Spot) → Takes spot (OtherText spot.total spot.pc) (λ b. other_at spot b)
unfolding other_at
takes_other spot = takes_then spot (Run (padding spot.pc)) _ (λ b. run_or (cut spot) (padding spot.pc) b) (λ _ rest. place_at spot rest) (takes_run spot (padding spot.pc)) (λ _. takes_place spot)

takes_ends : (spot : Spot) → Takes spot EndsText (λ b. ends_at spot b)
unfolding ends_at
takes_ends spot = takes_then spot _ _ (λ b. word_at spot b) (λ low rest. word_at spot rest >>= λ high. tested (int_le low high.0) (wrong spot) >>= λ _. Ok ((low, high.0), high.1)) (takes_signed spot)
    (λ low. takes_then spot _ _ (λ b. word_at spot b) (λ high rest. tested (int_le low high) (wrong spot) >>= λ _. Ok ((low, high), rest)) (takes_signed spot)
    (λ high. takes_tested spot (int_le low high) (Nothing (low, high)) (λ rest. Ok ((low, high), rest)) (takes_nothing spot (low, high))))

takes_rows : (spot : Spot) (other low high : ℤ) → Takes spot (Counted (λ _ _. PlaceText spot.total spot.pc) (other ∷ low ∷ high ∷ []) (span low high)) (λ b. rows_at spot other low high b)
unfolding rows_at
takes_rows spot other low high = takes_counted spot (PlaceText spot.total spot.pc) (λ b. place_at spot b) (takes_place spot) (span low high) (other ∷ low ∷ high ∷ [])

takes_table : (spot : Spot) → Takes spot (TableText spot.total spot.pc) (λ b. table_at spot b)
unfolding table_at
takes_table spot = takes_then spot (OtherText spot.total spot.pc) _ (λ b. other_at spot b) (λ other rest. ends_at spot rest >>= λ ends. rows_at spot other ends.0.0 ends.0.1 ends.1) (takes_other spot)
    (λ other. takes_then spot EndsText _ (λ b. ends_at spot b) (λ ends rest. rows_at spot other ends.0 ends.1 rest) (takes_ends spot) (λ ends. takes_rows spot other ends.0 ends.1))

takes_count : (spot : Spot) → Takes spot CountText (λ b. count_at spot b)
unfolding count_at
takes_count spot = takes_then spot _ _ (λ b. number_or (cut spot) w32 b) (λ n rest. tested (ltb n 2147483648) (wrong spot) >>= λ _. Ok (n, rest)) (takes_word spot w32 wide32)
    (λ n. takes_tested spot (ltb n 2147483648) (Nothing n) (λ rest. Ok (n, rest)) (takes_nothing spot n))

takes_pair : (spot : Spot) (now : List ℤ) → Takes spot (PairText spot.total spot.pc now) (λ b. pair_at spot now b)
unfolding pair_at
takes_pair spot now = takes_then spot WordText _ (λ b. word_at spot b) (λ key rest. place_at spot rest >>= λ to. Ok (now ++ key ∷ to.0 ∷ [], to.1)) (takes_signed spot)
    (λ key. takes_mapped spot (λ to. now ++ key ∷ to ∷ []) (PlaceText spot.total spot.pc) (λ b. place_at spot b) (takes_place spot))

takes_pairs : (spot : Spot) (other : ℤ) → Takes spot (PairsText spot.total spot.pc other) (λ b. pairs_at spot other b)
unfolding pairs_at
takes_pairs spot other = takes_then spot CountText _ (λ b. count_at spot b) (λ n rest. folded (λ now b. pair_at spot now b) (other ∷ []) n rest) (takes_count spot)
    (λ n. takes_folded spot (PairText spot.total spot.pc) (λ now b. pair_at spot now b) (takes_pair spot) n (other ∷ []))

takes_lookup : (spot : Spot) → Takes spot (LookupText spot.total spot.pc) (λ b. lookup_at spot b)
unfolding lookup_at
takes_lookup spot = takes_then spot (OtherText spot.total spot.pc) _ (λ b. other_at spot b) (λ other rest. pairs_at spot other rest >>= λ args. tested (keys_rise args.0) (wrong spot) >>= λ _. Ok args) (takes_other spot)
    (λ other. takes_then spot (PairsText spot.total spot.pc other) _ (λ b. pairs_at spot other b) (λ args rest. tested (keys_rise args) (wrong spot) >>= λ _. Ok (args, rest)) (takes_pairs spot other)
    (λ args. takes_tested spot (keys_rise args) (Nothing args) (λ rest. Ok (args, rest)) (takes_nothing spot args)))

-- ---- instructions

takes_args : (slots : List (Option Entry)) (spot : Spot) (opcode : ℕ) (form : Shape) → Takes spot (ArgsText slots spot.total spot.pc form) (λ b. args_at slots spot opcode form b)
unfolding args_at
takes_args slots spot opcode shape.Plain = takes_nothing spot []
takes_args slots spot opcode shape.Byte = takes_one w8 (λ n. cast_signed w8 n) spot wide8
takes_args slots spot opcode shape.Short = takes_one w16 (λ n. cast_signed w16 n) spot wide16
takes_args slots spot opcode shape.Local = takes_one w8 (λ n. pos n) spot wide8
takes_args slots spot opcode shape.Increment = takes_increment w8 spot wide8
takes_args slots spot opcode (shape.Near constant) = takes_fitting w8 (λ n. constant_fit constant (entry_of slots n)) spot opcode wide8
takes_args slots spot opcode (shape.Far constant) = takes_fitting w16 (λ n. constant_fit constant (entry_of slots n)) spot opcode wide16
takes_args slots spot opcode (shape.Entry named) = takes_fitting w16 (λ n. named_fit named slots (entry_of slots n)) spot opcode wide16
takes_args slots spot opcode shape.Interface = takes_interface slots spot
takes_args slots spot opcode shape.Kind = takes_fitting w8 kind_fit spot opcode wide8
takes_args slots spot opcode shape.Dimensions = takes_dimensions slots spot
takes_args slots spot opcode shape.Branch = takes_one w16 (λ n. target spot.total spot.pc (cast_signed w16 n)) spot wide16
takes_args slots spot opcode shape.FarBranch = takes_one w32 (λ n. target spot.total spot.pc (cast_signed w32 n)) spot wide32
takes_args slots spot opcode shape.Table = takes_table spot
takes_args slots spot opcode shape.Lookup = takes_lookup spot

takes_shaped : (slots : List (Option Entry)) (spot : Spot) (opcode : ℕ) (form : Option Shape) → Takes spot (ShapedText slots spot.total spot.pc opcode form) (λ b. shaped_at slots spot opcode form b)
unfolding shaped_at
takes_shaped slots spot opcode None = takes_never spot (foreign spot opcode) refl
takes_shaped slots spot opcode (Some form) = takes_mapped spot (λ args. op spot.pc opcode false args) (ArgsText slots spot.total spot.pc form) (λ b. args_at slots spot opcode form b) (takes_args slots spot opcode form)

takes_wide_args : (spot : Spot) (opcode : ℕ) → Takes spot (WideArgsText opcode) (λ b. wide_args_at spot opcode b)
unfolding wide_args_at
takes_wide_args spot opcode = takes_if spot (takes_local opcode) (OneText w16 (λ n. pos n)) (λ text args. cond (eqb opcode 132) (IncrementText w16 text args) (Never text args)) (λ b. local_at w16 spot b) (λ b. cond (eqb opcode 132) (increment_at w16 spot b) (Err (foreign spot 196)))
    (takes_one w16 (λ n. pos n) spot wide16)
    (takes_if spot (eqb opcode 132) (IncrementText w16) Never (λ b. increment_at w16 spot b) (λ b. Err (foreign spot 196)) (takes_increment w16 spot wide16) (takes_never spot (foreign spot 196) refl))

takes_wide : (spot : Spot) → Takes spot (WideText spot.pc) (λ b. wide_at spot b)
unfolding wide_at
takes_wide spot = takes_then spot (Word w8) _ (λ b. number_or (cut spot) w8 b) (λ opcode rest. wide_args_at spot opcode rest >>= λ args. Ok (op spot.pc opcode true args.0, args.1)) (takes_word spot w8 wide8)
    (λ opcode. takes_mapped spot (λ args. op spot.pc opcode true args) (WideArgsText opcode) (λ b. wide_args_at spot opcode b) (takes_wide_args spot opcode))

pub takes_op : (slots : List (Option Entry)) (spot : Spot) → Takes spot (OpText slots spot.total spot.pc) (λ b. op_at slots spot b)
unfolding op_at
takes_op slots spot = takes_then spot (Word w8) _ (λ b. number_or (cut spot) w8 b) (λ opcode rest. cond (eqb opcode 196) (wide_at spot rest) (shaped_at slots spot opcode (shape_of opcode) rest)) (takes_word spot w8 wide8)
    (λ opcode. takes_if spot (eqb opcode 196) (WideText spot.pc) (ShapedText slots spot.total spot.pc opcode (shape_of opcode)) (λ b. wide_at spot b) (λ b. shaped_at slots spot opcode (shape_of opcode) b) (takes_wide spot) (takes_shaped slots spot opcode (shape_of opcode)))
