-- Each pool that meets the conditions is spelled by what is written, and what is spelled meets them.
use Rattle.std.proofs.Common.{ℕ, ◌+◌, List, [], ◌∷◌, ◌++◌, length, Option, Some, None, refl, arith, All}
use Rattle.std.specs.List.{flat_map, AllByRecursion}
use Rattle.std.proofs.{lemmas.List.Elements.All-from_recursion, lemmas.List.Concat.flat_map-cons}
use Rattle.class_pool.specs.{declared.pool.Entry.Entry, Grammar.Joined}
use Rattle.class_pool.specs.PoolGrammar.{SlotText, EntryFits, PoolText, slot_bytes, Laid, IsPool, pool_spelling}

pub laid_joined : (before slots : List (Option Entry)) → Laid before slots → Joined SlotText before (flat_map slot_bytes slots) slots
laid_joined before [] h = refl
laid_joined before (None ∷ slots) (second, others) = ([], flat_map slot_bytes slots, flat_map-cons slot_bytes None slots, (second, refl), laid_joined (before ++ None ∷ []) slots others)
laid_joined before (Some e ∷ slots) (second, fits, wide, others) = (slot_bytes (Some e), flat_map slot_bytes slots, flat_map-cons slot_bytes (Some e) slots, (second, (refl, fits, wide)), laid_joined (before ++ Some e ∷ []) slots others)

pub joined_laid : (before : List (Option Entry)) (text : List ℕ) (slots : List (Option Entry)) → Joined SlotText before text slots → Laid before slots
joined_laid before text [] h = tt
joined_laid before text (None ∷ slots) (one, more, e, s, others) = (s.0, joined_laid (before ++ None ∷ []) more slots others)
joined_laid before text (Some entry ∷ slots) (one, more, e, s, others) = (s.0, s.1.1, s.1.2, joined_laid (before ++ Some entry ∷ []) more slots others)

-- what is written spells the pool
pub pool_written : (slots : List (Option Entry)) → IsPool slots → PoolText (pool_spelling slots) slots
pool_written slots h = (length slots + 1, flat_map slot_bytes slots, h.few, omega arith, refl, laid_joined [] slots h.laid, h.sound)

-- what is spelled can be written
pub pool_kept : (text : List ℕ) (slots : List (Option Entry)) → PoolText text slots → IsPool slots
pool_kept text slots (count, more, lt, len, e, j, sound) = record { few = omega (arith, lt, len); laid = joined_laid [] more slots j; sound = sound }

abbrev pub SlotFits : Option Entry → Type 0
SlotFits None = Unit {0}
SlotFits (Some entry) = EntryFits entry

laid_fits : (before slots : List (Option Entry)) → Laid before slots → AllByRecursion SlotFits slots
laid_fits before [] h = tt
laid_fits before (None ∷ slots) h = (tt, laid_fits (before ++ None ∷ []) slots h.1)
laid_fits before (Some entry ∷ slots) h = (h.1, laid_fits (before ++ Some entry ∷ []) slots h.3)

pub slots_fit : (slots : List (Option Entry)) → IsPool slots → All SlotFits slots
slots_fit slots h = All-from_recursion SlotFits slots (laid_fits [] slots h.laid)
