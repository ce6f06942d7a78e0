-- How entries stand in one list of slots.
use Rattle.std.specs.Prelude.{ℕ, zero, suc, List, [], ◌∷◌, ◌+◌, ◌-◌, ◌^◌, ◌≤◌, ◌<◌, ◌≡◌, ◌++◌, length, take, map, reverse, get_or}
use Rattle.jvm_model.specs.declared.values.{Value.Value, Value.TheVariants.Null}
use Rattle.jvm_model.specs.declared.state.{EntryKind.EntryKind, EntryKind.TheVariants.Absent, EntryKind.TheVariants.InMethod, EntryKind.TheVariants.InClass}
use Rattle.jvm_model.specs.Entries.{Entry, Entries, entry_limit, filled, slots_of}
use Rattle.vm_frames.specs.{declared.extent.Extent.Extent, Stack.operand_limit}

-- n values below the place t, downwards
abbrev pub downwards : List Value → ℕ → ℕ → List Value
downwards xs t zero = []
downwards xs zero (suc n) = []
downwards xs (suc t) (suc n) = get_or xs t Null ∷ downwards xs t n

-- n values from the place b on, upwards
abbrev pub upwards : List Value → ℕ → ℕ → List Value
upwards xs b zero = []
upwards xs b (suc n) = get_or xs b Null ∷ upwards xs (suc b) n

-- the entry of an extent: its locals from base up to first, its operands from there up to top
abbrev pub entry_of : List Value → Extent → Entry
entry_of xs e = record {
  kind = e.kind;
  number = e.number;
  pc = e.pc;
  stack = downwards xs e.top (e.top - e.first);
  locals = upwards xs e.base (e.first - e.base);
}

-- the entries of an extent and of those below it, the lowest first
abbrev pub entries_at : List Value → Extent → List Extent → Entries
entries_at xs e saved = record { top = entry_of xs e; below = map (entry_of xs) (reverse saved) }

-- an extent among n slots, below the place b; its operands may go up to their limit
pub record IsWithin (n b : ℕ) (e : Extent) : Type 0 where
  pub locals : e.base ≤ e.first
  pub operands : e.first ≤ e.top
  pub limited : e.top ≤ e.first + operand_limit e.kind
  pub room : e.first + operand_limit e.kind ≤ n
  pub under : e.top ≤ b

-- extents among n slots, each below the one before it, the first below the place b
abbrev pub AreStacked : ℕ → ℕ → List Extent → Type 0
AreStacked n b [] = Unit {0}
AreStacked n b (e ∷ es) = IsWithin n b e × AreStacked n e.base es

-- among n slots, which memory can hold, the top extent stands above the saved ones, of which there are fewer than entries
-- may stand
pub record IsStanding (n : ℕ) (e : Extent) (saved : List Extent) : Type 0 where
  pub here : IsWithin n n e
  pub below : AreStacked n e.base (reverse saved)
  pub depth : length saved < entry_limit
  pub few : n < 2 ^ 63

-- the extent stands among those that are saved, unless it is no entry
abbrev pub saved_by : EntryKind → Extent → List Extent
saved_by Absent e = []
saved_by InMethod e = e ∷ []
saved_by (InClass b) e = e ∷ []

-- no entry
abbrev pub no_extent : Extent
no_extent = record { kind = Absent; number = 0; pc = 0; base = 0; first = 0; top = 0 }

-- the extent that was saved last is taken, and no entry where none is saved
abbrev pub IsTaken : List Extent → List Extent → Extent → Type 0
IsTaken [] rest e = (rest ≡ []) × (e ≡ no_extent)
IsTaken (f ∷ fs) rest e = f ∷ fs ≡ rest ++ e ∷ []

-- Of the new slots those up to `first` are the old ones up to `base` and the locals of a frame that is entered with these
-- arguments; above them there is room for its operands.
pub record HasFrame (old new : List Value) (base max_locals : ℕ) (args : List Value) (first : ℕ) : Type 0 where
  pub locals : take first new ≡ take base old ++ filled max_locals (slots_of args)
  pub start : base ≤ first
  pub room : first + operand_limit InMethod ≤ length new
  pub slots : length old ≤ length new
  pub few : length new < 2 ^ 63
