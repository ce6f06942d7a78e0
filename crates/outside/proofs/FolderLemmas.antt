-- What was read of a file so far, and what a folder told.
use Rattle.std.proofs.Common.{◌≡◌, ◌+◌, ℕ, List, length, Option, Some, Result, Ok, Err, IfOk, refl, subst}
use Rattle.std.proofs.lemmas.List.Elements.{All-pop}
use Rattle.std.specs.Prelude.{All, IsErrOf, Vec}
use Rattle.std.specs.{declared.alloc.Global.Global, Io.KnownBytes.Consumes}
use Rattle.outside.specs.Depot.{Answer, Agrees, OfHeld, TellsOn, has_bytes, is_absent, is_longer, answers}
use Rattle.outside.specs.{declared.depot.DepotRefusal.DepotRefusal, FolderDepot.Keeps}
use Rattle.outside.specs.declared.depot.DepotRefusal.TheVariants as refusal

-- These bytes were read, and this many more are within the limit.
pub record Read {F : Type 0} (remaining : F → Option (List ℕ)) (old new : F) (bytes : List ℕ) (limit left : ℕ) : Type 0 where
  pub size : length bytes + left ≡ limit
  pub known : Consumes (remaining old) (remaining new) bytes

-- ---- the answers of a folder

-- files that agree with all answers agree with the last one, and with those before it
pub kept_last : (old new : List Answer) (a : Answer) → Keeps old new a → OfHeld (answers new) (λ files. Agrees files a)
kept_last old new a e files may = (All-pop (Agrees files) new old (Some a) e may).1

kept_before : (old new : List Answer) (a : Answer) → Keeps old new a → TellsOn (answers old) (answers new)
kept_before old new a e files may = (All-pop (Agrees files) new old (Some a) e may).0

same_before : (old new : List Answer) → new ≡ old → TellsOn (answers old) (answers new)
same_before old new e files may = subst (All (Agrees files)) e may

pub read_tells_on : (r : Result (Vec ℕ Global) DepotRefusal) (old new : List Answer) (name : List ℕ) (limit : ℕ) → IfOk r (λ bytes. Keeps old new (has_bytes name bytes.items)) → (IsErrOf r refusal.Absent → Keeps old new (is_absent name)) →
    (IsErrOf r refusal.TooLong → Keeps old new (is_longer name limit)) → (IsErrOf r refusal.Failed → new ≡ old) → (IsErrOf r refusal.NoMemory → new ≡ old) → TellsOn (answers old) (answers new)
read_tells_on (Ok bytes) old new name limit b a l f m = kept_before old new (has_bytes name bytes.items) b
read_tells_on (Err refusal.Absent) old new name limit b a l f m = kept_before old new (is_absent name) (a refl)
read_tells_on (Err refusal.TooLong) old new name limit b a l f m = kept_before old new (is_longer name limit) (l refl)
read_tells_on (Err refusal.Failed) old new name limit b a l f m = same_before old new (f refl)
read_tells_on (Err refusal.NoMemory) old new name limit b a l f m = same_before old new (m refl)

pub read_bytes : (r : Result (Vec ℕ Global) DepotRefusal) (old new : List Answer) (name : List ℕ) → IfOk r (λ bytes. Keeps old new (has_bytes name bytes.items)) → IfOk r (λ bytes. OfHeld (answers new) (λ files. Agrees files (has_bytes name bytes.items)))
read_bytes (Ok bytes) old new name k = kept_last old new (has_bytes name bytes.items) k
read_bytes (Err e) old new name k = tt
