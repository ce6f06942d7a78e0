-- What is noted of the entries of a pool by their indices.
use Rattle.std.specs.Prelude.{◌≡◌, ℕ, ◌-◌, ◌<◌, List, [], ◌∷◌, length, fold, Bool, true, false, ◌&&◌, cond, nat_eq, slice_index_or, slice_set, Option, Some, None}
use Rattle.std.specs.List.{list_all}
use Rattle.class_pool.specs.{declared.pool.Entry.Entry, Pool.entry_of, Pool.is_class}
use Rattle.class_reader.specs.declared.parts.ClassParts.{ClassParts}
use Rattle.jvm_model.specs.{declared.program.Program.Program, Classes.member}
use Rattle.class_link.specs.declared.{fault.LinkFault.LinkFault, uses.User.User}
use Rattle.class_link.specs.declared.fault.LinkFault.TheVariants as fault
use Rattle.code_forms.specs.{declared.references.Use.Use, declared.references.Target.Target, Uses.fits}
use Rattle.class_link.specs.{ClassNames.own_name, References.LinkEnvironment, References.missing_for, Bodies.target_in, Faults.missing_or, Faults.wrong_unless}

-- the table says of each index below its size whether it is among these
pub record Lists (table : List Bool) (count : ℕ) (indices : List ℕ) : Type 0 where
  pub size : length table ≡ count
  pub each : (i : ℕ) → i < count → slice_index_or table i false ≡ member i indices

-- ---- how entries are used

-- the use fits what the entry stands for; what stands for nothing is faulty by itself
abbrev pub fits_target : Program → ℕ → Option Entry → Option Target → Use → Bool
fits_target p n e None u = true
fits_target p n e (Some t) u = fits p n e t u

-- the mark of an entry that isn't used, or whether all its uses fit
abbrev pub mark_of : (Use → Bool) → List Use → Option Bool
mark_of f [] = None
mark_of f (u ∷ us) = Some (list_all f (u ∷ us))

-- a mark after one use more
abbrev pub marked_with : Option Bool → Bool → Option Bool
marked_with None b = Some b
marked_with (Some a) b = Some (a && b)

-- the marks of entries, from index 1 on, after a use of the entry i
abbrev pub noted : List (Option Bool) → ℕ → Bool → List (Option Bool)
noted ms i b = cond (nat_eq i 0) ms (slice_set ms (i - 1) (marked_with (slice_index_or ms (i - 1) None) b))

-- and after several uses by the class n
abbrev pub all_noted : Program → ℕ → List (Option Entry) → List (Option Target) → List (Option Bool) → List (ℕ × Use) → List (Option Bool)
all_noted p n slots ts ms us = fold (λ done x. noted done x.0 (fits_target p n (entry_of slots x.0) (target_in ts x.0) x.1)) ms us

-- the same of a class as its code's user
abbrev pub noted_by : User → List (Option Bool) → List (ℕ × Use) → List (Option Bool)
noted_by user ms us = all_noted user.program.now user.class user.slots.now user.targets.now ms us

-- the mark of the entry i
abbrev pub mark_at : List (Option Bool) → ℕ → Option Bool
mark_at ms i = slice_index_or ms (i - 1) None

-- ---- the fault of a marked entry

abbrev pub target_fault_by : ClassParts → ℕ → Bool → Option Target → Option LinkFault
target_fault_by c i b None = Some (cond (is_class (entry_of c.pool i)) (fault.WrongKind (own_name c) i) (fault.NoMember (own_name c) i))
target_fault_by c i b (Some t) = wrong_unless b c i

abbrev pub mark_fault : LinkEnvironment → ClassParts → ℕ → Option Target → Option Bool → Option LinkFault
mark_fault s c i t None = None
mark_fault s c i t (Some b) = missing_or c (missing_for s.names c.pool (entry_of c.pool i)) (target_fault_by c i b t)
