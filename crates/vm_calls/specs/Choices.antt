-- Which method a call enters, as the code finds it.
use Rattle.std.specs.Prelude.{◌≡◌, ℕ, List, Bool, not, ◌&&◌, ◌||◌, cond, get_or, Option, Some, None, IfSome, find}
use Rattle.std.specs.Str.{bytes_eq}
use Rattle.jvm_model.specs.declared.program.Program.{Program}
use Rattle.jvm_model.specs.Classes.{class_at, method_at, is_private, init_name, own_interfaces}
use Rattle.jvm_model.specs.Selection.{Selected, chosen, failing, is_like, declared_in, special_path, or_kept, select, select_virtual, select_interface}
use Rattle.vm_calls.specs.declared.{choice.Choice.Choice, choice.Choice.TheVariants.Chosen, choice.Choice.TheVariants.Failing, selections.Known.Known}

-- the definition's answer
abbrev pub selected_of : Choice → Selected
selected_of (Chosen m) = chosen m
selected_of (Failing c) = failing c

-- an instance method of m's name and descriptor, private ones only where asked
abbrev pub is_wanted : Program → Bool → ℕ → ℕ → Bool
is_wanted p privates m n = (privates || not (is_private (method_at p n).flags)) && is_like p m n

-- the method that a class declares, if it does
abbrev pub declared_by : Program → Bool → ℕ → ℕ → Option ℕ
declared_by p privates m c = find (λ n. is_wanted p privates m n) (class_at p c).methods

-- the interfaces above the interfaces that declare these methods
abbrev pub above_of : Program → ℕ → List ℕ
above_of p n = own_interfaces p (method_at p n).class

-- what invokespecial of m enters that starts at a class
abbrev pub special_from : Program → ℕ → ℕ → Selected
special_from p m c = cond (bytes_eq (method_at p m).name init_name) (chosen m) (or_kept p m c (declared_in p (λ n. is_like p m n) (special_path p c)))

-- what a call of m enters at a class
abbrev pub searched : Program → Bool → ℕ → ℕ → Selected
searched p special m c = cond special (special_from p m c) (select p m c)

-- what a call of m on an instance of a class enters; an interface is named by invokeinterface
abbrev pub dispatched : Program → Option ℕ → ℕ → ℕ → Selected
dispatched p None m c = select_virtual p m c
dispatched p (Some i) m c = select_interface p i m c

abbrev pub IsKnown : Program → Known → Type 0
IsKnown p k = selected_of k.choice ≡ searched p k.special k.method k.class

-- each place has nothing, or what the definition answers
abbrev pub AreKnown : Program → List (Option Known) → Type 0
AreKnown p places = (i : ℕ) → IfSome (get_or places i None) (λ k. IsKnown p k)
