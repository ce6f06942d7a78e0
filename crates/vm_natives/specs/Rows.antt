-- The rows of built-in methods and of their ends, as contracts name them.
use Rattle.std.specs.Prelude.{ℕ, ℤ, pos, List, ◌∷◌, length, get_or, Option, Some, None}
use Rattle.std.specs.Str.{bytes_eq}
use Rattle.jvm_model.specs.declared.{values.Value.Value, values.Value.TheVariants.Int, library.Native.Native, outcome.Own.Own}
use Rattle.jvm_model.specs.declared.library.Native.TheVariants as native
use Rattle.jvm_model.specs.{Entries.Entries, Access.write, Access.spend, Builtin.string_class, Builtin.string_index_exception, Natives.row_native}
use Rattle.jvm_model.specs.declared.values.Location.TheVariants as place
use Rattle.jvm_model.specs.Rows.{faults, on_object, on_text}
use Rattle.jvm_model.specs.NativesObject.{native_object, native_throwable, sets_message, makes_message}
use Rattle.jvm_model.specs.NativesString.{native_string, native_builder, text_index, answers_part, compares, joined, appends}
use Rattle.jvm_model.specs.NativesOutside.{native_system, native_print, native_files, native_env}
use Rattle.jvm_model.specs.Working.{Working, operands, with_operands, answers, answers_text, truth}
use Rattle.vm_mem.specs.Refines.{Row}

-- what a built-in method works on: the entries, and what the test has of its own
abbrev pub with_own : Entries → Own → Working
with_own s o = record { entries = s; own = o }

-- a built-in method, and one of each group
abbrev pub native_row : Native → Row Working
native_row x p s = row_native p x s

abbrev pub object_row : Native → Row Working
object_row x p s = native_object p x s

abbrev pub string_row : Native → Row Working
string_row x p s = native_string p x s

abbrev pub builder_row : Native → Row Working
builder_row x p s = native_builder p x s

abbrev pub system_row : Native → Row Working
system_row x p s = native_system p x s

abbrev pub print_row : Native → Row Working
print_row x p s = native_print p x s

abbrev pub files_row : Native → Row Working
files_row x p s = native_files p x s

abbrev pub env_row : Native → Row Working
env_row x p s = native_env p x s

abbrev pub throwable_row : Native → Row Working
throwable_row x p s = native_throwable p x s

-- the call is over, without an answer
abbrev pub end_row : Row Working
end_row p s = answers p s (operands s)

-- the call is over, and answers this
abbrev pub value_row : Value → Row Working
value_row v p s = answers p s (v ∷ operands s)

-- the call answers a new String, and costs this besides
abbrev pub text_row : ℕ → List ℕ → Row Working
text_row n t p s = answers_text p s (operands s) n t

-- concat of the text of a String and its argument, of a String and its argument, of both texts
abbrev pub concat_text_row : Value → List ℕ → Value → Row Working
concat_text_row r t v p s = on_text p s v (λ u. joined p s (operands s) r t u)

abbrev pub concat_row : Value → Value → Row Working
concat_row r v p s = on_text p s r (λ t. concat_text_row r t v p s)

abbrev pub joined_row : Value → List ℕ → List ℕ → Row Working
joined_row r t u p s = joined p s (operands s) r t u

-- a cost besides, and then the call answers this
abbrev pub costly_row : ℕ → Value → Row Working
costly_row n v p s = spend n (answers p s (v ∷ operands s))

-- charAt of a text
abbrev pub unit_row : List ℕ → ℤ → Row Working
unit_row t i p s = text_index s i (length t) (λ n. answers p s (Int (pos (get_or t n 0)) ∷ operands s))

-- equals of two Strings, with both operands taken
abbrev pub compared_row : Value → Value → Row Working
compared_row r v p s = compares p (with_operands s (v ∷ (r ∷ operands s))) (operands s) r v string_class

-- equals of two texts
abbrev pub same_row : List ℕ → List ℕ → Row Working
same_row t u p s = spend (length t) (answers p s (truth (bytes_eq t u) ∷ operands s))

-- substring of a String
abbrev pub cut_row : Value → ℤ → ℤ → Row Working
cut_row r a b p s = on_text p s r (λ t. answers_part p s (operands s) t a b)

-- a part of a text is answered, if there is one
abbrev pub part_row : Option (List ℕ) → Row Working
part_row None p s = faults string_index_exception s
part_row (Some t) p s = answers_text p s (operands s) 0 t

-- the text of a builder is written
abbrev pub begun_row : Value → List ℕ → Row Working
begun_row r u p s = on_object s r (λ o. spend (length u) (write (place.Text o) u (answers p s (operands s))))

-- units are appended to a builder
abbrev pub appended_row : Value → List ℕ → Row Working
appended_row r u p s = appends p s (operands s) r u

-- a value is the message of a throwable
abbrev pub kept_row : Value → Value → Row Working
kept_row r v p s = on_object s r (λ o. sets_message p s (operands s) o v)

-- a new String of a text is the message of a throwable
abbrev pub told_row : Value → List ℕ → Row Working
told_row r t p s = makes_message p s (operands s) r t

-- how many operands a method adds: one where it takes none and answers a number
abbrev pub growth : Native → ℕ
growth native.SystemClock = 1
growth native.EnvRandom = 1
growth _ = 0
