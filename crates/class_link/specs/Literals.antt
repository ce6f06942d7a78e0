-- String constants: one for each content, numbered from 1 in the order of first mention, by class in the suite's order and
-- by pool index (this project's).
use Rattle.std.specs.Prelude.{ℕ, suc, List, [], ◌∷◌, ◌++◌, flat_map, position, unwrap_or, Option, Some, cond}
use Rattle.std.specs.{List.list_any, Str.bytes_eq}
use Rattle.class_pool.specs.declared.pool.{Entry.Entry, Entry.TheVariants.Str}
use Rattle.class_reader.specs.declared.parts.ClassParts.{ClassParts}
use Rattle.class_link.specs.ClassNames.{text_at}

abbrev pub string_in : List (Option Entry) → Option Entry → List (List ℕ)
string_in slots (Some (Str text)) = text_at slots text ∷ []
string_in slots _ = []

-- the texts of the String entries of a pool
abbrev pub strings_of : List (Option Entry) → List (List ℕ)
strings_of slots = flat_map (string_in slots) slots

-- these texts, and behind them those of a list that aren't there yet
abbrev pub noted : List (List ℕ) → List (List ℕ) → List (List ℕ)
noted seen [] = seen
noted seen (x ∷ xs) = noted (cond (list_any (bytes_eq x) seen) seen (seen ++ x ∷ [])) xs

unfoldable pub literals : List ClassParts → List (List ℕ)
literals cs = noted [] (flat_map (λ c. strings_of c.pool) cs)

-- the number of a text
abbrev pub literal_number : List (List ℕ) → List ℕ → ℕ
literal_number texts text = suc (unwrap_or (position (bytes_eq text) texts) 0)
