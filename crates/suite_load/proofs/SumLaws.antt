-- What sums hold, and of which bytes.
use Rattle.std.proofs.Common.{◌≡◌, ℕ, List, [], ◌∷◌, ◌++◌, length, flat_map, nat_le, Bool, true, false, sym, ap, subst, ◌∙◌, append_assoc, if◌then◌else◌, Option, Some, None, Result, Ok, Err}
use Rattle.std.specs.Option.{unwrap_or}
use Rattle.std.proofs.lemmas.{Grind.flat_map-append, List.append-nil}
use Rattle.outside.specs.Depot.{Files, content}
use Rattle.dep_record.specs.Hashes.{sized, suite_bytes}
use Rattle.suite_load.specs.declared.{print_sums.PrintSums.PrintSums, load_fault.LoadFault.LoadFault}
use Rattle.suite_load.specs.declared.load_fault.LoadFault.TheVariants as fault
use Rattle.suite_load.specs.{Loading.within, Loading.file_of, Loading.bytes_of, Sums.AreSums, Sums.AreMoreSums}

pub bytes_more : (text : List ℕ) (files : List (List ℕ)) (file : List ℕ) → suite_bytes text files ++ sized file ≡ suite_bytes text (files ++ file ∷ [])
unfolding suite_bytes
bytes_more text files file =
    append_assoc (sized text) (flat_map sized files) (sized file)
    ∙ ap (λ z. sized text ++ (flat_map sized files ++ z)) (sym (append-nil (sized file)))
    ∙ ap (λ z. sized text ++ z) (sym (flat_map-append sized files (file ∷ [])))

pub bytes_none : (text : List ℕ) → sized text ≡ suite_bytes text []
unfolding suite_bytes
bytes_none text = sym (append-nil (sized text))

-- ---- the bytes of a file that was read

by_length : (b : Bool) (bytes read : List ℕ) (f : LoadFault) → ◌≡◌ {A = Result (List ℕ) LoadFault} (if b then Ok bytes else Err f) (Ok read) → bytes ≡ read
by_length true bytes read f e = cc
by_length false bytes read f e = absurd (cc)

pub by_content : (most : ℕ) (name read : List ℕ) (o : Option (List ℕ)) → within most name o ≡ Ok read → unwrap_or o [] ≡ read
by_content most name read None e = absurd (cc)
by_content most name read (Some bytes) e = by_length (nat_le (length bytes) most) bytes read (fault.TooLarge name) e

read_bytes : (files : Files) (most : ℕ) (name read : List ℕ) → file_of files most name ≡ Ok read → bytes_of files name ≡ read
unfolding file_of
read_bytes files most name read e = by_content most name read (content files name) e

pub file_sums : (files : Files) (most : ℕ) (name read piece : List ℕ) (old new : PrintSums) → file_of files most name ≡ Ok read → piece ≡ read → AreMoreSums old new (piece ∷ []) → AreMoreSums old new (bytes_of files name ∷ [])
file_sums files most name read piece old new r e h = subst (λ z. AreMoreSums old new (z ∷ [])) (e ∙ sym (read_bytes files most name read r)) h

pub suite_sums : (files : Files) (most : ℕ) (name read piece : List ℕ) (sums : PrintSums) → file_of files most name ≡ Ok read → piece ≡ read → AreSums sums piece [] → AreSums sums (bytes_of files name) []
suite_sums files most name read piece sums r e h = subst (λ z. AreSums sums z []) (e ∙ sym (read_bytes files most name read r)) h
