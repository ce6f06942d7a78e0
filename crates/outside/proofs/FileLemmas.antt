-- Look-ups in a list of stored files.
use Rattle.std.proofs.Common.{◌≡◌, ◌<◌, ◌≤◌, ◌+◌, ℕ, suc, true, false, List, [], ◌∷◌, length, drop, get_or, Some, None, refl, ap, sym, ◌∙◌, add-one}
use Rattle.std.proofs.{Math.Seq.drop-cons, Math.ListN.drop_of_length-le}
use Rattle.std.specs.Prelude.{Vec, if◌then◌else◌}
use Rattle.std.specs.{declared.alloc.Global.Global, Str.bytes_eq}
use Rattle.outside.specs.Depot.{content, files_of}

pub content-hit : (file : List ℕ × List ℕ) (files : List (List ℕ × List ℕ)) (name : List ℕ) → bytes_eq file.0 name ≡ true → content (file ∷ files) name ≡ Some file.1
unfolding content
content-hit file files name hit = ap (λ b. if b then Some file.1 else content files name) hit

pub content-miss : (file : List ℕ × List ℕ) (files : List (List ℕ × List ℕ)) (name : List ℕ) → bytes_eq file.0 name ≡ false → content (file ∷ files) name ≡ content files name
unfolding content
content-miss file files name miss = ap (λ b. if b then Some file.1 else content files name) miss

pub content-empty : (name : List ℕ) → content [] name ≡ None
unfolding content
content-empty name = refl

-- the files from an index on are the file there and those after it
pub content-from : (files : List (List ℕ × Vec ℕ Global)) (i : ℕ) (file : List ℕ × Vec ℕ Global) (name : List ℕ) → i < length files → file ≡ get_or files i file
    → content (files_of (drop i files)) name ≡ content ((file.0, file.1.items) ∷ files_of (drop (i + 1) files)) name
content-from files i file name lt at =
    let next : drop (suc i) files ≡ drop (i + 1) files = ap (λ k. drop k files) (sym (add-one i)) in
    ap (λ fs. content (files_of fs) name) (drop-cons files i file lt ∙ ap (λ f. f ∷ drop (suc i) files) (sym at) ∙ ap (λ fs. file ∷ fs) next)

-- no file is left past the end
pub content-end : (files : List (List ℕ × Vec ℕ Global)) (i : ℕ) (name : List ℕ) → length files ≤ i → content (files_of (drop i files)) name ≡ None
content-end files i name le = ap (λ fs. content (files_of fs) name) (drop_of_length-le files le) ∙ content-empty name
