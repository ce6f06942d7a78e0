-- Headers with their texts: what one of them is, one more, and one with another text.
use Rattle.std.proofs.Common.{◌≡◌, ℕ, zero, suc, ◌+◌, ◌-◌, ◌<◌, ◌≤◌, List, [], ◌∷◌, ◌++◌, length, get_or, set, map, replicate, Option, None, refl, sym, ap, ◌∙◌, arith, length-append, append_assoc}
use Rattle.std.proofs.lemmas.List.{get_or_default, replicate_more}
use Rattle.vm_heap.specs.{declared.header.Header.Header, Entries.Entry, Entries.entry, Entries.entries, Entries.header_of}

pub length-entries : (xs : List Header) (ts : List (Option (List ℕ))) → length (entries xs ts) ≡ length xs
length-entries [] ts = refl
length-entries (x ∷ xs) [] = ap suc (length-entries xs [])
length-entries (x ∷ xs) (t ∷ ts) = ap suc (length-entries xs ts)

pub header_there : (xs : List Header) (ts : List (Option (List ℕ))) (o : ℕ) (x : Header) (d : Entry) → o < length xs → x ≡ get_or xs o x → x ≡ header_of (get_or (entries xs ts) o d)
header_there [] ts o x d w e = absurd (omega arith)
header_there (y ∷ xs) [] zero x d w e = e
header_there (y ∷ xs) (t ∷ ts) zero x d w e = e
header_there (y ∷ xs) [] (suc o) x d w e = header_there xs [] o x d (omega arith) e
header_there (y ∷ xs) (t ∷ ts) (suc o) x d w e = header_there xs ts o x d (omega arith) e

pub text_there : (xs : List Header) (ts : List (Option (List ℕ))) (o : ℕ) (d : Entry) → o < length xs → (get_or (entries xs ts) o d).text ≡ get_or ts o None
text_there [] ts o d w = absurd (omega arith)
text_there (x ∷ xs) [] zero d w = refl
text_there (x ∷ xs) (t ∷ ts) zero d w = refl
text_there (x ∷ xs) [] (suc o) d w = text_there xs [] o d (omega arith)
text_there (x ∷ xs) (t ∷ ts) (suc o) d w = text_there xs ts o d (omega arith)

pub entries_more : (xs : List Header) (ts : List (Option (List ℕ))) (k : ℕ) → entries xs (ts ++ replicate k None) ≡ entries xs ts
entries_more [] ts k = refl
entries_more (x ∷ xs) (t ∷ ts) k = ap (λ y. entry x t ∷ y) (entries_more xs ts k)
entries_more (x ∷ xs) [] zero = refl
entries_more (x ∷ xs) [] (suc k) = ap (λ y. entry x None ∷ y) (entries_more xs [] k)

pub entries_last : (xs : List Header) (ts : List (Option (List ℕ))) (x : Header) → length ts ≤ length xs → entries (xs ++ x ∷ []) ts ≡ entries xs ts ++ entry x None ∷ []
entries_last [] [] x h = refl
entries_last [] (t ∷ ts) x h = absurd (omega arith)
entries_last (y ∷ xs) [] x h = ap (λ z. entry y None ∷ z) (entries_last xs [] x (omega arith))
entries_last (y ∷ xs) (t ∷ ts) x h = ap (λ z. entry y t ∷ z) (entries_last xs ts x (omega arith))

abbrev pub texted : Entry → Option (List ℕ) → Entry
texted x t = record x { text = t }

pub entries_set : (xs : List Header) (ts : List (Option (List ℕ))) (o : ℕ) (t : Option (List ℕ)) (d : Entry) → o < length xs → o < length ts →
    entries xs (set ts o t) ≡ set (entries xs ts) o (texted (get_or (entries xs ts) o d) t)
entries_set [] ts o t d w h = absurd (omega arith)
entries_set (x ∷ xs) [] o t d w h = absurd (omega arith)
entries_set (x ∷ xs) (s ∷ ts) zero t d w h = refl
entries_set (x ∷ xs) (s ∷ ts) (suc o) t d w h = ap (λ y. entry x s ∷ y) (entries_set xs ts o t d (omega arith) (omega arith))

pub objects_there : (xs : List Header) (ts : List (Option (List ℕ))) (es : List Entry) (o : ℕ) → entries xs ts ≡ es → o < length es → o < length xs
objects_there xs ts es o e w = let l = length-entries xs ts in let m : length (entries xs ts) ≡ length es = ap length e in omega arith

-- one more empty text
pub covered_more : (ts us vs : List (Option (List ℕ))) (x : Option (List ℕ)) → vs ≡ us ++ x ∷ [] → x ≡ None → length ts ≤ length us →
    us ≡ ts ++ replicate (length us - length ts) None → vs ≡ ts ++ replicate (length vs - length ts) None
covered_more ts us vs x v e h c =
    let k = length us - length ts in
    let l = ap length v ∙ length-append us (x ∷ []) in
    let m : length vs - length ts ≡ k + 1 = omega arith in
    v ∙ ap (λ y. us ++ y ∷ []) e ∙ ap (λ y. y ++ None ∷ []) c ∙ append_assoc ts (replicate k None) (None ∷ [])
    ∙ ap (λ y. ts ++ y) (replicate_more k None ∙ ap (λ n. replicate n None) (sym m))

-- empty texts behind the others change nothing
pub covered : (xs : List Header) (ts us : List (Option (List ℕ))) (es : List Entry) (k : ℕ) → us ≡ ts ++ replicate k None → entries xs ts ≡ es → entries xs us ≡ es
covered xs ts us es k c e = ap (entries xs) c ∙ entries_more xs ts k ∙ e

pub text_set : (xs : List Header) (us : List (Option (List ℕ))) (es : List Entry) (o : ℕ) (u t : Option (List ℕ)) (d : Entry) → entries xs us ≡ es → o < length xs → o < length us → u ≡ t →
    entries xs (set us o u) ≡ set es o (texted (get_or es o d) t)
text_set xs us es o u t d e w h q =
    entries_set xs us o u d w h ∙ ap (λ y. set y o (texted (get_or y o d) u)) e ∙ ap (λ y. set es o (texted (get_or es o d) y)) q

pub text_of : (xs : List Header) (us : List (Option (List ℕ))) (es : List Entry) (o : ℕ) (x : Option (List ℕ)) (d : Entry) → entries xs us ≡ es → o < length xs → o < length us → x ≡ get_or us o x → x ≡ (get_or es o d).text
text_of xs us es o x d e w h q = q ∙ get_or_default us o x None h ∙ sym (text_there xs us o d w) ∙ ap (λ y. (get_or y o d).text) e

headers_of : (xs : List Header) (ts : List (Option (List ℕ))) → map header_of (entries xs ts) ≡ xs
headers_of [] ts = refl
headers_of (x ∷ xs) [] = ap (λ y. x ∷ y) (headers_of xs [])
headers_of (x ∷ xs) (t ∷ ts) = ap (λ y. x ∷ y) (headers_of xs ts)

-- the headers are the same whatever the texts
pub same_headers : (xs : List Header) (ts us : List (Option (List ℕ))) (es : List Entry) → entries xs ts ≡ es → map header_of (entries xs us) ≡ map header_of es
same_headers xs ts us es e = headers_of xs us ∙ sym (headers_of xs ts) ∙ ap (map header_of) e
