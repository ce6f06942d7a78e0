-- What a sum holds after one more file.
use Rattle.std.proofs.Common.{◌≡◌, ℕ, zero, suc, ◌+◌, ◌*◌, ◌<◌, true, nat_lt, List, [], ◌∷◌, ◌++◌, length, map, take, get_or, slice_index, flat_map, refl, sym, ap, ◌∙◌, arith}
use Rattle.std.specs.{Int.byte_at, Int.bytes_high_first, List.list_all}
use Rattle.std.proofs.lemmas.Bool.{and_from, lt-ltb, eq-eqb}
use Rattle.std.proofs.lemmas.Grind.{flat_map-append}
use Rattle.std.proofs.lemmas.List.{take_more, map-append, append_assoc, append-nil, length-append}
use Rattle.std.proofs.lemmas.List.Folds.{list_all-append}
use Rattle.sha2.specs.Sha256.{sha256, digest_bytes, final_hash, initial_hash_256}
use Rattle.order_law.specs.declared.records.Prints.{Prints}
use Rattle.dep_record.specs.{Hashes.sized, Hashes.prints_of, Laws.HashesLaw, RecordText.is_hash}

abbrev all_sized : List (List ℕ) → List ℕ
all_sized files = flat_map sized files

pub file_more : {A : Type 0} (g : A → List ℕ) (m : List ℕ) (xs : List A) (i : ℕ) (d : A) → i < length xs
    → m ++ all_sized (map g (take i xs)) ++ sized (g (get_or xs i d)) ≡ m ++ all_sized (map g (take (i + 1) xs))
file_more g m xs i d h =
    let y = get_or xs i d in
    let front = map g (take i xs) in
    append_assoc m (all_sized front) (sized (g y))
    ∙ ap (λ zs. m ++ (all_sized front ++ zs)) (sym (append-nil (sized (g y))))
    ∙ ap (λ zs. m ++ zs) (sym (flat_map-append sized front (g y ∷ [])))
    ∙ ap (λ zs. m ++ all_sized zs) (sym (map-append g (take i xs) (y ∷ [])))
    ∙ ap (λ ys. m ++ all_sized (map g ys)) (sym (take_more xs i d h))

-- sums that are alike one by one
pub same_prints : (d d2 s s2 : List ℕ) (c c2 : List (List ℕ)) (e e2 : List ℕ) → d ≡ d2 → s ≡ s2 → c ≡ c2 → e ≡ e2
    → ◌≡◌ {A = Prints} (record { digest = d; suite = s; classes = c; eager = e }) (record { digest = d2; suite = s2; classes = c2; eager = e2 })
same_prints d d2 s s2 c c2 e e2 x y z w =
    ap (λ (t : List ℕ). record { digest = t; suite = s; classes = c; eager = e }) x
    ∙ ap (λ (t : List ℕ). record { digest = d2; suite = t; classes = c; eager = e }) y
    ∙ ap (λ (t : List (List ℕ)). record { digest = d2; suite = s2; classes = t; eager = e }) z
    ∙ ap (λ (t : List ℕ). record { digest = d2; suite = s2; classes = c2; eager = t }) w

-- ---- a sum has 32 bytes

byte_small : (i n : ℕ) → nat_lt (byte_at i n) 256 ≡ true
byte_small zero n = lt-ltb _ _ (omega arith)
byte_small (suc i) n = lt-ltb _ _ (omega arith)

bytes_small : (k n : ℕ) → list_all (λ b. nat_lt b 256) (bytes_high_first k n) ≡ true
bytes_small zero n = refl
bytes_small (suc k) n = and_from _ _ (byte_small k n) (bytes_small k n)

digest_small : (h : List ℕ) (n : ℕ) → list_all (λ b. nat_lt b 256) (digest_bytes h n) ≡ true
unfolding digest_bytes
digest_small h zero = refl
digest_small h (suc n) = list_all-append (λ b. nat_lt b 256) (digest_bytes h n) _ ∙ and_from _ _ (digest_small h n) (bytes_small 4 (slice_index h n))

digest_length : (h : List ℕ) (n : ℕ) → length (digest_bytes h n) ≡ n * 4
unfolding digest_bytes
digest_length h zero = refl
digest_length h (suc n) = let e = digest_length h n in length-append (digest_bytes h n) _ ∙ omega (arith, e)

sum_is_hash : (m : List ℕ) → is_hash (sha256 m) ≡ true
unfolding sha256
sum_is_hash m = let h = final_hash initial_hash_256 m in and_from _ _ (eq-eqb _ _ (digest_length h 8)) (digest_small h 8)

sums_are_hashes : (files : List (List ℕ)) → list_all is_hash (map sha256 files) ≡ true
sums_are_hashes [] = refl
sums_are_hashes (f ∷ fs) = and_from _ _ (sum_is_hash f) (sums_are_hashes fs)

pub hashes_law : HashesLaw
hashes_law suite classes = record { digest = sum_is_hash _; suite = sum_is_hash suite; classes = sums_are_hashes classes; eager = sum_is_hash _ }
