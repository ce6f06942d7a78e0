-- Reading items one after the other, as a loop does.
use Rattle.std.proofs.Common.{◌≡◌, ℕ, zero, suc, ◌-◌, ◌+◌, ◌≤◌, ◌<◌, List, [], ◌∷◌, ◌++◌, length, Result, Ok, sym, ap, ◌∙◌, arith}
use Rattle.class_pool.specs.{declared.fault.Fault.Fault, declared.fault.ReadError.ReadError, Reading.named, Loops.counted, Loops.to_end, Loops.folded}
use Rattle.class_pool.specs.declared.fault.ReadError.TheVariants as errors
use Rattle.et_base.specs.Answers.{◌>>=◌, Fails}

-- ---- as many as a count says

pub counted_on : {A : Type 0} (step : List A → ℕ → List ℕ → Result (A × List ℕ) Fault) (front : List A) (n i : ℕ) (bytes : List ℕ) (x : A × List ℕ) (total : Result (List A × List ℕ) Fault)
    → i < n → step front (n - (i + 1)) bytes ≡ Ok x → counted step front (n - i) bytes ≡ total → counted step (front ++ x.0 ∷ []) (n - (i + 1)) x.1 ≡ total
unfolding counted
counted_on step front n i bytes x total lt h so_far =
    let k : n - i ≡ suc (n - (i + 1)) = omega arith in
    sym (ap (λ r. r >>= λ y. counted step (front ++ y.0 ∷ []) (n - (i + 1)) y.1) h) ∙ sym (ap (λ m. counted step front m bytes) k) ∙ so_far

pub counted_fails : {A : Type 0} (e : ReadError) (step : List A → ℕ → List ℕ → Result (A × List ℕ) Fault) (front : List A) (n i : ℕ) (bytes : List ℕ) (total : Result (List A × List ℕ) Fault)
    → i < n → Fails (named e) (step front (n - (i + 1)) bytes) → counted step front (n - i) bytes ≡ total → Fails (named e) total
unfolding counted
counted_fails errors.Memory step front n i bytes total lt h so_far = tt
counted_fails (errors.Fault f) step front n i bytes total lt h so_far =
    let k : n - i ≡ suc (n - (i + 1)) = omega arith in
    sym so_far ∙ ap (λ m. counted step front m bytes) k ∙ ap (λ r. r >>= λ y. counted step (front ++ y.0 ∷ []) (n - (i + 1)) y.1) h

pub counted_done : {A : Type 0} (step : List A → ℕ → List ℕ → Result (A × List ℕ) Fault) (front : List A) (n i : ℕ) (bytes : List ℕ) (total : Result (List A × List ℕ) Fault)
    → n ≤ i → counted step front (n - i) bytes ≡ total → total ≡ Ok (front, bytes)
unfolding counted
counted_done step front n i bytes total le so_far =
    let k : n - i ≡ 0 = omega arith in
    sym so_far ∙ ap (λ m. counted step front m bytes) k

-- ---- until the bytes end

pub to_end_on : {A : Type 0} (step : List A → List ℕ → Result (A × List ℕ) Fault) (front : List A) (n i : ℕ) (bytes : List ℕ) (x : A × List ℕ) (total : Result (List A) Fault)
    → i < n → 0 < length bytes → step front bytes ≡ Ok x → to_end step front (n - i) bytes ≡ total → to_end step (front ++ x.0 ∷ []) (n - (i + 1)) x.1 ≡ total
unfolding to_end
to_end_on step front n i [] x total lt some h so_far = absurd (omega arith)
to_end_on step front n i (b ∷ bytes) x total lt some h so_far =
    let k : n - i ≡ suc (n - (i + 1)) = omega arith in
    sym (ap (λ r. r >>= λ y. to_end step (front ++ y.0 ∷ []) (n - (i + 1)) y.1) h) ∙ sym (ap (λ m. to_end step front m (b ∷ bytes)) k) ∙ so_far

pub to_end_fails : {A : Type 0} (e : ReadError) (step : List A → List ℕ → Result (A × List ℕ) Fault) (front : List A) (n i : ℕ) (bytes : List ℕ) (total : Result (List A) Fault)
    → i < n → 0 < length bytes → Fails (named e) (step front bytes) → to_end step front (n - i) bytes ≡ total → Fails (named e) total
unfolding to_end
to_end_fails errors.Memory step front n i bytes total lt some h so_far = tt
to_end_fails (errors.Fault f) step front n i [] total lt some h so_far = absurd (omega arith)
to_end_fails (errors.Fault f) step front n i (b ∷ bytes) total lt some h so_far =
    let k : n - i ≡ suc (n - (i + 1)) = omega arith in
    sym so_far ∙ ap (λ m. to_end step front m (b ∷ bytes)) k ∙ ap (λ r. r >>= λ y. to_end step (front ++ y.0 ∷ []) (n - (i + 1)) y.1) h

pub to_end_none : {A : Type 0} (step : List A → List ℕ → Result (A × List ℕ) Fault) (front : List A) (n : ℕ) (bytes : List ℕ) (total : Result (List A) Fault)
    → length bytes ≡ 0 → to_end step front n bytes ≡ total → total ≡ Ok front
unfolding to_end
to_end_none step front n [] total e so_far = sym so_far
to_end_none step front n (b ∷ bytes) total e so_far = absurd (omega arith)

pub to_end_out : {A : Type 0} (step : List A → List ℕ → Result (A × List ℕ) Fault) (front : List A) (n : ℕ) (bytes : List ℕ) (total : Result (List A) Fault)
    → n ≡ 0 → to_end step front n bytes ≡ total → total ≡ Ok front
unfolding to_end
to_end_out step front n [] total e so_far = sym so_far
to_end_out step front zero (b ∷ bytes) total e so_far = sym so_far
to_end_out step front (suc n) (b ∷ bytes) total e so_far = absurd (omega arith)

-- ---- a state by steps

pub folded_on : {S : Type 0} (step : S → List ℕ → Result (S × List ℕ) Fault) (s : S) (n i : ℕ) (bytes : List ℕ) (x : S × List ℕ) (total : Result (S × List ℕ) Fault)
    → i < n → step s bytes ≡ Ok x → folded step s (n - i) bytes ≡ total → folded step x.0 (n - (i + 1)) x.1 ≡ total
unfolding folded
folded_on step s n i bytes x total lt h so_far =
    let k : n - i ≡ suc (n - (i + 1)) = omega arith in
    sym (ap (λ r. r >>= λ y. folded step y.0 (n - (i + 1)) y.1) h) ∙ sym (ap (λ m. folded step s m bytes) k) ∙ so_far

pub folded_fails : {S : Type 0} (e : ReadError) (step : S → List ℕ → Result (S × List ℕ) Fault) (s : S) (n i : ℕ) (bytes : List ℕ) (total : Result (S × List ℕ) Fault)
    → i < n → Fails (named e) (step s bytes) → folded step s (n - i) bytes ≡ total → Fails (named e) total
unfolding folded
folded_fails errors.Memory step s n i bytes total lt h so_far = tt
folded_fails (errors.Fault f) step s n i bytes total lt h so_far =
    let k : n - i ≡ suc (n - (i + 1)) = omega arith in
    sym so_far ∙ ap (λ m. folded step s m bytes) k ∙ ap (λ r. r >>= λ y. folded step y.0 (n - (i + 1)) y.1) h

pub folded_done : {S : Type 0} (step : S → List ℕ → Result (S × List ℕ) Fault) (s : S) (n i : ℕ) (bytes : List ℕ) (total : Result (S × List ℕ) Fault)
    → n ≤ i → folded step s (n - i) bytes ≡ total → total ≡ Ok (s, bytes)
unfolding folded
folded_done step s n i bytes total le so_far =
    let k : n - i ≡ 0 = omega arith in
    sym so_far ∙ ap (λ m. folded step s m bytes) k
