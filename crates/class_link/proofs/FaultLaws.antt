-- The first fault of several entries.
use Rattle.std.proofs.Common.{◌≡◌, ℕ, suc, ◌+◌, ◌-◌, ◌<◌, List, ◌∷◌, refl, sym, ◌∙◌, ap, subst, arith, Option, Some, None, Result, Ok, Err}
use Rattle.std.specs.{List.range_with_len, Result.IsErrAnd}
use Rattle.class_link.specs.{declared.fault.LinkFault.LinkFault, Answers.Fails, Answers.Gives, Answers.nothing, Faults.first_some, Link.unless}
use Rattle.class_link.specs.declared.fault.LinkFault.TheVariants as fault

next_index : (i n : ℕ) → i < n → range_with_len i (n - i) ≡ i ∷ range_with_len (i + 1) (n - (i + 1))
next_index i n h = let e : n - i ≡ suc (n - (i + 1)) = omega arith in ap (λ k. range_with_len i k) e

no_fault : (f : ℕ → Option LinkFault) (i : ℕ) (o : Option LinkFault) (is : List ℕ) → f i ≡ o → unless o ≡ Ok tt → first_some f (i ∷ is) ≡ first_some f is
no_fault f i None is e u = ap (λ x. elim x as (λ _. Option LinkFault) [ Some y ↦ Some y | None ↦ first_some f is ]) e
no_fault f i (Some y) is e u = absurd (cc)

-- an entry without a fault
pub next_first : (f : ℕ → Option LinkFault) (i n : ℕ) → unless (f i) ≡ Ok tt → i < n → first_some f (range_with_len i (n - i)) ≡ first_some f (range_with_len (i + 1) (n - (i + 1)))
next_first f i n u h = ap (λ is. first_some f is) (next_index i n h) ∙ no_fault f i (f i) (range_with_len (i + 1) (n - (i + 1))) refl u

-- a fault where there is none is want of memory
only_memory : (e : LinkFault) (given : Result (Unit {0}) LinkFault) → Fails e (unless None) → Fails e given
only_memory fault.NoMemory given u = tt
only_memory _ given u = absurd (cc)

fails_cons : (f : ℕ → Option LinkFault) (i : ℕ) (o : Option LinkFault) (is : List ℕ) (e : LinkFault) → f i ≡ o → Fails e (unless o) → Fails e (unless (first_some f (i ∷ is)))
fails_cons f i None is e q u = only_memory e (unless (first_some f (i ∷ is))) u
fails_cons f i (Some y) is e q u =
    let first : first_some f (i ∷ is) ≡ Some y = ap (λ x. elim x as (λ _. Option LinkFault) [ Some z ↦ Some z | None ↦ first_some f is ]) q in
    subst (λ (x : Option LinkFault). Fails e (unless x)) (sym first) u

-- the fault of an entry is the first one from there on
pub fails_first : (f : ℕ → Option LinkFault) (i n : ℕ) (e : LinkFault) → i < n → Fails e (unless (f i)) → Fails e (unless (first_some f (range_with_len i (n - i))))
fails_first f i n e h u = subst (λ (is : List ℕ). Fails e (unless (first_some f is))) (sym (next_index i n h)) (fails_cons f i (f i) (range_with_len (i + 1) (n - (i + 1))) e refl u)

-- an answer that passes a fault on
pub fails_on : {X : Type 0} (result : Result X LinkFault) (e : LinkFault) (given : Result (Unit {0}) LinkFault) → IsErrAnd result (λ x. x ≡ e) → Fails e given → Gives nothing result given
fails_on (Ok x) e given h u = absurd h
fails_on (Err x) e given h u = subst (λ (y : LinkFault). Fails y given) (sym h) u
