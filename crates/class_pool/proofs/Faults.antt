-- Which faults a reader can have.
use Rattle.std.proofs.Common.{◌≡◌, ℕ, zero, suc, Bool, true, false, cond, ltb, List, [], ◌∷◌, ◌++◌, length, take, drop, Result, Ok, Err, refl, subst}
use Rattle.std.specs.Int.{Width, byte_len, from_be_bytes}
use Rattle.class_pool.specs.{declared.fault.Fault.Fault, Reading.number_or, Reading.run_or, Loops.counted}
use Rattle.et_base.specs.Answers.{◌>>=◌}

-- each fault of a reader is of this sort
abbrev pub Refuses : {A : Type 0} → (Fault → Type 0) → (List ℕ → Result A Fault) → Type 0
Refuses P read = (bytes : List ℕ) (fault : Fault) → read bytes ≡ Err fault → P fault

pub bind_refuses : {A B : Type 0} (P : Fault → Type 0) (r : Result A Fault) (f : A → Result B Fault) (fault : Fault) → ((e : Fault) → r ≡ Err e → P e) → ((x : A) → r ≡ Ok x → f x ≡ Err fault → P fault) → (r >>= f) ≡ Err fault → P fault
bind_refuses P (Ok x) f fault first next e = next x refl e
bind_refuses P (Err g) f fault first next e = subst P (let s : g ≡ fault = cc in s) (first g refl)

pub refuses_then : {A B : Type 0} (P : Fault → Type 0) (first : List ℕ → Result (A × List ℕ) Fault) (next : List ℕ → A → List ℕ → Result (B × List ℕ) Fault) → Refuses P first → ((all : List ℕ) (x : A) → Refuses P (next all x))
    → Refuses P (λ bytes. first bytes >>= λ x. next bytes x.0 x.1)
refuses_then P first next p q bytes fault e = bind_refuses P (first bytes) (λ x. next bytes x.0 x.1) fault (p bytes) (λ x is. q bytes x.0 x.1 fault) e

pub refuses_mapped : {A B : Type 0} (P : Fault → Type 0) (f : A → B) (read : List ℕ → Result (A × List ℕ) Fault) → Refuses P read → Refuses {A = B × List ℕ} P (λ bytes. read bytes >>= λ x. Ok (f x.0, x.1))
refuses_mapped P f read p bytes fault e = bind_refuses P (read bytes) (λ x. Ok (f x.0, x.1)) fault (p bytes) (λ x is h. absurd cc) e

pub refuses_if : {A : Type 0} (P : Fault → Type 0) (b : Bool) (r q : List ℕ → Result A Fault) → Refuses P r → Refuses P q → Refuses P (λ bytes. cond b (r bytes) (q bytes))
refuses_if P true r q p o = p
refuses_if P false r q p o = o

pub refuses_never : {A : Type 0} (P : Fault → Type 0) (fault : Fault) → P fault → Refuses {A = A} P (λ bytes. Err fault)
refuses_never {A} P fault p bytes g e = subst P (let s : fault ≡ g = cc in s) p

cond_err : {A : Type 0} (P : Fault → Type 0) (b : Bool) (f g : Fault) (x : A) → P f → cond b (Err f) (Ok x) ≡ Err g → P g
cond_err P true f g x p e = subst P (let s : f ≡ g = cc in s) p
cond_err P false f g x p e = absurd cc

pub refuses_number : (P : Fault → Type 0) (w : Width) (short : List ℕ → Fault) → ((bytes : List ℕ) → P (short bytes)) → Refuses P (λ bytes. number_or (short bytes) w bytes)
refuses_number P w short p bytes fault e = cond_err P (ltb (length bytes) (byte_len w)) (short bytes) fault (from_be_bytes w (take (byte_len w) bytes), drop (byte_len w) bytes) (p bytes) e

pub refuses_run : (P : Fault → Type 0) (n : ℕ) (short : List ℕ → Fault) → ((bytes : List ℕ) → P (short bytes)) → Refuses P (λ bytes. run_or (short bytes) n bytes)
refuses_run P n short p bytes fault e = cond_err P (ltb (length bytes) n) (short bytes) fault (take n bytes, drop n bytes) (p bytes) e

pub refuses_counted : {A : Type 0} (P : Fault → Type 0) (step : List A → ℕ → List ℕ → Result (A × List ℕ) Fault) → ((front : List A) (n : ℕ) → Refuses P (step front n)) → (n : ℕ) (front : List A) → Refuses P (λ bytes. counted step front n bytes)
unfolding counted
refuses_counted P step p zero front bytes fault e = absurd cc
refuses_counted P step p (suc n) front bytes fault e =
    bind_refuses P (step front n bytes) (λ x. counted step (front ++ x.0 ∷ []) n x.1) fault (p front n bytes) (λ x is. refuses_counted P step p n (front ++ x.0 ∷ []) x.1 fault) e
