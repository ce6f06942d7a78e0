-- Readers of code: what is taken is spelled so, what is spelled so is taken, and each fault is one of the code, and names its method.
use Rattle.std.proofs.Common.{◌≡◌, ℕ, zero, suc, ◌^◌, ◌*◌, Bool, true, false, cond, ltb, List, [], ◌∷◌, ◌++◌, length, Result, Ok, Err, refl, subst}
use Rattle.std.specs.Int.{Width, byte_len}
use Rattle.class_pool.specs.{declared.fault.Fault.Fault, Reading.number_or, Reading.run_or, Loops.counted, Loops.folded, Loops.to_end}
use Rattle.et_base.specs.Answers.{◌>>=◌, tested}
use Rattle.class_pool.specs.Grammar.{Nothing, Then, Mapped, Never, Tested, Run, Counted, Chain}
use Rattle.class_pool.proofs.Laws.{Reads, reads_nothing, reads_then, tested_then, reads_mapped, reads_if, reads_never, IsWide, reads_number, reads_run, reads_counted, reads_folded}
use Rattle.code_decode.specs.{declared.place.Spot.Spot, declared.judging.Fit.Fit, Place.cut, Place.wrong, Place.foreign, Operands.judged, Decoding.IsOfCode}
use Rattle.code_decode.specs.declared.judging.Fit.TheVariants as fit
use Rattle.code_decode.specs.CodeGrammar.{Word, is_right}

-- ---- faults

-- Each fault of a reading is one of the code of this method.
pub record Named {A : Type 0} (method : ℕ) (read : Result A Fault) : Type 0 where
  pub of : (f : Fault) → read ≡ Err f → IsOfCode method f

abbrev failed : {A : Type 0} → Fault → Result A Fault
failed f = Err f

err_is : {A : Type 0} (f g : Fault) → failed {A = A} f ≡ failed g → f ≡ g
err_is f g e = cc

pub named_ok : {A : Type 0} (method : ℕ) (x : A) → Named method (Ok x)
named_ok method x = record { of = λ f e. absurd cc }

pub named_err : {A : Type 0} (method : ℕ) (g : Fault) → IsOfCode method g → Named {A = A} method (Err g)
named_err {A = A} method g h = record { of = λ f e. let same : g ≡ f = err_is {A = A} g f e in subst (IsOfCode method) same h }

pub named_then : {A B : Type 0} (method : ℕ) (read : Result A Fault) (next : A → Result B Fault) → Named method read → ((x : A) → Named method (next x)) → Named method (read >>= next)
named_then method (Ok x) next p q = q x
named_then method (Err g) next p q = named_err method g (p.of g refl)

named_if : {A : Type 0} (method : ℕ) (b : Bool) (r q : Result A Fault) → Named method r → Named method q → Named method (cond b r q)
named_if method true r q p o = p
named_if method false r q p o = o

pub named_test : (method : ℕ) (b : Bool) (fault : Fault) → IsOfCode method fault → Named method (tested b fault)
named_test method b fault h = named_if method b _ _ (named_ok method tt) (named_err method fault h)

named_counted : {A : Type 0} (method : ℕ) (step : List A → ℕ → List ℕ → Result (A × List ℕ) Fault) → ((front : List A) (n : ℕ) (bytes : List ℕ) → Named method (step front n bytes))
    → (n : ℕ) (front : List A) (bytes : List ℕ) → Named method (counted step front n bytes)
unfolding counted
named_counted method step p zero front bytes = named_ok method _
named_counted method step p (suc n) front bytes = named_then method (step front n bytes) _ (p front n bytes) (λ x. named_counted method step p n (front ++ x.0 ∷ []) x.1)

named_folded : {S : Type 0} (method : ℕ) (step : S → List ℕ → Result (S × List ℕ) Fault) → ((s : S) (bytes : List ℕ) → Named method (step s bytes))
    → (n : ℕ) (s : S) (bytes : List ℕ) → Named method (folded step s n bytes)
unfolding folded
named_folded method step p zero s bytes = named_ok method _
named_folded method step p (suc n) s bytes = named_then method (step s bytes) _ (p s bytes) (λ x. named_folded method step p n x.0 x.1)

pub named_to_end : {A : Type 0} (method : ℕ) (step : List A → List ℕ → Result (A × List ℕ) Fault) → ((front : List A) (bytes : List ℕ) → Named method (step front bytes))
    → (n : ℕ) (front : List A) (bytes : List ℕ) → Named method (to_end step front n bytes)
unfolding to_end
named_to_end method step p n front [] = named_ok method _
named_to_end method step p zero front (b ∷ bytes) = named_ok method _
named_to_end method step p (suc n) front (b ∷ bytes) = named_then method (step front (b ∷ bytes)) _ (p front (b ∷ bytes)) (λ x. named_to_end method step p n (front ++ x.0 ∷ []) x.1)

-- ---- readers

-- a reader of what stands in the instruction at a spot
pub record Takes {A : Type 0} (spot : Spot) (S : List ℕ → A → Type 0) (read : List ℕ → Result (A × List ℕ) Fault) : Type 0 where
  pub reads : Reads S read
  pub faults : (bytes : List ℕ) → Named spot.method (read bytes)

pub takes_nothing : {A : Type 0} (spot : Spot) (a : A) → Takes spot (Nothing a) (λ bytes. Ok (a, bytes))
takes_nothing spot a = record { reads = reads_nothing a; faults = λ bytes. named_ok spot.method (a, bytes) }

pub takes_then : {A B : Type 0} (spot : Spot) (S : List ℕ → A → Type 0) (T : A → List ℕ → B → Type 0) (first : List ℕ → Result (A × List ℕ) Fault) (next : A → List ℕ → Result (B × List ℕ) Fault)
    → Takes spot S first → ((x : A) → Takes spot (T x) (next x)) → Takes spot (Then S T) (λ bytes. first bytes >>= λ x. next x.0 x.1)
takes_then spot S T first next p q = record {
  reads = reads_then S T first (λ _ x rest. next x rest) p.reads (λ _ x. (q x).reads);
  faults = λ bytes. named_then spot.method (first bytes) (λ x. next x.0 x.1) (p.faults bytes) (λ x. (q x.0).faults x.1);
}

pub takes_mapped : {A B : Type 0} (spot : Spot) (f : A → B) (S : List ℕ → A → Type 0) (read : List ℕ → Result (A × List ℕ) Fault) → Takes spot S read → Takes spot (Mapped f S) (λ bytes. read bytes >>= λ x. Ok (f x.0, x.1))
takes_mapped spot f S read p = record {
  reads = reads_mapped f S read p.reads;
  faults = λ bytes. named_then spot.method (read bytes) (λ x. Ok (f x.0, x.1)) (p.faults bytes) (λ x. named_ok spot.method (f x.0, x.1));
}

pub takes_if : {A : Type 0} (spot : Spot) (b : Bool) (S T : List ℕ → A → Type 0) (r q : List ℕ → Result (A × List ℕ) Fault) → Takes spot S r → Takes spot T q → Takes spot (λ text x. cond b (S text x) (T text x)) (λ bytes. cond b (r bytes) (q bytes))
takes_if spot b S T r q p o = record { reads = reads_if b S T r q p.reads o.reads; faults = λ bytes. named_if spot.method b (r bytes) (q bytes) (p.faults bytes) (o.faults bytes) }

pub takes_never : {A : Type 0} (spot : Spot) (fault : Fault) → IsOfCode spot.method fault → Takes {A = A} spot Never (λ bytes. Err fault)
takes_never spot fault h = record { reads = reads_never fault; faults = λ bytes. named_err spot.method fault h }

pub takes_tested : {A : Type 0} (spot : Spot) (b : Bool) (S : List ℕ → A → Type 0) (read : List ℕ → Result (A × List ℕ) Fault) → Takes spot S read → Takes spot (Tested b S) (λ bytes. tested b (wrong spot) >>= λ _. read bytes)
takes_tested spot b S read p = record {
  reads = tested_then b (λ _. wrong spot) S read p.reads;
  faults = λ bytes. named_then spot.method (tested b (wrong spot)) (λ _. read bytes) (named_test spot.method b (wrong spot) refl) (λ _. p.faults bytes);
}

named_judged : (spot : Spot) (opcode : ℕ) (fits : Fit) → Named spot.method (judged spot opcode fits)
named_judged spot opcode fit.Right = named_ok spot.method tt
named_judged spot opcode fit.Wrong = named_err spot.method (wrong spot) refl
named_judged spot opcode fit.Foreign = named_err spot.method (foreign spot opcode) refl

judged_then : {A : Type 0} (spot : Spot) (opcode : ℕ) (fits : Fit) (S : List ℕ → A → Type 0) (read : List ℕ → Result (A × List ℕ) Fault) → Reads S read → Reads (Tested (is_right fits) S) (λ b. judged spot opcode fits >>= λ _. read b)
judged_then spot opcode fit.Right S read p = tested_then true (λ _. wrong spot) S read p
judged_then spot opcode fit.Wrong S read p = tested_then false (λ _. wrong spot) S read p
judged_then spot opcode fit.Foreign S read p = tested_then false (λ _. foreign spot opcode) S read p

pub takes_judged : {A : Type 0} (spot : Spot) (opcode : ℕ) (fits : Fit) (S : List ℕ → A → Type 0) (read : List ℕ → Result (A × List ℕ) Fault) → Takes spot S read → Takes spot (Tested (is_right fits) S) (λ b. judged spot opcode fits >>= λ _. read b)
takes_judged spot opcode fits S read p = record {
  reads = judged_then spot opcode fits S read p.reads;
  faults = λ bytes. named_then spot.method (judged spot opcode fits) (λ _. read bytes) (named_judged spot opcode fits) (λ _. p.faults bytes);
}

pub takes_word : (spot : Spot) (w : Width) → IsWide w (2 ^ (8 * byte_len w)) → Takes spot (Word w) (λ bytes. number_or (cut spot) w bytes)
takes_word spot w wide = record {
  reads = reads_number w (2 ^ (8 * byte_len w)) (λ _. cut spot) wide;
  faults = λ bytes. named_if spot.method (ltb (length bytes) (byte_len w)) _ _ (named_err spot.method (cut spot) refl) (named_ok spot.method _);
}

pub takes_run : (spot : Spot) (n : ℕ) → Takes spot (Run n) (λ bytes. run_or (cut spot) n bytes)
takes_run spot n = record {
  reads = reads_run n (λ _. cut spot);
  faults = λ bytes. named_if spot.method (ltb (length bytes) n) _ _ (named_err spot.method (cut spot) refl) (named_ok spot.method _);
}

pub takes_counted : {A : Type 0} (spot : Spot) (S : List ℕ → A → Type 0) (step : List ℕ → Result (A × List ℕ) Fault) → Takes spot S step → (n : ℕ) (front : List A) → Takes spot (Counted (λ _ _. S) front n) (λ bytes. counted (λ _ _ b. step b) front n bytes)
takes_counted spot S step p n front = record {
  reads = reads_counted (λ _ _. S) (λ _ _ b. step b) (λ _ _. p.reads) n front;
  faults = λ bytes. named_counted spot.method (λ _ _ b. step b) (λ _ _ b. p.faults b) n front bytes;
}

pub takes_folded : {A : Type 0} (spot : Spot) (T : A → List ℕ → A → Type 0) (step : A → List ℕ → Result (A × List ℕ) Fault) → ((a : A) → Takes spot (T a) (step a)) → (n : ℕ) (a : A) → Takes spot (Chain T a n) (λ bytes. folded step a n bytes)
takes_folded spot T step p n a = record {
  reads = reads_folded T step (λ a. (p a).reads) n a;
  faults = λ bytes. named_folded spot.method step (λ a b. (p a).faults b) n a bytes;
}
