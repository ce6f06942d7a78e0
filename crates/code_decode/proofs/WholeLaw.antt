-- A whole code: what is taken is spelled so, and what is spelled so is taken.
use Rattle.std.proofs.Common.{◌≡◌, ℕ, zero, suc, ◌+◌, ◌-◌, ◌<◌, ◌≤◌, Bool, true, List, [], ◌∷◌, ◌++◌, length, Option, Result, Ok, refl, sym, ap, subst, ◌∙◌, append_assoc, arith}
use Rattle.std.specs.Prelude.{ℤ}
use Rattle.std.specs.List.{AllByRecursion}
use Rattle.std.proofs.lemmas.List.{append-nil, length-append}
use Rattle.class_pool.specs.declared.{fault.Fault.Fault, fault.Fault.TheVariants.BadTarget, fault.ReadError.ReadError, pool.Entry.Entry}
use Rattle.class_pool.specs.declared.fault.ReadError.TheVariants as errors
use Rattle.et_base.specs.Answers.{◌>>=◌, Fails, tested}
use Rattle.class_pool.specs.{Reading.named, Loops.to_end, Grammar.IsBytes}
use Rattle.class_pool.proofs.Laws.{bind_ok, ok_is, tested_ok, wide8}
use Rattle.code_decode.specs.declared.{place.Spot.Spot, instructions.RawOp.RawOp, decoding.Code.Code}
use Rattle.code_decode.specs.{Instructions.op_at, Instructions.spot_at, Instructions.ops_at, Targets.is_start, Targets.leads_to, Targets.targets_fit}
use Rattle.code_decode.specs.{Decoding.code_at, Decoding.IsCodeError, CodeGrammar.OpText, CodeGrammar.OpsText, CodeGrammar.CodeText}
use Rattle.code_decode.proofs.CodeLaw.{takes_op}
use Rattle.code_decode.proofs.Readers.{Named, named_ok, named_then, named_test, named_to_end}

-- ---- instructions one after the other

abbrev Slots : Type 0
Slots = List (Option Entry)

abbrev step : Slots → ℕ → ℕ → List RawOp → List ℕ → Result (RawOp × List ℕ) Fault
step slots method total front rest = op_at slots (spot_at method total rest) rest

-- no instruction is spelled by nothing
pub some_bytes : (slots : Slots) (total pc : ℕ) (text : List ℕ) (o : RawOp) → OpText slots total pc text o → 0 < length text
some_bytes slots total pc text o (n, one, more, e, s, t) =
    let first : length one ≡ 1 = ap length s.0 ∙ wide8.len n in
    omega (arith, ap length e, length-append one more)

ops_takes : (slots : Slots) (method total n : ℕ) (front : List RawOp) (bytes : List ℕ) (ys : List RawOp) → IsBytes bytes → length bytes ≤ n → length bytes ≤ total
    → to_end (step slots method total) front n bytes ≡ Ok ys → (xs : List RawOp) × (ys ≡ front ++ xs) × OpsText slots total (total - length bytes) bytes xs
unfolding to_end
ops_takes slots method total n front [] ys fits le inside e = ([], sym (ok_is front ys e) ∙ sym (append-nil front), refl)
ops_takes slots method total zero front (b ∷ bytes) ys fits le inside e = absurd (omega arith)
ops_takes slots method total (suc n) front (b ∷ bytes) ys fits le inside e =
    let a = bind_ok (step slots method total front (b ∷ bytes)) (λ x. to_end (step slots method total) (front ++ x.0 ∷ []) n x.1) ys e in
    let t = (takes_op slots (spot_at method total (b ∷ bytes))).reads.takes (b ∷ bytes) a.0 fits a.1 in
    let one : 0 < length t.text = some_bytes slots total (total - length (b ∷ bytes)) t.text a.0.0 t.spelled in
    let len : suc (length bytes) ≡ length t.text + length a.0.1 = ap length t.parts ∙ length-append t.text a.0.1 in
    let u = ops_takes slots method total n (front ++ a.0.0 ∷ []) a.0.1 ys t.rest_fits (omega arith) (omega arith) a.2 in
    let next : total - length a.0.1 ≡ (total - suc (length bytes)) + length t.text = omega arith in
    (a.0.0 ∷ u.0, u.1 ∙ append_assoc front (a.0.0 ∷ []) u.0, (t.text, a.0.1, t.parts, t.spelled, subst (λ pc. OpsText slots total pc a.0.1 u.0) next u.2))

ops_again : (slots : Slots) (method total : ℕ) (xs : List RawOp) (n : ℕ) (front : List RawOp) (pc : ℕ) (text : List ℕ) → length text ≤ n → pc + length text ≡ total
    → OpsText slots total pc text xs → to_end (step slots method total) front n text ≡ Ok (front ++ xs)
unfolding to_end
ops_again slots method total [] n front pc text le ends s = rw (s, append-nil) refl
ops_again slots method total (x ∷ xs) n front pc [] le ends (one, more, e, s, others) = absurd (omega (arith, some_bytes slots total pc one x s, ap length e, length-append one more))
ops_again slots method total (x ∷ xs) zero front pc (b ∷ bytes) le ends (one, more, e, s, others) = absurd (omega arith)
ops_again slots method total (x ∷ xs) (suc n) front pc (b ∷ bytes) le ends (one, more, e, s, others) =
    let len : suc (length bytes) ≡ length one + length more = ap length e ∙ length-append one more in
    let first : 0 < length one = some_bytes slots total pc one x s in
    let here : total - suc (length bytes) ≡ pc = omega arith in
    let at = λ (p : ℕ). let spot : Spot = record { method = method; total = total; pc = p } in spot in
    let taken : op_at slots (at (total - suc (length bytes))) (b ∷ bytes) ≡ Ok (x, more) =
    ap (λ p. op_at slots (at p) (b ∷ bytes)) here ∙ ap (op_at slots (at pc)) e ∙ (takes_op slots (at pc)).reads.again one more x s in
    ap (λ r. r >>= λ x. to_end (step slots method total) (front ++ x.0 ∷ []) n x.1) taken
    ∙ ops_again slots method total xs n (front ++ x ∷ []) (pc + length one) more (omega arith) (omega arith) others ∙ ap Ok (append_assoc front (x ∷ []) xs)

-- ---- targets

fit_all : (method : ℕ) (test : ℤ → Bool) (ops : List RawOp) (u : Unit {0}) → targets_fit method test ops ≡ Ok u → AllByRecursion (λ o. leads_to test o ≡ true) ops
fit_all method test [] u e = tt
fit_all method test (o ∷ ops) u e =
    let p = tested_ok (leads_to test o) (BadTarget method o.pc) (targets_fit method test ops) u e in
    (p.0, fit_all method test ops u p.1)

all_fit : (method : ℕ) (test : ℤ → Bool) (ops : List RawOp) → AllByRecursion (λ o. leads_to test o ≡ true) ops → targets_fit method test ops ≡ Ok tt
all_fit method test [] h = refl
all_fit method test (o ∷ ops) (h, hs) = ap (λ b. tested b (BadTarget method o.pc) >>= λ _. targets_fit method test ops) h ∙ all_fit method test ops hs

-- ---- the whole

pub code_takes : (method : ℕ) (slots : Slots) (text : List ℕ) (code : Code) → IsBytes text → code_at method slots text ≡ Ok code → CodeText slots text code
unfolding code_at ops_at
code_takes method slots text code fits e =
    let made = λ (ops : List RawOp). let c : Code = record { length = length text; ops = ops } in c in
    let a = bind_ok (ops_at method slots text) (λ ops. targets_fit method (is_start ops (length text)) ops >>= λ _. Ok (made ops)) code e in
    let b = bind_ok (targets_fit method (is_start a.0 (length text)) a.0) (λ _. Ok (made a.0)) code a.2 in
    let t = ops_takes slots method (length text) (length text) [] text a.0 fits (omega arith) (omega arith) a.1 in
    let start : length text - length text ≡ 0 = omega arith in
    let ops : OpsText slots (length text) 0 text a.0 = subst (λ pc. OpsText slots (length text) pc text a.0) start (subst (λ xs. OpsText slots (length text) (length text - length text) text xs) (sym t.1) t.2) in
    let whole : CodeText slots text (made a.0) = record { len = refl; instructions = ops; targets = fit_all method (is_start a.0 (length text)) a.0 b.0 b.1 } in
    subst (λ c. CodeText slots text c) (ok_is (made a.0) code b.2) whole

pub code_again : (method : ℕ) (slots : Slots) (text : List ℕ) (code : Code) → CodeText slots text code → code_at method slots text ≡ Ok code
unfolding code_at ops_at
code_again method slots text code s =
    let made = λ (n : ℕ). let c : Code = record { length = n; ops = code.ops } in c in
    let ops : ops_at method slots text ≡ Ok code.ops = ops_again slots method (length text) code.ops (length text) [] 0 text (omega arith) (omega arith) s.instructions in
    ap (λ r. r >>= λ ops. targets_fit method (is_start ops (length text)) ops >>= λ _. Ok (record { length = length text; ops = ops })) ops
    ∙ ap (λ r. r >>= λ _. Ok (made (length text))) (all_fit method (is_start code.ops (length text)) code.ops s.targets)
    ∙ ap (λ n. Ok (made n)) (sym s.len)

-- ---- faults

named_targets : (method : ℕ) (test : ℤ → Bool) (ops : List RawOp) → Named method (targets_fit method test ops)
named_targets method test [] = named_ok method tt
named_targets method test (o ∷ ops) = named_then method (tested (leads_to test o) (BadTarget method o.pc)) _ (named_test method (leads_to test o) (BadTarget method o.pc) refl) (λ _. named_targets method test ops)

named_code : (method : ℕ) (slots : Slots) (bytes : List ℕ) → Named method (code_at method slots bytes)
unfolding code_at ops_at
named_code method slots bytes = named_then method (ops_at method slots bytes) _ (named_to_end method _ (λ _ rest. (takes_op slots (spot_at method (length bytes) rest)).faults rest) (length bytes) [] bytes)
    (λ ops. named_then method (targets_fit method (is_start ops (length bytes)) ops) _ (named_targets method (is_start ops (length bytes)) ops) (λ _. named_ok method _))

-- Each error of reading a code is one of that code.
pub code_error : (error : ReadError) (method : ℕ) (slots : Slots) (bytes : List ℕ) → Fails (named error) (code_at method slots bytes) → IsCodeError method error
code_error errors.Memory method slots bytes fails = tt
code_error (errors.Fault f) method slots bytes fails = (named_code method slots bytes).of f fails
