-- Names in a word, one after another.
use Rattle.std.proofs.Common.{◌≡◌, ℕ, ◌+◌, ◌<◌, ◌≤◌, List, [], ◌∷◌, ◌++◌, length, get_or, drop, cond, nat_lt, Bool, true, false, refl, sym, ap, ◌∙◌, arith, append_assoc, position, Option, Some, None, Result, Ok, Err}
use Rattle.std.proofs.lemmas.{Bool.Decides.nat_tests, List.Sums.position_or_len_is, List.append-nil, List.drop_more, List.drop_all}
use Rattle.et_base.specs.Answers.{Fails}
use Rattle.jvm_model.specs.declared.program.Names.{Names}
use Rattle.electrictest.specs.{declared.status.InputFault.InputFault, Selections.◌>>=◌, Selections.test_of, Selections.tests_of}

-- the first element that passes
pub position_at : {X : Type 0} (p : X → Bool) (xs : List X) (i : ℕ) (d : X) → i < length xs → ((k : ℕ) → k < i → p (get_or xs k d) ≡ false) → p (get_or xs i d) ≡ true → position p xs ≡ Some i
position_at p xs i d lt before here =
    let at = position_or_len_is p xs i d (omega arith) before (λ _. here) in
    let within : nat_lt i (length xs) ≡ true = grind (arith, nat_tests) in
    ap (λ k. cond (nat_lt k (length xs)) (Some k) None) at ∙ ap (λ b. cond b (Some i) None) within

pub position_none : {X : Type 0} (p : X → Bool) (xs : List X) (i : ℕ) (d : X) → length xs ≡ i → ((k : ℕ) → k < i → p (get_or xs k d) ≡ false) → position p xs ≡ None
position_none p xs i d e before =
    let at = position_or_len_is p xs i d (omega arith) before (λ lt. absurd (omega arith)) in
    let past : nat_lt i (length xs) ≡ false = grind (arith, nat_tests) in
    ap (λ k. cond (nat_lt k (length xs)) (Some k) None) at ∙ ap (λ b. cond b (Some i) None) past

-- tests, and those behind them
abbrev prefixed : List ℕ → Result (List ℕ) InputFault → Result (List ℕ) InputFault
prefixed ts (Ok more) = Ok (ts ++ more)
prefixed ts (Err f) = Err f

-- the tests of the first n pieces
abbrev pub AreSoFar : Names → List (List ℕ) → ℕ → List ℕ → Type 0
AreSoFar names ps n ts = tests_of names ps ≡ prefixed ts (tests_of names (drop n ps))

prefixed_more : (ts : List ℕ) (t : ℕ) (r : Result (List ℕ) InputFault) → prefixed ts (r >>= λ more. Ok (t ∷ more)) ≡ prefixed (ts ++ t ∷ []) r
prefixed_more ts t (Ok more) = ap Ok (sym (append_assoc ts (t ∷ []) more))
prefixed_more ts t (Err f) = refl

-- the pieces from a place on
at_place : (names : Names) (ps : List (List ℕ)) (n : ℕ) (name : List ℕ) → n < length ps → name ≡ get_or ps n name → tests_of names (drop n ps) ≡ tests_of names (name ∷ drop (n + 1) ps)
at_place names ps n name lt e = ap (tests_of names) (drop_more ps n name lt ∙ ap (λ p. p ∷ drop (n + 1) ps) (sym e))

pub so_far_more : (names : Names) (ps : List (List ℕ)) (n : ℕ) (name : List ℕ) (ts : List ℕ) (t : ℕ) → n < length ps → name ≡ get_or ps n name → test_of names name ≡ Ok t → AreSoFar names ps n ts → AreSoFar names ps (n + 1) (ts ++ t ∷ [])
so_far_more names ps n name ts t lt at e h =
    let behind = tests_of names (drop (n + 1) ps) in
    h ∙ ap (prefixed ts) (at_place names ps n name lt at ∙ ap (λ r. r >>= λ x. behind >>= λ xs. Ok (x ∷ xs)) e) ∙ prefixed_more ts t behind

fails_as : {X Y : Type 0} (o : Option InputFault) (given : Result Y InputFault) (part : Result X InputFault) → ((f : InputFault) → part ≡ Err f → given ≡ Err f) → Fails o part → Fails o given
fails_as None given part h r = tt
fails_as (Some f) given part h r = h f r

pub so_far_fails : (names : Names) (ps : List (List ℕ)) (n : ℕ) (name : List ℕ) (ts : List ℕ) (o : Option InputFault) → n < length ps → name ≡ get_or ps n name → Fails o (test_of names name) → AreSoFar names ps n ts → Fails o (tests_of names ps)
so_far_fails names ps n name ts o lt at r h =
    let behind = tests_of names (drop (n + 1) ps) in
    fails_as o (tests_of names ps) (test_of names name)
    (λ f e. h ∙ ap (prefixed ts) (at_place names ps n name lt at ∙ ap (λ x. x >>= λ y. behind >>= λ ys. Ok (y ∷ ys)) e)) r

pub so_far_all : (names : Names) (ps : List (List ℕ)) (n : ℕ) (ts : List ℕ) → length ps ≤ n → AreSoFar names ps n ts → tests_of names ps ≡ Ok ts
so_far_all names ps n ts le h = h ∙ ap (λ z. prefixed ts (tests_of names z)) (drop_all n ps le) ∙ ap Ok (append-nil ts)
