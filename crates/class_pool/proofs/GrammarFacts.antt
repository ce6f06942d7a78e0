-- What holds of each item that a grammar spells.
use Rattle.std.proofs.Common.{◌≡◌, ◌<◌, ◌+◌, ℕ, zero, suc, List, [], ◌∷◌, ◌++◌, length, take, get_or, sym, ap, subst, ◌∙◌, append_assoc, arith, All}
use Rattle.std.specs.List.{AllByRecursion}
use Rattle.std.proofs.lemmas.List.{append-nil, Elements.All-from_recursion}
use Rattle.class_pool.specs.Grammar.{Joined, Chain, Counted}

-- each item is so behind those before it
abbrev pub Behind : {A : Type 0} → (List A → A → Type 0) → List A → List A → Type 0
Behind Q before [] = Unit {0}
Behind Q before (x ∷ xs) = Q before x × Behind Q (before ++ x ∷ []) xs

pub joined_behind : {A : Type 0} (S : List A → ℕ → List ℕ → A → Type 0) (Q : List A → A → Type 0) → ((before : List A) (n : ℕ) (text : List ℕ) (x : A) → S before n text x → Q before x)
    → (before : List A) (text : List ℕ) (xs : List A) → Joined S before text xs → Behind Q before xs
joined_behind S Q f before text [] s = tt
joined_behind S Q f before text (x ∷ xs) (one, more, e, s, others) = (f before (length xs) one x s, joined_behind S Q f (before ++ x ∷ []) more xs others)

pub behind_at : {A : Type 0} (Q : List A → A → Type 0) (before xs : List A) (i : ℕ) (d : A) → i < length xs → Behind Q before xs → Q (before ++ take i xs) (get_or xs i d)
behind_at Q before [] i d lt h = absurd (omega arith)
behind_at Q before (x ∷ xs) zero d lt h = subst (λ b. Q b x) (sym (append-nil before)) h.0
behind_at Q before (x ∷ xs) (suc i) d lt h = subst (λ b. Q b (get_or xs i d)) (append_assoc before (x ∷ []) (take i xs)) (behind_at Q (before ++ x ∷ []) xs i d (omega arith) h.1)

behind_all : {A : Type 0} (P : A → Type 0) (before xs : List A) → Behind (λ _ x. P x) before xs → AllByRecursion P xs
behind_all P before [] h = tt
behind_all P before (x ∷ xs) h = (h.0, behind_all P (before ++ x ∷ []) xs h.1)

pub joined_all : {A : Type 0} (S : List A → ℕ → List ℕ → A → Type 0) (P : A → Type 0) → ((before : List A) (n : ℕ) (text : List ℕ) (x : A) → S before n text x → P x)
    → (before : List A) (text : List ℕ) (xs : List A) → Joined S before text xs → All P xs
joined_all S P f before text xs s = All-from_recursion P xs (behind_all P before xs (joined_behind S (λ _ x. P x) f before text xs s))

-- items from none on
pub counted_behind : {A : Type 0} (S : List A → ℕ → List ℕ → A → Type 0) (Q : List A → A → Type 0) → ((before : List A) (n : ℕ) (text : List ℕ) (x : A) → S before n text x → Q before x)
    → (n : ℕ) (text : List ℕ) (ys : List A) → Counted S [] n text ys → Behind Q [] ys
counted_behind S Q f n text ys (xs, is, len, s) = subst (Behind Q []) (sym is) (joined_behind S Q f [] text xs s)

pub counted_all : {A : Type 0} (S : List A → ℕ → List ℕ → A → Type 0) (P : A → Type 0) → ((before : List A) (n : ℕ) (text : List ℕ) (x : A) → S before n text x → P x)
    → (n : ℕ) (text : List ℕ) (ys : List A) → Counted S [] n text ys → All P ys
counted_all S P f n text ys (xs, is, len, s) = subst (All P) (sym is) (joined_all S P f [] text xs s)

pub counted_length : {A : Type 0} (S : List A → ℕ → List ℕ → A → Type 0) (n : ℕ) (text : List ℕ) (ys : List A) → Counted S [] n text ys → length ys ≡ n
counted_length S n text ys (xs, is, len, s) = ap length is ∙ len

-- what each step keeps holds at the end
pub chain_keeps : {A : Type 0} (T : A → List ℕ → A → Type 0) (I : A → Type 0) → ((a : A) (text : List ℕ) (b : A) → I a → T a text b → I b)
    → (a : A) (n : ℕ) (text : List ℕ) (y : A) → I a → Chain T a n text y → I y
chain_keeps T I f a zero text y i (nil, is) = subst I (sym is) i
chain_keeps T I f a (suc n) text y i (mid, one, more, e, s, others) = chain_keeps T I f mid n more y (f a one mid i s) others

-- the same, where each step counts
pub chain_counts : {A : Type 0} (T : A → List ℕ → A → Type 0) (I : ℕ → A → Type 0) → ((k : ℕ) (a : A) (text : List ℕ) (b : A) → I k a → T a text b → I (suc k) b)
    → (k : ℕ) (a : A) (n : ℕ) (text : List ℕ) (y : A) → I k a → Chain T a n text y → I (k + n) y
chain_counts T I f k a zero text y i (nil, is) = let same : k ≡ k + 0 = omega arith in subst (λ m. I m y) same (subst (I k) (sym is) i)
chain_counts T I f k a (suc n) text y i (mid, one, more, e, s, others) =
    let same : suc k + n ≡ k + suc n = omega arith in
    subst (λ m. I m y) same (chain_counts T I f (suc k) mid n more y (f k a one mid i s) others)
