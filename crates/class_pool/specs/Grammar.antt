-- Which bytes spell what, part by part: the bytes of a whole are those of its parts, joined.
use Rattle.std.specs.Prelude.{◌≡◌, ◌<◌, ◌^◌, ℕ, ℤ, zero, suc, List, [], ◌∷◌, ◌++◌, length, get_or, Bool, true}
use Rattle.std.specs.{Int.Width, Int.w32, Int.to_be_bytes, Int.cast_unsigned, Int.RustNames.FitsSigned}

-- Each item's bytes, one after the other. An item is spelled by what stands before it and by how many follow.
abbrev pub Joined : {A : Type 0} → (List A → ℕ → List ℕ → A → Type 0) → List A → List ℕ → List A → Type 0
Joined S before bytes [] = bytes ≡ []
Joined S before bytes (x ∷ xs) = (one more : List ℕ) × (bytes ≡ one ++ more) × S before (length xs) one x × Joined S (before ++ x ∷ []) more xs

-- the bytes of n steps, from the first state to the last
abbrev pub Chain : {A : Type 0} → (A → List ℕ → A → Type 0) → A → ℕ → List ℕ → A → Type 0
Chain T a zero bytes y = (bytes ≡ []) × (y ≡ a)
Chain {A = A} T a (suc n) bytes y = (mid : A) × (one more : List ℕ) × (bytes ≡ one ++ more) × T a one mid × Chain T mid n more y

abbrev pub IsBytes : List ℕ → Type 0
IsBytes bytes = (i : ℕ) → get_or bytes i 0 < 256

abbrev pub Nothing : {A : Type 0} → A → List ℕ → A → Type 0
Nothing a text x = (text ≡ []) × (x ≡ a)

abbrev pub Then : {A B : Type 0} → (List ℕ → A → Type 0) → (A → List ℕ → B → Type 0) → List ℕ → B → Type 0
Then {A = A} S T text y = (x : A) × (one more : List ℕ) × (text ≡ one ++ more) × S one x × T x more y

abbrev pub Mapped : {A B : Type 0} → (A → B) → (List ℕ → A → Type 0) → List ℕ → B → Type 0
Mapped {A = A} f S text y = (x : A) × S text x × (y ≡ f x)

abbrev pub Never : {A : Type 0} → List ℕ → A → Type 0
Never text x = ⊥

abbrev pub Tested : {A : Type 0} → Bool → (List ℕ → A → Type 0) → List ℕ → A → Type 0
Tested b S text x = (b ≡ true) × S text x

abbrev pub Number : Width → ℕ → List ℕ → ℕ → Type 0
Number w limit text n = (text ≡ to_be_bytes w n) × (n < limit)

-- a signed number, in two's complement
abbrev pub Signed : Width → List ℕ → ℤ → Type 0
Signed w text z = (text ≡ to_be_bytes w (cast_unsigned w z)) × FitsSigned w z

abbrev pub Run : ℕ → List ℕ → List ℕ → Type 0
Run n text x = (text ≡ x) × (length x ≡ n) × IsBytes x

abbrev pub Counted : {A : Type 0} → (List A → ℕ → List ℕ → A → Type 0) → List A → ℕ → List ℕ → List A → Type 0
Counted {A = A} S front n text ys = (xs : List A) × (ys ≡ front ++ xs) × (length xs ≡ n) × Joined S front text xs

abbrev pub Sized : {A : Type 0} → (List ℕ → A → Type 0) → List ℕ → A → Type 0
Sized S text x = (content : List ℕ) × (text ≡ to_be_bytes w32 (length content) ++ content) × (length content < 2 ^ 32) × S content x
