-- Texts that grow at their end.
use Rattle.std.proofs.Common.{◌≡◌, ℕ, List, [], ◌∷◌, ◌++◌, ap, ◌∙◌, append_assoc}

-- pieces one behind another
pub join2 : (a x y : List ℕ) {b c : List ℕ} → b ≡ a ++ x → c ≡ b ++ y → c ≡ a ++ (x ++ y)
join2 a x y p q = q ∙ ap (λ z. z ++ y) p ∙ append_assoc a x y

pub join3 : (a x y z : List ℕ) {b c d : List ℕ} → b ≡ a ++ x → c ≡ b ++ y → d ≡ c ++ z → d ≡ a ++ (x ++ (y ++ z))
join3 a x y z {b} p q r = join2 a x (y ++ z) p (join2 b y z q r)

pub join4 : (a x y z w : List ℕ) {b c d e : List ℕ} → b ≡ a ++ x → c ≡ b ++ y → d ≡ c ++ z → e ≡ d ++ w → e ≡ a ++ (x ++ (y ++ (z ++ w)))
join4 a x y z w {b} p q r s = join2 a x (y ++ (z ++ w)) p (join3 b y z w q r s)

pub join5 : (a x y z w v : List ℕ) {b c d e f : List ℕ} → b ≡ a ++ x → c ≡ b ++ y → d ≡ c ++ z → e ≡ d ++ w → f ≡ e ++ v → f ≡ a ++ (x ++ (y ++ (z ++ (w ++ v))))
join5 a x y z w v {b} p q r s t = join2 a x (y ++ (z ++ (w ++ v))) p (join4 b y z w v q r s t)

-- what comes before a verdict, and what comes behind
pub named_then : (t d n r : List ℕ) → (t ++ (d ++ (32 ∷ (n ++ (32 ∷ []))))) ++ r ≡ t ++ (d ++ (32 ∷ (n ++ (32 ∷ r))))
named_then t d n r = append_assoc t (d ++ (32 ∷ (n ++ (32 ∷ [])))) r ∙ ap (λ z. t ++ z) (append_assoc d (32 ∷ (n ++ (32 ∷ []))) r ∙ ap (λ z. d ++ (32 ∷ z)) (append_assoc n (32 ∷ []) r))

-- three words with their numbers
pub three_then : (a b c d e f r : List ℕ) → (a ++ b) ++ ((c ++ d) ++ ((e ++ f) ++ r)) ≡ a ++ (b ++ (c ++ (d ++ (e ++ (f ++ r)))))
three_then a b c d e f r = append_assoc a b ((c ++ d) ++ ((e ++ f) ++ r)) ∙ ap (λ z. a ++ (b ++ z)) (append_assoc c d ((e ++ f) ++ r) ∙ ap (λ z. c ++ (d ++ z)) (append_assoc e f r))
