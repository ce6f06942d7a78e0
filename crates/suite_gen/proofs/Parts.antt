-- Parts that are written one after the other, and code by a test's place.
use Rattle.std.proofs.Common.{◌≡◌, ℕ, ◌-◌, ◌%◌, List, ◌++◌, Result, Ok, Err, OnOk, refl, sym, ap, ◌∙◌}
use Rattle.std.specs.Int.{w32, to_be_bytes}
use Rattle.std.proofs.lemmas.{Bool.eq-eqb, Bool.ne_eqb, List.append_assoc}
use Rattle.suite_gen.specs.Bytes.{setting_bytes, adding_bytes, printing_bytes, code_bytes}

pub two : (out x y a b : List ℕ) → x ≡ out ++ a → y ≡ x ++ b → y ≡ out ++ (a ++ b)
two out x y a b e f = f ∙ (ap (λ (l : List ℕ). l ++ b) e ∙ append_assoc out a b)

pub four : (out x y z w a b c d : List ℕ) → x ≡ out ++ a → y ≡ x ++ b → z ≡ y ++ c → w ≡ z ++ d → w ≡ out ++ (a ++ (b ++ (c ++ d)))
four out x y z w a b c d e f g h = two out x w a (b ++ (c ++ d)) e (two x y w b (c ++ d) f (two y z w c d g h))

pub six : (out x y z w v u a b c d e f : List ℕ) → x ≡ out ++ a → y ≡ x ++ b → z ≡ y ++ c → w ≡ z ++ d → v ≡ w ++ e → u ≡ v ++ f
    → u ≡ out ++ (a ++ (b ++ (c ++ (d ++ (e ++ f)))))
six out x y z w v u a b c d e f g h i j k l =
    two out x u a (b ++ (c ++ (d ++ (e ++ f)))) g (two x y u b (c ++ (d ++ (e ++ f))) h (four y z w v u c d e f i j k l))

pub on_ok : {E P Q : Type 0} (r : Result (Unit {0}) E) → (P → Q) → OnOk r P → OnOk r Q
on_ok (Ok x) f h = f h
on_ok (Err e) f h = tt

first_code : (i : ℕ) → (i - 1) % 4 ≡ 0 → code_bytes i ≡ to_be_bytes w32 19 ++ setting_bytes i
first_code i e = rw (eq-eqb ((i - 1) % 4) 0 e) refl

third_code : (i : ℕ) → ((i - 1) % 4 ≡ 0 → ⊥) → (i - 1) % 4 ≡ 2 → code_bytes i ≡ to_be_bytes w32 23 ++ adding_bytes i
third_code i n e = rw (ne_eqb ((i - 1) % 4) 0 n) (rw (eq-eqb ((i - 1) % 4) 2 e) refl)

other_code : (i : ℕ) → ((i - 1) % 4 ≡ 0 → ⊥) → ((i - 1) % 4 ≡ 2 → ⊥) → code_bytes i ≡ to_be_bytes w32 19 ++ printing_bytes i
other_code i n m = rw (ne_eqb ((i - 1) % 4) 0 n) (rw (ne_eqb ((i - 1) % 4) 2 m) refl)

pub first : (out x y : List ℕ) (i : ℕ) → (i - 1) % 4 ≡ 0 → x ≡ out ++ to_be_bytes w32 19 → y ≡ x ++ setting_bytes i → y ≡ out ++ code_bytes i
first out x y i p e f = two out x y (to_be_bytes w32 19) (setting_bytes i) e f ∙ ap (λ (l : List ℕ). out ++ l) (sym (first_code i p))

pub third : (out x y : List ℕ) (i : ℕ) → ((i - 1) % 4 ≡ 0 → ⊥) → (i - 1) % 4 ≡ 2 → x ≡ out ++ to_be_bytes w32 23 → y ≡ x ++ adding_bytes i → y ≡ out ++ code_bytes i
third out x y i n p e f = two out x y (to_be_bytes w32 23) (adding_bytes i) e f ∙ ap (λ (l : List ℕ). out ++ l) (sym (third_code i n p))

pub other : (out x y : List ℕ) (i : ℕ) → ((i - 1) % 4 ≡ 0 → ⊥) → ((i - 1) % 4 ≡ 2 → ⊥) → x ≡ out ++ to_be_bytes w32 19 → y ≡ x ++ printing_bytes i → y ≡ out ++ code_bytes i
other out x y i n m e f = two out x y (to_be_bytes w32 19) (printing_bytes i) e f ∙ ap (λ (l : List ℕ). out ++ l) (sym (other_code i n m))
