-- Texts that were appended one by one.
use Rattle.std.proofs.Common.{◌≡◌, ℕ, List, [], ◌++◌}
use Rattle.std.proofs.lemmas.{Grind.flat_map-append, List.append_assoc}
use Rattle.dep_record.specs.RecordText.{ended, text_of}

pub three_appended : (o p q r a b c : List ℕ) → p ≡ o ++ a → q ≡ p ++ b → r ≡ q ++ c → r ≡ o ++ (a ++ (b ++ c))
three_appended o p q r a b c x y z = rw (z, y, x) (simp append_assoc)

pub four_appended : (o p q r s a b c d : List ℕ) → p ≡ o ++ a → q ≡ p ++ b → r ≡ q ++ c → s ≡ r ++ d → s ≡ o ++ (a ++ (b ++ (c ++ d)))
four_appended o p q r s a b c d x y z w = rw (w, z, y, x) (simp append_assoc)

pub written : (o0 o1 o2 o3 o4 o5 o6 h s u m e f : List ℕ) → o0 ≡ [] → o1 ≡ o0 ++ h → o2 ≡ o1 ++ s → o3 ≡ o2 ++ u → o4 ≡ o3 ++ m → o5 ≡ o4 ++ e → o6 ≡ o5 ++ f → o6 ≡ h ++ (s ++ (u ++ (m ++ (e ++ f))))
written o0 o1 o2 o3 o4 o5 o6 h s u m e f x0 x1 x2 x3 x4 x5 x6 = rw (x6, x5, x4, x3, x2, x1, x0) (simp append_assoc)

-- the text of lines, part by part
pub six_texts : (a b c d e f : List (List ℕ)) → text_of a ++ (text_of b ++ (text_of c ++ (text_of d ++ (text_of e ++ text_of f)))) ≡ text_of (a ++ (b ++ (c ++ (d ++ (e ++ f)))))
six_texts a b c d e f = simp flat_map-append
