-- Answers that never differ of one file (this project's).
use Rattle.std.specs.Prelude.{◌≡◌, ℕ, List, All}
use Rattle.outside.specs.Depot.{Files, Answer, has_bytes, is_absent, is_longer, MayHold, answers}

-- the file that it speaks of
abbrev pub asked : Answer → List ℕ
asked (has_bytes name bytes) = name
asked (is_absent name) = name
asked (is_longer name limit) = name

-- any two answers of one file are the same
abbrev pub AreAlike : List Answer → Type 0
AreAlike given = All (λ a. All (λ b. asked a ≡ asked b → a ≡ b) given) given

-- a depot that gave such answers may hold some files
abbrev pub AlikeAnswersHold : Type 0
AlikeAnswersHold = (given : List Answer) → AreAlike given → (files : Files) × MayHold (answers given) files
