-- Files that agree with answers.
use Rattle.std.proofs.Common.{◌≡◌, ◌<◌, ◌+◌, ℕ, Bool, true, false, List, [], ◌∷◌, length, Option, Some, None, refl, ap, sym, ◌∙◌, subst, arith}
use Rattle.std.proofs.{Math.ListN.replicate, lemmas.Slice.Eq.bytes_eq-Decides, lemmas.List.length-replicate}
use Rattle.std.proofs.lemmas.List.Elements.{All-nil, All-cons, All-head, All-tail}
use Rattle.std.specs.Prelude.{All, IsSomeAnd}
use Rattle.std.specs.Str.{bytes_eq}
use Rattle.outside.specs.Depot.{Files, Answer, Agrees, has_bytes, is_absent, is_longer, content}
use Rattle.outside.specs.AlikeAnswers.{asked, AreAlike, AlikeAnswersHold}
use Rattle.outside.proofs.FileLemmas.{content-hit, content-miss, content-empty}

-- the bytes of the file that an answer speaks of, or some that are long enough
abbrev given_bytes : Answer → Option (List ℕ)
given_bytes (has_bytes name bytes) = Some bytes
given_bytes (is_absent name) = None
given_bytes (is_longer name limit) = Some (replicate (limit + 1) 0)

abbrev with_file : List ℕ → Option (List ℕ) → Files → Files
with_file name None files = files
with_file name (Some bytes) files = (name, bytes) ∷ files

abbrev files_given : List Answer → Files
files_given [] = []
files_given (a ∷ given) = with_file (asked a) (given_bytes a) (files_given given)

-- the files say what the answer says
abbrev SaysSo : Files → Answer → Type 0
SaysSo files a = content files (asked a) ≡ given_bytes a

says_agrees : (files : Files) (a : Answer) → SaysSo files a → Agrees files a
says_agrees files (has_bytes name bytes) e = e
says_agrees files (is_absent name) e = e
says_agrees files (is_longer name limit) e = subst (λ o. IsSomeAnd o (λ bytes. limit < length bytes)) (sym e) (omega (arith, length-replicate {A = ℕ} (limit + 1) 0))

past : (name other : List ℕ) (o : Option (List ℕ)) (files : Files) → bytes_eq name other ≡ false → content (with_file name o files) other ≡ content files other
past name other None files miss = refl
past name other (Some bytes) files miss = content-miss (name, bytes) files other miss

-- no answer that is like an absent file's gives it
absent_past : (a b : Answer) (files : Files) (same : Bool) → bytes_eq (asked b) (asked a) ≡ same → given_bytes a ≡ None → (asked a ≡ asked b → a ≡ b) → content files (asked a) ≡ None →
    content (with_file (asked b) (given_bytes b) files) (asked a) ≡ None
absent_past a b files true e none alike h = subst (λ o. content (with_file (asked b) o files) (asked a) ≡ None) (sym none ∙ ap given_bytes (alike (sym ((bytes_eq-Decides (asked b) (asked a)).0 e)))) h
absent_past a b files false e none alike h = past (asked b) (asked a) (given_bytes b) files e ∙ h

absent_given : (a : Answer) (given : List Answer) → given_bytes a ≡ None → All (λ b. asked a ≡ asked b → a ≡ b) given → content (files_given given) (asked a) ≡ None
absent_given a [] none alike = content-empty (asked a)
absent_given a (b ∷ given) none alike =
    let one = All-head (λ b. asked a ≡ asked b → a ≡ b) b given alike in
    let others = All-tail (λ b. asked a ≡ asked b → a ≡ b) b given alike in
    absent_past a b (files_given given) (bytes_eq (asked b) (asked a)) refl none one (absent_given a given none others)

-- the first answer
first_holds : (a : Answer) (o : Option (List ℕ)) (files : Files) → (o ≡ None → content files (asked a) ≡ None) → content (with_file (asked a) o files) (asked a) ≡ o
first_holds a None files h = h refl
first_holds a (Some bytes) files h = content-hit (asked a, bytes) files (asked a) ((bytes_eq-Decides (asked a) (asked a)).1 refl)

-- those behind it
later_holds : (a b : Answer) (files : Files) (same : Bool) → bytes_eq (asked a) (asked b) ≡ same → (asked a ≡ asked b → a ≡ b) → SaysSo (with_file (asked a) (given_bytes a) files) a → SaysSo files b →
    SaysSo (with_file (asked a) (given_bytes a) files) b
later_holds a b files true e alike first h = subst (SaysSo (with_file (asked a) (given_bytes a) files)) (alike ((bytes_eq-Decides (asked a) (asked b)).0 e)) first
later_holds a b files false e alike first h = past (asked a) (asked b) (given_bytes a) files e ∙ h

all_hold : (given : List Answer) → AreAlike given → All (SaysSo (files_given given)) given
all_hold [] alike = All-nil (SaysSo [])
all_hold (a ∷ given) alike =
    let IsLike : Answer → Answer → Type 0 = λ a b. asked a ≡ asked b → a ≡ b in
    let files = files_given given in
    let first_like = All-tail (IsLike a) a given (All-head (λ x. All (IsLike x) (a ∷ given)) a given alike) in
    let later_alike = All-tail (λ x. All (IsLike x) (a ∷ given)) a given alike in
    let first = first_holds a (given_bytes a) files (λ none. absent_given a given none first_like) in
    let later = all_hold given (λ k d lt. All-tail (IsLike _) a given (later_alike k d lt)) in
    All-cons (SaysSo (files_given (a ∷ given))) a given first
    (λ k d lt. later_holds a _ files _ refl (first_like k d lt) first (later k d lt))

pub alike_answers_hold : AlikeAnswersHold
alike_answers_hold given alike = (files_given given, λ k d lt. says_agrees (files_given given) _ (all_hold given alike k d lt))
