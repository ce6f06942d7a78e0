-- What is asked for, by the command.
use Rattle.std.proofs.Common.{◌≡◌, ◌∙◌, ℕ, List, Bool, true, false, refl, sym, ap, subst, Some, None, Result, Ok, Err, if◌then◌else◌}
use Rattle.std.proofs.lemmas.Bool.{false≢true}
use Rattle.outside.specs.Depot.{Files}
use Rattle.suite_load.specs.declared.loaded.Loaded.{Loaded}
use Rattle.electrictest.specs.declared.{status.InputFault.InputFault, status.OverFault.OverFault, words.Command.Command}
use Rattle.electrictest.specs.declared.words.Command.TheVariants as command
use Rattle.electrictest.specs.Causes.{AsksAny, AsksSuch, MayReport, reads_files, reads_record, tells_verdicts}
use Rattle.electrictest.specs.{Loads.IsNamed, Replies.Reports, Replies.ReportsBy, Replies.OversBy}
use Rattle.electrictest.specs.Words.{Ask, Asking, IsOverSuite, IsServed, OfGenerated, command_of, form_of, form_words, has_eager, is_eager, only, plain_of, refusal_of, suite_named, unformed, word_at}

-- what a command is answered is answered to words that ask for it
pub reports_as : (c : Asking) (files : Files) (a : Ask) (passed : Bool) (text : List ℕ) (units : ℕ) → a.command ≡ c → ReportsBy c files a passed text units → Reports files a passed text units
reports_as c files a passed text units e r = subst (λ (d : Asking). ReportsBy d files a passed text units) (sym e) r

pub overs_as : (c : Asking) (files : Files) (a : Ask) (f : OverFault) → a.command ≡ c → OversBy c files a f → OversBy a.command files a f
overs_as c files a f e r = subst (λ (d : Asking). OversBy d files a f) (sym e) r

-- and a command is asked for
pub formed_as : (c : Command) (a : Ask) → a.command ≡ Ok c → AsksAny a.command
formed_as c a e = ap refusal_of e

-- the tests that a command names, and a record of the suite
pub named_as : (c : Command) (a : Ask) (l : Loaded) (named : Result (List ℕ) InputFault) → a.command ≡ Ok c → IsNamed (record { command = Ok c; words = a.words }) l named → IsNamed a l named
named_as c a l named e h = subst (λ (d : Asking). IsNamed (record { command = d; words = a.words }) l named) (sym e) h

-- ---- words

if_only : (b : Bool) (c d : Command) → ◌≡◌ {A = Asking} (if b then Ok c else unformed) (Ok d) → (b ≡ true) × (c ≡ d)
if_only true c d e = (refl, cc)
if_only false c d e = absurd (cc)

-- what is asked for among such commands is one
only_such : (is_such : Command → Bool) (o : Asking) (d : Command) → only is_such o ≡ Ok d → (is_such d ≡ true) × (o ≡ Ok d)
only_such is_such (Ok c) d e = let h = if_only (is_such c) c d e in subst (λ (x : Command). (is_such x ≡ true) × ◌≡◌ {A = Asking} (Ok c) (Ok x)) h.1 (h.0, refl)
only_such is_such (Err f) d e = absurd (cc)

-- an impact has no eager form
if_eager : (b : Bool) (o p : Asking) → ◌≡◌ {A = Asking} (if b then only has_eager o else p) (Ok command.Impact) → b ≡ false
if_eager true o p e = absurd (false≢true (only_such has_eager o command.Impact e).0)
if_eager false o p e = refl

pub threaded_impact : (words : List (List ℕ)) → command_of words ≡ Ok command.Impact → is_eager words ≡ false
threaded_impact words e = if_eager (is_eager words) (form_of (form_words words)) (form_of words) e

pub plain_impact : (words : List (List ℕ)) → plain_of (command_of words) ≡ Ok command.Impact → is_eager words ≡ false
plain_impact words e = threaded_impact words (only_such _ (command_of words) command.Impact e).1

-- ---- generated suites

-- what is asked for is over a suite of the depot, or it is a generated one
pub over_suite : (asking : Asking) → ((k n : ℕ) → asking ≡ Ok (command.Gen k n) → ⊥) → IsOverSuite asking
over_suite (Ok (command.Gen k n)) other = other k n refl
over_suite _ other = tt

pub of_suite_alone : (Is : ℕ → ℕ → Type 0) (asking : Asking) → IsOverSuite asking → OfGenerated asking Is
of_suite_alone Is asking over = λ k n e. absurd (subst IsOverSuite e over)

pub of_this_alone : (Is : ℕ → ℕ → Type 0) (asking : Asking) (k n : ℕ) → asking ≡ Ok (command.Gen k n) → Is k n → OfGenerated asking Is
of_this_alone Is asking k n e is = λ j m f.
    let both : ◌≡◌ {A = Asking} (Ok (command.Gen k n)) (Ok (command.Gen j m)) = sym e ∙ f in
    let tests : k ≡ j = cc in
    let workers : n ≡ m = cc in
    subst (Is j) workers (subst (λ (x : ℕ). Is x n) tests is)

-- what is served without threads is over a suite, and so is what has an eager form
pub served_over : (asking : Asking) → IsServed asking → IsOverSuite asking
served_over asking served = over_suite asking (λ k n e. absurd (false≢true (sym (subst IsServed e served))))

eager_over : (b : Bool) (o p : Asking) → b ≡ true → IsOverSuite (if b then only has_eager o else p)
eager_over true o p e = over_suite (only has_eager o) (λ k n f. absurd (false≢true (only_such has_eager o (command.Gen k n) f).0))
eager_over false o p e = absurd (false≢true e)

pub threaded_over : (words : List (List ℕ)) → is_eager words ≡ true → IsOverSuite (command_of words)
threaded_over words e = eager_over (is_eager words) (form_of (form_words words)) (form_of words) e

pub plain_over : (words : List (List ℕ)) → is_eager words ≡ true → IsOverSuite (plain_of (command_of words))
plain_over words e = over_suite (plain_of (command_of words)) (λ k n f. absurd (subst IsOverSuite (only_such _ (command_of words) (command.Gen k n) f).1 (threaded_over words e)))

-- ---- the suite's name

pub suite_of_words : (asking : Asking) (words : List (List ℕ)) → refusal_of asking ≡ None → IsOverSuite asking → suite_named asking words ≡ Some (Ok (word_at words 1))
suite_of_words (Err f) words e over = absurd (cc)
suite_of_words (Ok (command.Gen k n)) words e over = absurd over
suite_of_words (Ok c) words e over = refl

-- ---- kinds of commands

pub such_any : (is_such : Command → Bool) (asking : Asking) → AsksSuch is_such asking → AsksAny asking
such_any is_such asking h = ap refusal_of h.1

-- a command that doesn't read its files of the depot is a generated suite's
pub any_files : (asking : Asking) → AsksAny asking → IsOverSuite asking → AsksSuch reads_files asking
any_files (Err f) e over = absurd (cc)
any_files (Ok (command.Gen k n)) e over = absurd over
any_files (Ok c) e over = (c, refl, refl)

record_files : (c : Command) → reads_record c ≡ true → reads_files c ≡ true
record_files (command.Gen k n) e = absurd (false≢true e)
record_files _ e = refl

pub such_files : (asking : Asking) → AsksSuch reads_record asking → AsksSuch reads_files asking
such_files asking h = (h.0, h.1, record_files h.0 h.2)

-- what a text may tell
pub may_report : (asking : Asking) (passed : Bool) → AsksSuch tells_verdicts asking → MayReport asking passed
may_report asking true h = such_any tells_verdicts asking h
may_report asking false h = h

pub may_pass : (asking : Asking) (passed : Bool) → AsksAny asking → passed ≡ true → MayReport asking passed
may_pass asking passed any e = subst (MayReport asking) (sym e) any
