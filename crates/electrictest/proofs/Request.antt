-- What a command with a record begins with, and why it doesn't begin.
use Rattle.std.proofs.Common.{◌≡◌, ◌≤◌, ℕ, List, refl, sym, ap, subst, ◌∙◌, arith, All, Option, Some, option_map, Result, Ok, Err, IfSome}
use Rattle.et_base.specs.Answers as answers
use Rattle.outside.specs.Depot.{Files, Told, DepotView, OfHeld, TellsOn}
use Rattle.dep_record.specs.RecordText.{Said}
use Rattle.suite_load.specs.declared.loaded.Loaded.{Loaded}
use Rattle.test_run.specs.Running.{IsTest}
use Rattle.electrictest.specs.{declared.status.Status.Status, declared.status.InputFault.InputFault, Words.Ask, Words.Asking, Words.word_at}
use Rattle.electrictest.specs.declared.status.Status.TheVariants as ends
use Rattle.electrictest.specs.declared.status.InputFault.TheVariants as input
use Rattle.electrictest.specs.declared.words.Command.TheVariants as command
use Rattle.electrictest.specs.{Records.Beginning, Records.Gives, Records.begun, Records.says, Selections.IsTestOf, Replies.Unreported, Replies.unbegun}
use Rattle.electrictest.specs.Loads.{IsSuite, LoadsFor, named_by, fits_for, begun_by, of_record}
use Rattle.electrictest.specs.Causes.{AsksSuch, IsOfRecord, MayRefuse, names_tests, reads_record}
use Rattle.electrictest.specs.Commands.{AnswersOver, Fails, IsNameRefusal, IsProperInput, IsRecordRefusal, ReportEnds}
use Rattle.electrictest.proofs.{Answering.refused_by, AskedFor.such_files}

-- the tests of names are tests of the program
pub tests_are : (l : Loaded) (ts us : List ℕ) → IsSuite l → us ≡ ts → All (IsTestOf l.names) ts → All (IsTest l.checked) us
tests_are l ts us s e h = subst (All (IsTest l.checked)) (sym e) (λ k d lt. let p = h k d lt in let low = p.1 in let same = s.names in (p.0, omega arith))

begun_as : (files : Files) (a : Ask) (l : Loaded) (named : Result (List ℕ) InputFault) (b : Result Beginning InputFault) → named_by a.command a.words l ≡ Some named → begun (fits_for a.command) files l named (word_at a.words 2) ≡ b → begun_by files a l ≡ Some b
begun_as files a l named b e h = ap (option_map (λ n. begun (fits_for a.command) files l n (word_at a.words 2))) e ∙ ap Some h

-- nothing is begun where a name is of no test
not_named : (fits : Loaded → Said → Result (Unit {0}) InputFault) (files : Files) (l : Loaded) (name : List ℕ) (f : InputFault) → begun fits files l (Err f) name ≡ Err f
unfolding begun
not_named fits files l name f = refl

-- the command has a record, and where a name is of no test it names tests
reads_by : (asking : Asking) (words : List (List ℕ)) (l : Loaded) (named : Result (List ℕ) InputFault) → named_by asking words l ≡ Some named → AsksSuch reads_record asking
reads_by (Err f) words l named e = absurd (cc)
reads_by (Ok command.Whole) words l named e = absurd (cc)
reads_by (Ok command.Detect) words l named e = absurd (cc)
reads_by (Ok (command.Deps json)) words l named e = absurd (cc)
reads_by (Ok command.Quiet) words l named e = absurd (cc)
reads_by (Ok (command.Gen k n)) words l named e = absurd (cc)
reads_by (Ok c) words l named e = (c, refl, refl)

names_by : (asking : Asking) (words : List (List ℕ)) (l : Loaded) (f : InputFault) → named_by asking words l ≡ Some (Err f) → AsksSuch names_tests asking
names_by (Err d) words l f e = absurd (cc)
names_by (Ok command.Whole) words l f e = absurd (cc)
names_by (Ok command.Detect) words l f e = absurd (cc)
names_by (Ok (command.Deps json)) words l f e = absurd (cc)
names_by (Ok command.Quiet) words l f e = absurd (cc)
names_by (Ok (command.Gen k n)) words l f e = absurd (cc)
names_by (Ok command.Impact) words l f e = absurd (cc)
names_by (Ok command.Manifest) words l f e = absurd (cc)
names_by (Ok c) words l f e = (c, refl, refl)

pub unnamed : (a : Ask) (l : Loaded) (named : Result (List ℕ) InputFault) (s : Status) (depot : DepotView) (steps : ℕ) → named_by a.command a.words l ≡ Some named → answers.Fails (says s) named → IsNameRefusal s → AnswersOver l a depot depot steps steps (Err s)
unnamed a l named ends.NoMemory depot steps e g p = refused_by (λ files. LoadsFor files a (Ok l)) a depot depot (λ files may. may) (omega arith) steps steps ends.NoMemory (λ files may h. tt) tt
unnamed a l named (ends.Input (input.NoTest name)) depot steps e g p =
    let f = input.NoTest name in
    refused_by (λ files. LoadsFor files a (Ok l)) a depot depot (λ files may. may) (omega arith) steps steps (ends.Input f)
    (λ files may h. unbegun (record { load = h; begins = begun_as files a l named (Err f) e (ap (λ n. begun (fits_for a.command) files l n (word_at a.words 2)) g ∙ not_named (fits_for a.command) files l (word_at a.words 2) f) }))
    (names_by a.command a.words l f (e ∙ ap Some g), tt)
unnamed a l named s depot steps e g p = absurd p

-- what is begun with these tests
begun_by_tests : (files : Files) (a : Ask) (l : Loaded) (named : Result (List ℕ) InputFault) (tests name : List ℕ) (b : Result Beginning InputFault) {fits : Loaded → Said → Result (Unit {0}) InputFault} → fits_for a.command ≡ fits →
    named_by a.command a.words l ≡ Some named → named ≡ Ok tests → name ≡ word_at a.words 2 → begun fits files l (Ok tests) name ≡ b → begun_by files a l ≡ Some b
begun_by_tests files a l named tests name b q e k n g =
    begun_as files a l named b e
    (ap (λ z. begun (fits_for a.command) files l z (word_at a.words 2)) k ∙ (ap (begun (fits_for a.command) files l (Ok tests)) (sym n) ∙ (ap (λ (f : Loaded → Said → Result (Unit {0}) InputFault). begun f files l (Ok tests) name) q ∙ g)))

-- nor where the record is refused
not_begun_of : (told : Told) (a : Ask) (l : Loaded) (named : Result (List ℕ) InputFault) (tests name : List ℕ) (s : Status) (old new : DepotView) {fits : Loaded → Said → Result (Unit {0}) InputFault} → fits_for a.command ≡ fits →
    named_by a.command a.words l ≡ Some named → named ≡ Ok tests → name ≡ word_at a.words 2 → OfHeld told (λ files. answers.Fails (says s) (begun fits files l (Ok tests) name)) → Fails name old new s →
    OfHeld told (λ files. LoadsFor files a (Ok l) → Unreported files a s)
not_begun_of told a l named tests name ends.NoMemory old new q e k n g p = λ files may h. tt
not_begun_of told a l named tests name (ends.Input f) old new q e k n g p = λ files may h.
    unbegun (record { load = h; begins = begun_by_tests files a l named tests name (Err f) q e k n (g files may) })
not_begun_of told a l named tests name (ends.Depot read) old new q e k n g p = λ files may h. of_record l tests h (e ∙ ap Some k) (p.0 ∙ n)
not_begun_of told a l named tests name s old new q e k n g p = absurd p

record_may : (asking : Asking) (f : InputFault) → AsksSuch reads_record asking → IsOfRecord f → MayRefuse asking f × IsProperInput f
record_may asking (input.Absent name) h p = (such_files asking h, tt)
record_may asking (input.TooLarge name) h p = (such_files asking h, tt)
record_may asking (input.Record line) h p = (h, tt)
record_may asking input.RecordOld h p = (h, tt)
record_may asking (input.RecordForeign kept found) h p = (h, tt)
record_may asking f h p = absurd p

not_begun_ends : (a : Ask) (l : Loaded) (named : Result (List ℕ) InputFault) (name : List ℕ) (s : Status) (old new : DepotView) → named_by a.command a.words l ≡ Some named → Fails name old new s → ReportEnds a s old new
not_begun_ends a l named name ends.NoMemory old new e p = tt
not_begun_ends a l named name (ends.Input f) old new e p = record_may a.command f (reads_by a.command a.words l named e) p
not_begun_ends a l named name (ends.Depot read) old new e p = (such_files a.command (reads_by a.command a.words l named e), p.1)
not_begun_ends a l named name s old new e p = absurd p

pub not_begun : (a : Ask) (l : Loaded) (named : Result (List ℕ) InputFault) (tests name : List ℕ) (s : Status) (old new : DepotView) (steps : ℕ) {fits : Loaded → Said → Result (Unit {0}) InputFault} → TellsOn old.told new.told → old.faults ≤ new.faults →
    fits_for a.command ≡ fits → named_by a.command a.words l ≡ Some named → named ≡ Ok tests → name ≡ word_at a.words 2 → OfHeld new.told (λ files. answers.Fails (says s) (begun fits files l (Ok tests) name)) → Fails name old new s →
    AnswersOver l a old new steps steps (Err s)
not_begun a l named tests name s old new steps told faults q e k n g p =
    refused_by (λ files. LoadsFor files a (Ok l)) a old new told faults steps steps s (not_begun_of new.told a l named tests name s old new q e k n g p) (not_begun_ends a l named name s old new e p)

-- a record that is none, or is of another suite
pub proper_fails : (name : List ℕ) (s : Status) (old new : DepotView) → IsRecordRefusal s → Fails name old new s
proper_fails name (ends.Depot read) old new p = absurd p
proper_fails name s old new p = p

-- what is begun
pub begins : (told : Told) (a : Ask) (l : Loaded) (named : Result (List ℕ) InputFault) (tests name : List ℕ) (b : Beginning) {fits : Loaded → Said → Result (Unit {0}) InputFault} → fits_for a.command ≡ fits →
    named_by a.command a.words l ≡ Some named → named ≡ Ok tests → name ≡ word_at a.words 2 → OfHeld told (λ files. begun fits files l (Ok tests) name ≡ Ok b) → OfHeld told (λ files. begun_by files a l ≡ Some (Ok b))
begins told a l named tests name b q e k n g = λ files may. begun_by_tests files a l named tests name (Ok b) q e k n (g files may)

-- what gives the tests that a command names gives these
pub named_gives : (r : Result (List ℕ) Status) (o : Option (Result (List ℕ) InputFault)) (named : Result (List ℕ) InputFault) → o ≡ Some named → IfSome o (Gives (λ ts. ts) r) → Gives (λ ts. ts) r named
named_gives r o named e h = subst (λ (x : Option (Result (List ℕ) InputFault)). IfSome x (Gives (λ ts. ts) r)) e h
