-- How the words and a suite's loading are answered.
use Rattle.std.proofs.Common.{◌≡◌, ◌≤◌, ℕ, List, refl, sym, ap, subst, ◌∙◌, Option, Some, None, Result, Ok, Err, arith, ◌-◌}
use Rattle.outside.specs.Depot.{Files, Told, DepotView, FailedAt, OfHeld, TellsOn}
use Rattle.outside.proofs.CountLemmas.{rose_later}
use Rattle.suite_load.specs.declared.{load_fault.LoadFault.LoadFault, loaded.Loaded.Loaded}
use Rattle.suite_load.specs.declared.load_fault.LoadFault.TheVariants as fault
use Rattle.suite_load.specs.{Loading.Loads, Loading.IsRead, LoadAnswers.LoadAnswers, LoadAnswers.IsProper}
use Rattle.jvm_model.specs.Builtin.{builtin_count}
use Rattle.quiet_init.specs.Quiet.{quiet}
use Rattle.quiet_init.proofs.Parts.{class_count}
use Rattle.electrictest.specs.{declared.reports.Report.Report, declared.status.Status.Status, Causes.AsksAny, Replies.Unreported, Replies.unloaded}
use Rattle.electrictest.specs.declared.status.Status.TheVariants as ends
use Rattle.electrictest.specs.declared.status.InputFault.TheVariants as input
use Rattle.electrictest.specs.declared.words.WordsFault.TheVariants as faults
use Rattle.electrictest.specs.Commands.{AnswersAny, AnswersOver, ReportEnds}
use Rattle.electrictest.specs.Words.{Ask, Asking, ask, is_eager, word_at, refusal_of, suite_word, IsOverSuite}
use Rattle.electrictest.specs.Loads.{IsSuite, LoadsFor, LoadsAny, answered, quieted, prepared, status_of, of_suite}
use Rattle.electrictest.proofs.{Answering.refused_by, Answering.reported_by, AskedFor.any_files, AskedFor.suite_of_words}

-- ---- loading

module _ (a : Ask) (name : List ℕ) (asks : refusal_of a.command ≡ None) (over : IsOverSuite a.command) (named : name ≡ word_at a.words 1) where
  names_suite : suite_word a ≡ Some (Ok name)
  names_suite = suite_of_words a.command a.words asks over ∙ ap (λ (n : List ℕ). Some (Ok n)) (sym named)

  loads_for : (files : Files) (answer : Result Loaded LoadFault) → Loads files name answer → LoadsFor files a (prepared (is_eager a.words) (answered answer))
  loads_for files answer h = subst (λ (w : Option (Result (List ℕ) Status)). LoadsAny files (is_eager a.words) w (prepared (is_eager a.words) (answered answer))) (sym names_suite) (answered answer, (answer, h, refl), refl)

-- its loading, for an eager form without its quiet initialisers
pub loads_all : (told : Told) (a : Ask) (name : List ℕ) (x l : Loaded) → refusal_of a.command ≡ None → IsOverSuite a.command → name ≡ word_at a.words 1 →
    OfHeld told (λ files. LoadAnswers files name (Ok x)) → ◌≡◌ {A = Result Loaded Status} (Ok l) (prepared (is_eager a.words) (Ok x)) → OfHeld told (λ files. LoadsFor files a (Ok l))
loads_all told a name x l e over n h p = λ files may. subst (LoadsFor files a) (sym p) (loads_for a name e over n files (Ok x) (h files may))

-- the fault of its loading
pub unloaded_for : (told : Told) (a : Ask) (name : List ℕ) (f : LoadFault) (old new : DepotView) → refusal_of a.command ≡ None → IsOverSuite a.command → name ≡ word_at a.words 1 →
    OfHeld told (λ files. LoadAnswers files name (Err f)) → IsProper (λ read. OfHeld told (λ files. IsRead files name read) × FailedAt old new read) f → OfHeld told (λ files. Unreported files a (status_of f))
unloaded_for told a name fault.NoMemory old new e over n h p = λ files may. tt
unloaded_for told a name (fault.Depot read) old new e over n h p = λ files may. of_suite name (names_suite a name e over n) (p.0 files may)
unloaded_for told a name f old new e over n h p = λ files may. unloaded (loads_for a name e over n files (Err f) (h files may))

-- whatever the depot tells: words that ask for nothing, and a fault of loading
pub unasked_ends : (asking : Asking) (words : List (List ℕ)) (s : Status) (old new : DepotView) → refusal_of asking ≡ Some s → ReportEnds (ask asking words) s old new
unasked_ends (Ok c) words s old new e = absurd (cc)
unasked_ends (Err faults.NoForm) words s old new e = let same : ends.Words ≡ s = cc in subst (λ (z : Status). ReportEnds (ask (Err faults.NoForm) words) z old new) same refl
unasked_ends (Err faults.NeedsRecord) words s old new e =
    let same : ends.Input input.NeedsRecord ≡ s = cc in
    subst (λ (z : Status). ReportEnds (ask (Err faults.NeedsRecord) words) z old new) same (refl, tt)

pub unloaded_ends : (Q : List ℕ → Type 0) (a : Ask) (f : LoadFault) (old new : DepotView) → AsksAny a.command → IsOverSuite a.command → ((read : List ℕ) → Q read → FailedAt old new read) → IsProper Q f → ReportEnds a (status_of f) old new
unloaded_ends Q a fault.NoMemory old new any over failed p = tt
unloaded_ends Q a (fault.Depot read) old new any over failed p = (any_files a.command any over, failed read p)
unloaded_ends Q a (fault.Class x f) old new any over failed p = (any_files a.command any over, p)
unloaded_ends Q a (fault.Link f) old new any over failed p = (any_files a.command any over, p)
unloaded_ends Q a (fault.Check f) old new any over failed p = (any_files a.command any over, p)
unloaded_ends Q a f old new any over failed p = (any_files a.command any over, tt)

-- without its quiet initialisers a suite has the same tests and as many classes
pub quieted_suite : (l : Loaded) → IsSuite l → IsSuite (quieted l)
unfolding quiet
quieted_suite l s = record { names = s.names; few = s.few; sums = s.sums ∙ ap (λ (n : ℕ). n - builtin_count) (sym (class_count l.checked)) }

-- ---- and then the command

pub not_loaded : (a : Ask) (old new : DepotView) → TellsOn old.told new.told → old.faults ≤ new.faults → (steps : ℕ) (s : Status) → OfHeld new.told (λ files. Unreported files a s) → ReportEnds a s old new → AnswersAny a old new steps steps (Err s)
not_loaded a old new told faults steps s refused ends = refused_by (λ files. Unit {0}) a old new told faults steps steps s (λ files may held. refused files may) ends

-- a depot that failed after the suite was loaded
end_all : (a : Ask) (old mid new : DepotView) → old.faults ≤ mid.faults → (s : Status) → ReportEnds a s mid new → ReportEnds a s old new
end_all a old mid new le (ends.Depot name) r = (r.0, record { rose = rose_later old.faults mid.faults new.faults le r.1.rose; named = r.1.named })
end_all a old mid new le s r = r

pub answers_all : (a : Ask) (l : Loaded) (old mid new : DepotView) → TellsOn old.told mid.told → old.faults ≤ mid.faults → OfHeld mid.told (λ files. LoadsFor files a (Ok l)) → (begun now : ℕ) (result : Result Report Status) →
    AnswersOver l a mid new begun now result → AnswersAny a old new begun now result
answers_all a l old mid new told le load begun now (Ok r) h =
    reported_by (λ files. Unit {0}) a old new (λ files may. told files (h.told files may)) (omega (arith, le, h.faults)) begun now r (λ files may held. h.reports files may (load files (h.told files may))) h.form
answers_all a l old mid new told le load begun now (Err s) h =
    refused_by (λ files. Unit {0}) a old new (λ files may. told files (h.told files may)) (omega (arith, le, h.faults)) begun now s (λ files may held. h.refused files may (load files (h.told files may))) (end_all a old mid new le s h.ends)
