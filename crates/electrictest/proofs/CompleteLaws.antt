-- What is accepted isn't refused.
use Rattle.std.proofs.Common.{◌≡◌, ◌∙◌, ℕ, List, refl, sym, subst, Option, Some, Result, Ok, Err, IfSome, IsOk}
use Rattle.std.proofs.lemmas.Bool.{false≢true}
use Rattle.order_law.proofs.OrderFaults.{law_of_faults}
use Rattle.outside.specs.{Depot.Files, Depot.FailedAt, Sink.SinkView, Sink.HasRoom}
use Rattle.suite_load.specs.declared.loaded.Loaded.{Loaded}
use Rattle.electrictest.specs.declared.status.{Status.Status, InputFault.InputFault}
use Rattle.electrictest.specs.declared.status.Status.TheVariants as ends
use Rattle.electrictest.specs.declared.words.Command.TheVariants as command
use Rattle.electrictest.specs.Commands.{Asked, PartReplied, Served, called}
use Rattle.electrictest.specs.Complete.{AcceptsSuite, IsAccepted, of_depot, of_generated, IsCompleted, Complete, QuietlyComplete, quiet_depot, quiet_sink}
use Rattle.electrictest.specs.{Loads.Begins, Loads.LoadsAny, Loads.LoadsFor, Loads.begun_by, Orders.IsUnlawful, Records.Beginning}
use Rattle.electrictest.specs.Replies.{IsRefusedInput, unloaded, unbegun, unlawful}
use Rattle.electrictest.specs.Words.{Ask, Asking, is_eager, suite_named, suite_word, unformed}
use Rattle.electrictest.proofs.{GeneratedLaws.never_failed, OwnRecordLaws.any_once, OwnRecordLaws.loaded_once, QuietLaws.sink_quiet}

-- ---- a suite of the depot

module _ (files : Files) (a : Ask) (l : Loaded) (accepts : AcceptsSuite files a l) where
  in_form : a.command ≡ unformed → ⊥
  in_form e =
      let none : ◌≡◌ {A = Result Loaded Status} (Ok l) (Err ends.Words) = subst (λ (c : Asking). LoadsAny files (is_eager a.words) (suite_named c a.words) (Ok l)) e accepts.load in
      absurd (cc)

  begun_here : (x : Loaded) (b : Result Beginning InputFault) → Begins files a x b → begun_by files a l ≡ Some b
  begun_here x b h = subst (λ (z : Loaded). begun_by files a z ≡ Some b) (loaded_once files a l x accepts.load h.load) h.begins

  not_unbegun : (x : Loaded) (f : InputFault) → Begins files a x (Err f) → ⊥
  not_unbegun x f h = false≢true (subst (λ (o : Option (Result Beginning InputFault)). IfSome o IsOk) (begun_here x (Err f) h) accepts.begins)

  not_unlawful : (x : Loaded) (b : Beginning) (f : InputFault) → a.command ≡ Ok command.Order → Begins files a x (Ok b) → IsUnlawful x b f → ⊥
  not_unlawful x b f c h u = (law_of_faults b.said.edges b.tests).unlawful u.found u.fault (accepts.lawful b c (begun_here x (Ok b) h))

  suite_taken : (f : InputFault) → IsRefusedInput files a f → ⊥
  suite_taken f (unloaded h) = let e = any_once files (is_eager a.words) (suite_word a) (Ok l) (Err (ends.Input f)) accepts.load h in absurd (cc)
  suite_taken f (unbegun {l = x} h) = not_unbegun x f h
  suite_taken f (unlawful {l = x} {b = b} c h u) = not_unlawful x b f c h u

-- ---- a generated suite

module _ (files : Files) (a : Ask) (k n : ℕ) (asks : a.command ≡ Ok (command.Gen k n)) where
  -- nothing of the depot is loaded
  none_loaded : (answer : Result Loaded Status) → LoadsFor files a answer → ⊥
  none_loaded answer h = subst (λ (c : Asking). LoadsAny files (is_eager a.words) (suite_named c a.words) answer) asks h

  generated_taken : (f : InputFault) → IsRefusedInput files a f → ⊥
  generated_taken f (unloaded h) = none_loaded (Err (ends.Input f)) h
  generated_taken f (unbegun {l = x} h) = none_loaded (Ok x) h.load
  generated_taken f (unlawful {l = x} {b = b} c h u) = none_loaded (Ok x) h.load

-- ---- what is accepted

in_form_at : (files : Files) (a : Ask) → IsAccepted files a → a.command ≡ unformed → ⊥
in_form_at files a (of_depot {l = l} accepts) e = in_form files a l accepts e
in_form_at files a (of_generated asks) e = let both = sym asks ∙ e in absurd (cc)

taken_at : (files : Files) (a : Ask) → IsAccepted files a → (f : InputFault) → IsRefusedInput files a f → ⊥
taken_at files a (of_depot {l = l} accepts) f r = suite_taken files a l accepts f r
taken_at files a (of_generated {k = k} {n = n} asks) f r = generated_taken files a k n asks f r

-- where neither the depot nor the sink is answered
completed_at : (asked : Asked) (s : Status) (old new : SinkView) → IsAccepted asked.files asked.ask → ((name : List ℕ) → FailedAt asked.depot asked.depot_now name → ⊥) → (PartReplied asked old new → ⊥) →
    Served asked s old new → IsCompleted asked s old new
completed_at asked ends.Words old new accepted depot sink h = in_form_at asked.files asked.ask accepted h.reply.answers.0
completed_at asked (ends.Input f) old new accepted depot sink h = taken_at asked.files asked.ask accepted f h.reply.answers.0
completed_at asked (ends.Depot name) old new accepted depot sink h = depot name h.reply.failed
completed_at asked ends.Sink old new accepted depot sink h = sink h
completed_at asked s old new accepted depot sink h = h

pub complete_answer : (asked : Asked) (s : Status) (old new : SinkView) → Served asked s old new → Complete asked s old new
complete_answer asked s old new h = λ accepted none. completed_at asked s old new accepted (λ name f. none.depot f.rose) (λ p. none.sink p.cut.rose) h

pub quietly_complete : QuietlyComplete
unfolding HasRoom
quietly_complete files a begun now s old new accepted room below h =
    let asked = called a (quiet_depot files) (quiet_depot files) begun now files in
    completed_at asked s (quiet_sink old) (quiet_sink new) accepted (λ name f. never_failed (quiet_depot files) (quiet_depot files) name refl refl f)
    (λ p. sink_quiet p.reply.text (quiet_sink old) (quiet_sink new) (room p.status p.reply.text p.reply.units p.reply.answers) below p.cut) h
