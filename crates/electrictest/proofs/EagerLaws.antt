-- An eager form is over the suite without its quiet initialisers.
use Rattle.std.proofs.Common.{◌≡◌, ℕ, List, Bool, true, Option, Some, Result, Ok, sym, refl, subst}
use Rattle.outside.specs.Depot.{Files}
use Rattle.suite_load.specs.declared.loaded.Loaded.{Loaded}
use Rattle.quiet_law.proofs.Suite.{quiet_law}
use Rattle.electrictest.specs.{declared.status.Status.Status, EagerForms.AsksEager, EagerForms.EagerAnswer, Loads.LoadsFor, Loads.LoadsAny, Loads.quieted}
use Rattle.electrictest.specs.Words.{Ask, is_eager, IsOverSuite, suite_word, word_at}
use Rattle.electrictest.proofs.{AskedFor.suite_of_words, LoadedFacts.loaded_from, LoadedFacts.loaded_typed}

loads_quieted : (files : Files) (a : Ask) (l : Loaded) → IsOverSuite a.command → AsksEager files a l → LoadsFor files a (Ok (quieted l))
loads_quieted files a l over asks =
    let here : LoadsAny files true (Some (Ok (word_at a.words 1))) (Ok (quieted l)) = (Ok l, asks.load, refl) in
    let named : LoadsAny files true (suite_word a) (Ok (quieted l)) = subst (λ (w : Option (Result (List ℕ) Status)). LoadsAny files true w (Ok (quieted l))) (sym (suite_of_words a.command a.words asks.asks over)) here in
    subst (λ (b : Bool). LoadsAny files b (suite_word a) (Ok (quieted l))) (sym asks.eager) named

pub eager_answer : (files : Files) (a : Ask) → (is_eager a.words ≡ true → IsOverSuite a.command) → EagerAnswer files a
eager_answer files a over l asks =
    let loaded = loaded_from files (word_at a.words 1) l asks.load in
    (loads_quieted files a l (over asks.eager) asks, quiet_law l.checked (loaded_typed files (word_at a.words 1) loaded.0 l asks.bytes loaded.1) asks.detected asks.room)
