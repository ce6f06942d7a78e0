-- The events of a core, and the history that they are.
use Rattle.std.proofs.Common.{◌≡◌, List, [], ◌∷◌, ◌++◌, map, reverse, sym, ap, ◌∙◌}
use Rattle.std.proofs.lemmas.List.{append-nil, append_assoc, reverse-append, Folds.flat_map-map}
use Rattle.std.specs.List.{flat_map, fold}
use Rattle.order_law.specs.Plan as law
use Rattle.run_core.specs.{declared.events.Event.Event, Run.told, Run.history_of}
use Rattle.electrictest.specs.Logs.{event_line}

-- behind earlier events
told_after : (es : List law.Event) (h : List Event) → reverse (fold (λ (es : List law.Event) (e : Event). told e ∷ es) es h) ≡ reverse es ++ map told h
told_after es [] = sym (append-nil (reverse es))
told_after es (e ∷ h) = told_after (told e ∷ es) h ∙ (ap (λ (l : List law.Event). l ++ map told h) (reverse-append (told e ∷ []) es) ∙ append_assoc (reverse es) (told e ∷ []) (map told h))

-- the lines of a history are those of its events in the order in which they came
pub lines_in_order : (h : List Event) → flat_map event_line (reverse (history_of h)) ≡ flat_map (λ e. event_line (told e)) h
lines_in_order h = ap (flat_map event_line) (told_after [] h) ∙ flat_map-map event_line told h
