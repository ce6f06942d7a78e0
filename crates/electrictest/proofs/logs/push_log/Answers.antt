use Rattle.std.proofs.Common.{◌≡◌, List, ℕ, ◌++◌, ◌∷◌, [], codes, take, reverse, sym, ap, ◌∙◌, refl, arith}
use Rattle.std.proofs.lemmas.{List.take_all, Result.on_ok_weaker}
use Rattle.std.specs.List.{flat_map}
use Rattle.run_core.specs.{declared.events.Event.Event, Run.told, Run.history_of}
use Rattle.test_run.proofs.Joins.{join3}
use Rattle.electrictest.specs.Logs.{event_line, log_text}
use Rattle.electrictest.proofs.LogLaws.{lines_in_order}
use Rattle.electrictest.proofs.logs.push_log.Goals as goal

pub returns : goal.returns
unfolding log_text
returns c =
    let out = c.args.out.now in
    let events = c.args.events.now in
    let lines = λ (h : List Event). flat_map (λ e. event_line (told e)) h in
    let all : take c.loop-event.event-index events ≡ events = take_all c.loop-event.event-index events (omega arith) in
    let told_lines : lines (take c.loop-event.event-index events) ≡ flat_map event_line (reverse (history_of events)) = ap lines all ∙ sym (lines_in_order events) in
    on_ok_weaker c.extend_from_slice-2.result (λ (h : c.extend_from_slice-2.new.self ≡ c.loop-event.out ++ (codes "end" ++ (10 ∷ []))).
    join3 out (codes "log" ++ (10 ∷ [])) (flat_map event_line (reverse (history_of events))) (codes "end" ++ (10 ∷ []))
    refl (c.loop-event.invariant ∙ ap (λ (l : List ℕ). (out ++ (codes "log" ++ (10 ∷ []))) ++ l) told_lines) h) c.extend_from_slice-2.ensures.pushed
