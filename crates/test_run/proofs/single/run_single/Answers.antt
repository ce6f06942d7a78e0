use Rattle.std.proofs.Common.{◌≡◌, ℕ, ◌-◌, sym, subst, ap, ◌∙◌}
use Rattle.jvm_model.specs.{declared.program.Program.Program, State.State, State.started, World.World}
use Rattle.type_frames.specs.TypedState.{TypedWorld}
use Rattle.test_run.specs.Running.{IsTest}
use Rattle.test_run.proofs.OneTest.{gives_same, left_same, outcome_with, started_same, tells_same}
use Rattle.test_run.proofs.single.run_single.Goals as goal

pub run_frames-requires : goal.run_frames-requires
run_frames-requires g c =
    let p = c.args.tables.now in
    let n : c.in_ok-state.state.test ≡ c.args.test = ap (λ (s : State). s.test) c.in_ok-state.ensures in
    let t : IsTest p c.in_ok-state.state.test = subst (λ (z : ℕ). IsTest p z) (sym n) c.requires.test in
    record {
      of = (c.requires.of.0 ∙ sym c.begin_test.ensures.of, c.requires.of.1);
      checked = c.requires.checked;
      limits = c.requires.limits;
      typed = subst (λ (w : World). TypedWorld p w) (sym c.in_ok-begin_test.ensures.kept) c.requires.typed;
      low = t.0;
      high = t.1;
      start = started_same p _ c.args.test _ (c.in_ok-state.ensures ∙ ap (λ (q : Program). started q c.args.test) c.program.ensures) n;
    }

pub returns : goal.returns
returns g c =
    let p = c.args.tables.now in
    let v = g.M.Memory.world c.begin_test.new.self in
    let w = g.M.Memory.world c.args.memory.now in
    let u = g.M.Memory.world c.run_frames.new.memory in
    let t = c.in_ok-state.state.test in
    let s = c.run_frames.new.state in
    let f : v ≡ w = c.in_ok-begin_test.ensures.kept in
    let n : t ≡ c.args.test = ap (λ (s : State). s.test) c.in_ok-state.ensures in
    let o : c.outcome_of.result ≡ outcome_with s (c.args.budget - c.run_frames.new.left) c.in_ok-verdict.verdict = c.outcome_of.ensures ∙ ap (λ (k : ℕ). outcome_with s k c.in_ok-verdict.verdict) c.saturating_sub.ensures in
    record {
      gives = gives_same p v w c.args.test t c.args.budget c.in_ok-verdict.verdict s u c.run_frames.new.left c.outcome_of.result f n c.in_ok-verdict.ensures.gives o;
      told = tells_same g.M.Memory.follows c.args.memory.now c.begin_test.new.self c.run_frames.new.memory p w c.args.test c.args.budget c.in_ok-begin_test.ensures.told v t s _ c.in_ok-verdict.verdict c.outcome_of.result f n c.in_ok-verdict.ensures.told o;
      left = left_same p u s _ c.in_ok-verdict.verdict c.outcome_of.result c.in_ok-verdict.ensures.left o;
      of = c.run_frames.ensures.of ∙ c.begin_test.ensures.of;
      kept = c.run_frames.ensures.kept;
    }
