use Rattle.std.proofs.Common.{◌≡◌, ◌+◌, ◌++◌, ◌∷◌, [], ℕ, suc, List, take, drop, get_or, sym, subst, arith}
use Rattle.std.proofs.{Math.Seq.split_at, lemmas.List.take_more, lemmas.Result.err_from_is_err_and}
use Rattle.jvm_model.specs.{declared.program.Program.Program, State.test_at}
use Rattle.test_run.specs.{Lists.RanBefore, Lists.RanList, Lists.RanNext, Running.IsRefused}
use Rattle.test_run.proofs.Lists.{before_at, longer, ran_more, refused_at, same_program}
use Rattle.test_run.proofs.machine.Machine.run_list.Goals as goal

pub returns-in_err-run_next-clause-refused : goal.returns-in_err-run_next-clause-refused
returns-in_err-run_next-clause-refused g c =
    let at = c.loop-index in
    let f = c.in_err-run_next.field-0.0 in
    let t = get_or c.args.list.now at.index 0 in
    let same = same_program c.args.self.now at.self (take at.index c.args.list.now) at.invariant.same in
    let refused = subst (λ (z : Program). IsRefused z (g.M.Memory.world at.self.memory) t (test_at z t).budget f) same c.in_err-run_next.ensures.refused in
    let p = err_from_is_err_and c.from_residual.result c.from_residual.ensures.1 in
    rw (p.1, p.2) (refused_at g.M.Memory.world g.M.Memory.follows c.args.self.now.program c.args.self.now.memory at.self.memory c.run_next.new.self.memory (take at.index c.args.list.now) t at.outcomes at.outcomes c.args.steps.now at.steps at.steps at.invariant.ran
    (drop (suc at.index) c.args.list.now) c.args.list.now f (split_at c.args.list.now at.index 0 (omega arith)) refused)

pub returns-in_err-run_next-clause-before : goal.returns-in_err-run_next-clause-before
returns-in_err-run_next-clause-before g c =
    let at = c.loop-index in
    let new = c.run_next.new in
    let f = c.in_err-run_next.field-0.0 in
    let t = get_or c.args.list.now at.index 0 in
    let same = same_program c.args.self.now at.self (take at.index c.args.list.now) at.invariant.same in
    let before = subst (λ (z : Program). RanBefore z (g.M.Memory.world at.self.memory) (t ∷ []) at.steps new.steps f) same c.in_err-run_next.ensures.before in
    let p = err_from_is_err_and c.from_residual.result c.from_residual.ensures.1 in
    rw (p.1, p.2) (before_at g.M.Memory.world g.M.Memory.follows c.args.self.now.program c.args.self.now.memory at.self.memory new.self.memory (take at.index c.args.list.now) t at.outcomes at.outcomes c.args.steps.now at.steps new.steps at.invariant.ran
    (drop (suc at.index) c.args.list.now) c.args.list.now f (split_at c.args.list.now at.index 0 (omega arith)) before)

pub loop-index-preserved : goal.loop-index-preserved
loop-index-preserved g c =
    let at = c.loop-index in
    let old = c.args.self.now in
    let new = c.run_next.new in
    let t = get_or c.args.list.now at.index 0 in
    let l = take at.index c.args.list.now in
    let more : take (at.index + 1) c.args.list.now ≡ l ++ (t ∷ []) = take_more c.args.list.now at.index 0 (omega arith) in
    let same = same_program old at.self l at.invariant.same in
    let next = subst (λ (z : Program). RanNext g.M.Memory.world g.M.Memory.follows z at.self.memory new.self.memory t at.outcomes new.outcomes at.steps new.steps) same c.in_ok-run_next.ensures.ran in
    record {
      ran = subst (λ (z : List ℕ). RanList g.M.Memory.world g.M.Memory.follows old.program old.memory new.self.memory z new.outcomes c.args.steps.now new.steps) (sym more)
          (ran_more g.M.Memory.world g.M.Memory.follows old.program old.memory at.self.memory new.self.memory l t at.outcomes new.outcomes c.args.steps.now at.steps new.steps at.invariant.ran next);
      same = longer old at.self new.self l (take (at.index + 1) c.args.list.now) t at.invariant.same c.in_ok-run_next.ensures.after more;
    }
