use Rattle.std.proofs.Common.{List, arith, subst, sym, ◌∙◌}
use Rattle.order_law.specs.declared.edges.Edge.{Edge}
use Rattle.order_law.specs.{Pairing.PairedList, Walk.IsShownOf}
use Rattle.order_law.proofs.Lists.{length-paired}
use Rattle.detect_run.proofs.Detected.{edges_found, shown_found}
use Rattle.detect_run.proofs.detection.detected_of.Goals as goal

pub record_of-requires : goal.record_of-requires
record_of-requires c =
    let edges = edges_found c.args.p.now c.program.ensures.typed _ _ _ _ c.requires.ran c.program.ensures.same c.in_ok-edges.edges c.in_ok-edges.ensures.edges in
    (omega arith, (c.requires.classes, (c.requires.program, (c.requires.ran, (edges, c.in_ok-edges.ensures.printed)))))

pub invariant_of-result : goal.invariant_of-result
invariant_of-result c =
    let run = c.requires.ran in
    let p = c.args.p.now in
    let ty = c.program.ensures.typed in
    let same = c.program.ensures.same in
    let edges = edges_found p ty _ _ _ _ run same c.in_ok-edges.edges c.in_ok-edges.ensures.edges in
    let shown = shown_found p ty _ _ _ _ run same c.in_ok-edges.edges c.in_ok-edges.shown c.in_ok-edges.ensures.shown in
    record { each = sym (length-paired _ (subst (λ (es : List Edge). PairedList (IsShownOf p) es c.in_ok-edges.shown) (edges ∙ sym c.in_ok-kept.ensures.kept.edges) shown)) }

pub returns-clause-found : goal.returns-clause-found
returns-clause-found c =
    let run = c.requires.ran in
    let p = c.args.p.now in
    let ty = c.program.ensures.typed in
    let same = c.program.ensures.same in
    let edges = edges_found p ty _ _ _ _ run same c.in_ok-edges.edges c.in_ok-edges.ensures.edges in
    let shown = shown_found p ty _ _ _ _ run same c.in_ok-edges.edges c.in_ok-edges.shown c.in_ok-edges.ensures.shown in
    record {
      detected = run.detected;
      kept = c.in_ok-kept.ensures.kept;
      newer = c.in_ok-kept.ensures.newer;
      shown = subst (λ (es : List Edge). PairedList (IsShownOf p) es c.in_ok-edges.shown) (edges ∙ sym c.in_ok-kept.ensures.kept.edges) shown;
    }
