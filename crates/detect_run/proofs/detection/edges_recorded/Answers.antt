use Rattle.std.proofs.Common.{List, arith, refl, subst, sym}
use Rattle.order_law.specs.declared.edges.Edge.{Edge}
use Rattle.order_law.specs.{Histories.touches_of, OwnRecord.owner, Pairing.PairedList, Walk.IsShownOf}
use Rattle.order_law.proofs.Lists.{length-paired}
use Rattle.detect_run.proofs.{Detected.edges_found, Kept.has_run, OwnRun.have_walks, Showable.can_show}
use Rattle.detect_run.proofs.detection.edges_recorded.Goals as goal

pub record_of-requires : goal.record_of-requires
record_of-requires c =
    let edges = edges_found c.args.p.now c.program.ensures.typed _ _ _ _ c.requires.ran c.program.ensures.same c.in_ok-edges.edges c.in_ok-edges.ensures.edges in
    (omega arith, (c.requires.classes, (c.requires.program, (c.requires.ran, (edges, c.in_ok-edges.ensures.printed)))))

pub returns-clause-found : goal.returns-clause-found
returns-clause-found c =
    let run = c.requires.ran in
    let p = c.args.p.now in
    let h = has_run p run.detected in
    let s = can_show p (touches_of p) (owner p) (have_walks p c.program.ensures.typed h.given h.ran) in
    let kept = c.in_ok-kept.ensures.kept in
    let shown = subst (λ (es : List Edge). PairedList (IsShownOf p) es s.0) (sym kept.edges) s.1 in
    record {
      whole = record { kept = c.in_ok-kept.kept; shown = s.0; each = sym (length-paired _ shown) };
      is = record { detected = run.detected; kept = kept; newer = c.in_ok-kept.ensures.newer; shown = shown };
      kept = refl;
    }
