use Rattle.std.proofs.Common.{◌≡◌, take}
use Rattle.std.specs.List.{list_all}
use Rattle.jvm_model.specs.Texts.{is_passed}
use Rattle.cone_run.specs.ConesText.{outcomes}
use Rattle.cone_run.proofs.cone_report.all_passed.Given as goal

abbrev pub invariant-loop-index : goal.invariant-loop-index
invariant-loop-index l = l.all ≡ list_all is_passed (outcomes (take l.index l.pieces))
