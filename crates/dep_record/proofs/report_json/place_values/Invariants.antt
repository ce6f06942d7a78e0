use Rattle.std.proofs.Common.{◌≡◌, map, take}
use Rattle.serde_json.specs.View.{view}
use Rattle.dep_record.specs.DepsJson.{place_data}
use Rattle.dep_record.proofs.report_json.place_values.Given as goal

-- the locations so far
abbrev pub invariant-loop-place : goal.invariant-loop-place
invariant-loop-place l = map view l.values.items ≡ map place_data (take l.place-index l.places)
