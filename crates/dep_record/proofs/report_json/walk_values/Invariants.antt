use Rattle.std.proofs.Common.{◌≡◌, map, take}
use Rattle.serde_json.specs.View.{view}
use Rattle.dep_record.specs.DepsJson.{text_data}
use Rattle.dep_record.proofs.report_json.walk_values.Given as goal

-- the reads so far
abbrev pub invariant-loop-read : goal.invariant-loop-read
invariant-loop-read l = map view l.values.items ≡ map text_data (take l.read-index l.walk)
