-- The parts that the running test touched.
use Rattle.std.specs.Prelude.{List}
use Rattle.access_tags.specs.declared.conflict.Touched.{Touched}
use Rattle.access_tags.specs.declared.access_log.AccessLog.{AccessLog}
use Rattle.access_tags.specs.Intervals.{parts}

abbrev pub touched_in : AccessLog → List Touched
touched_in t = parts t.intervals
