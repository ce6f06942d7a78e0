-- What stands still isn't answered as failed.
use Rattle.outside.proofs.CountLemmas.{not_rose}
use Rattle.electrictest.specs.Laws.{QuietDepots, QuietSinks}

pub depot_quiet : QuietDepots
depot_quiet old new name same below failed = not_rose old.faults new.faults same below failed.rose

pub sink_quiet : QuietSinks
sink_quiet text old new room below cut = not_rose old.faults new.faults (cut.kept room).0 below cut.rose
