use Rattle.electric.proofs.gathered.GatheredSink.TheImpl.Goals as goal

pub write-tells : goal.write-tells
write-tells g c = record {
  within = c.ensures.within;
  told = c.ensures.took.told;
  faults = c.ensures.took.later;
  none_taken = c.ensures.none_taken;
  room = c.ensures.took.room;
  has_room = c.ensures.took.quiet;
}
