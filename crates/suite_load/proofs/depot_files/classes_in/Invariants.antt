use Rattle.std.proofs.Common.{◌≡◌, ◌≤◌, ◌+◌, length, map, take}
use Rattle.outside.specs.Depot.{OfHeld, TellsOn}
use Rattle.suite_load.specs.{Loading.bytes_of, Sums.AreMoreSums}
use Rattle.suite_load.proofs.LoadLaws.{AreRead}
use Rattle.suite_load.proofs.depot_files.classes_in.Given as goal

-- the class files of the names so far are read
abbrev pub invariant-loop-name : goal.invariant-loop-name
invariant-loop-name g l = record {
  told : TellsOn (g.D.Depot.shown l.fn.depot).told (g.D.Depot.shown l.depot).told;
  faults : (g.D.Depot.shown l.fn.depot).faults ≤ (g.D.Depot.shown l.depot).faults;
  within : l.read ≤ 67108864;
  count : length l.classes ≡ l.name-index;
  sums : OfHeld (g.D.Depot.shown l.depot).told (λ files. AreMoreSums l.fn.sums l.sums (map (bytes_of files) (take l.name-index l.names)));
  as_many : length l.sums.classes ≡ length l.fn.sums.classes + l.name-index;
  files : OfHeld (g.D.Depot.shown l.depot).told (λ files. AreRead files 0 (take l.name-index l.names) l.classes l.read);
}
