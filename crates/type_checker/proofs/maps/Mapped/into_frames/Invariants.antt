use Rattle.std.proofs.Common.{◌≡◌, [], map, unwrap_or}
use Rattle.type_checker.proofs.maps.Mapped.into_frames.Given as goal

abbrev pub invariant-loop-map : goal.invariant-loop-map
invariant-loop-map l = record {
  next : (goal.iterator-loop-map).can_next l.map-iterator;
  finite : (goal.iterator-loop-map).is_finite l.map-iterator;
  frames : l.all ≡ map (λ o. unwrap_or o []) l.yielded;
}
