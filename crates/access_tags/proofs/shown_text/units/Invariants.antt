use Rattle.std.proofs.Common.{◌≡◌, ◌^◌, take, true, nat_lt}
use Rattle.std.specs.List.{list_all}
use Rattle.access_tags.proofs.shown_text.units.Given as goal

abbrev pub invariant-loop-unit : goal.invariant-loop-unit
invariant-loop-unit l = list_all (λ u. nat_lt u (2 ^ 16)) (take l.unit-index l.name) ≡ true
