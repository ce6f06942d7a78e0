use Rattle.std.proofs.Common.{◌≡◌, ◌∙◌, [], get_or, true, sym, ap, arith}
use Rattle.std.specs.Str.{bytes_eq}
use Rattle.std.proofs.lemmas.List.{get_or_read}
use Rattle.electrictest.proofs.SelectionLaws.{position_at, position_none}
use Rattle.electrictest.proofs.selections.place_of.Goals as goal

pub returns-then-eq-clause-place : goal.returns-then-eq-clause-place
returns-then-eq-clause-place c =
    let i = c.loop-place.place in
    let read = c.as_slice.ensures ∙ get_or_read c.args.names.now i c.index-names-place.result (omega arith) c.index-names-place.is [] in
    let here : bytes_eq c.args.name.now (get_or c.args.names.now i []) ≡ true = ap (bytes_eq c.args.name.now) (sym read) ∙ sym c.eq.ensures ∙ c.if-eq.true in
    sym (position_at (bytes_eq c.args.name.now) c.args.names.now i [] (omega arith) c.loop-place.invariant here)

pub returns-clause-place : goal.returns-clause-place
returns-clause-place c = sym (position_none (bytes_eq c.args.name.now) c.args.names.now c.loop-place.place [] (omega arith) c.loop-place.invariant)
