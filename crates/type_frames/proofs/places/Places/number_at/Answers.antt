use Rattle.std.proofs.Common.{◌≡◌, Some, is_some, ap, sym, ◌∙◌, arith}
use Rattle.std.proofs.lemmas.List.{get_or_read}
use Rattle.type_frames.specs.Frames.{index_of}
use Rattle.type_frames.proofs.PlaceLemmas.{index_of_some}
use Rattle.type_frames.proofs.places.Places.number_at.Goals as goal

pub index-requires : goal.index-requires
index-requires c =
    let e : index_of c.args.number c.self.inside.numbers.items ≡ Some c.in-Some.index = ap (index_of c.args.number) c.self.view_is ∙ sym c.find.ensures ∙ c.in-Some.is in
    let r = index_of_some _ _ _ e in
    omega (arith, r.0)

pub returns-in-Some-clause-some : goal.returns-in-Some-clause-some
returns-in-Some-clause-some c =
    let s : index_of c.args.number c.args.self.now ≡ Some c.in-Some.index = sym c.find.ensures ∙ c.in-Some.is in
    let e : index_of c.args.number c.self.inside.numbers.items ≡ Some c.in-Some.index = ap (index_of c.args.number) c.self.view_is ∙ s in
    let r = index_of_some _ _ _ e in
    (get_or_read c.self.inside.numbers.items c.in-Some.index c.index.result.now r.0 c.index.ensures 0 ∙ r.1, ap is_some s)
