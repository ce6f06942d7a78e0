use Rattle.std.proofs.Common.{◌≡◌, ◌++◌, ◌∙◌, ℕ, Vec, Global, flat_map, map, take, get_or, ap, subst}
use Rattle.sha2.specs.Hashers.{Holds256}
use Rattle.dep_record.specs.Hashes.{sized}
use Rattle.dep_record.proofs.HashLaws.{file_more}
use Rattle.dep_record.proofs.hashes.add_classes.Goals as goal

pub loop-class-preserved : goal.loop-class-preserved
loop-class-preserved c = λ m h.
    let x = c.class-item.result in
    let xs = c.args.classes.now in
    let i = c.loop-class.class-index in
    let one : c.as_slice.result.now ≡ (get_or xs i x).items = c.as_slice.ensures.value ∙ ap (λ (y : Vec ℕ Global). y.items) c.class-item.is in
    subst (Holds256 c.add_sized.new.sum) (ap (λ t. m ++ flat_map sized (map (λ (y : Vec ℕ Global). y.items) (take i xs)) ++ sized t) one ∙ file_more (λ (y : Vec ℕ Global). y.items) m xs i x c.loop-class-test.true)
    (c.add_sized.ensures _ (c.loop-class.invariant m h))
