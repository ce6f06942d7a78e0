use Rattle.std.proofs.Common.{◌≡◌, ◌++◌, ◌∷◌, ℕ, List, [], map, reverse, arith, sym, ◌∙◌, ap, subst}
use Rattle.std.proofs.lemmas.List.{append_assoc, append-nil}
use Rattle.order_law.specs.declared.edges.EdgeKind.TheVariants as kinds
use Rattle.access_tags.specs.declared.conflict.{Conflict.Conflict, LocationKey.LocationKey}
use Rattle.access_tags.specs.{Tag.conflict, Cells.chain, Counted.HaveCounted}
use Rattle.access_tags.proofs.{Chains.chain_step, Chains.chain_end, Parted.counted_after}
use Rattle.access_tags.proofs.cells.count_readers.Goals as goal

pub loop-at-preserved : goal.loop-at-preserved
loop-at-preserved c =
    let l = c.loop-at in
    let s = chain_step c.args.readers.now l.at c.get-reader.result c.requires.down (omega (arith, c.loop-at-test.true)) l.invariant.0 c.get-reader.ensures in
    let a = s.0 in
    let x = conflict kinds.War c.args.place c.get-reader.result.test in
    let rest = map (conflict kinds.War c.args.place) (chain (reverse c.args.readers.now) c.get-reader.result.next) in
    let xs = l.invariant.1.0 in (
      omega (arith, l.invariant.0),
      (
        xs ++ x ∷ [],
        counted_after c.args.table.now l.table c.add.new.self xs (x ∷ []) l.invariant.1.1 c.in_ok-add.ensures,
        append_assoc xs (x ∷ []) rest ∙ (ap (λ (us : List ℕ). xs ++ map (conflict kinds.War c.args.place) us) (sym s.1) ∙ l.invariant.1.2),
      ),
    )

pub returns : goal.returns
returns c =
    let l = c.loop-at in
    let z : l.at ≡ 0 = omega (arith, c.loop-at-test.false) in
    let rs = reverse c.args.readers.now in
    let e : chain rs l.at ≡ [] = ap (λ (n : ℕ). chain rs n) z ∙ chain_end rs in
    subst (λ (xs : List (Conflict LocationKey)). HaveCounted c.args.table.now l.table xs)
    (sym (append-nil l.invariant.1.0) ∙ (ap (λ (us : List ℕ). l.invariant.1.0 ++ map (conflict kinds.War c.args.place) us) (sym e) ∙ l.invariant.1.2)) l.invariant.1.1
