use Rattle.std.proofs.Common.{◌++◌, ◌∙◌, [], map, reverse, cond, sym, subst}
use Rattle.order_law.specs.declared.edges.EdgeKind.TheVariants as kinds
use Rattle.access_tags.specs.declared.{conflict.LocationKey.LocationKey, table.Table.Table}
use Rattle.access_tags.specs.{Tag.conflict, Tag.conflicts_at, Tag.with_writer, Cells.chain, Cells.tag_by, Counted.HaveCounted, Intervals.part_at}
use Rattle.access_tags.proofs.Parted.{counted_after, counted_none, counted_there}
use Rattle.access_tags.proofs.cells.count_past.Goals.{then-mark+in_ok-count_writer, else-mark}
use Rattle.access_tags.proofs.cells.count_past.Goals as goal

pub returns-then-is_none : goal.returns-then-is_none
returns-then-is_none c = let o = c.args in counted_there o.table.now (part_at o.interval o.index).spot o.past (reverse o.readers.now) o.mark (sym c.is_none.ensures ∙ c.if-is_none.true)

pub returns-in_ok-count_readers : goal.returns-in_ok-count_readers
returns-in_ok-count_readers c =
    let o = c.args in
    let x = c.spot-place.result in
    let raw = cond o.mark.exposed (with_writer kinds.Raw x o.past.writer) [] in
    let waw = with_writer kinds.Waw x o.past.writer in
    let war = map (conflict kinds.War x) (chain (reverse o.readers.now) o.past.readers) in
    let a : HaveCounted o.table.now c.if-mark.table raw = elim c.if-mark.branch [
      | then-mark+in_ok-count_writer w ↦ subst (λ (t : Table). HaveCounted o.table.now t raw) (sym w.table-is) (rw w.if-mark.true w.in_ok-count_writer.ensures)
      | else-mark w ↦ subst (λ (t : Table). HaveCounted o.table.now t raw) (sym w.table-is) (rw w.if-mark.false (counted_none o.table.now))
    ] in
    let b = counted_after c.if-mark.table c.count_writer-then-mark-2.new.table c.count_readers.new.table waw war c.in_ok-count_writer-2.ensures c.in_ok-count_readers.ensures in
    subst (λ (y : LocationKey). HaveCounted o.table.now c.count_readers.new.table (conflicts_at y (tag_by o.past (reverse o.readers.now) o.mark))) c.spot-place.ensures
    (rw c.if-mark-2.true (counted_after o.table.now c.if-mark.table c.count_readers.new.table raw (waw ++ war) a b))
