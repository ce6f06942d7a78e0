use Rattle.std.proofs.Common.{◌≡◌, ◌++◌, true, map, take}
use Rattle.order_law.specs.OwnRecord.{owner_in}
use Rattle.access_tags.specs.{FoundIn.are_printed, Rows.edge_by}
use Rattle.access_tags.proofs.found.push_edges.Given as goal

abbrev pub invariant-loop-row : goal.invariant-loop-row
invariant-loop-row l = record {
  edges : l.edges ≡ l.fn.edges ++ map (edge_by l.p (owner_in l.made) l.names l.test) (take l.row-index l.rows);
  form : are_printed l.fn.edges ≡ true → are_printed l.edges ≡ true;
}
