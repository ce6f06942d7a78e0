use Rattle.order_law.specs.declared.edges.EdgeKind.TheVariants.{Raw, Waw, War}
use Rattle.access_tags.specs.Tag.{found}
use Rattle.access_tags.proofs.Tally.{three_none, three_read, three_rows}
use Rattle.access_tags.proofs.rows.Row.hand_three_on.Goals as goal

pub returns-clause-rows : goal.returns-clause-rows
returns-clause-rows c hs h =
    let u = c.args.earlier in
    let w = three_read u hs c.args.table.now.items c.hand_on.new.self c.hand_on-2.new.self c.index_mut.result.now c.index_mut-2.result.now c.index_mut-3.result.now h
    c.index_mut.ensures.value c.index_mut-2.ensures.value c.index_mut-3.ensures.value in
    three_rows _ _ _ _ _ _ _ (c.in_ok-hand_on.ensures.rows Raw u (found Raw u hs) w.0) (c.in_ok-hand_on-2.ensures.rows Waw u (found Waw u hs) w.1)
    (c.in_ok-hand_on-3.ensures.rows War u (found War u hs) w.2)

pub returns-clause-none : goal.returns-clause-none
returns-clause-none c hs h =
    let u = c.args.earlier in
    let w = three_read u hs c.args.table.now.items c.hand_on.new.self c.hand_on-2.new.self c.index_mut.result.now c.index_mut-2.result.now c.index_mut-3.result.now h
    c.index_mut.ensures.value c.index_mut-2.ensures.value c.index_mut-3.ensures.value in
    three_none u c.args.table.now.items c.hand_on.new.self c.hand_on-2.new.self c.hand_on-3.new.self c.requires (c.in_ok-hand_on.ensures.none Raw u (found Raw u hs) w.0)
    (c.in_ok-hand_on-2.ensures.none Waw u (found Waw u hs) w.1) (c.in_ok-hand_on-3.ensures.none War u (found War u hs) w.2)
