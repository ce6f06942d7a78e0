use Rattle.std.proofs.Common.{◌+◌, ◌*◌, ◌∷◌, [], ◌++◌, ℕ, set, get_or, ap, ◌∙◌, subst, sym}
use Rattle.access_tags.specs.Rows.{IsTable}
use Rattle.access_tags.proofs.Tally.{tally_in}
use Rattle.access_tags.proofs.rows.Row.count.Goals as goal

pub returns-clause-table : goal.returns-clause-table
returns-clause-table c hs f =
    let x = c.args.conflict in
    let o = c.index_mut-row.result.now in
    let q = c.index_mut-row.ensures.value ∙ ap (λ (i : ℕ). get_or c.args.rows.now.items (3 * x.earlier + i) o) c.number.ensures in
    subst (λ (i : ℕ). IsTable c.args.later (hs ++ x ∷ []) (set c.args.rows.now.items (3 * x.earlier + i) c.add.new.self)) (sym c.number.ensures)
    (tally_in c.args.later hs x c.args.rows.now.items o c.add.new.self c.requires f c.if-conflict-later.false q c.in_ok-add.ensures)
