use Rattle.std.proofs.Common.{ℕ, ◌<◌, length, sym, subst, arith}
use Rattle.cone_run.proofs.Books.{book_more, none_read, room}
use Rattle.cone_run.proofs.book.Book.post.Goals as goal

pub overflow_add-self : goal.overflow_add-self
overflow_add-self g c =
    let i = c.self.inside in
    let low = c.requires.piece.few in
    let e = c.requires.units in
    let r = room g.N.PoolName.program g.N.BookName.edges g.N.BookName.selected i.claimed.items i.pieces.items i.units c.args.units c.self.invariant (omega arith) in
    omega (arith, r)

pub invariant_of-self : goal.invariant_of-self
invariant_of-self g c =
    let i = c.self.inside in
    let lt : c.args.place < length i.pieces.items = subst (λ (n : ℕ). c.args.place < n) (sym c.self.invariant.places) c.requires.place in
    book_more g.N.PoolName.program g.N.BookName.edges g.N.BookName.selected i.pieces.items c.args.place c.args.piece lt i.claimed.items i.units c.args.units c.self.invariant
    (none_read i.pieces.items c.args.place c.index.result.now c.is_some.result lt c.index.ensures c.is_some.ensures c.if-is_some.false) c.requires.piece c.requires.units
