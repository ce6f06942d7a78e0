use Rattle.std.proofs.Common.{arith}
use Rattle.cone_run.proofs.Books.{book_begun}
use Rattle.cone_run.proofs.book.Book.new.Goals as goal

pub invariant_of-result : goal.invariant_of-result
invariant_of-result g c =
    let claimed = c.in_ok-from_elem.field-0 in
    book_begun g.N.PoolName.program g.N.BookName.edges g.N.BookName.selected claimed.items c.in_ok-places.field-0.items c.args.selected c.requires.selected c.requires.few
    (omega (arith, claimed.ok.0, c.in_ok-from_elem.ensures.len)) c.in_ok-places.ensures.many c.in_ok-places.ensures.none
