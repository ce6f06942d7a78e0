use Rattle.std.proofs.Common.{ℕ, List, length, sym, ap, arith}
use Rattle.std.proofs.lemmas.List.{length-take-le}
use Rattle.access_tags.proofs.shown_text.cut.Goals as goal

pub slice_bounds-from_slice-end : goal.slice_bounds-from_slice-end
slice_bounds-from_slice-end c =
    let e = ap (λ (xs : List ℕ). length xs) c.as_slice.ensures in
    sym (length-take-le 200 c.as_slice.result.now (omega (arith, c.if-len-le-MOST_BYTES.false)))
