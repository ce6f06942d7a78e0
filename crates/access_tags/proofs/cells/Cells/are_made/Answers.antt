use Rattle.std.proofs.Common.{◌≡◌, get_or, length, reverse, arith, inl, inr}
use Rattle.std.proofs.lemmas.Bool.{cases_lt}
use Rattle.std.proofs.lemmas.List.{get_or_past}
use Rattle.access_tags.specs.Cells.{no_past}
use Rattle.access_tags.proofs.Filled.{made_there}
use Rattle.access_tags.proofs.cells.Cells.are_made.Goals as goal

pub returns-then-are_marked : goal.returns-then-are_marked
returns-then-are_marked c h l a b =
    let s = c.args.self.now in
    let none : get_or s.pasts l no_past ≡ no_past = elim (cases_lt l (length s.pasts)) [
      | inl k ↦ c.are_untouched.ensures h l a (omega (arith, c.min.ensures, c.len.ensures))
      | inr k ↦ get_or_past s.pasts l no_past k
    ] in
    made_there (reverse s.readers) none (c.are_marked.ensures c.if-are_marked.true l a b)
