-- The edges by what is gathered at the end of each test are those of the definition.
use Rattle.std.proofs.Common.{◌≡◌, ℕ, zero, suc, ◌+◌, ◌-◌, ◌<◌, ◌≤◌, List, ◌++◌, flat_map, length, refl, ap, arith}
use Rattle.std.specs.List.{range_with_len}
use Rattle.jvm_model.specs.declared.program.Program.{Program}
use Rattle.order_law.specs.declared.edges.{Edge.Edge, EdgeKind.TheVariants.Raw, EdgeKind.TheVariants.Waw, EdgeKind.TheVariants.War}
use Rattle.order_law.specs.{Histories.Touches, OwnRecord.edges_between_in, OwnRecord.edges_in}
use Rattle.access_tags.specs.Tag.{conflicts_found, edges_between, edges_to, RowsLaw}
use Rattle.access_tags.proofs.Conflicts.{tags_law}

same_rows : (f g : ℕ → List Edge) (n a : ℕ) → ((u : ℕ) → a ≤ u → u < a + n → f u ≡ g u) → flat_map f (range_with_len a n) ≡ flat_map g (range_with_len a n)
same_rows f g zero a h = refl
same_rows f g (suc n) a h = rw (h a (omega arith) (omega arith)) (ap (λ (es : List Edge). g a ++ es) (same_rows f g n (a + 1) (λ u o l. h u (omega arith) (omega arith))))

module _ (p : Program) (T : Touches) (by : ℕ → ℕ × ℕ) where
  same_between : (t u : ℕ) → 0 < u → u ≤ t → edges_between p by u (suc t) (conflicts_found T t (T (suc t))) ≡ edges_between_in p T by u (suc t)
  unfolding edges_between_in
  same_between t u o h = rw (tags_law T Raw u t o h) (rw (tags_law T Waw u t o h) (rw (tags_law T War u t o h) refl))

  same_row : (t : ℕ) → 0 < t → edges_to p by t (conflicts_found T (t - 1) (T t)) ≡ flat_map (λ u. edges_between_in p T by u t) (range_with_len 1 (t - 1))
  same_row zero h = absurd (omega arith)
  same_row (suc t) h = let e : suc t - 1 ≡ t = omega arith in rw e (same_rows (λ u. edges_between p by u (suc t) (conflicts_found T t (T (suc t)))) (λ u. edges_between_in p T by u (suc t)) t 1 (λ u o l. same_between t u (omega arith) (omega arith)))

pub rows_law : RowsLaw
unfolding edges_in
rows_law p T by = same_rows (λ t. edges_to p by t (conflicts_found T (t - 1) (T t))) (λ t. flat_map (λ u. edges_between_in p T by u t) (range_with_len 1 (t - 1))) (length p.tests) 1 (λ t o l. same_row p T by t (omega arith))
