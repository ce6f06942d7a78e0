use Rattle.std.proofs.Common.{◌≡◌, ℕ, ◌<◌, ◌+◌, ◌-◌, ◌/◌, ◌%◌, length, arith, ap, sym, subst, ◌∙◌}
use Rattle.cell_region.specs.Chunks.{IsRun, chunk_size}
use Rattle.cell_region.proofs.Places.{long_at, run_in, view_length}
use Rattle.cell_region.proofs.region.Region.run.Goals as goal

pub slice-requires-clause-within : goal.slice-requires-clause-within
slice-requires-clause-within g c =
    let s = c.self.inside in
    let m = view_length s.chunks.items s.len c.args.self.now c.self.invariant.0 c.self.invariant.1 c.self.view_is in
    let q : c.args.start / chunk_size < length s.chunks.items = omega arith in
    let l = ap length c.index.ensures ∙ long_at s.chunks.items (c.args.start / chunk_size) c.index.result.now c.self.invariant.0 q in
    omega (arith, c.min-count.ensures)

pub returns-clause-cells : goal.returns-clause-cells
returns-clause-cells g c =
    let s = c.self.inside in
    let first = c.args.start % chunk_size in
    let count = c.min-count.result in
    let run = c.slice.result.now in
    let e : (first + count) - first ≡ count = omega arith in
    let f = subst (λ (n : ℕ). IsRun c.index.result.now first n run) e c.slice.ensures in
    subst (λ (n : ℕ). IsRun c.args.self.now c.args.start n run) (sym f.length)
    (run_in s.chunks.items c.args.self.now s.len c.args.start count c.index.result.now run c.self.invariant.0 c.self.invariant.1 c.self.view_is (omega (arith, c.min-count.ensures)) (omega (arith, c.min-count.ensures)) (omega (arith, c.min-count.ensures)) c.index.ensures f)
