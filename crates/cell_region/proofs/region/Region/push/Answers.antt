use Rattle.std.proofs.Common.{◌≡◌, ◌<◌, ◌*◌, ◌+◌, length, take, arith, ap, ◌∙◌, refl}
use Rattle.cell_region.specs.Chunks.{AreLong, joined, chunk_size}
use Rattle.cell_region.proofs.{Places.pushed, region.Region.push.Goals.then-self-len+in_ok-make_room, region.Region.push.Goals.else-self-len}
use Rattle.cell_region.proofs.region.Region.push.Goals as goal

pub returns-clause-pushed : goal.returns-clause-pushed
returns-clause-pushed g c =
    let n = c.if-self-len.self-inside.len in
    let bs = c.if-self-len.self-inside.chunks.items in
    let same : n ≡ c.self.inside.len = elim c.if-self-len.branch [
      | then-self-len+in_ok-make_room w ↦ rw w.self-inside-is refl
      | else-self-len w ↦ rw w.self-inside-is refl
    ] in
    let end : c.in-Some.end ≡ n + 1 = let e = c.in-Some.ensures in omega arith in
    let long : AreLong bs = elim c.if-self-len.branch [
      | then-self-len+in_ok-make_room w ↦ rw w.self-inside-is w.make_room.ensures.long
      | else-self-len w ↦ rw w.self-inside-is c.self.invariant.0
    ] in
    let room : n < chunk_size * length bs = elim c.if-self-len.branch [
      | then-self-len+in_ok-make_room w ↦ rw w.self-inside-is (let e = c.in-Some.ensures in let r = w.in_ok-make_room.ensures.room in omega arith)
      | else-self-len w ↦ rw w.self-inside-is (let f = w.if-self-len.false in omega arith)
    ] in
    let seen : take n (joined bs) ≡ c.args.self.now = elim c.if-self-len.branch [
      | then-self-len+in_ok-make_room w ↦ rw w.self-inside-is (w.make_room.ensures.kept c.self.inside.len c.self.invariant.1 ∙ c.self.view_is)
      | else-self-len w ↦ rw w.self-inside-is c.self.view_is
    ] in
    ap (λ k. take k (joined c.set_cell.new.chunks.items)) end ∙ pushed bs c.set_cell.new.chunks.items n c.args.self.now c.args.content long room seen c.set_cell.ensures.set
