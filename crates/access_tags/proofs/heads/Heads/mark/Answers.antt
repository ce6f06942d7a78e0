use Rattle.access_tags.proofs.HeadNotes.{one_marked}
use Rattle.access_tags.proofs.heads.Heads.mark.Goals as goal

pub returns-clause-marked : goal.returns-clause-marked
returns-clause-marked c u d e =
    let h = c.args.self.now in
    rw c.set.ensures (one_marked h.classes h.marks c.make_room.new.cells c.args.test c.args.class c.place-at.result c.place-at.ensures c.requires c.in_ok-make_room.ensures.kept c.in_ok-make_room.ensures.room u d e)
