use Rattle.outside.specs.Depot.{is_absent, is_longer}
use Rattle.outside.proofs.FolderLemmas.{kept_last, read_tells_on, read_bytes}
use Rattle.outside.proofs.folder_depot.FolderDepotDepot.TheImpl.Goals as goal

pub read-tells : goal.read-tells
read-tells g c =
    let old = c.args.self.now.answers in
    let new = c.new.self.now.answers in
    record {
      told = read_tells_on c.result old new c.args.name.now c.args.limit c.ensures.bytes c.ensures.absent c.ensures.too_long c.ensures.no_answer c.ensures.no_memory;
      faults = c.ensures.later;
      within = c.ensures.within;
      bytes = read_bytes c.result old new c.args.name.now c.ensures.bytes;
      absent = λ e. kept_last old new (is_absent c.args.name.now) (c.ensures.absent e);
      too_long = λ e. kept_last old new (is_longer c.args.name.now c.args.limit) (c.ensures.too_long e);
      failed = λ failed. record { rose = c.ensures.rose failed; named = c.ensures.failed_name failed };
      other_answer = c.ensures.other_answer;
    }
