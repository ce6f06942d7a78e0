use Rattle.job_pool.proofs.Crossing.{crosses, owner_send, thief_send, checked_sync, region_send, tables_send, selections_send}
use Rattle.job_pool.proofs.workers.work_all.Goals as goal

pub for_each_mut-requires-send-T : goal.for_each_mut-requires-send-T
for_each_mut-requires-send-T g c κs within = search (owner_send, thief_send, checked_sync, region_send, tables_send, selections_send, crosses) depth 60 fits 5000
