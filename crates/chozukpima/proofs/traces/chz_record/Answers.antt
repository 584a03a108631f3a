-- What is recorded has a time, so the sum is one. Assumes nothing.
use Rattle.chozukpima.proofs.Tracing.{time_fits}
use Rattle.chozukpima.proofs.traces.chz_record.Goals as goal

pub overflow_add-time : goal.overflow_add-time
overflow_add-time c = time_fits c.args.time.now c.args.gap c.args.station c.args.frame.now c.args.room.now c.write.new.room c.write.result c.write.ensures c.in-Ok.length c.in-Ok.is
