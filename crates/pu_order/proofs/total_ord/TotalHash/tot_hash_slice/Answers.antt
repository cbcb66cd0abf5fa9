use Rattle.std.proofs.Common.{rules}
use Rattle.pu_order.proofs.Hashes.{each_more}
use Rattle.pu_order.proofs.total_ord.TotalHash.tot_hash_slice.Goals as goal

pub loop-i-preserved : goal.loop-i-preserved
loop-i-preserved g c =
    search (rules, each_more g.H.Hasher.write g.Self.TotalHash.tot_hash_input c.args.state.now c.args.data.now c.loop-i.i c.index-data-i.result c.loop-i-test.true c.index-data-i.is)
