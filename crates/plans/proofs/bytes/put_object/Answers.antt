-- `plans::bytes::put_object` meets its contract: the four numbers, put one after the other. Assumes nothing.
use Rattle.plans.proofs.Laws.Pieces.{object_put}
use Rattle.plans.proofs.bytes.put_object.Goals as goal

pub returns : goal.returns
returns c =
    object_put c.args.out.now c.args.to _ _ c.args.block.shifts _ _ c.requires.passes.1 c.requires.record_size_in_bounds.1
    c.read_id.ensures c.write_be64.ensures c.number_at.ensures c.write_be32.ensures
    c.length_at.ensures c.write_be32-2.ensures c.place_at.ensures c.write_be32-3.ensures
