-- `views::bytes::put_given` meets its contract: the fields, put one after the other. Assumes nothing.
use Rattle.views.proofs.Laws.Tops.{head_put}
use Rattle.views.proofs.bytes.put_given.Goals as goal

pub returns : goal.returns
returns c =
    head_put c.args.out.now c.args.at _ _ _ _ _ _ _ c.requires.record_size_in_bounds_2
    c.write_be32.ensures c.read_id.ensures c.write_be64.ensures c.size_at.ensures c.write_be32-2.ensures
    c.off_at.ensures c.write_be32-3.ensures
