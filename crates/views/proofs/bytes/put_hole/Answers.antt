-- `views::bytes::put_hole` meets its contract: the fields, put one after the other. Assumes nothing.
use mathlib.Core.Path.{refl}
use Rattle.views.proofs.Laws.Tops.{head_put}
use Rattle.views.proofs.bytes.put_hole.Goals as goal

pub returns : goal.returns
returns c =
    head_put c.args.out.now c.args.at _ _ _ _ _ _ _ c.requires
    c.write_be32.ensures refl c.write_be64.ensures refl c.write_be32-2.ensures refl c.write_be32-3.ensures
