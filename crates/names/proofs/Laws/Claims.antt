-- What is to be believed of object names holds. Assumes nothing.
use mathlib.Core.Path.{ap}
use Rattle.names.specs.Names.{volume_part}
use Rattle.names.specs.Claims.{NamesInverse}
use Rattle.names.proofs.Laws.Names.{object_name_lem, quotients_agree}
use Rattle.names.proofs.Laws.Full.{full_name_lem, full_not_short, full_quotients_agree, volume_back, volume_front}

pub names_inverse : NamesInverse
unfolding volume_part
names_inverse =
    record {
      short = object_name_lem;
      full = full_name_lem;
      not_both = full_not_short;
      quotients = quotients_agree;
      full_quotients = full_quotients_agree;
      volume = volume_back;
      part = volume_front;
      empty = λ t r e. ap volume_part e;
    }
