-- `names::volume::run` meets its contract. The invariant: the run is what was counted and the run of the rest. Assumes nothing.
use lib.ListN.{length, drop}
use Rattle.names.specs.Volume.{volume_run}
use Prim.Native.Nat.{◌+◌, ◌≤◌}
use mathlib.Core.Path.{◌≡◌}
use Rattle.names.proofs.volume.run.Given as goal

abbrev pub invariant-loop-i : goal.invariant-loop-i
invariant-loop-i l = (l.i ≤ length l.text) × (volume_run l.text ≡ l.i + volume_run (drop l.i l.text))
