-- No positions have no pieces to deliver. Assumes nothing.
use Prim.Native.Nat.{ℕ, ◌-◌, ◌≤◌, zero-le}
use native.Mathlib.Omega.{arith}
use mathlib.Core.Path.{◌≡◌, refl, sym}
use mathlib.Core.List.{List, [], flat_map}
use lib.ListN.{length}
use Rattle.codec.proofs.Laws.Splice.{splice-nil}
use Rattle.runs.specs.Runs.{runs}
use Rattle.slices.specs.declared.Record.{Record}
use Rattle.plans.specs.Piece.{encode_pieces, chunk_bytes}
use Rattle.plans.specs.Plan.{pieces}
use Rattle.outcomes.specs.Answers.{Answers}
use Rattle.outcomes.specs.Outcome.{delivered}
use Rattle.outcomes.proofs.Laws.Delivery.{delivered_room}
use Rattle.std.specs.Prelude.{Ok, Err}

pub none_delivered : (index B : ℕ) (rs : List Record) (from end : ℕ) (out : List ℕ) → end ≤ from
    → Answers (delivered (chunk_bytes index 0 (pieces B rs from (end - from))) (length out)) out (Ok 0) out
unfolding chunk_bytes encode_pieces pieces runs flat_map
none_delivered index B rs from end out h =
    let e : end - from ≡ 0 = omega arith in
    rw e (delivered_room _ [] out Err Ok zero-le out 0 refl (sym (splice-nil out 0)))
