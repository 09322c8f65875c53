-- `scanning::nearer` meets its contract: record i is skipped where it covers no position before the nearest, else it is the nearest. Assumes nothing.
use Rattle.std.proofs.Common.{sym, ◌∙◌, arith}
use Rattle.slices.specs.Passes.{Passes}
use Rattle.slices.specs.Record.{count}
use Rattle.slices.proofs.Laws.Record.{records_at}
use Rattle.scanning.proofs.Laws.Scan.{nearest_before, nearest_behind, nearest_empty, nearest_between}
use Rattle.scanning.proofs.nearer.Goals as goal

pub read_pos-pos-requires : goal.read_pos-pos-requires
unfolding count
read_pos-pos-requires c = omega arith

pub returns-then-pos-p : goal.returns-then-pos-p
returns-then-pos-p c = nearest_before _ _ _ _ _ _ c.requires.p_value c.requires.nearest (omega arith)

pub returns-then-near-pos : goal.returns-then-near-pos
returns-then-near-pos c = nearest_behind _ _ _ _ _ _ c.requires.p_value c.requires.nearest (omega arith)

pub read_len-requires : goal.read_len-requires
unfolding count
read_len-requires c = omega arith

pub is_empty-requires : goal.is_empty-requires
is_empty-requires c = omega (arith, (records_at Passes _ c.requires.all _ c.requires.i_bound.0).inside)

pub returns-then-is_empty : goal.returns-then-is_empty
returns-then-is_empty c =
    nearest_empty _ _ _ _ _ _ c.requires.p_value c.requires.nearest _ c.read_len.ensures (sym c.is_empty.ensures ∙ c.if-is_empty.true)

pub returns : goal.returns
returns c =
    let some = sym c.is_empty.ensures ∙ c.if-is_empty.false in
    nearest_between _ _ _ _ _ _ c.requires.p_value c.requires.nearest _ _ c.read_pos-pos.ensures c.read_len.ensures (omega arith) (omega arith) some c.requires.i_bound.0
