-- `compaction::compact_accepted` meets its contract: each answer is that of its case. Assumes nothing.
use mathlib.Core.Path.{refl, sym, ◌∙◌}
use Rattle.slices.specs.Record.{count}
use Rattle.compaction.proofs.Laws.Calls.{later_10, later_9, later_12}
use Rattle.outcomes.proofs.Laws.Answers.{replies_refused, replies_as}
use Rattle.compaction.proofs.compact_accepted.Goals as goal

pub returns-then-list-k : goal.returns-then-list-k
unfolding count
returns-then-list-k c =
    replies_refused _ _ _ _ (later_10 _ _ _ _ _ _ _ c.if-list-k.true) c.from.ensures (refl, (refl, tt))

pub returns-then-in_use : goal.returns-then-in_use
unfolding count
returns-then-in_use c =
    replies_refused _ _ _ _ (later_9 _ _ _ _ _ _ _ c.if-list-k.false (sym c.in_use.ensures ∙ c.if-in_use.true)) c.from-then-in_use.ensures (refl, (refl, tt))

pub compact_first-requires : goal.compact_first-requires
unfolding count
compact_first-requires c =
    record { accepts = c.requires.accepts; k_bound = c.if-list-k.false }

pub returns : goal.returns
unfolding count
returns c =
    replies_as _ _ _ _ (later_12 _ _ _ _ _ _ _ c.if-list-k.false (sym c.in_use.ensures ∙ c.if-in_use.false)) c.compact_first.ensures
