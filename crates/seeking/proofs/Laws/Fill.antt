-- A row that is filled record by record. Assumes nothing.
use Prim.Native.Nat.{ℕ, suc, ◌+◌, ◌<◌}
use native.Mathlib.Numerals.{add-one}
use mathlib.Core.Path.{◌≡◌, refl, sym, ap, ◌∙◌}
use mathlib.Core.List.{List, [], ◌∷◌, ◌++◌, append_assoc}
use lib.ListN.{length, get_or, drop, set}
use lib.Seq.{drop-cons, set_at}
use Rattle.codec.specs.Groups.{groups_from}
use Rattle.codec.proofs.Laws.Groups.{length-groups}
use Rattle.slices.specs.Record.{decode, record_at, records_from}
use Rattle.slices.specs.Limits.{record_size}
use Rattle.slices.proofs.Laws.Record.{records_more}
use Rattle.slices.specs.declared.Record.{Record}
use Rattle.seeking.specs.Seek.{no_segment}
use Rattle.seeking.specs.Inner.{filled}

pub length_from : (bs : List ℕ) (n : ℕ) → length (records_from bs 0 n) ≡ n
unfolding records_from
length_from bs n = length-groups decode record_size bs 0 n

module _ (bs : List ℕ) (row : List Record) where
  pub filled_start : filled bs row 0 ≡ row
  unfolding filled records_from groups_from
  filled_start = refl

  -- record i is put in its place
  pub filled_more : (i : ℕ) → i < length row → set (filled bs row i) i (record_at bs i) ≡ filled bs row (i + 1)
  unfolding filled
  filled_more i h =
      ap (λ (t : List Record). set (records_from bs 0 i ++ t) i (record_at bs i)) (drop-cons row i no_segment h)
      ∙ set_at (records_from bs 0 i) (get_or row i no_segment) (drop (suc i) row) (record_at bs i) i (length_from bs i)
      ∙ rw (add-one, records_more bs i) (sym (append_assoc (records_from bs 0 i) (record_at bs i ∷ []) (drop (suc i) row)))
