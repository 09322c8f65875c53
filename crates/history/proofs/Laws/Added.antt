-- What the part promises: behind the older list it is the newer one, byte for byte, and laid over the older cover it is the newer cover.
-- Assumes nothing.
use Prim.Native.Nat.{ℕ, ◌+◌, ◌%◌}
use native.Mathlib.Omega.{arith}
use mathlib.Core.Path.{◌≡◌, sym, ap, ◌∙◌}
use mathlib.Core.Bool.{Bool, true, false}
use mathlib.Core.Logic.{◌↔◌}
use mathlib.Core.List.{List, [], ◌++◌}
use lib.ListN.{length, length-append}
use Rattle.codec.specs.All.{All, Bytes}
use Rattle.codec.proofs.Laws.All.{all_left, all_right}
use Rattle.outcomes.specs.Outcome.{refused, done}
use Rattle.slices.specs.Limits.{record_size}
use Rattle.slices.specs.Record.{records, count, encode_all}
use Rattle.slices.specs.Cover.{cover, over}
use Rattle.slices.specs.Accepts.{Accepts}
use Rattle.slices.specs.Passes.{Passes}
use Rattle.slices.proofs.Laws.Cover.{cover-append}
use Rattle.slices.proofs.Laws.Firsts.{records-append, encode-append}
use Rattle.slices.proofs.Laws.Record.{records_forth}
use Rattle.slices.proofs.Laws.OneSize.{one_size_table, table_one_size, sizes_of, Sized}
use Rattle.history.specs.History.{begins, history_outcome, part_for, added_part, Continues}
use Rattle.history.proofs.Laws.Begins.{begins_exactly, begins_rest}
use Rattle.history.proofs.Laws.Calls.{history_accepts, no_begins}
use Rattle.outcomes.specs.Outcome.{Refusal}
use Rattle.slices.specs.declared.Record.{Record}

-- ---- a list of whole records, and more of them behind it

module _ (older rest newer : List ℕ) (e : older ++ rest ≡ newer) (d : Bytes newer) (a : length older % record_size ≡ 0) (n : length newer % record_size ≡ 0) where
  sum : length older + length rest ≡ length newer
  sum = sym (length-append older rest) ∙ ap length e

  both_bytes : Bytes (older ++ rest)
  both_bytes = rw e d

  rest_whole : length rest % record_size ≡ 0
  rest_whole = omega (arith, sum)

  records_split : records newer ≡ records older ++ records rest
  records_split =
      ap records (sym e)
      ∙ records-append older rest (all_left _ older rest both_bytes) (all_right _ older rest both_bytes) a rest_whole

  module _ (h : Accepts newer) where
    abbrev sizes : ℕ → ℕ
    sizes = sizes_of (records newer)

    passes : All Passes (records older ++ records rest)
    passes = rw (← records_split) h.pass

    sized : All (Sized sizes) (records older ++ records rest)
    sized = rw (← records_split) (one_size_table (records newer) h.one_size)

    -- where the whole is accepted, so is what stands in front
    front_accepts : Accepts older
    unfolding count
    front_accepts =
        record {
          whole = a;
          few = omega (arith, sum, h.few);
          pass = all_left Passes (records older) (records rest) passes;
          one_size = table_one_size sizes (records older) (all_left (Sized sizes) (records older) (records rest) sized);
        }

    -- and what stands behind
    rest_accepts : Accepts rest
    unfolding count
    rest_accepts =
        record {
          whole = rest_whole;
          few = omega (arith, sum, h.few);
          pass = all_right Passes (records older) (records rest) passes;
          one_size = table_one_size sizes (records rest) (all_right (Sized sizes) (records older) (records rest) sized);
        }

module _ (older newer : List ℕ) where
  -- a beginning of an accepted list, in whole records, is accepted
  pub beginning_accepts : Bytes newer → length older % record_size ≡ 0 → Continues older newer → Accepts newer → Accepts older
  beginning_accepts d a c n = front_accepts older c.rest newer c.whole d a n.whole n

  -- of two accepted lists the older is a beginning by its bytes exactly where it is one by its records
  module _ (d : Bytes newer) (b : Bytes older) (a : Accepts older) (n : Accepts newer) where
    split_begins : Continues (records older) (records newer) → begins older newer ≡ true
    split_begins c =
        let w : older ++ encode_all c.rest ≡ newer =
        ap (λ (xs : List ℕ). xs ++ encode_all c.rest) (sym (records_forth older b a.whole))
        ∙ sym (encode-append (records older) c.rest)
        ∙ ap encode_all c.whole
        ∙ records_forth newer d n.whole in
        (begins_exactly older newer).1 (record { rest = encode_all c.rest; whole = w })

    pub begins_records : (begins older newer ≡ true) ↔ Continues (records older) (records newer)
    begins_records = (
      (λ h.
          let c = (begins_exactly older newer).0 h in
          record { rest = records c.rest; whole = sym (records_split older c.rest newer c.whole d a.whole n.whole) }),
      split_begins,
    )

  -- ---- the part

  module _ (h : history_outcome older newer ≡ done false) where
    -- the older list's bytes and the part are the newer's bytes
    pub added_records : older ++ added_part older newer ≡ newer
    unfolding added_part part_for
    added_records = rw h (begins_rest older newer (no_begins older newer h))

    module _ (d : Bytes newer) where
      added_split : records newer ≡ records older ++ records (added_part older newer)
      added_split =
          let a = history_accepts older newer false h in
          records_split older (added_part older newer) newer added_records d a.0.whole a.1.whole

      -- "the old cover with the added records' cover laid over it is the new cover"
      pub added_cover : (p : ℕ) → over (cover (records (added_part older newer)) p) (cover (records older) p) ≡ cover (records newer) p
      added_cover p = sym (ap (λ (rs : List Record). cover rs p) added_split ∙ cover-append (records older) (records (added_part older newer)) p)

      added_accepts : Accepts (added_part older newer)
      added_accepts =
          let a = history_accepts older newer false h in
          rest_accepts older (added_part older newer) newer added_records d a.0.whole a.1.whole a.1

  -- "otherwise hand back the whole newer list"
  pub rewritten_part : history_outcome older newer ≡ done true → added_part older newer ≡ newer
  unfolding added_part part_for
  rewritten_part h = rw h

  -- "a refusal hands back an empty part"
  pub refused_part : (r : Refusal) → history_outcome older newer ≡ refused r → added_part older newer ≡ []
  unfolding added_part part_for
  refused_part r h = rw h

  -- where no list is refused, the part is itself an accepted list
  pub part_accepts : Bytes newer → (t : Bool) → history_outcome older newer ≡ done t → Accepts (added_part older newer)
  part_accepts d true h = rw (rewritten_part h) (history_accepts older newer true h).1
  part_accepts d false h = added_accepts h d
