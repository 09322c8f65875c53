-- The starred cases hold of the definitions: each is computed, or follows from a law for every list. Assumes nothing.
use Prim.Native.Nat.{ℕ, ◌%◌}
use native.Mathlib.Omega.{arith}
use mathlib.Core.Path.{◌≡◌, refl}
use mathlib.Core.Logic.{◌≢◌}
use lib.ListN.{length}
use Rattle.slices.specs.Limits.{record_size, chunk}
use Rattle.slices.specs.Passes.{Passes}
use Rattle.outcomes.specs.Numbers as number
use Rattle.outcomes.specs.Outcome.{refused, done, refusal, first_of}
use Rattle.slices.proofs.Laws.Refusals.{check_1, accepted_exactly}
use mathlib.Core.List.{flat_map, List}
use Rattle.codec.specs.All.{All}
use Rattle.codec.specs.Fixed.{big_endian, number_at}
use Rattle.codec.specs.Groups.{groups_from}
use Rattle.slices.specs.Cover.{covers, given, layer, over, cover}
use Rattle.slices.specs.Record.{encode, encode_all, decode, record_at, records_from, count, records}
use Rattle.slices.specs.Refusals.{not_whole, too_many, past_chunk, too_large, zeros_with_slice, past_slice, other_size, two_sizes, rows_from, size_rows, list_rows, check_outcome, chunk_too_long}
use Rattle.slices.proofs.Laws.Sizes.{agreed_all}
use Rattle.runs.specs.Runs.{join, runs}
use Rattle.views.specs.View.{next, view_runs, as_record, run_record, view}
use Rattle.views.specs.Calls.{view_bytes, view_rows, view_outcome}
use Rattle.codec.specs.Decimal.{decimal, digit_of}
use Rattle.codec.specs.Scan.{decimal_at}
use Rattle.texts.specs.Parts.{scan}
use Rattle.texts.specs.Calls.{write_text as writing, reading}
use Rattle.keys.specs.Keys.{read_redis}
use Rattle.names.specs.Names.{object_allowed, object_name}
use Rattle.cases.specs.Starred.{Holds, table}

-- bytes that are no whole records
odd : (bs : List ℕ) (n : ℕ) → length bs ≡ n → n % record_size ≢ 0 → check_outcome bs ≡ refused (refusal number.not_whole 0)
odd bs n e h = check_1 bs (λ k. h (rw e at k))

-- the bytes of one record
one : (bs : List ℕ) → length bs ≡ 24 → All Passes (records bs) → check_outcome bs ≡ done 1
unfolding count
one bs e p =
    let n : count bs ≡ 1 = omega arith in
    let alone = agreed_all bs 1 (omega arith) (λ j l k m. absurd (omega arith)) in
    rw n at ((accepted_exactly bs).1 (record { whole = omega arith; few = omega arith; pass = p; one_size = alone }))

pub starred_cases : All Holds table
unfolding Holds table flat_map big_endian number_at chunk covers given layer over cover encode encode_all decode record_at groups_from records_from count records first_of not_whole too_many past_chunk too_large zeros_with_slice past_slice other_size two_sizes rows_from size_rows list_rows check_outcome join runs next view_runs as_record run_record view chunk_too_long view_bytes view_rows view_outcome decimal digit_of decimal_at scan writing reading read_redis object_allowed object_name
starred_cases = (refl, (refl, (one, ((λ bs e. odd bs 23 e (λ k. omega arith)), ((λ bs e. odd bs 25 e (λ k. omega arith)), (refl, (refl, (refl, (refl, (refl, (refl, (refl, (refl, (refl, tt))))))))))))))
