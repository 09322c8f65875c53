-- Pieces one at a time: all that is to be believed of them. Assumes nothing.
use Prim.Native.Nat.{ℕ, ◌≤◌}
use native.Mathlib.Nat.{zero-add}
use mathlib.Core.Path.{◌≡◌, refl, sym, ap, ◌∙◌, subst}
use mathlib.Core.Logic.{◌↔◌}
use mathlib.Core.List.{List, [], ◌∷◌, ◌++◌, map, flat_map}
use lib.ListN.{length}
use Rattle.slices.specs.Record.{records}
use Rattle.outcomes.specs.Outcome.{OutcomeOf, refused, done, RowOf, first_of, NoneHolds, Given}
use Rattle.outcomes.proofs.Laws.Outcome.{none_passes, refused_exactly, stops}
use Rattle.runs.specs.Runs.{Run, runs}
use Rattle.plans.specs.Calls.{chunk_rows, plan_bytes, read_outcome}
use Rattle.plans.specs.Location.{Site, next_site}
use Rattle.plans.specs.Piece.{encode_piece, encode_run, encode_pieces, in_chunk, chunk_bytes}
use Rattle.plans.specs.Plan.{cut_to, location_from, pieces, read_plan}
use Rattle.plans.proofs.Laws.Calls.{read_fits}
use Rattle.files.specs.Calls.{lists_in, chunks_rows, file_bytes, file_outcome}
use Rattle.files.specs.File.{site_from, file_end, file_plan}
use Rattle.files.specs.File as across
use Rattle.files.proofs.Laws.Calls.{file_fits}
use Rattle.files.proofs.Laws.Runs.{runs_in_chunk}
use Rattle.stepping.specs.Step.{piece_in, next_step, chunk_site}
use Rattle.stepping.specs.Calls.{next_outcome, plan_pieces, next_file_outcome, file_pieces}
use Rattle.stepping.specs.Claims.{PieceByPiece, OneAtATime}
use Rattle.stepping.proofs.Laws.Steps.{piece_by_piece}
use Rattle.outcomes.specs.Outcome.{Refusal}
use Rattle.joined.specs.Refusals.{ListRefusal}

-- ---- the pieces of a plan are its bytes

pieces_bytes : (rs : List (Run Site)) → flat_map encode_piece (map piece_in rs) ≡ encode_pieces rs
unfolding flat_map piece_in encode_pieces encode_run
pieces_bytes [] = refl
pieces_bytes (r ∷ rs) = ap (λ (bs : List ℕ). encode_run r ++ bs) (pieces_bytes rs)

-- ---- two calls with the same rows are refused alike

alike : {R A B : Type 0} (rows : List (RowOf R)) (a : A) (b : B) (o : OutcomeOf R B) → o ≡ first_of rows (done b) → (r : R) → (first_of rows (done a) ≡ refused r) ↔ (o ≡ refused r)
alike rows a b o e r = (λ h. e ∙ stops a rows (done b) r h, λ h. stops b rows (done a) r (sym e ∙ h))

-- ---- a read of one chunk

module _ (bs : List ℕ) (index l B start count : ℕ) where
  abbrev site : ℕ → Site
  site = chunk_site index B (records bs) start

  plan_runs : map (in_chunk index 0) (read_plan B (records bs) l start count) ≡ runs next_site site 0 (cut_to l start count)
  unfolding read_plan pieces chunk_site
  plan_runs =
      sym (runs_in_chunk index 0 site (location_from B (records bs) start) 0 (cut_to l start count) (λ j a b. ap site (zero-add j)))

  pub chunk_by_piece : NoneHolds (chunk_rows bs index l B) → PieceByPiece (next_outcome bs index l B start count) (plan_pieces bs index l B start count) (cut_to l start count)
  unfolding plan_pieces next_outcome
  chunk_by_piece h =
      subst (λ (rs : List (Run Site)). PieceByPiece (next_outcome bs index l B start count) (map piece_in rs) (cut_to l start count)) (sym plan_runs)
      (piece_by_piece site (cut_to l start count) (next_outcome bs index l B start count) (λ at. none_passes (chunk_rows bs index l B) (done (next_step site (cut_to l start count) at)) h))

  pub chunk_pieces_bytes : flat_map encode_piece (plan_pieces bs index l B start count) ≡ plan_bytes bs index l B start count
  unfolding plan_pieces plan_bytes chunk_bytes
  chunk_pieces_bytes = pieces_bytes (map (in_chunk index 0) (read_plan B (records bs) l start count))

  pub next_refused_exactly : (at : ℕ) (r : Refusal) → (next_outcome bs index l B start count at ≡ refused r) ↔ Given (chunk_rows bs index l B) r
  unfolding next_outcome
  next_refused_exactly at r = refused_exactly (next_step site (cut_to l start count) at) (chunk_rows bs index l B) r

  pub next_refused_alike : (at room : ℕ) → length (plan_bytes bs index l B start count) ≤ room → (r : Refusal)
      → (next_outcome bs index l B start count at ≡ refused r) ↔ (read_outcome bs index l B start count room ≡ refused r)
  unfolding next_outcome
  next_refused_alike at room h r =
      alike (chunk_rows bs index l B) (next_step site (cut_to l start count) at) (plan_bytes bs index l B start count) (read_outcome bs index l B start count room)
      (read_fits bs index l B start count room h) r

-- ---- a read across chunks

module _ (bs ns : List ℕ) (first file_len B start count : ℕ) where
  abbrev places : ℕ
  places = cut_to (file_end first file_len (length (lists_in bs ns))) start count

  abbrev site_of : ℕ → Site
  site_of = site_from first B (lists_in bs ns) start

  pub file_by_piece : NoneHolds (chunks_rows bs ns first B) → PieceByPiece (next_file_outcome bs ns first file_len B start count) (file_pieces bs ns first file_len B start count) places
  unfolding file_pieces file_plan across.file_pieces next_file_outcome
  file_by_piece h =
      piece_by_piece site_of places (next_file_outcome bs ns first file_len B start count) (λ at. none_passes (chunks_rows bs ns first B) (done (next_step site_of places at)) h)

  pub file_pieces_bytes : flat_map encode_piece (file_pieces bs ns first file_len B start count) ≡ file_bytes bs ns first file_len B start count
  unfolding file_pieces file_bytes
  file_pieces_bytes = pieces_bytes (file_plan first B (lists_in bs ns) file_len start count)

  pub next_file_refused_exactly : (at : ℕ) (r : ListRefusal) → (next_file_outcome bs ns first file_len B start count at ≡ refused r) ↔ Given (chunks_rows bs ns first B) r
  unfolding next_file_outcome
  next_file_refused_exactly at r = refused_exactly (next_step site_of places at) (chunks_rows bs ns first B) r

  pub next_file_refused_alike : (at room : ℕ) → length (file_bytes bs ns first file_len B start count) ≤ room → (r : ListRefusal)
      → (next_file_outcome bs ns first file_len B start count at ≡ refused r) ↔ (file_outcome bs ns first file_len B start count room ≡ refused r)
  unfolding next_file_outcome
  next_file_refused_alike at room h r =
      alike (chunks_rows bs ns first B) (next_step site_of places at) (file_bytes bs ns first file_len B start count) (file_outcome bs ns first file_len B start count room)
      (file_fits bs ns first file_len B start count room h) r

-- ---- both

pub one_at_a_time : OneAtATime
one_at_a_time =
    record {
      chunk = chunk_by_piece;
      chunk_bytes_lem = chunk_pieces_bytes;
      chunk_refused = next_refused_exactly;
      chunk_alike = next_refused_alike;
      file = file_by_piece;
      file_bytes_lem = file_pieces_bytes;
      file_refused = next_file_refused_exactly;
      file_alike = next_file_refused_alike;
    }
