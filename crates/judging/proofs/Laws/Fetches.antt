-- An accepted plan fetches what the file has, in whatever order its pieces stand. Assumes nothing.
use Prim.Native.Nat.{ℕ, suc, ◌+◌, ◌-◌, ◌<◌}
use native.Mathlib.Omega.{arith}
use mathlib.Core.Path.{◌≡◌, refl, sym, ap, ◌∙◌}
use mathlib.Core.Bool.{Bool, true, false, ◌&&◌, cond}
use mathlib.Core.List.{List, [], ◌∷◌, map}
use lib.Dec.{leb, ltb}
use borrow.Author.Tests.{leb-true, ltb-true}
use Rattle.codec.specs.All.{All}
use Rattle.codec.proofs.Laws.Bools.{and_both}
use Rattle.outcomes.specs.Outcome.{done}
use Rattle.outcomes.proofs.Laws.Outcome.{done_is}
use Rattle.runs.specs.Runs.{Run}
use Rattle.plans.specs.Location.{Site, onward}
use Rattle.plans.specs.Piece.{in_store, pieces_in, store_runs}
use Rattle.plans.specs.Store.{Store, fetch, fetched, reads}
use Rattle.files.specs.Calls.{lists_in, chunks_rows}
use Rattle.files.specs.File.{site_at, site_from, file_reads, file_plan}
use Rattle.files.proofs.Laws.Bytes.{file_plan_bytes}
use Rattle.coverage.specs.Held.{holds, holders}
use Rattle.judging.specs.Calls.{site_in, read_length, judge_outcome}
use Rattle.judging.specs.Claims.{Acceptable}
use Rattle.judging.specs.Judge.{accepted, verdict}
use Rattle.judging.proofs.Laws.Exactly.{rejected_exactly}
use Rattle.judging.proofs.Laws.Right.{Right, right_pieces}

module _ (f : ℕ → Site) (n : ℕ) (st : Store) where
  -- the first piece that holds a place fetches the byte that lies there
  right_fetches : (rs : List (Run Site)) → All (Right f n) rs → (i : ℕ) → 0 < holders rs i → fetched st (map in_store rs) i ≡ fetch st (f i).location
  unfolding holders holds fetched in_store
  right_fetches [] a i h = absurd (omega arith)
  right_fetches (r ∷ rs) a i h = go (holds r i) refl (right_fetches rs a.1 i) h
    where
      go : (t : Bool) → (leb r.start i && ltb i (r.start + r.len)) ≡ t → (0 < holders rs i → fetched st (map in_store rs) i ≡ fetch st (f i).location)
          → 0 < cond t (suc (holders rs i)) (holders rs i)
          → cond t (fetch st (onward r.first.location (i - r.start))) (fetched st (map in_store rs) i) ≡ fetch st (f i).location
      go true e rest h =
          let b = and_both (leb r.start i) (ltb i (r.start + r.len)) e in
          let l = leb-true r.start i b.0 in
          let m = ltb-true i (r.start + r.len) b.1 in
          let k : r.start + (i - r.start) ≡ i = omega arith in
          ap (λ (s : Site). fetch st s.location) (rw k at (a.0.sites (i - r.start) (omega arith)))
      go false e rest h = rest h

  pub acceptable_fetches : (plan : List ℕ) → Acceptable f n plan → (i : ℕ) → i < n → fetched st (store_runs plan) i ≡ fetch st (f i).location
  unfolding store_runs
  acceptable_fetches plan a i l = right_fetches (pieces_in plan) (right_pieces f n plan a.right) i (omega (arith, a.once i l))

-- ---- of a file

module _ (bs lengths : List ℕ) (first file_len B start count : ℕ) (plan : List ℕ) (h : judge_outcome bs lengths first file_len B start count plan ≡ done accepted) where
  judged : Acceptable (site_in bs lengths first B start) (read_length bs lengths first file_len start count) plan
  unfolding judge_outcome
  judged =
      let f = site_in bs lengths first B start in
      let n = read_length bs lengths first file_len start count in
      (rejected_exactly f n plan).accepts.0 (sym (done_is (verdict f n plan) (chunks_rows bs lengths first B) accepted h))

  pub accepted_fetches : (st : Store) (i : ℕ) → i < read_length bs lengths first file_len start count
      → (fetched st (store_runs plan) i ≡ fetched st (map in_store (file_plan first B (lists_in bs lengths) file_len start count)) i)
      × (fetched st (store_runs plan) i ≡ file_reads B st (lists_in bs lengths) (start + i))
  unfolding site_in read_length site_from site_at file_reads reads
  accepted_fetches st i l =
      let theirs = acceptable_fetches (site_in bs lengths first B start) (read_length bs lengths first file_len start count) st plan judged i l in
      (theirs ∙ sym (file_plan_bytes st first B (lists_in bs lengths) file_len start count i l), theirs)
