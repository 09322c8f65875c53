-- The pieces of a file's plan, list by list: what one list adds, and what is still to come. Assumes nothing.
use Prim.Native.Nat.{ℕ, suc, ◌+◌, ◌-◌, ◌*◌, ◌/◌, ◌%◌, ◌^◌, ◌<◌, ◌≤◌}
use native.Mathlib.Omega.{arith}
use native.Mathlib.Nat.{add-zero, zero-add, div-le_self}
use native.Mathlib.Numerals.{add-one}
use mathlib.Core.Path.{◌≡◌, refl, sym, ◌∙◌}
use mathlib.Core.Bool.{Bool, true, false, cond}
use mathlib.Core.List.{List, [], ◌∷◌, ◌++◌, map, flat_map}
use lib.ListN.{length, take, drop, get_or, length-map, drop_of_length-le}
use Rattle.codec.specs.All.{All}
use Rattle.codec.specs.Splice.{splice}
use Rattle.codec.proofs.Laws.Groups.{flat_map-append}
use Rattle.codec.proofs.Laws.Splice.{splice-nil}
use Rattle.slices.specs.Accepts.{Accepts}
use Rattle.slices.specs.Limits.{chunk, record_size}
use Rattle.slices.specs.Record.{records}
use Rattle.runs.specs.Runs.{runs}
use Rattle.runs.proofs.Laws.Putting.{Putting, putting_start, putting_room, putting_more, putting_end}
use Rattle.joined.specs.Lists.{total, parts}
use Rattle.joined.proofs.Laws.Lists.{parts-length, Gone, gone_start, gone_next, next_list}
use Rattle.plans.specs.Inner.{front_bytes}
use Rattle.plans.specs.Piece.{piece_size, encode_run, encode_pieces, chunk_bytes}
use Rattle.plans.specs.Plan.{pieces}
use Rattle.plans.proofs.Laws.Pieces.{length-encode_pieces}
use Rattle.files.specs.File.{part_from, part_end, chunk_plan, chunk_plans}
use Rattle.files.specs.Inner.{bytes_of}
use Rattle.files.specs.Limits.{max_lists}
use Rattle.files.proofs.Laws.Few.{plans_few, records_fill, records_most}
use Rattle.slices.specs.declared.Record.{Record}

-- ---- one list

module _ (first B from end k : ℕ) (rs : List Record) (f e : ℕ) (starts : f ≡ part_from from k) (ends : e ≡ part_end end k) where
  -- a chunk without a place of the read has no pieces
  none_here : e ≤ f → encode_pieces (chunk_plan first B from end k rs) ≡ []
  unfolding chunk_plan encode_pieces pieces runs flat_map
  none_here h =
      let z : part_end end k - part_from from k ≡ 0 = omega (arith, starts, ends) in
      rw z

  pub nothing_put : e ≤ f → (write : Bool) (out : List ℕ) (at : ℕ)
      → (at ≡ at + length (encode_pieces (chunk_plan first B from end k rs))) × (out ≡ cond write (splice out at (encode_pieces (chunk_plan first B from end k rs))) out)
  nothing_put h write out at = rw (none_here h) (sym (add-zero at), go write)
    where
      go : (t : Bool) → out ≡ cond t (splice out at []) out
      go true = sym (splice-nil out at)
      go false = refl

  -- its index and the places before it are the halves of a number
  pub front_here : (b : ℕ) → b ≡ k * chunk - from → b < 2 ^ 32
      → front_bytes ((first + k) * 4294967296 + b) (pieces B rs f (e - f)) ≡ encode_pieces (chunk_plan first B from end k rs)
  unfolding chunk_plan chunk_bytes
  front_here b h l =
      let x : ((first + k) * 4294967296 + b) / 4294967296 ≡ first + k = omega arith in
      let y : ((first + k) * 4294967296 + b) % 4294967296 ≡ b = omega arith in
      rw (x, y, h, starts, ends)

-- ---- list by list

module _ (first B from end : ℕ) where
  bytes_next : (k : ℕ) (l : List ℕ) (ls : List (List ℕ)) → bytes_of first B from end k (l ∷ ls) ≡ encode_pieces (chunk_plan first B from end k (records l)) ++ bytes_of first B from end (suc k) ls
  unfolding chunk_plans encode_pieces
  bytes_next k l ls = flat_map-append encode_run (chunk_plan first B from end k (records l)) (chunk_plans first B from end (suc k) (map records ls))

  -- k lists are planned; their bytes end at `at`, and those of their plan at `to`. Of each list P holds
  pub record Walked (P : List ℕ → Type 0) (ns bs : List ℕ) (write : Bool) (out₀ out : List ℕ) (at to k : ℕ) : Type 0 where
    pub gone : Gone ns bs at k
    pub holds : All P (parts (drop k ns) (drop at bs))
    pub puts : Putting write out₀ 0 (bytes_of first B from end 0 (parts ns bs)) out to (bytes_of first B from end k (parts (drop k ns) (drop at bs)))

  module _ (P : List ℕ → Type 0) (ns bs : List ℕ) (write : Bool) where
    pub walked_start : (out : List ℕ) → total ns ≡ length bs → All P (parts ns bs) → (write ≡ true → length (bytes_of first B from end 0 (parts ns bs)) ≤ length out)
        → Walked P ns bs write out out 0 0 0
    walked_start out h a r = record { gone = gone_start ns bs h; holds = a; puts = putting_start _ _ _ _ (λ t. omega (arith, r t)) }

    module _ (out₀ out : List ℕ) (at to k : ℕ) (w : Walked P ns bs write out₀ out at to k) where
      -- the next list, which stands up to `stop`
      module _ (h : k < length ns) (stop : ℕ) (e : stop ≡ at + get_or ns k 0) where
        abbrev list : List ℕ
        list = take (stop - at) (drop at bs)

        left_is : parts (drop k ns) (drop at bs) ≡ list ∷ parts (drop (suc k) ns) (drop stop bs)
        left_is = next_list ns bs at k w.gone h stop e

        pub walked_holds : P list
        walked_holds = (rw left_is at w.holds).0

        next : Putting write out₀ 0 (bytes_of first B from end 0 (parts ns bs)) out to (encode_pieces (chunk_plan first B from end k (records list)) ++ bytes_of first B from end (suc k) (parts (drop (suc k) ns) (drop stop bs)))
        next = rw (left_is, bytes_next k list (parts (drop (suc k) ns) (drop stop bs))) at w.puts

        pub walked_room : write ≡ true → to + length (encode_pieces (chunk_plan first B from end k (records list))) ≤ length out
        walked_room t = putting_room _ _ _ _ out to (encode_pieces (chunk_plan first B from end k (records list))) (bytes_of first B from end (suc k) (parts (drop (suc k) ns) (drop stop bs))) next t

        pub walked_more : (out₁ : List ℕ) (to₁ : ℕ) → to₁ ≡ to + length (encode_pieces (chunk_plan first B from end k (records list)))
            → out₁ ≡ cond write (splice out to (encode_pieces (chunk_plan first B from end k (records list)))) out → Walked P ns bs write out₀ out₁ stop to₁ (k + 1)
        walked_more out₁ to₁ g p =
            rw add-one
            (record {
              gone = gone_next ns bs at k w.gone h stop e;
              holds = (rw left_is at w.holds).1;
              puts = putting_more _ _ _ _ _ _ _ _ next out₁ to₁ p g;
            })

      pub walked_end : length ns ≤ k → (to ≡ length (bytes_of first B from end 0 (parts ns bs))) × (out ≡ cond write (splice out₀ 0 (bytes_of first B from end 0 (parts ns bs))) out₀)
      unfolding parts chunk_plans encode_pieces flat_map
      walked_end h =
          let e = putting_end _ _ _ _ out to (rw (drop_of_length-le ns h) at w.puts) in
          (e.0 ∙ zero-add _, e.1)

  -- ---- how many bytes they are

  module _ (ns bs : List ℕ) (adds : total ns ≡ length bs) (accepts : All Accepts (parts ns bs)) (some : 0 < B) where
    lists : length (map records (parts ns bs)) ≡ length ns
    lists = rw length-map (parts-length ns bs)

    counted : length (bytes_of first B from end 0 (parts ns bs)) ≤ (4 * total (map length (map records (parts ns bs))) + 2 * length ns + (end - from) / B) * piece_size
    counted =
        let z : end - from - (0 * chunk - from) ≡ end - from = omega arith in
        let f = rw (lists, z) at (plans_few first B from end some 0 (map records (parts ns bs))) in
        omega (arith, f, length-encode_pieces (chunk_plans first B from end 0 (map records (parts ns bs))))

    -- a buffer with room for the most that there can be has room for them
    pub bytes_room : (room : ℕ) → (4 * (length bs / record_size) + 2 * length ns + (end - from) / B) * piece_size ≤ room → length (bytes_of first B from end 0 (parts ns bs)) ≤ room
    bytes_room room h = omega (arith, counted, rw adds at (records_fill ns bs (omega arith)))

    bytes_few : length ns ≤ max_lists → end < 2 ^ 32 → length (bytes_of first B from end 0 (parts ns bs)) ≤ 2 ^ 40
    bytes_few h l = omega (arith, counted, records_most ns bs accepts, div-le_self (end - from) B)

    pub walked_low : (P : List ℕ → Type 0) (write : Bool) (out₀ out : List ℕ) (at to k : ℕ) → Walked P ns bs write out₀ out at to k → length ns ≤ max_lists → end < 2 ^ 32 → to ≤ 2 ^ 40
    walked_low P write out₀ out at to k w h l = omega (arith, w.puts.sum, bytes_few h l)
