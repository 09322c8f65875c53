-- What is to be believed of judging a plan. `plans_made_elsewhere` of proofs/Laws/Claims.antt proves it. Assumes nothing.
use Rattle.std.specs.Prelude.{ℕ, ◌+◌, ◌*◌, ◌<◌, ◌≤◌, ◌≡◌, ◌↔◌, ◌≢◌, List, [], ◌∷◌, ◌++◌, map, reverse, length}
use Rattle.codec.specs.All.{All, Bytes}
use Rattle.outcomes.specs.Outcome.{refused, done, NoneHolds, Given}
use Rattle.slices.specs.Limits.{chunk}
use Rattle.runs.specs.Runs.{Run}
use Rattle.joined.specs.Refusals.{ListRefusal}
use Rattle.plans.specs.Location.{Site}
use Rattle.plans.specs.Calls.{read_outcome}
use Rattle.plans.specs.Piece.{piece_size, in_store, encode_pieces, pieces_in, store_runs}
use Rattle.plans.specs.Store.{Store, fetched}
use Rattle.files.specs.Calls.{lists_in, chunks_rows, file_bytes, file_outcome}
use Rattle.files.specs.File.{file_reads, file_plan}
use Rattle.coverage.specs.Held.{holders}
use Rattle.judging.specs.Judge.{accepted, piece, byte, verdict, WrongInItself}
use Rattle.judging.specs.Cuts.{stretch, CutUp, Reordered}
use Rattle.judging.specs.Calls.{site_in, read_length, judge_outcome}

-- a read of n bytes, where byte i lies at f i
module _ (f : ℕ → Site) (n : ℕ) (plan : List ℕ) where
  -- no piece is wrong in itself
  abbrev pub NoneWrong : Type 0
  NoneWrong = (k : ℕ) → WrongInItself f n plan k → ⊥

  -- "Accept a tablet's plan exactly when no piece is wrong in itself and its pieces cover each byte of the read once"
  pub record Acceptable : Type 0 where
    pub right : NoneWrong
    pub once : (i : ℕ) → i < n → holders (pieces_in plan) i ≡ 1

  -- "the first piece that is wrong in itself"
  pub record FirstWrong (k : ℕ) : Type 0 where
    pub wrong : WrongInItself f n plan k
    pub before : (j : ℕ) → j < k → WrongInItself f n plan j → ⊥

  -- "else .. the first byte missing or doubled"
  pub record FirstByte (i : ℕ) : Type 0 where
    pub right : NoneWrong
    pub inside : i < n
    pub not_once_lem : holders (pieces_in plan) i ≢ 1
    pub before : (j : ℕ) → j < i → holders (pieces_in plan) j ≡ 1

  -- which of the three is said, for each of them exactly
  pub record Exactly : Type 0 where
    pub accepts : (verdict f n plan ≡ accepted) ↔ Acceptable
    pub names_piece : (k : ℕ) → (verdict f n plan ≡ piece k) ↔ FirstWrong k
    pub names_byte : (i : ℕ) → (verdict f n plan ≡ byte i) ↔ FirstByte i

pub record PlansMadeElsewhere : Type 0 where
  -- of every read, whatever its cover gives
  pub exactly : (f : ℕ → Site) (n : ℕ) (plan : List ℕ) → Exactly f n plan
  -- the call is refused exactly in the case of a row, whatever the plan; these are the refusals of our plan, with room for it
  pub refused_exactly : (bs lengths : List ℕ) (first file_len B start count : ℕ) (plan : List ℕ) (r : ListRefusal)
      → (judge_outcome bs lengths first file_len B start count plan ≡ refused r) ↔ Given (chunks_rows bs lengths first B) r
  pub refused_alike : (bs lengths : List ℕ) (first file_len B start count : ℕ) (plan : List ℕ) (room : ℕ) → length (file_bytes bs lengths first file_len B start count) ≤ room
      → (r : ListRefusal)
      → (judge_outcome bs lengths first file_len B start count plan ≡ refused r) ↔ (file_outcome bs lengths first file_len B start count room ≡ refused r)
  -- else its verdict is that of the read
  pub answered : (bs lengths : List ℕ) (first file_len B start count : ℕ) (plan : List ℕ) → NoneHolds (chunks_rows bs lengths first B)
      → judge_outcome bs lengths first file_len B start count plan
      ≡ done (verdict (site_in bs lengths first B start) (read_length bs lengths first file_len start count) plan)
  -- "An accepted plan fetches the same bytes as ours", from any store, in whatever order its pieces stand: what the file has
  pub fetches : (bs lengths : List ℕ) (first file_len B start count : ℕ) (plan : List ℕ) → judge_outcome bs lengths first file_len B start count plan ≡ done accepted
      → (st : Store) (i : ℕ) → i < read_length bs lengths first file_len start count
      → (fetched st (store_runs plan) i ≡ fetched st (map in_store (file_plan first B (lists_in bs lengths) file_len start count)) i)
      × (fetched st (store_runs plan) i ≡ file_reads B st (lists_in bs lengths) (start + i))
  -- "every plan of ours is accepted"
  pub ours : (bs lengths : List ℕ) → Bytes bs → (first file_len B start count room : ℕ) (out : List ℕ) → file_outcome bs lengths first file_len B start count room ≡ done out
      → judge_outcome bs lengths first file_len B start count out ≡ done accepted
  -- and so is every cut of it into shorter pieces, in any order
  pub cuts : (bs lengths : List ℕ) → Bytes bs → (first file_len B start count : ℕ) → NoneHolds (chunks_rows bs lengths first B)
      → (xs ys : List (Run Site)) → CutUp (file_plan first B (lists_in bs lengths) file_len start count) xs → Reordered xs ys
      → judge_outcome bs lengths first file_len B start count (encode_pieces ys) ≡ done accepted
  -- "cut and ordered as they like": a piece may be cut anywhere, or left whole, and each piece of a plan by itself
  pub halved : (r : Run Site) (a b : ℕ) → 0 < a → 0 < b → a + b ≡ r.len → CutUp (r ∷ []) (stretch r 0 a ∷ stretch r a b ∷ [])
  pub left_whole : (rs : List (Run Site)) → All (λ (r : Run Site). 0 < r.len) rs → CutUp rs rs
  pub cut_each : {rs xs ss ys : List (Run Site)} → CutUp rs xs → CutUp ss ys → CutUp (rs ++ ss) (xs ++ ys)
  -- two neighbours may change places, again and again; so the last piece can stand first
  pub exchanged : (before after : List (Run Site)) (r s : Run Site) → Reordered (before ++ (r ∷ s ∷ after)) (before ++ (s ∷ r ∷ after))
  pub on_and_on : {xs ys zs : List (Run Site)} → Reordered xs ys → Reordered ys zs → Reordered xs zs
  pub turned_round : (xs : List (Run Site)) → Reordered xs (reverse xs)
  -- the plan of one chunk (`read_plan`) is accepted too, for a file that ends with the chunk
  pub one_chunk : (bs : List ℕ) → Bytes bs → (index l B start count room : ℕ) (out : List ℕ) → read_outcome bs index l B start count room ≡ done out
      → judge_outcome bs (length bs ∷ []) index (index * chunk + l) B start count out ≡ done accepted
  -- of a read of no bytes, the plan of no bytes is accepted, and no other
  pub empty_read : (f : ℕ → Site) (plan : List ℕ) → (verdict f 0 plan ≡ accepted) ↔ (plan ≡ [])
  -- 1 to 33 bytes behind k right pieces are piece k, "cut short"
  pub rest : (f : ℕ → Site) (n : ℕ) (plan : List ℕ) (k : ℕ) → k * piece_size < length plan → length plan < k * piece_size + piece_size
      → ((j : ℕ) → j < k → WrongInItself f n plan j → ⊥) → verdict f n plan ≡ piece k
