-- Inner: what the steps of the code find. It serves the contracts of inner functions alone. Assumes nothing.
use Rattle.std.specs.Prelude.{ℕ, ◌+◌, ◌*◌, ◌/◌, ◌%◌, ◌<◌, ◌≤◌, ◌≡◌, ◌≢◌, Bool, true, false, ◌&&◌, not, cond, List, [], eqb, leb, ltb, length, get_or}
use Rattle.slices.specs.Limits.{chunk}
use Rattle.slices.specs.Record.{records}
use Rattle.coverage.specs.Inner.{InOrder}
use Rattle.coverage.specs.Held.{first_not_once}
use Rattle.plans.specs.Location.{location_at, onward}
use Rattle.plans.specs.Piece.{piece_size, decode_piece, location_of, pieces_in}
use Rattle.judging.specs.Judge.{unknown_mark, number_set}
use Rattle.slices.specs.declared.Record.{Record}
use Rattle.plans.specs.declared.Location.{Location}
use Rattle.plans.specs.declared.Piece.{Piece}
use Rattle.judging.specs.declared.Judged.{Judged}
use Rattle.judging.specs.declared.Judged.TheVariants as judged

-- piece i of a plan
abbrev pub piece_at : List ℕ → ℕ → Piece
piece_at plan i = decode_piece plan (i * piece_size)

-- a piece of a read of n bytes from position `from` on, as far as its own numbers tell: it has a length and a known mark, lies inside the read and in
-- one chunk, and has that chunk's index
unfoldable pub formed : (first from n : ℕ) → Piece → Bool
formed first from n p =
    not (eqb p.len 0)
    && (not (unknown_mark p)
    && (not (number_set p)
    && (leb (p.place + p.len) n && (eqb p.index (first + (from + p.place) / chunk) && leb ((from + p.place) % chunk + p.len) chunk))))

-- the number of its chunk, and the position in it
abbrev pub chunk_of : ℕ → Piece → ℕ
chunk_of from p = (from + p.place) / chunk

abbrev pub start_of : ℕ → Piece → ℕ
start_of from p = (from + p.place) % chunk

-- the n positions of a list from q on lie at a, and on from there
abbrev pub LiesAt : (B : ℕ) → List Record → (q n : ℕ) → Location → Type 0
LiesAt B rs q n a = (j : ℕ) → j < n → onward a j ≡ location_at B rs (q + j)

-- some of them does not
pub record StraysAt (B : ℕ) (rs : List Record) (q n : ℕ) (a : Location) : Type 0 where
  pub at : ℕ
  pub inside : at < n
  pub other : onward a at ≢ location_at B rs (q + at)

-- a piece lies in a list where it says, or some byte of it does not
abbrev pub LiesIn : (from B : ℕ) → List Record → Piece → Type 0
LiesIn from B rs p = LiesAt B rs (start_of from p) p.len (location_of p)

abbrev pub StraysIn : (from B : ℕ) → List Record → Piece → Type 0
StraysIn from B rs p = StraysAt B rs (start_of from p) p.len (location_of p)

-- a piece of chunk k that lies in its list where it says
pub record RightIn (first from n B k : ℕ) (rs : List Record) (p : Piece) : Type 0 where
  pub form : formed first from n p ≡ true
  pub here : chunk_of from p ≡ k
  pub lies : LiesIn from B rs p

-- the first r pieces of a plan are formed
abbrev pub Formed : (first from n : ℕ) → List ℕ → ℕ → Type 0
Formed first from n plan r = (i : ℕ) → i < r → formed first from n (piece_at plan i) ≡ true

-- ---- pieces in order

-- the pieces from `start` up to `number` are right in chunk k, and with those before them they stand in order and end before `place`
pub record Leads (first from n B k : ℕ) (rs : List Record) (plan : List ℕ) (start number place : ℕ) : Type 0 where
  pub on : start ≤ number
  pub within : number ≤ length plan / piece_size
  pub inside : place ≤ n
  pub order : InOrder plan number place
  pub right : (i : ℕ) → start ≤ i → i < number → RightIn first from n B k rs (piece_at plan i)

-- the pieces before `number` are right in their chunks, whose lists these are, and stand in order
pub record Led (first from n B : ℕ) (ls : List (List ℕ)) (plan : List ℕ) (number place : ℕ) : Type 0 where
  pub within : number ≤ length plan / piece_size
  pub inside : place ≤ n
  pub order : InOrder plan number place
  pub right : (i : ℕ) → i < number → (k : ℕ) × (k < length ls) × RightIn first from n B k (records (get_or ls k [])) (piece_at plan i)

-- ---- pieces in any order

-- of the pieces below `limit`, those of chunk k before r lie where they say, and r, if it is below `limit`, is the first that does not
pub record Sifts (from B k : ℕ) (rs : List Record) (plan : List ℕ) (limit r : ℕ) : Type 0 where
  pub within : r ≤ limit
  pub before : (i : ℕ) → i < r → chunk_of from (piece_at plan i) ≡ k → LiesIn from B rs (piece_at plan i)
  pub wrong : r < limit → (chunk_of from (piece_at plan r) ≡ k) × StraysIn from B rs (piece_at plan r)

-- the same over the lists of all chunks
pub record Sifted (first from n B : ℕ) (ls : List (List ℕ)) (plan : List ℕ) (limit r : ℕ) : Type 0 where
  pub within : r ≤ limit
  pub before : (i : ℕ) → i < r → chunk_of from (piece_at plan i) < length ls → LiesIn from B (records (get_or ls (chunk_of from (piece_at plan i)) [])) (piece_at plan i)
  pub wrong : r < limit
      → (chunk_of from (piece_at plan r) < length ls) × StraysIn from B (records (get_or ls (chunk_of from (piece_at plan r)) [])) (piece_at plan r)

-- r is the number of the first whole piece that is wrong in itself, or as many as there are: of the pieces below `limit`, which is the first that is not
-- formed, it is the first that does not lie in its list where it says
pub record WrongFound (first from n B : ℕ) (ls : List (List ℕ)) (plan : List ℕ) (r : ℕ) : Type 0 where
  pub limit : ℕ
  pub within : limit ≤ length plan / piece_size
  pub form : Formed first from n plan limit
  pub next : limit < length plan / piece_size → formed first from n (piece_at plan limit) ≡ false
  pub sifted : Sifted first from n B ls plan limit r

-- what one way of working finds: of the pieces at the front, those that stand in order; or the first whole piece that is wrong in itself, and, where there is
-- neither such a piece nor a rest, the first place that is not held once
abbrev pub Worked : (lead : Bool) (first from n B : ℕ) → List (List ℕ) → List ℕ → (number place : ℕ) → Type 0
Worked lead first from n B ls plan number place =
    (lead ≡ true → Led first from n B ls plan number place)
    × (lead ≡ false → WrongFound first from n B ls plan number × (length plan ≤ number * piece_size → place ≡ first_not_once (pieces_in plan) n))

-- what is said of the first place that is not held once
unfoldable pub said_of : (at n : ℕ) → Judged
said_of at n = cond (ltb at n) (judged.WrongByte at) judged.Accepted
