-- What a call is to answer. The refusals of a call are a table in the order of paper 01: the first row whose test holds gives the refusal.
-- Over any type R of refusals, so that a call can say more of a refusal than its number and its place. proofs/Laws/Outcome.antt shows that each
-- refusal is given exactly in its case. Assumes nothing.
use Rattle.std.specs.Prelude.{ℕ, ◌≡◌, Bool, true, false, cond, List, [], ◌∷◌, ◌++◌, ltb, length}
use Rattle.codec.specs.All.{All}
use Rattle.outcomes.specs.Numbers.{short_buffer}

-- a refusal, or what the call has done
pub data OutcomeOf (R A : Type 0) : Type 0 where
  refused : R → OutcomeOf R A
  done : A → OutcomeOf R A

-- a case in which a call is refused, and the refusal
pub record RowOf (R : Type 0) : Type 0 where
  pub test : Bool
  pub gives : R

-- the refusal of the first row whose test holds; where none does, what follows
unfoldable pub first_of : {R A : Type 0} → List (RowOf R) → OutcomeOf R A → OutcomeOf R A
first_of [] o = o
first_of (r ∷ rows) o = cond r.test (refused r.gives) (first_of rows o)

-- no row of the table holds
abbrev pub NoneHolds : {R : Type 0} → List (RowOf R) → Type 0
NoneHolds {R} rows = All (λ (r : RowOf R). r.test ≡ false) rows

-- the refusal r stands in the table in a row that holds, and no row before it holds
pub record Given {R : Type 0} (rows : List (RowOf R)) (r : R) : Type 0 where
  pub before : List (RowOf R)
  pub after : List (RowOf R)
  pub stands : rows ≡ before ++ (record { test = true; gives = r } ∷ after)
  pub none : NoneHolds before

-- ---- refusals with a number and a place

pub record Refusal : Type 0 where
  pub number : ℕ
  pub place : ℕ

abbrev pub Outcome : Type 0 → Type 0
Outcome A = OutcomeOf Refusal A

abbrev pub Row : Type 0
Row = RowOf Refusal

-- the refusal of the given number at the given place
abbrev pub refusal : ℕ → ℕ → Refusal
refusal n p = record { number = n; place = p }

-- the row of refusal n at place p
abbrev pub row : Bool → ℕ → ℕ → Row
row t n p = record { test = t; gives = refusal n p }

-- refusal 12: an output buffer of `room` bytes is shorter than its answer
abbrev pub too_short : List ℕ → ℕ → Row
too_short bs room = row (ltb room (length bs)) short_buffer 0

-- the bytes, delivered into a buffer of `room` bytes
abbrev pub delivered : List ℕ → ℕ → Outcome (List ℕ)
delivered bs room = first_of (too_short bs room ∷ []) (done bs)
