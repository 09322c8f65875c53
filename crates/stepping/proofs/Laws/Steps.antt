-- Piece by piece, over any function that says where byte i of a read lies: the steps from place 0 on are the whole plan, a place inside a piece gives
-- the rest of it, and a read that is finished stays so. Assumes nothing.
use Prim.Native.Nat.{ℕ, ◌+◌, ◌-◌, ◌≤◌, ◌<◌}
use native.Mathlib.Omega.{arith}
use native.Mathlib.Nat.{zero-add}
use mathlib.Core.Path.{◌≡◌, refl, sym, ap, ◌∙◌, subst}
use mathlib.Core.Bool.{Bool, true, false, false≢true}
use mathlib.Core.List.{List, [], ◌∷◌, ◌++◌, map}
use Rattle.codec.specs.All.{All}
use Rattle.codec.proofs.Laws.All.{all_right}
use Rattle.outcomes.specs.Outcome.{OutcomeOf, refused, done}
use Rattle.runs.specs.Runs.{Run, runs, Stops, Valid}
use Rattle.runs.proofs.Laws.Runs.{runs_valid, valid_le, valid_unique}
use Rattle.plans.specs.Location.{Site, next_site}
use Rattle.stepping.specs.Step.{Step, given, finished, piece_in, first_step, next_step, rest_of}
use Rattle.stepping.specs.Claims.{HandsOut, PieceByPiece}
use Rattle.stepping.proofs.Laws.Pieces.{piece_place, piece_len, rest_is}
use Rattle.plans.specs.declared.Piece.{Piece}

-- ---- what is handed out is one list of pieces

is_given : {R : Type 0} → OutcomeOf R Step → Bool
is_given (refused r) = false
is_given (done (given p to)) = true
is_given (done finished) = false

piece_given : {R : Type 0} → Piece → OutcomeOf R Step → Piece
piece_given other (refused r) = other
piece_given other (done (given p to)) = p
piece_given other (done finished) = other

place_given : {R : Type 0} → OutcomeOf R Step → ℕ
place_given (refused r) = 0
place_given (done (given p to)) = to
place_given (done finished) = 0

pub hands_one : {R : Type 0} (next : ℕ → OutcomeOf R Step) (at : ℕ) (ps qs : List Piece) → HandsOut next at ps → HandsOut next at qs → ps ≡ qs
unfolding is_given piece_given place_given
hands_one next at [] [] h k = refl
hands_one next at [] (q ∷ qs) h k = absurd (false≢true (ap is_given (sym h ∙ k.1)))
hands_one next at (p ∷ ps) [] h k = absurd (false≢true (ap is_given (sym k ∙ h.1)))
hands_one next at (p ∷ ps) (q ∷ qs) h k =
    let e = sym h.1 ∙ k.1 in
    let t = ap place_given e in
    let rest = hands_one next k.0 ps qs (subst (λ (x : ℕ). HandsOut next x ps) t h.2) k.2 in
    let first = ap (piece_given p) e in
    cc

module _ (f : ℕ → Site) (n : ℕ) where
  -- "one at or past the end is finished and stays so"
  pub finished_stays : (at : ℕ) → n ≤ at → next_step f n at ≡ finished
  unfolding next_step first_step runs
  finished_stays at h =
      let e : n - at ≡ 0 = omega arith in
      rw e

  -- the step is the first of whatever divides the places from here on
  pub step_divides : (at : ℕ) (rs : List (Run Site)) → Valid next_site f at n rs → next_step f n at ≡ first_step rs
  unfolding next_step
  step_divides at rs v =
      let l = valid_le next_site f at n rs v in
      let e : at + (n - at) ≡ n = omega arith in
      ap first_step (sym (valid_unique next_site f at (n - at) n e rs v))

  -- ---- from a place on

  pub steps_divide : {R : Type 0} (next : ℕ → OutcomeOf R Step) → ((at : ℕ) → next at ≡ done (next_step f n at)) → (at : ℕ) (rs : List (Run Site))
      → Valid next_site f at n rs → HandsOut next at (map piece_in rs)
  unfolding first_step
  steps_divide next is at [] v = is at ∙ ap done (step_divides at [] v)
  steps_divide next is at (r ∷ rs) v =
      let s : r.start + r.len ≡ at + r.len = ap (λ (p : ℕ). p + r.len) v.0.starts in
      (r.start + r.len, is at ∙ ap done (step_divides at (r ∷ rs) v), rw s (steps_divide next is (at + r.len) rs v.2))

  -- ---- inside a piece

  abbrev RestAt : Piece → Type 0
  RestAt p = (at : ℕ) → p.place ≤ at → at < p.place + p.len → next_step f n at ≡ given (rest_of p (at - p.place)) (p.place + p.len)

  module _ (from : ℕ) (r : Run Site) (rs : List (Run Site)) (v : Valid next_site f from n (r ∷ rs)) where
    -- the rest of the run divides the places from there on, with those behind it
    rest_divides : (d : ℕ) → d < r.len → Valid next_site f (from + d) n (record { start = from + d; len = r.len - d; first = f (from + d) } ∷ rs)
    rest_divides d l =
        let e : from + r.len ≡ from + d + (r.len - d) = omega arith in (
          record { starts = refl; some = omega arith; first_is = refl; inside = λ p a b. v.0.inside p (omega arith) (omega arith) },
          subst (λ (x : ℕ). Stops next_site f x n) e v.1,
          subst (λ (x : ℕ). Valid next_site f x n rs) e v.2,
        )

    rest_step : (d : ℕ) → d < r.len → next_step f n (from + d) ≡ given (rest_of (piece_in r) d) (from + r.len)
    unfolding first_step
    rest_step d l =
        let e : from + d + (r.len - d) ≡ from + r.len = omega arith in
        step_divides (from + d) (record { start = from + d; len = r.len - d; first = f (from + d) } ∷ rs) (rest_divides d l) ∙ rw (rest_is f from r v.0 d l, e)

    rest_here : RestAt (piece_in r)
    rest_here at a b =
        let p = piece_place r ∙ v.0.starts in
        let l = piece_len r in
        let d : from + (at - (piece_in r).place) ≡ at = omega arith in
        let e : from + r.len ≡ (piece_in r).place + (piece_in r).len = omega arith in
        ap (next_step f n) (sym d) ∙ rest_step (at - (piece_in r).place) (omega arith) ∙ ap (given (rest_of (piece_in r) (at - (piece_in r).place))) e

  rests : (from : ℕ) (rs : List (Run Site)) → Valid next_site f from n rs → All RestAt (map piece_in rs)
  rests from [] v = tt
  rests from (r ∷ rs) v = (rest_here from r rs v, rests (from + r.len) rs v.2)

  -- ---- behind a piece

  module _ {R : Type 0} (next : ℕ → OutcomeOf R Step) (is : (at : ℕ) → next at ≡ done (next_step f n at)) where
    -- behind each of these pieces those behind it are handed out
    abbrev Behind : List Piece → Type 0
    Behind [] = Unit {0}
    Behind (p ∷ ps) = HandsOut next (p.place + p.len) ps × Behind ps

    behind_each : (from : ℕ) (rs : List (Run Site)) → Valid next_site f from n rs → Behind (map piece_in rs)
    behind_each from [] v = tt
    behind_each from (r ∷ rs) v =
        let e : (piece_in r).place + (piece_in r).len ≡ from + r.len = omega (arith, piece_place r, piece_len r, v.0.starts) in
        (rw e (steps_divide next is (from + r.len) rs v.2), behind_each (from + r.len) rs v.2)

    behind_one : (before after : List Piece) (p : Piece) → Behind (before ++ (p ∷ after)) → HandsOut next (p.place + p.len) after
    behind_one [] after p h = h.0
    behind_one (q ∷ before) after p h = behind_one before after p h.1

  -- ---- what comes at each place

  some_step : (at : ℕ) → at < n → (rs : List (Run Site)) → Valid next_site f at n rs
      → (p : Piece) × (to : ℕ) × (first_step rs ≡ given p to) × (p.place ≡ at) × (at + p.len ≡ to) × (at < to) × (to ≤ n)
  unfolding first_step
  some_step at h [] v = absurd (omega arith)
  some_step at h (r ∷ rs) v =
      let i = v.0 in
      let l = piece_len r in
      let m = valid_le next_site f (at + r.len) n rs v.2 in
      (piece_in r, r.start + r.len, refl, piece_place r ∙ i.starts, omega (arith, i.starts), omega (arith, i.starts, i.some), omega (arith, i.starts))

  pub step_some : (at : ℕ) → at < n → (p : Piece) × (to : ℕ) × (next_step f n at ≡ given p to) × (p.place ≡ at) × (at + p.len ≡ to) × (at < to) × (to ≤ n)
  unfolding next_step
  step_some at h =
      let e : at + (n - at) ≡ n = omega arith in
      some_step at h (runs next_site f at (n - at)) (runs_valid next_site f at (n - at) n e)

  -- ---- from place 0 on

  abbrev plan : List Piece
  plan = map piece_in (runs next_site f 0 n)

  divided : Valid next_site f 0 n (runs next_site f 0 n)
  divided = runs_valid next_site f 0 n n (zero-add n)

  module _ {R : Type 0} (next : ℕ → OutcomeOf R Step) (is : (at : ℕ) → next at ≡ done (next_step f n at)) where
    -- "From place 0, with the other inputs unchanged, the pieces, in order, are exactly those of the whole plan."
    pub one_by_one : HandsOut next 0 plan
    one_by_one = steps_divide next is 0 (runs next_site f 0 n) divided

    pub rest_of_a_piece : (before after : List Piece) (p : Piece) → plan ≡ before ++ (p ∷ after) → (at : ℕ) → p.place ≤ at → at < p.place + p.len
        → next at ≡ done (given (rest_of p (at - p.place)) (p.place + p.len))
    rest_of_a_piece before after p e at a b =
        is at ∙ ap done ((all_right RestAt before (p ∷ after) (subst (All RestAt) e (rests 0 (runs next_site f 0 n) divided))).0 at a b)

    pub plan_follows : (before after : List Piece) (p : Piece) → plan ≡ before ++ (p ∷ after) → HandsOut next (p.place + p.len) after
    plan_follows before after p e = behind_one next is before after p (subst (Behind next is) e (behind_each next is 0 (runs next_site f 0 n) divided))

    pub piece_by_piece : PieceByPiece next plan n
    piece_by_piece =
        record {
          one_by_one = one_by_one;
          only = λ ps h. hands_one next 0 ps plan h one_by_one;
          rest = rest_of_a_piece;
          follows = plan_follows;
          stays = λ at h. is at ∙ ap done (finished_stays at h);
          more = λ at h. let s = step_some at h in (s.0, s.1, is at ∙ ap done s.2, s.3, s.4, s.5, s.6);
        }
