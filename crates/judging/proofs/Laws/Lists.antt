-- The pieces of a plan, list by list. Assumes nothing.
use Prim.Native.Nat.{ℕ, suc, ◌+◌, ◌-◌, ◌<◌, ◌≤◌}
use native.Mathlib.Omega.{arith}
use native.Mathlib.Decide.{dec_lt}
use native.Mathlib.Numerals.{add-one}
use mathlib.Core.Path.{◌≡◌, refl, sym, ◌∙◌, subst}
use mathlib.Core.List.{List, []}
use lib.ListN.{length, take, drop, get_or}
use Rattle.codec.specs.All.{All}
use Rattle.slices.specs.Record.{records}
use Rattle.joined.specs.Lists.{total, parts}
use Rattle.joined.proofs.Laws.Lists.{parts-length, Gone, gone_start, gone_next}
use Rattle.joined.proofs.Laws.Numbered.{gone_list, all_at}
use Rattle.judging.specs.Inner.{piece_at, chunk_of, LiesIn, StraysIn, RightIn, Leads, Led, Sifts, Sifted}

module _ (ns bs : List ℕ) (adds : total ns ≡ length bs) where
  -- the next list, which stands up to `stop`
  module _ (at k : ℕ) (g : Gone ns bs at k) (h : k < length ns) (stop : ℕ) (e : stop ≡ at + get_or ns k 0) where
    abbrev pub list_here : List ℕ
    list_here = take (stop - at) (drop at bs)

    pub list_here_lem : get_or (parts ns bs) k [] ≡ list_here
    list_here_lem =
        let z : stop - at ≡ get_or ns k 0 = omega arith in
        gone_list ns bs at k adds g h ∙ rw z

    number_here : k < length (parts ns bs)
    number_here = omega (arith, parts-length ns bs)

    pub holds_here : (P : List ℕ → Type 0) → All P (parts ns bs) → P list_here
    holds_here P a = subst P list_here_lem (all_at P (parts ns bs) k [] a number_here)

  module _ (first from n B : ℕ) (plan : List ℕ) where
    -- ---- pieces in order

    -- k lists are gone by, whose bytes end at `at`
    pub record LedOver (at k number place : ℕ) : Type 0 where
      pub gone : Gone ns bs at k
      pub led : Led first from n B (parts ns bs) plan number place

    pub led_start : LedOver 0 0 0 0
    led_start =
        record {
          gone = gone_start ns bs adds;
          led = record { within = omega arith; inside = omega arith; order = refl; right = λ i l. absurd (omega arith) };
        }

    pub led_more : (at k number place : ℕ) → LedOver at k number place → (h : k < length ns) (stop : ℕ) (e : stop ≡ at + get_or ns k 0) (number' place' : ℕ)
        → Leads first from n B k (records (take (stop - at) (drop at bs))) plan number number' place' → LedOver stop (k + 1) number' place'
    led_more at k number place o h stop e number' place' l =
        rw add-one
        (record {
          gone = gone_next ns bs at k o.gone h stop e;
          led = record { within = l.within; inside = l.inside; order = l.order; right = go };
        })
      where
        go : (i : ℕ) → i < number' → (j : ℕ) × (j < length (parts ns bs)) × RightIn first from n B j (records (get_or (parts ns bs) j [])) (piece_at plan i)
        go i m =
            elim (dec_lt i number) [
              | yes z ↦ o.led.right i z
              | no z ↦ (k, number_here at k o.gone h stop e, rw (list_here_lem at k o.gone h stop e) (l.right i (omega arith) m))
            ]

    -- ---- pieces in any order

    -- the same; of the pieces below `limit`, those of the chunks before k lie where they say before `left`
    pub record SiftedOver (limit at k left : ℕ) : Type 0 where
      pub gone : Gone ns bs at k
      pub within : left ≤ limit
      pub before : (i : ℕ) → i < left → chunk_of from (piece_at plan i) < k → LiesIn from B (records (get_or (parts ns bs) (chunk_of from (piece_at plan i)) [])) (piece_at plan i)
      pub wrong : left < limit
          → (chunk_of from (piece_at plan left) < length (parts ns bs)) × StraysIn from B (records (get_or (parts ns bs) (chunk_of from (piece_at plan left)) [])) (piece_at plan left)

    pub sifted_start : (limit : ℕ) → SiftedOver limit 0 0 limit
    sifted_start limit =
        record { gone = gone_start ns bs adds; within = omega arith; before = λ i l m. absurd (omega arith); wrong = λ l. absurd (omega arith) }

    pub sifted_more : (limit at k left : ℕ) → SiftedOver limit at k left → (h : k < length ns) (stop : ℕ) (e : stop ≡ at + get_or ns k 0) (left' : ℕ)
        → Sifts from B k (records (take (stop - at) (drop at bs))) plan left left' → SiftedOver limit stop (k + 1) left'
    sifted_more limit at k left o h stop e left' s =
        rw add-one
        (record {
          gone = gone_next ns bs at k o.gone h stop e;
          within = omega (arith, o.within, s.within);
          before = lies;
          wrong = strays;
        })
      where
        -- the list of a piece of chunk k
        list : (c : ℕ) → c ≡ k → get_or (parts ns bs) c [] ≡ take (stop - at) (drop at bs)
        list c z = rw z (list_here_lem at k o.gone h stop e)

        lies : (i : ℕ) → i < left' → chunk_of from (piece_at plan i) < suc k → LiesIn from B (records (get_or (parts ns bs) (chunk_of from (piece_at plan i)) [])) (piece_at plan i)
        lies i l m =
            elim (dec_lt (chunk_of from (piece_at plan i)) k) [
              | yes z ↦ o.before i (omega (arith, s.within)) z
              | no z ↦
                  let c : chunk_of from (piece_at plan i) ≡ k = omega arith in
                  subst (λ (x : List ℕ). LiesIn from B (records x) (piece_at plan i)) (sym (list _ c)) (s.before i l c)
            ]

        strays : left' < limit
            → (chunk_of from (piece_at plan left') < length (parts ns bs)) × StraysIn from B (records (get_or (parts ns bs) (chunk_of from (piece_at plan left')) [])) (piece_at plan left')
        strays l =
            elim (dec_lt left' left) [
              | yes z ↦
                  let w = s.wrong z in
                  let c = w.0 in
                  (omega (arith, number_here at k o.gone h stop e), subst (λ (x : List ℕ). StraysIn from B (records x) (piece_at plan left')) (sym (list _ c)) w.1)
              | no z ↦
                  let same : left ≡ left' = omega (arith, s.within) in
                  rw same at (o.wrong (omega arith))
            ]

    pub sifted_end : (limit at k left : ℕ) → SiftedOver limit at k left → length ns ≤ k → Sifted first from n B (parts ns bs) plan limit left
    sifted_end limit at k left o h =
        record { within = o.within; before = λ i l m. o.before i l (omega (arith, parts-length ns bs)); wrong = o.wrong }
