-- Bytes that a call puts to the front of one buffer, or refuses as too many for it: they had room, or they were counted first. Over any type of
-- refusals, and any type of answers that tells how many bytes were written. Assumes nothing.
use Prim.Native.Nat.{ℕ, ◌<◌, ◌≤◌}
use native.Mathlib.Omega.{arith}
use mathlib.Core.Path.{◌≡◌, refl, ap, ◌∙◌}
use mathlib.Core.List.{List, [], ◌∷◌}
use lib.Dec.{ltb}
use lib.ListN.{length}
use borrow.Author.Tests.{lt-ltb, le-ltb}
use Rattle.codec.specs.Splice.{splice}
use Rattle.outcomes.specs.Outcome.{OutcomeOf, refused, done, first_of}
use Rattle.outcomes.specs.Answers.{lent, Replies}
use Rattle.outcomes.proofs.Laws.Answers.{replies_refused, replies_done}

module _ {R : Type 0} (short : R) (bs out : List ℕ) where
  abbrev delivery : OutcomeOf R (List ℕ)
  delivery = first_of (record { test = ltb (length out) (length bs); gives = short } ∷ []) (done bs)

  has_room : length bs ≤ length out → delivery ≡ done bs
  unfolding first_of
  has_room l = rw (le-ltb (length out) (length bs) l)

  no_room : length out < length bs → delivery ≡ refused short
  unfolding first_of
  no_room l = rw (lt-ltb (length out) (length bs) l)

  module _ {X : Type 0} (refuse : R → X) (wrote : ℕ → X) where
    abbrev Delivers : X → List ℕ → Type 0
    Delivers x after = Replies refuse (λ (cs : List ℕ). wrote (length cs)) delivery (lent (λ (cs : List ℕ). cs) out after ∷ []) x

    pub delivered_room : length bs ≤ length out → (after : List ℕ) (n : ℕ) → n ≡ length bs → after ≡ splice out 0 bs → Delivers (wrote n) after
    delivered_room l after n e a = replies_done delivery bs (wrote n) _ (has_room l) (ap wrote e) (a, tt)

    -- they were counted first, and the buffer stayed as it was
    module _ (out' : List ℕ) (same : out' ≡ out) (need : ℕ) (e : need ≡ length bs) where
      pub counted_short : length out' < need → (r : R) → r ≡ short → Delivers (refuse r) out'
      counted_short l r g = rw same (replies_refused delivery r short _ (no_room (omega (arith, e, ap length same))) g (refl, tt))

      pub counted_done : need ≤ length out' → (after : List ℕ) (n : ℕ) → n ≡ length bs → after ≡ splice out' 0 bs → Delivers (wrote n) after
      counted_done l after n f a = delivered_room (omega (arith, e, ap length same)) after n f (a ∙ ap (λ (o : List ℕ). splice o 0 bs) same)
