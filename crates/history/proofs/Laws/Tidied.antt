-- Lists reached by exchanges have one cover, so they tidy to the same bytes; where one is accepted the other is, and the call `tidy` answers alike.
-- Assumes nothing.
use Prim.Native.Nat.{ℕ, ◌%◌}
use native.Mathlib.Omega.{arith}
use mathlib.Core.Path.{◌≡◌, refl, sym, ap, subst, ◌∙◌}
use mathlib.Core.List.{List, [], ◌∷◌, ◌++◌}
use lib.ListN.{length, length-append}
use Rattle.codec.specs.All.{All}
use Rattle.codec.proofs.Laws.All.{all_left, all_right, all_append}
use lib.Dec.{ltb}
use Rattle.outcomes.specs.Numbers as number
use Rattle.outcomes.specs.Outcome.{Outcome, done, row, too_short, first_of}
use Rattle.outcomes.specs.Answers.{answer_of}
use Rattle.slices.specs.Limits.{record_size}
use Rattle.slices.specs.Record.{records, count, encode_all}
use Rattle.slices.specs.Cover.{cover}
use Rattle.slices.specs.Passes.{Passes}
use Rattle.slices.specs.Accepts.{Accepts}
use Rattle.slices.specs.Refusals.{checked}
use Rattle.slices.proofs.Laws.OneSize.{one_size_table, table_one_size, sizes_of, Sized}
use Rattle.slices.proofs.Laws.Record.{length-records}
use Rattle.slices.proofs.Laws.Refusals.{accepted_exactly, list_lets}
use Rattle.views.specs.View.{tidied, tidied_bytes}
use Rattle.views.specs.Calls.{max_tidied, tidied_too_long, tidy_rows, tidy_outcome}
use Rattle.views.proofs.Laws.Tidied.{tidied_cong}
use Rattle.history.specs.Exchange.{Exchange, Exchanged, unchanged, once_more}
use Rattle.history.proofs.Laws.Exchange.{exchange_cover}
use Rattle.slices.specs.declared.Record.{Record}

-- ---- the cover

pub exchanged_cover : (xs ys : List Record) → Exchanged xs ys → (p : ℕ) → cover xs p ≡ cover ys p
exchanged_cover xs ys unchanged p = refl
exchanged_cover xs ys (once_more {ys = zs} e x) p = exchanged_cover xs zs e p ∙ exchange_cover zs ys x p

same_tidied : (xs ys : List Record) → Exchanged xs ys → tidied xs ≡ tidied ys
same_tidied xs ys e = tidied_cong xs ys (λ p l. exchanged_cover xs ys e p)

-- "any order reached by such exchanges to tidy to the same bytes"
pub exchanged_same_bytes : (xs ys : List Record) → Exchanged xs ys → tidied_bytes xs ≡ tidied_bytes ys
unfolding tidied_bytes
exchanged_same_bytes xs ys e = ap encode_all (same_tidied xs ys e)

-- ---- what holds of each record, and how many there are

exchange_all : (P : Record → Type 0) (xs ys : List Record) → Exchange xs ys → All P xs → All P ys
exchange_all P xs ys e h =
    let k : All P (e.before ++ (e.first ∷ e.second ∷ e.after)) = subst (All P) e.from h in
    let f = all_right P e.before (e.first ∷ e.second ∷ e.after) k in
    subst (All P) (sym e.to) (all_append P e.before (e.second ∷ e.first ∷ e.after) (all_left P e.before (e.first ∷ e.second ∷ e.after) k) (f.1.0, (f.0, f.1.1)))

exchanged_all : (P : Record → Type 0) (xs ys : List Record) → Exchanged xs ys → All P xs → All P ys
exchanged_all P xs ys unchanged h = h
exchanged_all P xs ys (once_more {ys = zs} e x) h = exchange_all P zs ys x (exchanged_all P xs zs e h)

exchange_length : (xs ys : List Record) → Exchange xs ys → length xs ≡ length ys
exchange_length xs ys e = rw (e.from, e.to) (simp length-append)

exchanged_length : (xs ys : List Record) → Exchanged xs ys → length xs ≡ length ys
exchanged_length xs ys unchanged = refl
exchanged_length xs ys (once_more {ys = zs} e x) = exchanged_length xs zs e ∙ exchange_length zs ys x

-- ---- the call

-- what `tidy` answers once the list is accepted, by the tidied list alone
unfoldable tidies : ℕ → List Record → Outcome (List ℕ)
tidies room ts = first_of (row (ltb max_tidied (length ts)) number.tidied_too_long 0 ∷ too_short (encode_all ts) room ∷ []) (done (encode_all ts))

accepted_tidies : (bs : List ℕ) → Accepts bs → (room : ℕ) → tidy_outcome bs room ≡ tidies room (tidied (records bs))
unfolding tidies tidy_outcome tidy_rows tidied_too_long tidied_bytes answer_of
accepted_tidies bs a room = list_lets bs _ _ (count bs) (ap checked ((accepted_exactly bs).1 a))

module _ (bs cs : List ℕ) (a : Accepts bs) (whole : length cs % record_size ≡ 0) (e : Exchanged (records bs) (records cs)) where
  pub exchanged_accepts : Accepts cs
  exchanged_accepts =
      let sizes = sizes_of (records bs) in
      record {
        whole = whole;
        few = omega (arith, a.few, length-records bs, length-records cs, exchanged_length (records bs) (records cs) e);
        pass = exchanged_all Passes (records bs) (records cs) e a.pass;
        one_size = table_one_size sizes (records cs) (exchanged_all (Sized sizes) (records bs) (records cs) e (one_size_table (records bs) a.one_size));
      }

  -- `tidy` gives both lists the same answer, refusals 11 and 12 included
  pub exchanged_tidies : (room : ℕ) → tidy_outcome bs room ≡ tidy_outcome cs room
  exchanged_tidies room =
      accepted_tidies bs a room ∙ ap (tidies room) (same_tidied (records bs) (records cs) e) ∙ sym (accepted_tidies cs exchanged_accepts room)
