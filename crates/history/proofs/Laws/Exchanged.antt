-- Any number of exchanges: one after the other, and back again; an empty record goes past everything. Assumes nothing.
use mathlib.Core.Path.{◌≡◌}
use mathlib.Core.List.{List, [], ◌∷◌, ◌++◌, append_assoc}
use Rattle.history.specs.Exchange.{Exchange, Exchanged, unchanged, once_more}
use Rattle.history.proofs.Laws.Exchange.{apart_sym, empty_apart, neighbours_exchange}
use Rattle.slices.specs.declared.Record.{Record}

-- ---- one after the other, and back

pub exchanged_then : (xs ys zs : List Record) → Exchanged xs ys → Exchanged ys zs → Exchanged xs zs
exchanged_then xs ys zs a unchanged = a
exchanged_then xs ys zs a (once_more {ys = ws} b x) = once_more (exchanged_then xs ys ws a b) x

exchange_back : (xs ys : List Record) → Exchange xs ys → Exchange ys xs
exchange_back xs ys e =
    record {
      before = e.before;
      after = e.after;
      first = e.second;
      second = e.first;
      apart = apart_sym e.first e.second e.apart;
      from = e.to;
      to = e.from;
    }

pub exchanged_back : (xs ys : List Record) → Exchanged xs ys → Exchanged ys xs
exchanged_back xs ys unchanged = unchanged
exchanged_back xs ys (once_more {ys = ws} e x) = exchanged_then ys ws xs (once_more unchanged (exchange_back ws ys x)) (exchanged_back xs ws e)

-- ---- an empty record

-- "whatever stands before and after": it goes past all of ys
pub empty_past : (r : Record) → r.len ≡ 0 → (xs ys zs : List Record) → Exchanged (xs ++ (r ∷ (ys ++ zs))) (xs ++ (ys ++ (r ∷ zs)))
empty_past r e xs [] zs = unchanged
empty_past r e xs (y ∷ ys) zs =
    exchanged_then (xs ++ (r ∷ y ∷ (ys ++ zs))) (xs ++ (y ∷ r ∷ (ys ++ zs))) (xs ++ (y ∷ (ys ++ (r ∷ zs))))
    (once_more unchanged (neighbours_exchange xs (ys ++ zs) r y (empty_apart r y e)))
    (behind (empty_past r e (xs ++ (y ∷ [])) ys zs))
  where
    behind : Exchanged ((xs ++ (y ∷ [])) ++ (r ∷ (ys ++ zs))) ((xs ++ (y ∷ [])) ++ (ys ++ (r ∷ zs))) → Exchanged (xs ++ (y ∷ r ∷ (ys ++ zs))) (xs ++ (y ∷ (ys ++ (r ∷ zs))))
    behind x = simp append_assoc at x
