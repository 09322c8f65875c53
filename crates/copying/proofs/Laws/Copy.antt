-- The store that copying makes: each byte of the new slice that a piece holds is what the pieces fetch for it, and every other byte stays.
-- Assumes nothing.
use Prim.Native.Nat.{ℕ, zero, suc, ◌+◌, ◌-◌, ◌*◌, ◌<◌}
use native.Mathlib.Omega.{arith}
use native.Mathlib.Decide.{dec_lt, ℕ_discrete}
use mathlib.Core.Path.{◌≡◌, refl, sym, ap, ◌∙◌}
use mathlib.Core.Bool.{cond, ◌&&◌}
use mathlib.Core.Logic.{◌⊎◌, inl, inr, ⊎_elim}
use mathlib.Core.List.{List, [], ◌∷◌}
use lib.Dec.{leb, ltb}
use borrow.Author.Tests.{le-leb, lt-leb, le-ltb}
use Rattle.runs.specs.Runs.{Run}
use Rattle.plans.specs.Location.{location, onward}
use Rattle.plans.specs.Store.{Store, fetch, fetched}
use Rattle.plans.proofs.Laws.Bytes.{fetched_here}
use Rattle.copying.specs.Copy.{Holds, Held, Copies, put, set_bytes, copy}
use Rattle.copying.proofs.Laws.Store.{put_at, put_other, location_inj, location_dec, offset_is}
use Rattle.slices.specs.declared.Source.TheVariants.{Byte}
use Rattle.plans.specs.declared.Location.{Location}
use Rattle.plans.specs.declared.Location.TheVariants.{Hole, In}

holds_dec : (r : Run Location) (o : ℕ) → Dec (Holds r o)
holds_dec r o = go (dec_lt o r.start) (dec_lt o (r.start + r.len))
  where
    go : Dec (o < r.start) → Dec (o < r.start + r.len) → Dec (Holds r o)
    go (yes a) b = no (λ h. omega (arith, h.low))
    go (no a) (yes b) = yes (record { low = omega arith; high = b })
    go (no a) (no b) = no (λ h. omega (arith, h.high))

fetched_later : (st : Store) (r : Run Location) (rs : List (Run Location)) (o : ℕ) → ¬ Holds r o → fetched st (r ∷ rs) o ≡ fetched st rs o
unfolding fetched
fetched_later st r rs o h = go (dec_lt o r.start) (dec_lt o (r.start + r.len))
  where
    go : Dec (o < r.start) → Dec (o < r.start + r.len)
        → cond (leb r.start o && ltb o (r.start + r.len)) (fetch st (onward r.first (o - r.start))) (fetched st rs o) ≡ fetched st rs o
    go (yes a) b = rw (lt-leb r.start o a)
    go (no a) (yes b) = absurd (h (record { low = omega arith; high = b }))
    go (no a) (no b) = rw (le-leb r.start o (omega arith), le-ltb o (r.start + r.len) (omega arith))

module _ (B id size : ℕ) (before : Store) where
  -- where byte o of the new slice lies
  abbrev target : ℕ → Location
  target o = location B (Byte id size o)

  set_miss : (r : Run Location) (q : Location) (st : Store) (n : ℕ) → ((j : ℕ) → j < n → ¬ (q ≡ target (r.start + j)))
      → fetch (set_bytes B id size before r n st) q ≡ fetch st q
  unfolding set_bytes
  set_miss r q st zero ne = refl
  set_miss r q st (suc n) ne =
      put_other (target (r.start + n)) q (fetch before (onward r.first n)) (set_bytes B id size before r n st) (ne n (omega arith))
      ∙ set_miss r q st n (λ j l. ne j (omega arith))

  set_hit : (r : Run Location) (st : Store) (n j : ℕ) → j < n → fetch (set_bytes B id size before r n st) (target (r.start + j)) ≡ fetch before (onward r.first j)
  unfolding set_bytes
  set_hit r st zero j l = absurd (omega arith)
  set_hit r st (suc n) j l = go (ℕ_discrete j n) (set_hit r st n j)
    where
      st' : Store
      st' = set_bytes B id size before r n st

      go : Dec (j ≡ n) → (j < n → fetch st' (target (r.start + j)) ≡ fetch before (onward r.first j))
          → fetch (put (target (r.start + n)) (fetch before (onward r.first n)) st') (target (r.start + j)) ≡ fetch before (onward r.first j)
      go (yes e) ih = rw e (put_at B id size (r.start + n) (fetch before (onward r.first n)) st')
      go (no e) ih =
          put_other (target (r.start + n)) (target (r.start + j)) (fetch before (onward r.first n)) st'
          (λ q. let z = location_inj B id size (r.start + j) (r.start + n) q in omega arith)
          ∙ ih (omega arith)

  stays : (rs : List (Run Location)) (q : Location) → ((o : ℕ) → Held rs o → ¬ (q ≡ target o)) → fetch (copy B id size before rs) q ≡ fetch before q
  unfolding copy
  stays [] q ne = refl
  stays (r ∷ rs) q ne =
      set_miss r q (copy B id size before rs) r.len (λ j l. ne (r.start + j) (inl (record { low = omega arith; high = omega arith })))
      ∙ stays rs q (λ o h. ne o (inr h))

  sets : (rs : List (Run Location)) (o : ℕ) → Held rs o → fetch (copy B id size before rs) (target o) ≡ fetched before rs o
  unfolding copy
  sets [] o h = absurd h
  sets (r ∷ rs) o h = go (holds_dec r o) h (sets rs o)
    where
      st : Store
      st = copy B id size before rs

      go : Dec (Holds r o) → Holds r o ⊎ Held rs o → (Held rs o → fetch st (target o) ≡ fetched before rs o)
          → fetch (set_bytes B id size before r r.len st) (target o) ≡ fetched before (r ∷ rs) o
      go (yes y) k ih =
          let e : r.start + (o - r.start) ≡ o = omega (arith, y.low) in
          rw e at (set_hit r st r.len (o - r.start) (omega (arith, y.low, y.high)))
          ∙ sym (fetched_here before r rs o y.low y.high)
      go (no n) (inl y) ih = absurd (n y)
      go (no n) (inr k) ih =
          set_miss r (target o) st r.len
          (λ j l q. let z = location_inj B id size o (r.start + j) q in n (record { low = omega arith; high = omega arith }))
          ∙ ih k
          ∙ sym (fetched_later before r rs o n)

  pub copy_copies : (rs : List (Run Location)) → Copies B id size rs before (copy B id size before rs)
  copy_copies rs = record { sets = sets rs; stays = stays rs }

-- ---- there is one such store

held_dec : (rs : List (Run Location)) (o : ℕ) → Dec (Held rs o)
held_dec [] o = no (λ h. h)
held_dec (r ∷ rs) o = go (holds_dec r o) (held_dec rs o)
  where
    go : Dec (Holds r o) → Dec (Held rs o) → Dec (Holds r o ⊎ Held rs o)
    go (yes h) k = yes (inl h)
    go (no h) (yes k) = yes (inr k)
    go (no h) (no k) = no (λ e. ⊎_elim h k e)

-- two stores that copying turns one store into give the same byte everywhere
pub copies_once : (B id size : ℕ) (plan : List (Run Location)) (before one two : Store) → Copies B id size plan before one → Copies B id size plan before two
    → (q : Location) → fetch one q ≡ fetch two q
unfolding fetch
copies_once B id size plan before one two c d Hole = refl
copies_once B id size plan before one two c d (In i b l a) = go (held_dec plan o) (location_dec (In i b l a) (location B (Byte id size o)))
  where
    -- the only offset that can lie there
    o : ℕ
    o = b * B + a

    apart : ¬ (Held plan o × (In i b l a ≡ location B (Byte id size o))) → (u : ℕ) → Held plan u → ¬ (In i b l a ≡ location B (Byte id size u))
    apart n u h e = let s : u ≡ o = offset_is B id size u i b l a e in n (rw s at h, rw s at e)

    go : Dec (Held plan o) → Dec (In i b l a ≡ location B (Byte id size o)) → fetch one (In i b l a) ≡ fetch two (In i b l a)
    go (yes h) (yes e) = ap (fetch one) e ∙ c.sets o h ∙ sym (d.sets o h) ∙ sym (ap (fetch two) e)
    go (yes h) (no e) = c.stays (In i b l a) (apart (λ p. e p.1)) ∙ sym (d.stays (In i b l a) (apart (λ p. e p.1)))
    go (no h) k = c.stays (In i b l a) (apart (λ p. h p.0)) ∙ sym (d.stays (In i b l a) (apart (λ p. h p.0)))
