-- Laws of the search tree: where a search ends says whether the id is there, and the tree stays one as records are entered. Assumes nothing.
use Prim.Native.Nat.{ℕ, zero, suc, ◌+◌, ◌-◌, ◌*◌, ◌/◌, ◌<◌, ◌≤◌}
use native.Mathlib.Omega.{arith}
use native.Mathlib.Decide.{ℕ_discrete}
use mathlib.Core.Path.{◌≡◌, refl, sym, ap, subst, ◌∙◌}
use mathlib.Core.Logic.{◌≢◌, ◌⊎◌, inl, inr, ⊎_elim}
use mathlib.Core.Bool.{Bool, true, false, cond, false≢true}
use mathlib.Core.List.{List}
use lib.Dec.{eqb}
use lib.ListN.{length, get_or, set, replicate, length-set, length-replicate}
use lib.Seq.{get_or-set_same, get_or-set_other}
use borrow.Author.Tests.{eqb-true, eqb-false, ne_eqb}
use Rattle.slices.specs.Limits.{max_records}
use Rattle.slices.specs.Record.{record_at, count}
use Rattle.slices.specs.Tree.{root_of, branch, Leads, here, on, Finds, Known, Tree, Extends, Way, AtNode, AtFree, Room, Entered}
use Rattle.slices.proofs.Laws.Sizes.{places_agree, place_other}
use Rattle.slices.specs.declared.Record.{Record}

-- ---- a search

module _ (f : ℕ → Record) (table : List ℕ) (roots id : ℕ) where
  -- a record with another id is passed
  leads_on : (s left node found : ℕ) → get_or table s 0 ≡ suc node → (f node).id ≢ id → Leads f table roots id s left found
      → Leads f table roots id (branch roots node left) (left / 8) found
  leads_on s left node found g n (here k e) = let q : found ≡ node = omega arith in absurd (n (rw q at e))
  leads_on s left node found g n (on {node = m} k o l) = let q : m ≡ node = omega arith in rw q at l

  -- a record with the id is where the search ends
  leads_here : (s left node found : ℕ) → get_or table s 0 ≡ suc node → (f node).id ≡ id → Leads f table roots id s left found → found ≡ node
  leads_here s left node found g e (here k i) = omega arith
  leads_here s left node found g e (on {node = m} k o l) = let q : m ≡ node = omega arith in absurd (o (rw q e))

  -- where there is no record nothing is found
  leads_none : (s left found : ℕ) → get_or table s 0 ≡ 0 → Leads f table roots id s left found → ⊥
  leads_none s left found g (here k i) = omega arith
  leads_none s left found g (on k o l) = omega arith

  module _ (n : ℕ) where
    pub way_root : root_of roots id < roots → Way f table roots n id (root_of roots id) (id / 512)
    way_root h = record { inside = omega arith; down = λ found l. l; up = λ more e found l. l }

    pub way_on : (s left node : ℕ) → Way f table roots n id s left → get_or table s 0 ≡ suc node → node < n → (f node).id ≢ id
        → Way f table roots n id (branch roots node left) (left / 8)
    way_on s left node w g b o =
        record {
          inside = omega arith;
          down = λ found l. leads_on s left node found g o (w.down found l);
          up = λ more e found l. w.up more e found (on (e s (λ z. omega arith) ∙ g) o l);
        }

-- a search ends: each step comes to a record with a higher number
unfoldable pub depth : List ℕ → ℕ → ℕ → ℕ
depth table n s = cond (eqb (get_or table s 0) 0) 0 (suc n - get_or table s 0)

pub depth_less : (f : ℕ → Record) (table : List ℕ) (roots n : ℕ) → Tree f table roots n → (s left node : ℕ) → get_or table s 0 ≡ suc node
    → depth table n (branch roots node left) < depth table n s
unfolding depth
depth_less f table roots n t s left node g = rw (ne_eqb (get_or table s 0) 0 (λ z. omega arith), g) (go (eqb (get_or table (branch roots node left) 0) 0) refl)
  where
    top : suc node ≤ n
    top = rw g at (t.below s)

    up : (m : ℕ) → get_or table (branch roots node left) 0 ≡ suc m → node < m
    up = t.rising node left

    next : (v : ℕ) → get_or table (branch roots node left) 0 ≡ v → v ≢ 0 → suc n - v < suc n - suc node
    next zero e z = absurd (z refl)
    next (suc m) e z = omega (arith, up m e, top)

    go : (b : Bool) → eqb (get_or table (branch roots node left) 0) 0 ≡ b → cond b 0 (suc n - get_or table (branch roots node left) 0) < suc n - suc node
    go true e = omega (arith, top)
    go false e = next (get_or table (branch roots node left) 0) refl (eqb-false (get_or table (branch roots node left) 0) 0 e)

-- ---- entries are added

leads_more : (f : ℕ → Record) (table more : List ℕ) (roots id : ℕ) → Extends table more → (s left found : ℕ) → Leads f table roots id s left found
    → Leads f more roots id s left found
leads_more f table more roots id e s left found (here k i) = here (e s (λ z. omega arith) ∙ k) i
leads_more f table more roots id e s left found (on {node = node} k o l) =
    on (e s (λ z. omega arith) ∙ k) o (leads_more f table more roots id e (branch roots node left) (left / 8) found l)

known_more : (f : ℕ → Record) (table more : List ℕ) (roots : ℕ) → Extends table more → (j : ℕ) → Known f table roots j → Known f more roots j
known_more f table more roots e j k =
    record { found = k.found; finds = leads_more f table more roots (f j).id e (root_of roots (f j).id) ((f j).id / 512) k.found k.finds; same = k.same }

-- a record with the id and the size of one in the tree is in the tree
known_as : (f : ℕ → Record) (table : List ℕ) (roots j n : ℕ) → (f j).id ≡ (f n).id → (f j).size ≡ (f n).size → Known f table roots j → Known f table roots n
known_as f table roots j n e s k = record { found = k.found; finds = subst (λ (x : ℕ). Finds f table roots x k.found) e k.finds; same = k.same ∙ s }

-- ---- what the end of a search says of the records in the tree

module _ (f : ℕ → Record) (table : List ℕ) (roots n id : ℕ) (t : Tree f table roots n) where
  node_same : (node : ℕ) → AtNode f table roots n id node → (j : ℕ) → j < n → (f j).id ≢ 0 → (f j).id ≡ id → (f j).size ≡ (f node).size
  node_same node a j l z e =
      let k = t.known j l z in
      let g = leads_here f table roots id a.s a.left node k.found a.entry a.has (a.way.down k.found (rw e at k.finds)) in
      sym k.same ∙ ap (λ (m : ℕ). (f m).size) g

  free_none : (s : ℕ) → AtFree f table roots n id s → (j : ℕ) → j < n → (f j).id ≢ 0 → (f j).id ≡ id → ⊥
  free_none s a j l z e =
      let k = t.known j l z in
      leads_none f table roots id s a.left k.found a.free (a.way.down k.found (rw e at k.finds))

-- ---- one record more

module _ (f : ℕ → Record) (table : List ℕ) (roots n : ℕ) (t : Tree f table roots n) where
  -- the tree as it is has the next record
  tree_has : ((f n).id ≢ 0 → Known f table roots n) → Tree f table roots (n + 1)
  tree_has h =
      record {
        below = λ s. omega (arith, t.below s);
        rising = t.rising;
        known = λ j l z. go j z (ℕ_discrete j n) (λ q. t.known j (omega arith) z);
      }
    where
      go : (j : ℕ) → (f j).id ≢ 0 → Dec (j ≡ n) → (j ≢ n → Known f table roots j) → Known f table roots j
      go j z (yes e) k = rw e (h (rw e at z))
      go j z (no e) k = k e

  tree_zeros : (f n).id ≡ 0 → Tree f table roots (n + 1)
  tree_zeros e = tree_has (λ z. absurd (z e))

  -- a record with the id and the size of one that the tree has
  tree_same : (node : ℕ) → node < n → (f node).id ≡ (f n).id → (f node).size ≡ (f n).size → Tree f table roots (n + 1)
  tree_same node l e s = tree_has (λ z. known_as f table roots node n e s (t.known node l (λ y. z (sym e ∙ y))))

  -- the record is entered
  module _ (s : ℕ) (a : AtFree f table roots n (f n).id s) (room : s < length table) where
    here_now : get_or (set table s (suc n)) s 0 ≡ suc n
    here_now = get_or-set_same table s (suc n) 0 room

    extends : Extends table (set table s (suc n))
    extends m k = get_or-set_other table s m (suc n) 0 (λ e. k (ap (λ (x : ℕ). get_or table x 0) e ∙ a.free))

    at_entry : (m : ℕ) → Dec (m ≡ s) → ((get_or (set table s (suc n)) m 0 ≡ suc n) × (m ≡ s)) ⊎ (get_or (set table s (suc n)) m 0 ≡ get_or table m 0)
    at_entry m (yes e) = inl (rw e here_now, e)
    at_entry m (no e) = inr (get_or-set_other table s m (suc n) 0 e)

    new_below : (m : ℕ) → get_or (set table s (suc n)) m 0 ≤ n + 1
    new_below m = ⊎_elim (λ w. omega arith) (λ w. omega (arith, t.below m)) (at_entry m (ℕ_discrete m s))

    new_rising : (node left m : ℕ) → get_or (set table s (suc n)) (branch roots node left) 0 ≡ suc m → node < m
    new_rising node left m g =
        ⊎_elim (λ w. omega (arith, a.way.inside)) (λ w. t.rising node left m (sym w ∙ g)) (at_entry (branch roots node left) (ℕ_discrete (branch roots node left) s))

    new_known : Known f (set table s (suc n)) roots n
    new_known = record { found = n; finds = a.way.up (set table s (suc n)) extends n (here here_now refl); same = refl }

    tree_put : Tree f (set table s (suc n)) roots (n + 1)
    tree_put =
        record {
          below = new_below;
          rising = new_rising;
          known = λ j l z. go j z (ℕ_discrete j n) (λ q. known_more f table (set table s (suc n)) roots extends j (t.known j (omega arith) z));
        }
      where
        go : (j : ℕ) → (f j).id ≢ 0 → Dec (j ≡ n) → (j ≢ n → Known f (set table s (suc n)) roots j) → Known f (set table s (suc n)) roots j
        go j z (yes e) k = rw e new_known
        go j z (no e) k = k e

-- ---- no record yet

no_entry : (k s : ℕ) → get_or {A = ℕ} (replicate k 0) s 0 ≡ 0
no_entry zero s = refl
no_entry (suc k) zero = refl
no_entry (suc k) (suc s) = no_entry k s

pub room_start : (bs : List ℕ) (k roots : ℕ) → 0 < roots → roots + count bs * 8 ≤ k → count bs ≤ max_records → Room bs (replicate k 0) roots 0
room_start bs k roots some room few =
    record {
      some = some;
      room = rw length-replicate room;
      few = few;
      tree = record {
        below = λ s. rw no_entry (omega arith);
        rising = λ node left m g. absurd (let z = no_entry k (branch roots node left) in omega arith);
        known = λ j l z. absurd (omega arith);
      };
    }

-- ---- a record is entered

module _ (bs table : List ℕ) (roots i : ℕ) (r : Room bs table roots i) where
  -- records of zeros agree with all
  pub enter_zeros : (record_at bs i).id ≡ 0 → Entered bs table roots i true
  enter_zeros e =
      record {
        says = places_agree bs i (λ j l z. absurd (z e));
        tree = λ y. record { some = r.some; room = r.room; few = r.few; tree = tree_zeros (record_at bs) table roots i r.tree e };
      }

  module _ (nz : (record_at bs i).id ≢ 0) (node : ℕ) (a : AtNode (record_at bs) table roots i (record_at bs i).id node) where
    pub enter_same : (record_at bs node).size ≡ (record_at bs i).size → Entered bs table roots i true
    enter_same e =
        record {
          says = places_agree bs i (λ j l z q. node_same (record_at bs) table roots i (record_at bs i).id r.tree node a j l (λ y. z (sym q ∙ y)) q ∙ e);
          tree = λ y. record { some = r.some; room = r.room; few = r.few; tree = tree_same (record_at bs) table roots i r.tree node a.below a.has e };
        }

    pub enter_other : (record_at bs node).size ≢ (record_at bs i).size → Entered bs table roots i false
    enter_other e = record { says = place_other bs i node a.below (λ g. e (g nz a.has)); tree = λ y. absurd (false≢true y) }

    pub enter_node : Entered bs table roots i (eqb (record_at bs node).size (record_at bs i).size)
    enter_node = go (eqb (record_at bs node).size (record_at bs i).size) refl
      where
        go : (t : Bool) → eqb (record_at bs node).size (record_at bs i).size ≡ t → Entered bs table roots i t
        go true e = enter_same (eqb-true _ _ e)
        go false e = enter_other (eqb-false _ _ e)

  pub enter_new : (record_at bs i).id ≢ 0 → (s : ℕ) → AtFree (record_at bs) table roots i (record_at bs i).id s → s < length table → Entered bs (set table s (suc i)) roots i true
  enter_new nz s a l =
      record {
        says = places_agree bs i (λ j b z q. absurd (free_none (record_at bs) table roots i (record_at bs i).id r.tree s a j b (λ y. z (sym q ∙ y)) q));
        tree = λ y. record { some = r.some; room = simp length-set r.room; few = r.few; tree = tree_put (record_at bs) table roots i r.tree s a l };
      }
