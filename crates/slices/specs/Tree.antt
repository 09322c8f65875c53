-- Inner: the search tree of src/tree.rt. It serves the contracts of inner functions alone: no refusal is defined by it, and no law says what the
-- bits of an id are. A table holds the tree: roots, then eight children for each record; an entry is a record's number plus 1, or 0. Assumes nothing.
use Rattle.std.specs.Prelude.{ℕ, suc, ◌+◌, ◌-◌, ◌*◌, ◌/◌, ◌%◌, ◌<◌, ◌≤◌, ◌≡◌, ◌≢◌, Bool, true, not, List, length, get_or}
use Rattle.std.specs.Int.Bits.{bit_and}
use Rattle.slices.specs.Limits.{max_records}
use Rattle.slices.specs.Record.{record_at, records_from, count}
use Rattle.slices.specs.Refusals.{two_sizes}
use Rattle.slices.specs.declared.Record.{Record}
use Rattle.slices.specs.declared.tree.Spot.{Spot}
use Rattle.slices.specs.declared.tree.Spot.TheVariants.{Node, Free}

-- where the search for an id begins
unfoldable pub root_of : ℕ → ℕ → ℕ
root_of roots id = bit_and id (roots - 1)

-- where it goes on behind a record, with `left` of the id left
abbrev pub branch : ℕ → ℕ → ℕ → ℕ
branch roots node left = roots + node * 8 + left % 8

-- a search for an id leads from an entry, with `left` of the id left, to the record `found`, which has the id
pub data Leads (f : ℕ → Record) (table : List ℕ) (roots id : ℕ) : ℕ → ℕ → ℕ → Type 0 where
  here : {s left found : ℕ} → get_or table s 0 ≡ suc found → (f found).id ≡ id → Leads f table roots id s left found
  on : {s left node found : ℕ} → get_or table s 0 ≡ suc node → (f node).id ≢ id → Leads f table roots id (branch roots node left) (left / 8) found
      → Leads f table roots id s left found

-- from its root
abbrev pub Finds : (ℕ → Record) → List ℕ → ℕ → ℕ → ℕ → Type 0
Finds f table roots id found = Leads f table roots id (root_of roots id) (id / 512) found

-- record j is in the tree: the search for its id finds a record of the same size
pub record Known (f : ℕ → Record) (table : List ℕ) (roots j : ℕ) : Type 0 where
  pub found : ℕ
  pub finds : Finds f table roots (f j).id found
  pub same : (f found).size ≡ (f j).size

-- the tree of the first n records
pub record Tree (f : ℕ → Record) (table : List ℕ) (roots n : ℕ) : Type 0 where
  pub below : (s : ℕ) → get_or table s 0 ≤ n
  pub rising : (node left m : ℕ) → get_or table (branch roots node left) 0 ≡ suc m → node < m
  pub known : (j : ℕ) → j < n → (f j).id ≢ 0 → Known f table roots j

-- entries are only added
abbrev pub Extends : List ℕ → List ℕ → Type 0
Extends table more = (s : ℕ) → get_or table s 0 ≢ 0 → get_or more s 0 ≡ get_or table s 0

-- the search for an id among the first n records comes to an entry with `left` of the id left, and still does where entries are added
pub record Way (f : ℕ → Record) (table : List ℕ) (roots n id s left : ℕ) : Type 0 where
  pub inside : s < roots + n * 8
  pub down : (found : ℕ) → Finds f table roots id found → Leads f table roots id s left found
  pub up : (more : List ℕ) → Extends table more → (found : ℕ) → Leads f more roots id s left found → Finds f more roots id found

-- it ends at a record with the id
pub record AtNode (f : ℕ → Record) (table : List ℕ) (roots n id node : ℕ) : Type 0 where
  pub s : ℕ
  pub left : ℕ
  pub way : Way f table roots n id s left
  pub entry : get_or table s 0 ≡ suc node
  pub below : node < n
  pub has : (f node).id ≡ id

-- it ends at an entry that is 0
pub record AtFree (f : ℕ → Record) (table : List ℕ) (roots n id s : ℕ) : Type 0 where
  pub left : ℕ
  pub way : Way f table roots n id s left
  pub free : get_or table s 0 ≡ 0

-- where it ends
abbrev pub Ends : (ℕ → Record) → List ℕ → ℕ → ℕ → ℕ → Spot → Type 0
Ends f table roots n id (Node node) = AtNode f table roots n id node
Ends f table roots n id (Free s) = AtFree f table roots n id s

-- the tree of the first i records, with room for all
pub record Room (bs table : List ℕ) (roots i : ℕ) : Type 0 where
  pub some : 0 < roots
  pub room : roots + count bs * 8 ≤ length table
  pub few : count bs ≤ max_records
  pub tree : Tree (record_at bs) table roots i

-- record i is compared with the earlier ones; where it agrees with them, the tree has it afterwards
pub record Entered (bs table : List ℕ) (roots i : ℕ) (agrees : Bool) : Type 0 where
  pub says : two_sizes (records_from bs 0 i) (record_at bs i) ≡ not agrees
  pub tree : agrees ≡ true → Room bs table roots (i + 1)
