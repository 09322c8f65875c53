-- Inner: parts of names, how long they are, and what is read of one. It serves the contracts of inner functions alone. Assumes nothing.
use Rattle.std.specs.Prelude.{ℕ, ◌+◌, ◌-◌, ◌/◌, max, ◌≡◌, List, ◌++◌, length, get_or}
use Rattle.codec.specs.Decimal.{decimal}
use Rattle.texts.specs.Words.{slash}
use Rattle.names.specs.declared.ObjectName.{ObjectName}

-- the numbers of an object have i, b and s digits
pub record Widths (id block size i b s : ℕ) : Type 0 where
  pub of_id : i ≡ length (decimal id)
  pub of_block : b ≡ length (decimal block)
  pub of_size : s ≡ length (decimal size)

-- the bytes of a name whose numbers have i, b and s digits: `chunks/` and four words of one byte, the two quotients, three numbers
abbrev pub name_length : ℕ → ℕ → ℕ → ℕ
name_length i b s = 11 + max 1 (max 1 (i - 3) - 3) + max 1 (i - 3) + i + b + s

-- a slice as it stands in names: the two quotients and the id
unfoldable pub slice_path : ℕ → List ℕ
slice_path id = decimal (id / 1000 / 1000) ++ (slash ++ (decimal (id / 1000) ++ (slash ++ decimal id)))

-- what the numbers of a name say
abbrev pub name_of : List ℕ → ObjectName
name_of ns = record { id = get_or ns 2 0; block = get_or ns 3 0; length = get_or ns 4 0 }
