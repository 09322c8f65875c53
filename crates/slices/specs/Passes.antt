-- The records that the laws speak of: those that pass refusals 3 to 6. Assumes nothing.
use Rattle.std.specs.Prelude.{◌+◌, ◌≤◌, ◌≡◌, ◌≢◌, ◌⊎◌}
use Rattle.slices.specs.Limits.{chunk}
use Rattle.slices.specs.declared.Record.{Record}

pub record Passes (r : Record) : Type 0 where
  -- not 3: pos + len is at most 64 MiB
  pub inside : r.pos + r.len ≤ chunk
  -- not 4: size is at most 64 MiB
  pub sized : r.size ≤ chunk
  -- not 5: id 0 has off 0, and a size that is 0 or len
  pub zeros : r.id ≡ 0 → (r.off ≡ 0) × ((r.size ≡ 0) ⊎ (r.size ≡ r.len))
  -- not 6: any other id has off + len at most size
  pub within : r.id ≢ 0 → r.off + r.len ≤ r.size
