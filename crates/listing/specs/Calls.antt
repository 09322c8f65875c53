-- What the call `text` is to do. Assumes nothing.
use Rattle.std.specs.Prelude.{ℕ, ◌+◌, ◌*◌, ◌/◌, Bool, List, [], ◌∷◌, ltb, length}
use Rattle.outcomes.specs.Numbers.{short_buffer}
use Rattle.outcomes.specs.Outcome.{Outcome, done, row, first_of}
use Rattle.codec.specs.Decimal.{max_digits}
use Rattle.slices.specs.Limits.{record_size}
use Rattle.listing.specs.Listing.{file_limit, header, listing}

-- a number and the byte after it
abbrev pub field_room : ℕ
field_room = max_digits + 1

-- a line of five numbers
abbrev pub line_room : ℕ
line_room = 5 * field_room

-- the most runs of a view that fits its buffer: 2,730
abbrev pub most_runs : ℕ
most_runs = file_limit / record_size

-- the header, and as many lines: 286,670 bytes
abbrev pub text_room : ℕ
text_room = length header + most_runs * line_room

-- refusal 12 where the buffer has not that room, else the listing
unfoldable pub text_outcome : Bool → List ℕ → ℕ → Outcome (List ℕ)
text_outcome longer bs room = first_of (row (ltb room text_room) short_buffer 0 ∷ []) (done (listing longer bs))
