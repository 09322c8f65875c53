-- The numbers of paper 01's refusals ("When the server says no"), each with the words that stand beside it. Assumes nothing.
use Rattle.std.specs.Prelude.{ℕ}

-- list length is no multiple of 24
abbrev pub not_whole : ℕ
not_whole = 1

-- more than 2,048 records
abbrev pub too_many : ℕ
too_many = 2

-- pos + len above 64 MiB
abbrev pub past_chunk : ℕ
past_chunk = 3

-- size above 64 MiB
abbrev pub too_large : ℕ
too_large = 4

-- id 0 with off not 0, or with a size that is neither 0 nor len
abbrev pub zeros_with_slice : ℕ
zeros_with_slice = 5

-- id not 0 and off + len above size
abbrev pub past_slice : ℕ
past_slice = 6

-- chunk length above 64 MiB
abbrev pub chunk_too_long : ℕ
chunk_too_long = 7

-- block size not allowed
abbrev pub block_size : ℕ
block_size = 8

-- new id is 0 or stands in any record of the list, empty ones included
abbrev pub id_in_use : ℕ
id_in_use = 9

-- k above the number of records
abbrev pub too_few : ℕ
too_few = 10

-- tidied list above 2,048 records
abbrev pub tidied_too_long : ℕ
tidied_too_long = 11

-- an output buffer shorter than its answer (either of the two, in compaction)
abbrev pub short_buffer : ℕ
short_buffer = 12

-- a name or key not of the form above, or numbers to be written that the form doesn't allow
abbrev pub not_of_form : ℕ
not_of_form = 13

-- an earlier record has this id, not 0, and another size
abbrev pub two_sizes : ℕ
two_sizes = 16

-- another number of lists than 1 to 16, lengths that don't add up to the bytes lent, or an index past 32 bits
abbrev pub wrong_chunks : ℕ
wrong_chunks = 21
