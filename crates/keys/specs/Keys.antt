-- Chunk keys (paper 01, "Blocks, names, keys"). Claims.antt says that reading is the inverse of writing. Assumes nothing.
use Rattle.std.specs.Prelude.{ℕ, Bool, ◌&&◌, not, List, [], ◌∷◌, ◌++◌, leb, eqb, length, get_or, Result, Ok, Err}
use Rattle.codec.specs.Fixed.{big_endian, number_at}
use Rattle.codec.specs.Little.{little_endian, little_at}
use Rattle.codec.specs.Decimal.{decimal}
use Rattle.outcomes.specs.Numbers.{not_of_form}
use Rattle.outcomes.specs.Outcome.{Outcome, done, row, first_of}
use Rattle.outcomes.specs.Answers.{answer_of}
use Rattle.texts.specs.Limits.{max_number}
use Rattle.slices.specs.Limits.{max_index}
use Rattle.keys.specs.Limits.{tkv_size}
use Rattle.keys.specs.Words.{small_c, capital_a, capital_c}
use Rattle.texts.specs.Words.{underscore}
use Rattle.texts.specs.Parts.{Part, word, within, scan}
use Rattle.texts.specs.Calls.{write_text, reading}
use Rattle.keys.specs.declared.ChunkKey.{ChunkKey}
use Rattle.outcomes.specs.Outcome.{Refusal}

-- a chunk of a file
pub record Chunk : Type 0 where
  pub inode : ℕ
  pub index : ℕ

abbrev pub chunk : ℕ → ℕ → Chunk
chunk i j = record { inode = i; index = j }

-- "Inode is any 64-bit number, index any 32-bit number."
unfoldable pub chunk_allowed : ℕ → ℕ → Bool
chunk_allowed inode index = leb inode max_number && leb index max_index

-- the answer of a call that reads a key: refusal 13, or the inode and the index
abbrev pub named : Chunk → Result ChunkKey Refusal
named c = Ok (record { inode = c.inode; index = c.index })

abbrev pub chunk_answer : Outcome Chunk → Result ChunkKey Refusal
chunk_answer o = answer_of Err named o

-- ---- Redis

-- "Redis chunk key (000): `c`, inode, `_`, index, decimal without leading zeros."
unfoldable pub redis_key : ℕ → ℕ → List ℕ
redis_key inode index = small_c ++ (decimal inode ++ (underscore ++ decimal index))

-- the same as a form
abbrev pub redis_form : List Part
redis_form = word small_c ∷ within 0 max_number ∷ word underscore ∷ within 0 max_index ∷ []

-- the chunk of the numbers in a Redis key
abbrev pub chunk_of : List ℕ → Chunk
chunk_of ns = chunk (get_or ns 0 0) (get_or ns 1 0)

-- the chunk that a Redis key names, or refusal 13
unfoldable pub read_redis : List ℕ → Outcome Chunk
read_redis text = reading chunk_of (scan redis_form text [] 0)

-- the call that writes a Redis key
abbrev pub write_redis : ℕ → ℕ → ℕ → Outcome (List ℕ)
write_redis inode index room = write_text (chunk_allowed inode index) (redis_key inode index) room

-- ---- TKV

-- "TKV chunk key, 14 bytes: `A`, inode in 8 bytes little-endian, `C`, index in 4 bytes big-endian."
unfoldable pub tkv_key : ℕ → ℕ → List ℕ
tkv_key inode index = capital_a ++ (little_endian 8 inode ++ (capital_c ++ big_endian 4 index))

-- 14 bytes with the two letters in their places
unfoldable pub tkv_shape : List ℕ → Bool
tkv_shape key = eqb (length key) tkv_size && (eqb (get_or key 0 0) 65 && eqb (get_or key 9 0) 67)

-- the chunk that a TKV key names, or refusal 13
unfoldable pub read_tkv : List ℕ → Outcome Chunk
read_tkv key = first_of (row (not (tkv_shape key)) not_of_form 0 ∷ []) (done (chunk (little_at key 1 8) (number_at key 10 4)))

-- the call that writes a TKV key
abbrev pub write_tkv : ℕ → ℕ → ℕ → Outcome (List ℕ)
write_tkv inode index room = write_text (chunk_allowed inode index) (tkv_key inode index) room
