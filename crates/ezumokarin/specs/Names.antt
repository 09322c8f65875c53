-- What the readers of names and keys answer, as structs of numbers: refusal 0 on success; a field without meaning is 0. Assumes nothing.
use Rattle.std.specs.Prelude.{ℕ, length, Result, Ok, Err}
use Rattle.outcomes.specs.Outcome.{Outcome, refused, done}
use Rattle.keys.specs.Keys.{Chunk as ChunkOf}
use Rattle.names.specs.Names.{Object as ObjectOf, Full}
use Rattle.outcomes.specs.Outcome.{Refusal}
use Rattle.names.specs.declared.ObjectName.{ObjectName}
use Rattle.keys.specs.declared.ChunkKey.{ChunkKey}
use Rattle.ezumokarin.specs.declared.Object.{Object}
use Rattle.ezumokarin.specs.declared.Chunk.{Chunk}

-- a name that names nothing
abbrev pub no_object : Refusal → Object
no_object r = record { refusal = r.number; place = r.place; id = 0; block = 0; length = 0; volume = 0 }

-- an object, with the length of the volume name in front of its name
abbrev pub an_object : ℕ → ℕ → ℕ → ℕ → Object
an_object id block size volume = record { refusal = 0; place = 0; id = id; block = block; length = size; volume = volume }

-- a key that names nothing, and a chunk
abbrev pub no_chunk : Refusal → Chunk
no_chunk r = record { refusal = r.number; place = r.place; inode = 0; index = 0 }

abbrev pub a_chunk : ℕ → ℕ → Chunk
a_chunk inode index = record { refusal = 0; place = 0; inode = inode; index = index }

-- a short name that was read
unfoldable pub object_read : Outcome ObjectOf → Object
object_read (refused r) = no_object r
object_read (done o) = an_object o.id o.block o.length 0

-- a full name that was read
unfoldable pub full_read : Outcome Full → Object
full_read (refused r) = no_object r
full_read (done f) = an_object f.object.id f.object.block f.object.length (length f.volume)

-- a key that was read
unfoldable pub chunk_read : Outcome ChunkOf → Chunk
chunk_read (refused r) = no_chunk r
chunk_read (done c) = a_chunk c.inode c.index

-- ---- the same of the calls' own answers

unfoldable pub plain_object : Result ObjectName Refusal → ℕ → Object
plain_object (Ok o) volume = an_object o.id o.block o.length volume
plain_object (Err r) volume = no_object r

unfoldable pub plain_chunk : Result ChunkKey Refusal → Chunk
plain_chunk (Ok k) = a_chunk k.inode k.index
plain_chunk (Err r) = no_chunk r
