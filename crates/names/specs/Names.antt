-- Object names (paper 01, "Blocks, names, keys"). Claims.antt says that reading is the inverse of writing. Assumes nothing.
use Rattle.std.specs.Prelude.{ℕ, ◌+◌, ◌*◌, ◌/◌, min, max, Bool, ◌&&◌, List, [], ◌∷◌, ◌++◌, leb, take, get_or, Result, Ok, Err}
use Rattle.codec.specs.Decimal.{decimal}
use Rattle.outcomes.specs.Outcome.{Outcome, refused, done}
use Rattle.outcomes.specs.Answers.{answer_of}
use Rattle.texts.specs.Limits.{max_number}
use Rattle.names.specs.Limits.{max_block, max_length}
use Rattle.texts.specs.Words.{slash, underscore}
use Rattle.names.specs.Words.{chunks}
use Rattle.texts.specs.Parts.{Part, word, number, within, latest, Scan, scan, onward}
use Rattle.texts.specs.Calls.{write_text, reading}
use Rattle.names.specs.Volume.{volume_allowed, volume_run, volume_at}
use Rattle.names.specs.declared.ObjectName.{ObjectName}
use Rattle.outcomes.specs.Outcome.{Refusal}

-- an object: a block of a slice
pub record Object : Type 0 where
  pub id : ℕ
  pub block : ℕ
  pub length : ℕ

abbrev pub object : ℕ → ℕ → ℕ → Object
object i b n = record { id = i; block = b; length = n }

-- "Id is 1 up to the largest 64-bit number, block 0 to 1,023, block length 1 to 16,777,216."
unfoldable pub object_allowed : ℕ → ℕ → ℕ → Bool
object_allowed id block len = (leb 1 id && leb id max_number) && (leb block max_block && (leb 1 len && leb len max_length))

-- ---- short names

-- five numbers in the shape of a name
abbrev pub shaped : ℕ → ℕ → ℕ → ℕ → ℕ → List ℕ
shaped millions thousands id block len =
    chunks ++ (decimal millions ++ (slash ++ (decimal thousands ++ (slash ++ (decimal id ++ (underscore ++ (decimal block ++ (underscore ++ decimal len))))))))

-- "Object name (003): `chunks/` id/1000/1000 `/` id/1000 `/` id `_` block `_` block length, all decimal, whole quotients, no leading zeros."
unfoldable pub object_name : ℕ → ℕ → ℕ → List ℕ
object_name id block len = shaped (id / 1000 / 1000) (id / 1000) id block len

-- The same as a form. "The two quotients must agree with the id": the bounds of a number are those of the ids that the quotient before
-- it leaves.
abbrev pub name_form : List Part
name_form =
    word chunks
    ∷ within 0 (max_number / 1000 / 1000)
    ∷ word slash
    ∷ number (λ before. latest before * 1000) (λ before. min (latest before * 1000 + 999) (max_number / 1000))
    ∷ word slash
    ∷ number (λ before. max 1 (latest before * 1000)) (λ before. min (latest before * 1000 + 999) max_number)
    ∷ word underscore
    ∷ within 0 max_block
    ∷ word underscore
    ∷ within 1 max_length
    ∷ []

-- the object of the numbers in a name
abbrev pub object_of : List ℕ → Object
object_of ns = object (get_or ns 2 0) (get_or ns 3 0) (get_or ns 4 0)

-- the object that a short name names, or refusal 13
unfoldable pub read_object : List ℕ → Outcome Object
read_object text = reading object_of (scan name_form text [] 0)

-- the answer of the call that reads a short name: refusal 13, or the id, the block and the block length
abbrev pub named : Object → Result ObjectName Refusal
named o = Ok (record { id = o.id; block = o.block; length = o.length })

abbrev pub object_answer : Outcome Object → Result ObjectName Refusal
object_answer o = answer_of Err named o

-- the call that writes a short name
abbrev pub write_object : ℕ → ℕ → ℕ → ℕ → Outcome (List ℕ)
write_object id block len room = write_text (object_allowed id block len) (object_name id block len) room

-- ---- full names

-- an object in a volume
pub record Full : Type 0 where
  pub volume : List ℕ
  pub object : Object

abbrev pub full : List ℕ → Object → Full
full v o = record { volume = v; object = o }

unfoldable pub full_allowed : List ℕ → ℕ → ℕ → ℕ → Bool
full_allowed volume id block len = volume_allowed volume && object_allowed id block len

-- "A full name has a volume name and a slash in front"
unfoldable pub full_name : List ℕ → ℕ → ℕ → ℕ → List ℕ
full_name volume id block len = volume ++ (slash ++ object_name id block len)

-- what follows the volume name, as a form
abbrev pub full_form : List Part
full_form = word slash ∷ name_form

-- what follows the volume name of a text, read
unfoldable pub full_scan : List ℕ → Scan
full_scan text = onward (volume_at text) (scan full_form text [])

-- an object of the given volume
unfoldable pub in_volume : List ℕ → Outcome Object → Outcome Full
in_volume volume (refused r) = refused r
in_volume volume (done o) = done (full volume o)

-- the volume name and the object that a full name names, or refusal 13
unfoldable pub read_full : List ℕ → Outcome Full
read_full text = in_volume (take (volume_run text) text) (reading object_of (full_scan text))

-- the answer of the call that reads a full name: the same, without the volume name
abbrev pub full_answer : Outcome Full → Result ObjectName Refusal
full_answer o = answer_of Err (λ (f : Full). named f.object) o

-- "the volume name is handed back as a part of the caller's own bytes, an empty part on refusal": of a full name, what stands in
-- front of its first slash
unfoldable pub volume_part : Outcome Full → List ℕ
volume_part (refused r) = []
volume_part (done f) = f.volume

-- the call that writes a full name
abbrev pub write_full : List ℕ → ℕ → ℕ → ℕ → ℕ → Outcome (List ℕ)
write_full volume id block len room = write_text (full_allowed volume id block len) (full_name volume id block len) room
