-- Volume names: "by our house rule 1 to 63 bytes of a-z, 0-9 and hyphen". Assumes nothing.
use Rattle.std.specs.Prelude.{ℕ, suc, min, Bool, true, cond, ◌&&◌, ◌||◌, List, [], ◌∷◌, leb, eqb, length, Result, Ok, Err}
use Rattle.names.specs.Limits.{max_volume}

-- a-z, 0-9 and hyphen
abbrev pub volume_byte : ℕ → Bool
volume_byte b = (leb 97 b && leb b 122) || ((leb 48 b && leb b 57) || eqb b 45)

unfoldable pub volume_bytes : List ℕ → Bool
volume_bytes [] = true
volume_bytes (b ∷ rest) = volume_byte b && volume_bytes rest

unfoldable pub volume_allowed : List ℕ → Bool
volume_allowed volume = (leb 1 (length volume) && leb (length volume) max_volume) && volume_bytes volume

-- ---- reading: the volume name ends at the first byte that is none of its kind

-- how many bytes of a volume name a text begins with
unfoldable pub volume_run : List ℕ → ℕ
volume_run [] = 0
volume_run (b ∷ rest) = cond (volume_byte b) (suc (volume_run rest)) 0

-- the step over the volume name that a text begins with: `Err` at 0 where there is none, and behind the 63rd byte of one that is too long
abbrev pub volume_at : List ℕ → Result ℕ ℕ
volume_at text = cond (leb 1 (volume_run text) && leb (volume_run text) max_volume) (Ok (volume_run text)) (Err (min (volume_run text) max_volume))
