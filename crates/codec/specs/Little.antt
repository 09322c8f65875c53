-- Numbers of a fixed width as bytes, the lowest byte first: `big_endian` of Fixed.antt the other way round. proofs/Laws/Little.antt has
-- both round trips. Assumes nothing.
use Rattle.std.specs.Prelude.{ℕ, zero, suc, ◌+◌, ◌*◌, ◌/◌, ◌%◌, ◌^◌, List, [], ◌∷◌, ◌++◌, get_or}

-- the k lowest bytes of x, the highest of them last
unfoldable pub little_endian : ℕ → ℕ → List ℕ
little_endian zero x = []
little_endian (suc k) x = little_endian k x ++ (x / 256 ^ k % 256 ∷ [])

-- the number that the k bytes from `at` make, the highest last
unfoldable pub little_at : List ℕ → ℕ → ℕ → ℕ
little_at bs at zero = 0
little_at bs at (suc k) = little_at bs at k + get_or bs (at + k) 0 * 256 ^ k
