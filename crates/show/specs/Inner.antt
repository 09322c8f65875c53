-- Inner: what is known of a file that was read. It serves the contract of an inner function alone. Assumes nothing.
use Rattle.std.specs.Prelude.{ℕ, ◌≡◌, ◌<◌, ◌≤◌, List, ◌++◌, take, length, Option, Some, None, IfSome, Result, Ok, Err}

-- the bytes of a whole file lie within the buffer
abbrev pub Within : {E : Type 0} → ℕ → Result (Option ℕ) E → Type 0
Within room (Ok (Some n)) = n ≤ room
Within room (Ok None) = Unit {0}
Within room (Err e) = Unit {0}

-- where the bytes xs that the file gives are known: those of a whole file are the first n of the buffer, and a longer one fills the buffer and has more
abbrev pub Holds : {E : Type 0} → Option (List ℕ) → List ℕ → Result (Option ℕ) E → Type 0
Holds known buf (Ok (Some n)) = IfSome known (λ xs. xs ≡ take n buf)
Holds known buf (Ok None) = IfSome known (λ xs. (rest : List ℕ) × (0 < length rest) × (xs ≡ buf ++ rest))
Holds known buf (Err e) = Unit {0}
