-- The number of each kind of refusal, and the kind of each number. Assumes nothing.
use Rattle.std.specs.Prelude.{ℕ, ◌≡◌, refl, cond, eqb, Option, Some, None}
use Rattle.outcomes.specs.declared.kind.Kind.{Kind}
use Rattle.outcomes.specs.declared.kind.Kind.TheVariants.{NotWhole, TooMany, PastChunk, TooLarge, ZerosWithSlice, PastSlice, ChunkTooLong, BlockSize, IdInUse, TooFew, TidiedTooLong, ShortBuffer, NotOfForm, TwoSizes, WrongChunks}
use Rattle.outcomes.specs.Numbers as number

abbrev pub number_of : Kind → ℕ
number_of NotWhole = number.not_whole
number_of TooMany = number.too_many
number_of PastChunk = number.past_chunk
number_of TooLarge = number.too_large
number_of ZerosWithSlice = number.zeros_with_slice
number_of PastSlice = number.past_slice
number_of ChunkTooLong = number.chunk_too_long
number_of BlockSize = number.block_size
number_of IdInUse = number.id_in_use
number_of TooFew = number.too_few
number_of TidiedTooLong = number.tidied_too_long
number_of ShortBuffer = number.short_buffer
number_of NotOfForm = number.not_of_form
number_of TwoSizes = number.two_sizes
number_of WrongChunks = number.wrong_chunks

-- the same where there may be none: then 0
abbrev pub number_or_0 : Option Kind → ℕ
number_or_0 (Some k) = number_of k
number_or_0 None = 0

-- the kind with a number; where there is none, any
abbrev pub kind_of : ℕ → Kind
kind_of n =
    cond (eqb n 1) NotWhole
    (cond (eqb n 2) TooMany
    (cond (eqb n 3) PastChunk
    (cond (eqb n 4) TooLarge
    (cond (eqb n 5) ZerosWithSlice
    (cond (eqb n 6) PastSlice
    (cond (eqb n 7) ChunkTooLong
    (cond (eqb n 8) BlockSize
    (cond (eqb n 9) IdInUse
    (cond (eqb n 10) TooFew
    (cond (eqb n 11) TidiedTooLong
    (cond (eqb n 12) ShortBuffer
    (cond (eqb n 13) NotOfForm
    (cond (eqb n 16) TwoSizes WrongChunks)))))))))))))

pub kind_back : (k : Kind) → kind_of (number_of k) ≡ k
kind_back NotWhole = refl
kind_back TooMany = refl
kind_back PastChunk = refl
kind_back TooLarge = refl
kind_back ZerosWithSlice = refl
kind_back PastSlice = refl
kind_back ChunkTooLong = refl
kind_back BlockSize = refl
kind_back IdInUse = refl
kind_back TooFew = refl
kind_back TidiedTooLong = refl
kind_back ShortBuffer = refl
kind_back NotOfForm = refl
kind_back TwoSizes = refl
kind_back WrongChunks = refl
