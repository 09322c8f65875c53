-- Laws of the kinds of refusals: each has a number that is not 0. Assumes nothing.
use native.Mathlib.Omega.{arith}
use mathlib.Core.Path.{◌≡◌, refl, sym}
use mathlib.Core.Bool.{true, false, false≢true}
use Rattle.std.specs.Prelude.{Option, Some, None}
use Rattle.std.specs.Option.{is_some}
use Rattle.outcomes.specs.Kinds.{number_of, number_or_0}
use Rattle.outcomes.specs.declared.kind.Kind.{Kind}
use Rattle.outcomes.specs.declared.kind.Kind.TheVariants.{NotWhole, TooMany, PastChunk, TooLarge, ZerosWithSlice, PastSlice, ChunkTooLong, BlockSize, IdInUse, TooFew, TidiedTooLong, ShortBuffer, NotOfForm, TwoSizes, WrongChunks}

pub number_not_0 : (k : Kind) → number_of k ≡ 0 → ⊥
number_not_0 NotWhole e = omega arith
number_not_0 TooMany e = omega arith
number_not_0 PastChunk e = omega arith
number_not_0 TooLarge e = omega arith
number_not_0 ZerosWithSlice e = omega arith
number_not_0 PastSlice e = omega arith
number_not_0 ChunkTooLong e = omega arith
number_not_0 BlockSize e = omega arith
number_not_0 IdInUse e = omega arith
number_not_0 TooFew e = omega arith
number_not_0 TidiedTooLong e = omega arith
number_not_0 ShortBuffer e = omega arith
number_not_0 NotOfForm e = omega arith
number_not_0 TwoSizes e = omega arith
number_not_0 WrongChunks e = omega arith

pub some_not_0 : (o : Option Kind) → is_some o ≡ true → number_or_0 o ≡ 0 → ⊥
some_not_0 (Some k) s e = number_not_0 k e
some_not_0 None s e = absurd (false≢true s)

pub none_is_0 : (o : Option Kind) → is_some o ≡ false → number_or_0 o ≡ 0
none_is_0 (Some k) s = absurd (false≢true (sym s))
none_is_0 None s = refl
