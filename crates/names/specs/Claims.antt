-- What is to be believed of object names, in one record: reading is the inverse of writing. `names_inverse` of proofs/Laws/Claims.antt
-- proves it. Assumes nothing.
use Rattle.std.specs.Prelude.{ℕ, ◌/◌, ◌≡◌, true, List, [], ◌++◌, length, take}
use Rattle.outcomes.specs.Outcome.{refused, done}
use Rattle.outcomes.specs.Outcome.{Refusal}
use Rattle.texts.specs.Words.{slash}
use Rattle.texts.specs.Inverse.{Inverse, Any}
use Rattle.names.specs.Volume.{volume_allowed}
use Rattle.names.specs.Names.{Object, Full, object_allowed, shaped, object_name, read_object, full_allowed, full_name, read_full, volume_part}

pub record NamesInverse : Type 0 where
  -- short names
  pub short : Inverse Any (λ o. object_allowed o.id o.block o.length) (λ o. object_name o.id o.block o.length) read_object
  -- full names
  pub full : Inverse Any (λ f. full_allowed f.volume f.object.id f.object.block f.object.length) (λ f. full_name f.volume f.object.id f.object.block f.object.length) read_full
  -- no text is both
  pub not_both : (t : List ℕ) (f : Full) (o : Object) → read_full t ≡ done f → read_object t ≡ done o → ⊥
  -- "The two quotients must agree with the id", in a short name and in a full one
  pub quotients : (millions thousands id block len : ℕ) (o : Object) → read_object (shaped millions thousands id block len) ≡ done o → (millions ≡ id / 1000 / 1000) × (thousands ≡ id / 1000)
  pub full_quotients : (volume : List ℕ) (millions thousands id block len : ℕ) (f : Full) → volume_allowed volume ≡ true → read_full (volume ++ (slash ++ shaped millions thousands id block len)) ≡ done f
      → (millions ≡ id / 1000 / 1000) × (thousands ≡ id / 1000)
  -- the volume name comes back
  pub volume : (volume : List ℕ) (id block len : ℕ) → full_allowed volume id block len ≡ true → volume_part (read_full (full_name volume id block len)) ≡ volume
  -- "as a part of the caller's own bytes": their front
  pub part : (t : List ℕ) → take (length (volume_part (read_full t))) t ≡ volume_part (read_full t)
  -- "an empty part on refusal"
  pub empty : (t : List ℕ) (r : Refusal) → read_full t ≡ refused r → volume_part (read_full t) ≡ []
