-- Short object names: reading is the inverse of writing. Assumes nothing.
use Prim.Native.Nat.{ℕ, ◌+◌, ◌/◌, ◌≤◌}
use native.Mathlib.Omega.{arith}
use mathlib.Core.Path.{◌≡◌, refl, sym, ◌∙◌}
use mathlib.Core.Bool.{true, ◌&&◌, and-eq-true_iff}
use mathlib.Core.Logic.{◌↔◌}
use mathlib.Core.List.{List, [], ◌∷◌, append-nil}
use borrow.Author.Tests.{le-leb, leb-true}
use lib.Dec.{leb}
use Rattle.codec.specs.Decimal.{digit_of}
use Rattle.outcomes.specs.Numbers.{not_of_form}
use Rattle.outcomes.specs.Outcome.{refused, done, refusal}
use Rattle.texts.specs.Limits.{max_number}
use Rattle.names.specs.Limits.{max_block, max_length}
use Rattle.texts.specs.Words.{slash, underscore}
use Rattle.names.specs.Words.{chunks}
use Rattle.texts.specs.Parts.{Part, word, within, write, allows}
use Rattle.texts.specs.Inverse.{Inverse, Any}
use Rattle.names.specs.Names.{Object, object, object_allowed, shaped, object_name, name_form, object_of, read_object, write_object}
use Rattle.texts.proofs.Laws.Parts.{apart, ends, Allowed, allowed, allowing, distinct}
use Rattle.texts.proofs.Laws.Shows.{Shows, shows_inverse}
use Rattle.texts.specs.Calls.{WriterRefuses}
use Rattle.texts.proofs.Laws.Calls.{writer_refuses}
use Rattle.texts.proofs.Laws.Inverse as inverse

-- ---- which objects have a name

pub record InRange (id block len : ℕ) : Type 0 where
  pub low : 1 ≤ id
  pub high : id ≤ max_number
  pub blocks : block ≤ max_block
  pub some : 1 ≤ len
  pub most : len ≤ max_length

pub in_range : (id block len : ℕ) → object_allowed id block len ≡ true → InRange id block len
unfolding object_allowed
in_range id block len w =
    let a = (and-eq-true_iff (leb 1 id && leb id max_number) (leb block max_block && (leb 1 len && leb len max_length))).0 w in
    let b = (and-eq-true_iff (leb 1 id) (leb id max_number)).0 a.0 in
    let c = (and-eq-true_iff (leb block max_block) (leb 1 len && leb len max_length)).0 a.1 in
    let d = (and-eq-true_iff (leb 1 len) (leb len max_length)).0 c.1 in
    record { low = leb-true _ _ b.0; high = leb-true _ _ b.1; blocks = leb-true _ _ c.0; some = leb-true _ _ d.0; most = leb-true _ _ d.1 }

pub object_allowed_lem : (id block len : ℕ) → InRange id block len → object_allowed id block len ≡ true
unfolding object_allowed
object_allowed_lem id block len r =
    simp (le-leb 1 id r.low, le-leb id max_number r.high, le-leb block max_block r.blocks, le-leb 1 len r.some, le-leb len max_length r.most)

-- ---- the form

-- the numbers that the name of an object shows
abbrev pub shown : Object → List ℕ
shown o = o.id / 1000 / 1000 ∷ o.id / 1000 ∷ o.id ∷ o.block ∷ o.length ∷ []

pub name_text : (o : Object) → object_name o.id o.block o.length ≡ write name_form (shown o)
unfolding object_name write
name_text o = rw append-nil

pub name_shows : Shows name_form (λ o. object_allowed o.id o.block o.length) shown object_of
unfolding apart ends digit_of Allowed
name_shows =
    record {
      parts = refl;
      again = λ o. refl;
      taken = λ o a. let r = in_range o.id o.block o.length a in allowing name_form [] (shown o) (omega arith);
      right = λ ns w. five ns (allowed name_form [] ns w);
    }
  where
    five : (ns : List ℕ) → Allowed name_form [] ns → (shown (object_of ns) ≡ ns) × (object_allowed (object_of ns).id (object_of ns).block (object_of ns).length ≡ true)
    five [] w = absurd w
    five (a ∷ []) w = absurd w.2
    five (a ∷ b ∷ []) w = absurd w.2.2
    five (a ∷ b ∷ c ∷ []) w = absurd w.2.2.2
    five (a ∷ b ∷ c ∷ d ∷ []) w = absurd w.2.2.2.2
    five (a ∷ b ∷ c ∷ d ∷ f ∷ g ∷ ns) w = absurd w.2.2.2.2.2
    five (a ∷ b ∷ c ∷ d ∷ f ∷ []) w =
        let t : c / 1000 / 1000 ≡ a = omega arith in
        let u : c / 1000 ≡ b = omega arith in
        (rw (t, u), object_allowed_lem c d f (record { low = omega arith; high = omega arith; blocks = omega arith; some = omega arith; most = omega arith }))

-- ---- the theorems

pub object_name_lem : Inverse Any (λ o. object_allowed o.id o.block o.length) (λ o. object_name o.id o.block o.length) read_object
unfolding read_object
object_name_lem = shows_inverse name_shows (λ o. object_name o.id o.block o.length) name_text

-- writing then reading gives the numbers back
pub object_name_back : (id block len : ℕ) → object_allowed id block len ≡ true → read_object (object_name id block len) ≡ done (object id block len)
object_name_back id block len a = object_name_lem.back (object id block len) a

-- an accepted text is exactly the written one, and its numbers are allowed
pub object_name_forth : (t : List ℕ) (id block len : ℕ) → read_object t ≡ done (object id block len)
    → (t ≡ object_name id block len) × (object_allowed id block len ≡ true)
object_name_forth t id block len r = object_name_lem.forth t tt (object id block len) r

-- two objects never share a name
pub name_distinct : (o p : Object) → object_allowed o.id o.block o.length ≡ true → object_allowed p.id p.block p.length ≡ true
    → object_name o.id o.block o.length ≡ object_name p.id p.block p.length → o ≡ p
name_distinct = inverse.distinct object_name_lem

-- reading gives 13 exactly where no object has that name
pub object_name_refused_exactly : (t : List ℕ) → (read_object t ≡ refused (refusal not_of_form 0))
    ↔ ((o : Object) → object_allowed o.id o.block o.length ≡ true → t ≡ object_name o.id o.block o.length → ⊥)
object_name_refused_exactly t = inverse.refused_exactly object_name_lem t tt

-- writing gives 13 exactly where the numbers are not allowed, else 12 exactly where the buffer is too short
pub write_object_refused_exactly : (id block len : ℕ) → WriterRefuses (write_object id block len) (object_allowed id block len) (object_name id block len)
write_object_refused_exactly id block len = writer_refuses (object_allowed id block len) (object_name id block len)

-- ---- the two quotients agree with the id

-- the shape of a name as a form, with numbers up to a bound
abbrev loose : ℕ → List Part
loose most = word chunks ∷ within 0 most ∷ word slash ∷ within 0 most ∷ word slash ∷ within 0 most ∷ word underscore ∷ within 0 most ∷ word underscore ∷ within 0 most ∷ []

loose_text : (most a b id block len : ℕ) → shaped a b id block len ≡ write (loose most) (a ∷ b ∷ id ∷ block ∷ len ∷ [])
unfolding write
loose_text most a b id block len = rw append-nil

loose_apart : (most : ℕ) → apart (loose most) ≡ true
unfolding apart ends digit_of
loose_apart most = refl

loose_allows : (most a b id block len : ℕ) → a + b + id + block + len ≤ most → allows (loose most) [] (a ∷ b ∷ id ∷ block ∷ len ∷ []) ≡ true
unfolding Allowed
loose_allows most a b id block len h = allowing (loose most) [] (a ∷ b ∷ id ∷ block ∷ len ∷ []) (omega arith)

shaped_distinct : (a b id block len a' b' id' block' len' : ℕ) → shaped a b id block len ≡ shaped a' b' id' block' len'
    → a ∷ b ∷ id ∷ block ∷ len ∷ [] ≡ a' ∷ b' ∷ id' ∷ block' ∷ len' ∷ []
shaped_distinct a b id block len a' b' id' block' len' e =
    let most = a + b + id + block + len + (a' + b' + id' + block' + len') in
    distinct (loose most) (loose_apart most) _ _ (loose_allows most a b id block len (omega arith)) (loose_allows most a' b' id' block' len' (omega arith))
    (sym (loose_text most a b id block len) ∙ e ∙ loose_text most a' b' id' block' len')

-- numbers in the shape of a name that are an object's name: the two quotients are those of the id
pub quotients_of : (a b id block len : ℕ) (o : Object) → shaped a b id block len ≡ object_name o.id o.block o.length → (a ≡ id / 1000 / 1000) × (b ≡ id / 1000)
unfolding object_name
quotients_of a b id block len o p =
    let e = shaped_distinct a b id block len (o.id / 1000 / 1000) (o.id / 1000) o.id o.block o.length p in
    let i : id ≡ o.id = cc in
    rw i (cc, cc)

-- in an accepted name the two quotients are those of the id
pub quotients_agree : (a b id block len : ℕ) (o : Object) → read_object (shaped a b id block len) ≡ done o → (a ≡ id / 1000 / 1000) × (b ≡ id / 1000)
quotients_agree a b id block len o r = quotients_of a b id block len o (object_name_lem.forth (shaped a b id block len) tt o r).0
