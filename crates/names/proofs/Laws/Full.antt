-- Full object names: reading is the inverse of writing, and no text is both a full name and a short one. Assumes nothing.
use Prim.Native.Nat.{ℕ, ◌/◌, min}
use native.Mathlib.Omega.{arith}
use mathlib.Core.Path.{◌≡◌, refl, sym, ap, ◌∙◌}
use mathlib.Core.Bool.{Bool, true, false, cond, ◌&&◌, and-eq-true_iff}
use mathlib.Core.Logic.{◌↔◌}
use mathlib.Core.List.{List, [], ◌∷◌, ◌++◌}
use borrow.Author.Tests.{le-leb}
use lib.Dec.{leb}
use lib.ListN.{length, take, drop, take-append-drop}
use lib.Seq.{drop-append_seam, take-append_seam}
use Rattle.codec.specs.Decimal.{decimal, digit_of}
use Rattle.codec.proofs.Laws.Decimal.{spelled}
use Rattle.outcomes.specs.Numbers.{not_of_form}
use Rattle.outcomes.specs.Outcome.{Outcome, refused, done, refusal}
use Rattle.outcomes.specs.Outcome.{Refusal}
use Rattle.names.specs.Limits.{max_volume}
use Rattle.texts.specs.Words.{slash, underscore}
use Rattle.texts.specs.Parts.{write, allows, onward, scan}
use Rattle.names.specs.Volume.{volume_allowed, volume_bytes, volume_run, volume_at}
use Rattle.texts.specs.Calls.{reading, WriterRefuses}
use Rattle.texts.specs.Inverse.{Inverse, Any}
use Rattle.names.specs.Names.{Object, object, Full, full, object_allowed, shaped, object_name, object_of, read_object, object_answer, full_allowed, full_name, full_form, full_scan, in_volume, read_full, full_answer, volume_part, write_full}
use Rattle.names.specs.declared.ObjectName.{ObjectName}
use Rattle.std.specs.Prelude.{Result, Ok, Err, IsErrAnd}
use Rattle.texts.specs.Inner.{read_by}
use Rattle.texts.proofs.Laws.Steps.{Left, stopped}
use Rattle.names.specs.Inner.{name_of}
use Rattle.texts.proofs.Laws.Parts.{apart}
use Rattle.texts.proofs.Laws.Shows.{Shows, shows_back, shows_forth}
use Rattle.names.proofs.Laws.Volume.{right, run_writes, run_reads}
use Rattle.names.proofs.Laws.Names.{shown, name_text, name_shows, object_name_lem, quotients_of}
use Rattle.texts.proofs.Laws.Calls.{writer_refuses, reading_only}
use Rattle.texts.proofs.Laws.Inverse as inverse
use Rattle.outcomes.specs.Answers.{answer_of}

-- ---- what follows the volume name

full_shows : Shows full_form (λ o. object_allowed o.id o.block o.length) shown object_of
unfolding apart allows
full_shows = record { parts = name_shows.parts; again = name_shows.again; taken = name_shows.taken; right = name_shows.right }

full_text : (o : Object) → slash ++ object_name o.id o.block o.length ≡ write full_form (shown o)
unfolding write
full_text o = ap (λ (l : List ℕ). slash ++ l) (name_text o)

-- ---- both ways

abbrev allowed : Full → Bool
allowed f = full_allowed f.volume f.object.id f.object.block f.object.length

abbrev text : Full → List ℕ
text f = full_name f.volume f.object.id f.object.block f.object.length

parts_allowed : (f : Full) → allowed f ≡ true → (volume_allowed f.volume ≡ true) × (object_allowed f.object.id f.object.block f.object.length ≡ true)
unfolding full_allowed
parts_allowed f a = (and-eq-true_iff (volume_allowed f.volume) (object_allowed f.object.id f.object.block f.object.length)).0 a

full_back : (f : Full) → allowed f ≡ true → read_full (text f) ≡ done f
unfolding read_full full_name full_scan in_volume
full_back f a =
    let p = parts_allowed f a in
    let v = right f.volume p.0 in
    let n : volume_run (text f) ≡ length f.volume = run_writes f.volume (object_name f.object.id f.object.block f.object.length) v.bytes in
    let s : volume_at (text f) ≡ Ok (length f.volume) = simp (n, le-leb 1 (length f.volume) v.some, le-leb (length f.volume) max_volume v.most) in
    let o : reading object_of (full_scan (text f)) ≡ done f.object =
    ap (λ (s : Result ℕ ℕ). reading object_of (onward s (scan full_form (text f) []))) s
    ∙ shows_back full_shows (text f) (length f.volume) f.object p.1 (drop-append_seam f.volume _ ∙ full_text f.object) in
    let t : take (volume_run (text f)) (text f) ≡ f.volume = rw n (take-append_seam f.volume _) in
    rw (o, t)

refused_done : {A B : Type 0} {r : Refusal} {o : A} → refused r ≡ done o → B
refused_done e = let z : ◌≡◌ {A = ℕ} 0 1 = cc in absurd (omega arith)

full_forth : (t : List ℕ) (f : Full) → read_full t ≡ done f → (t ≡ text f) × (allowed f ≡ true)
unfolding read_full full_name full_scan in_volume full_allowed volume_allowed reading
full_forth t f r = of_outcome (reading object_of (full_scan t)) refl r
  where
    by_run : (o : Object) → f ≡ full (take (volume_run t) t) o → (s : Bool) → leb 1 (volume_run t) && leb (volume_run t) max_volume ≡ s
        → reading object_of (onward (cond s (Ok (volume_run t)) (Err (min (volume_run t) max_volume))) (scan full_form t [])) ≡ done o
        → (t ≡ text f) × (allowed f ≡ true)
    by_run o p true e q =
        let m = shows_forth full_shows t (volume_run t) o q in
        let k = run_reads t in
        let v : volume_allowed (take (volume_run t) t) ≡ true = rw (k.1, e, k.0) in
        rw p (sym (take-append-drop (volume_run t) t) ∙ ap (λ (l : List ℕ). take (volume_run t) t ++ l) (m.0 ∙ sym (full_text o)), simp (v, m.1))
    by_run o p false e q = refused_done q

    of_outcome : (o : Outcome Object) → reading object_of (full_scan t) ≡ o → in_volume (take (volume_run t) t) o ≡ done f → (t ≡ text f) × (allowed f ≡ true)
    of_outcome (refused x) e q = let z : ◌≡◌ {A = ℕ} 0 1 = cc in absurd (omega arith)
    of_outcome (done o) e q =
        let p : f ≡ full (take (volume_run t) t) o = cc in
        by_run o p (leb 1 (volume_run t) && leb (volume_run t) max_volume) refl e

full_only : (t : List ℕ) (r : Refusal) → read_full t ≡ refused r → r ≡ refusal not_of_form 0
unfolding read_full in_volume
full_only t r e = go (reading object_of (full_scan t)) refl e
  where
    go : (o : Outcome Object) → reading object_of (full_scan t) ≡ o → in_volume (take (volume_run t) t) o ≡ refused r → r ≡ refusal not_of_form 0
    go (refused x) e q = let p : x ≡ r = cc in sym p ∙ reading_only object_of (full_scan t) x e
    go (done o) e q = let z : ◌≡◌ {A = ℕ} 0 1 = cc in absurd (omega arith)

-- ---- the theorems

pub full_name_lem : Inverse Any (λ f. full_allowed f.volume f.object.id f.object.block f.object.length) (λ f. full_name f.volume f.object.id f.object.block f.object.length) read_full
full_name_lem = record { back = full_back; forth = λ t h f r. full_forth t f r; only = full_only }

-- writing then reading gives the volume name and the numbers back
pub full_name_back : (volume : List ℕ) (id block len : ℕ) → full_allowed volume id block len ≡ true → read_full (full_name volume id block len) ≡ done (full volume (object id block len))
full_name_back volume id block len a = full_name_lem.back (full volume (object id block len)) a

-- an accepted text is exactly the written one, and its volume name and numbers are allowed
pub full_name_forth : (t : List ℕ) (volume : List ℕ) (id block len : ℕ) → read_full t ≡ done (full volume (object id block len))
    → (t ≡ full_name volume id block len) × (full_allowed volume id block len ≡ true)
full_name_forth t volume id block len r = full_name_lem.forth t tt (full volume (object id block len)) r

-- two objects in volumes never share a full name
pub full_name_distinct : (f g : Full) → allowed f ≡ true → allowed g ≡ true → text f ≡ text g → f ≡ g
full_name_distinct = inverse.distinct full_name_lem

-- reading gives 13 exactly where no object in a volume has that name
pub full_name_refused_exactly : (t : List ℕ) → (read_full t ≡ refused (refusal not_of_form 0)) ↔ ((f : Full) → allowed f ≡ true → t ≡ text f → ⊥)
full_name_refused_exactly t = inverse.refused_exactly full_name_lem t tt

-- writing gives 13 exactly where the volume name or the numbers are not allowed, else 12 exactly where the buffer is too short
pub write_full_refused_exactly : (volume : List ℕ) (id block len : ℕ) → WriterRefuses (write_full volume id block len) (full_allowed volume id block len) (full_name volume id block len)
write_full_refused_exactly volume id block len = writer_refuses (full_allowed volume id block len) (full_name volume id block len)

-- the volume part is the volume name
pub volume_back : (volume : List ℕ) (id block len : ℕ) → full_allowed volume id block len ≡ true → volume_part (read_full (full_name volume id block len)) ≡ volume
unfolding volume_part
volume_back volume id block len a = rw (full_name_back volume id block len a)

-- and the front of the text
pub volume_front : (t : List ℕ) → take (length (volume_part (read_full t))) t ≡ volume_part (read_full t)
unfolding read_full volume_part in_volume
volume_front t = go (reading object_of (full_scan t))
  where
    go : (o : Outcome Object) → take (length (volume_part (in_volume (take (volume_run t) t) o))) t ≡ volume_part (in_volume (take (volume_run t) t) o)
    go (refused x) = refl
    go (done o) = rw (run_reads t).1

-- a text shows by itself where its volume name ends
full_split : (volume rest : List ℕ) → volume_allowed volume ≡ true → (f : Full) → allowed f ≡ true → volume ++ (slash ++ rest) ≡ text f → rest ≡ object_name f.object.id f.object.block f.object.length
unfolding full_name
full_split volume rest v f a e =
    let name = object_name f.object.id f.object.block f.object.length in
    let n : length volume ≡ length f.volume = sym (run_writes volume rest (right volume v).bytes) ∙ ap volume_run e ∙ run_writes f.volume name (right f.volume (parts_allowed f a).0).bytes in
    let d : slash ++ rest ≡ slash ++ name =
    sym (drop-append_seam volume (slash ++ rest)) ∙ ap (drop (length volume)) e ∙ ap (λ (k : ℕ). drop k (text f)) n ∙ drop-append_seam f.volume (slash ++ name) in
    cc

-- in an accepted full name, too, the two quotients are those of the id
pub full_quotients_agree : (volume : List ℕ) (a b id block len : ℕ) (f : Full) → volume_allowed volume ≡ true → read_full (volume ++ (slash ++ shaped a b id block len)) ≡ done f
    → (a ≡ id / 1000 / 1000) × (b ≡ id / 1000)
full_quotients_agree volume a b id block len f v r =
    let w = full_forth _ f r in
    quotients_of a b id block len f.object (full_split volume (shaped a b id block len) v f w.1 w.0)

-- no text is both a full name and a short one: `chunks` would be the volume name, and a digit the first byte of the short name behind it
pub full_not_short : (t : List ℕ) (f : Full) (o : Object) → read_full t ≡ done f → read_object t ≡ done o → ⊥
unfolding object_name digit_of volume_allowed volume_bytes
full_not_short t f o r q =
    let w = full_forth t f r in
    let n = spelled (o.id / 1000 / 1000) in
    let rest : List ℕ = slash ++ (decimal (o.id / 1000) ++ (slash ++ (decimal o.id ++ (underscore ++ (decimal o.block ++ (underscore ++ decimal o.length)))))) in
    let e = full_split (99 ∷ 104 ∷ 117 ∷ 110 ∷ 107 ∷ 115 ∷ []) (decimal (o.id / 1000 / 1000) ++ rest) refl f w.1 (sym (object_name_lem.forth t tt o q).0 ∙ w.0) in
    let d : n.first ∷ (n.others ++ rest) ≡ object_name f.object.id f.object.block f.object.length = ap (λ (l : List ℕ). l ++ rest) (sym n.is) ∙ e in
    let z : n.first ≡ 99 = cc in
    omega (arith, n.digit, ap digit_of z)

-- ---- the calls

answer_same : (volume : List ℕ) (o : Outcome Object) → object_answer o ≡ full_answer (in_volume volume o)
unfolding answer_of in_volume
answer_same volume (refused r) = refl
answer_same volume (done o) = refl

-- what follows the volume name is read by the form, and nothing where there is no volume name
pub full_begun : (t : List ℕ) {r : Result ℕ ℕ} {i : ℕ} → r ≡ volume_at t → r ≡ Ok i → Left t (full_scan t) full_form [] i
unfolding full_scan
full_begun t e o = record { is = ap (λ (s : Result ℕ ℕ). onward s (scan full_form t [])) (sym e ∙ o) }

pub full_stops : (t : List ℕ) {r : Result ℕ ℕ} {i : ℕ} {x : Result ObjectName ℕ} → r ≡ volume_at t → r ≡ Err i → IsErrAnd x (λ y. y ≡ i) → x ≡ read_by name_of (full_scan t)
unfolding full_scan
full_stops t {i = i} {x} e o h = stopped name_of _ [] i x (ap (λ (s : Result ℕ ℕ). onward s (scan full_form t [])) (sym e ∙ o)) h

-- what reading a full name answers
pub full_same : (t : List ℕ) → object_answer (reading object_of (full_scan t)) ≡ full_answer (read_full t)
unfolding read_full
full_same t = answer_same (take (volume_run t) t) _

-- the length of the part that is handed back
pub volume_none : (o : Outcome Full) (r : Refusal) → Err r ≡ full_answer o → [] ≡ volume_part o
unfolding answer_of volume_part
volume_none (refused x) r e = refl
volume_none (done f) r e = let z : ◌≡◌ {A = ℕ} 0 1 = cc in absurd (omega arith)

pub volume_some : (t : List ℕ) (x : ObjectName) → Ok x ≡ full_answer (read_full t) → take (volume_run t) t ≡ volume_part (read_full t)
unfolding read_full answer_of volume_part in_volume
volume_some t x e = go (reading object_of (full_scan t)) e
  where
    go : (o : Outcome Object) → Ok x ≡ full_answer (in_volume (take (volume_run t) t) o) → take (volume_run t) t ≡ volume_part (in_volume (take (volume_run t) t) o)
    go (refused x) e = let z : ◌≡◌ {A = ℕ} 0 1 = cc in absurd (omega arith)
    go (done o) e = refl
