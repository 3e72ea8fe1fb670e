-- Where no long record is a limited Set, all records of a form have one length: a record's number and the bytes of a
-- record decide where it starts. Assumes nothing.
use mathlib.Core.Path.{◌≡◌, refl, sym, ap₂, ◌∙◌}
use mathlib.Core.Bool.{Bool, true, false, not, ◌&&◌, cond}
use mathlib.Core.List.{List}
use Prim.Native.Nat.{ℕ, zero, suc, ◌+◌, ◌*◌, ◌<◌}
use native.Mathlib.Nat.{zero-mul, suc-mul}
use native.Mathlib.Omega.{arith}
use lib.Dec.{eqb}
use Rattle.edit_record.specs.Layout.{record_length}
use Rattle.edit_record.specs.RecordBytes.{limits, span_of}
use Rattle.edit_record.proofs.AgreeingBytes.{span-plain}
use Rattle.edit_form.specs.OldForm.{old_form, old_length, length_from, start_of}
use Rattle.edit_form.proofs.Stretches.{rest_from}

-- the bytes of a record in a form
abbrev pub length_by : ℕ → ℕ
length_by form = cond (eqb form old_form) old_length record_length

-- of the first k records of a stretch none is limited to one version; in an old stretch none can be
abbrev pub NoneLimited : ℕ → List ℕ → ℕ → Type 0
NoneLimited form s k = (i : ℕ) → i < k → (not (eqb form old_form) && limits (rest_from form s i)) ≡ false

length-by :
    (form : ℕ) (rest : List ℕ) → (not (eqb form old_form) && limits rest) ≡ false →
    length_from form rest ≡ length_by form
length-by form rest h = go (eqb form old_form) h
  where
    go : (o : Bool) → (not o && limits rest) ≡ false → cond o old_length (span_of rest) ≡ cond o old_length record_length
    go true k = refl
    go false k = span-plain rest k

pub start-by-number : (form : ℕ) (s : List ℕ) (k : ℕ) → NoneLimited form s k → start_of form s k ≡ k * length_by form
unfolding start_of
start-by-number form s zero none = sym (zero-mul (length_by form))
start-by-number form s (suc k) none =
    ap₂ (λ (at w : ℕ). at + w) (start-by-number form s k (λ i l. none i (omega arith)))
    (length-by form (rest_from form s k) (none k (omega arith)))
    ∙ sym (suc-mul k (length_by form))
