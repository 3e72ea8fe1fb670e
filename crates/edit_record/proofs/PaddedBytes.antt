-- A record is decoded by its own bytes: lists that have the same byte everywhere give one edit, as a record that is not
-- there whole and the same with zeros after it. Assumes nothing.
use mathlib.Core.Path.{◌≡◌, sym, ◌∙◌}
use mathlib.Core.List.{List, ◌++◌}
use Prim.Native.Nat.{ℕ, ◌+◌, ◌-◌, ◌<◌}
use native.Mathlib.Omega.{arith}
use native.Mathlib.Decide.{dec_lt}
use lib.ListN.{length, get_or, drop, replicate, get_or-append, get_or-eq_default}
use lib.Seq.{get_or-append_right, get_or-drop}
use Rattle.math_lists.proofs.ByPlaces.{zero-anywhere}
use Rattle.edit_record.specs.RecordBytes.{decode_of}
use Rattle.edit_record.proofs.AgreeingBytes.{decode-agree}

-- s and t have the same byte everywhere; past the end stands 0
abbrev pub SameByEntry : List ℕ → List ℕ → Type 0
SameByEntry s t = (i : ℕ) → get_or s i 0 ≡ get_or t i 0

-- ---- with zeros behind

pub zeros-behind : (s : List ℕ) (n : ℕ) → SameByEntry (s ++ drop (length s) (replicate n 0)) s
zeros-behind s n i = go (dec_lt i (length s))
  where
    go : Dec (i < length s) → get_or (s ++ drop (length s) (replicate n 0)) i 0 ≡ get_or s i 0
    go (yes k) = get_or-append s (drop (length s) (replicate n 0)) 0 i k
    go (no k) =
        get_or-append_right s (drop (length s) (replicate n 0)) i 0 (omega arith)
        ∙ get_or-drop (length s) (replicate n 0) (i - length s) 0
        ∙ zero-anywhere n (length s + (i - length s))
        ∙ sym (get_or-eq_default s 0 (omega arith))

-- ---- read

pub decode-same : (s t : List ℕ) → SameByEntry s t → decode_of s ≡ decode_of t
decode-same s t h = decode-agree s t (λ i l. h i)
