-- Line 0 from what is lent, and where a line is found. No one need believe it: laws in proofs/
-- tie it to `List`. Assumes nothing.
use Rattle.std.specs.Prelude.{◌≡◌, true, false, Option, Some, None, ℕ, ◌≤◌, ◌<◌, ltb, length, get_or, take}
use mathlib.Core.List.{List, [], flat_map}
use Rattle.math_lists.specs.NumbersBelow.{sum}
use Rattle.table_drawing.specs.declared.Counters.{Counters}
use Rattle.table_drawing.specs.Tables.{Tables, groups_at}
use Rattle.list_text.specs.HeadAndRefusal.{head_line}
use Rattle.list_line.specs.Line.{line_length}
use Rattle.list_objects.specs.Objects.{objects_of}
use Rattle.list_lines.specs.declared.LinePlace.{LinePlace}
use Rattle.list_lines.specs.List.{lines_for}

-- ---- line 0

-- line 0, from the counters and the objects as they are lent
abbrev pub head_of : Counters → List ℕ → List ℕ
head_of c os = head_line c.sites c.objects (sum c.objects (groups_at os)) c.sum

-- ---- a line by its number

-- the k-th of the lines of the objects os is the one that is so many behind the first of the rest
pub record LeftOf (lines : ℕ → List (List ℕ)) (os : List ℕ) (k : ℕ) (rest : List ℕ) (left : ℕ) : Type 0 where
  pub test : ltb k (length (flat_map lines os)) ≡ ltb left (length (flat_map lines rest))
  pub line : get_or (flat_map lines os) k [] ≡ get_or (flat_map lines rest) left []

-- the k-th of the lines of all objects is that version's line of that object
pub record FoundAt (t : Tables) (k : ℕ) (f : LinePlace) : Type 0 where
  pub within : ltb k (length (flat_map (lines_for t) (objects_of t))) ≡ true
  pub object : f.object < t.counters.objects
  pub version : f.version < length (lines_for t f.object)
  pub line : get_or (flat_map (lines_for t) (objects_of t)) k [] ≡ get_or (lines_for t f.object) f.version []

-- it is found there, or there is none
abbrev pub FoundIn : Tables → ℕ → Option LinePlace → Type 0
FoundIn t k (Some f) = FoundAt t k f
FoundIn t k None = ltb k (length (flat_map (lines_for t) (objects_of t))) ≡ false

-- the k-th of the lines stands at the front of the output, so many bytes long
pub record PutAs (lines : List (List ℕ)) (k bytes : ℕ) (out : List ℕ) : Type 0 where
  pub within : ltb k (length lines) ≡ true
  pub few : bytes ≤ line_length
  pub line : take bytes out ≡ get_or lines k []

-- it stands there, or there is none
abbrev pub NumberedAs : List (List ℕ) → ℕ → Option ℕ → List ℕ → Type 0
NumberedAs lines k (Some bytes) out = PutAs lines k bytes out
NumberedAs lines k None out = ltb k (length lines) ≡ false
