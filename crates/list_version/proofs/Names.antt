-- A name holds the site and the sequence number, and names go by site, then by sequence number. Assumes nothing.
use Rattle.edit_record.specs.Layout.{two_bytes}
use mathlib.Core.Path.{◌≡◌}
use mathlib.Core.Bool.{◌&&◌, ◌||◌}
use Prim.Native.Nat.{ℕ, ◌+◌, ◌*◌, ◌<◌}
use native.Mathlib.Omega.{arith}
use native.Mathlib.Decide.{dec_lt}
use borrow.Author.Tests.{lt-ltb, le-ltb, eq-eqb, ne_eqb}
use lib.Dec.{eqb, ltb}
use lib.Arith.{digits_lt}
use Rattle.edit_record.specs.declared.Edit.{Edit}
use Rattle.edit_record.specs.Answer1.{name_of}
use Rattle.list_version.specs.Identifier.{site_numbers, site_in, seq_in}

pub name-holds :
    (e : Edit) → e.site.0 < site_numbers → e.seq.0 < two_bytes →
    (site_in (name_of e) ≡ e.site.0) × (seq_in (name_of e) ≡ e.seq.0)
name-holds e hs hq = (omega arith, omega arith)

-- two numbers in one, the first times c, go by the first and then by the second
pub two-in-one :
    (c m n i j : ℕ) → i < c → j < c → ltb (m * c + i) (n * c + j) ≡ (ltb m n || eqb m n && ltb i j)
two-in-one c m n i j hi hj = go (dec_lt m n) (dec_lt n m) (dec_lt i j)
  where
    a : ℕ
    a = m * c + i

    b : ℕ
    b = n * c + j

    go : Dec (m < n) → Dec (n < m) → Dec (i < j) → ltb a b ≡ (ltb m n || eqb m n && ltb i j)
    go (yes l) d e = rw (lt-ltb m n l, lt-ltb a b (omega (arith, digits_lt l hi)))
    go (no l) (yes d) e =
        rw (le-ltb m n (omega arith), ne_eqb m n (λ q. omega arith), le-ltb a b (omega (arith, digits_lt d hj)))
    go (no l) (no d) (yes e) =
        let same : m ≡ n = omega arith in
        rw (le-ltb m n (omega arith), eq-eqb m n same, lt-ltb i j e, lt-ltb a b (rw same (omega arith)))
    go (no l) (no d) (no e) =
        let same : m ≡ n = omega arith in
        rw (le-ltb m n (omega arith), eq-eqb m n same, le-ltb i j (omega arith), le-ltb a b (rw same (omega arith)))

pub names-order :
    (a b : Edit) → a.seq.0 < two_bytes → b.seq.0 < two_bytes →
    ltb (name_of a) (name_of b)
    ≡ (ltb a.site.0 b.site.0 || eqb a.site.0 b.site.0 && ltb a.seq.0 b.seq.0)
names-order a b ha hb = two-in-one two_bytes a.site.0 b.site.0 a.seq.0 b.seq.0 ha hb
