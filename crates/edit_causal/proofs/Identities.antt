-- Sites and sequence numbers by the numbers in them, and edits of one identity. Assumes nothing.
use mathlib.Core.Path.{◌≡◌, ap}
use mathlib.Core.Bool.{true}
use Prim.Native.Nat.{ℕ}
use lib.Dec.{eqb}
use borrow.Author.Tests.{eqb-true}
use Rattle.math_lists.proofs.Booleans.{both}
use Rattle.edit_record.specs.declared.Site.{Site}
use Rattle.edit_record.specs.declared.Seq.{Seq}
use Rattle.edit_causal.specs.Causal.{same_edit}

pub same-site : (s t : Site) → s.0 ≡ t.0 → s ≡ t
same-site s t h = ap (λ (n : ℕ). record { 0 = n }) h

pub same-seq : (q p : Seq) → q.0 ≡ p.0 → q ≡ p
same-seq q p h = ap (λ (n : ℕ). record { 0 = n }) h

pub same_parts : (s : Site) (q : Seq) (t : Site) (p : Seq) → same_edit s q t p ≡ true → (s ≡ t) × (q ≡ p)
same_parts s q t p h =
    let (a, b) = both (eqb s.0 t.0) (eqb q.0 p.0) h in
    (same-site s t (eqb-true s.0 t.0 a), same-seq q p (eqb-true q.0 p.0 b))
