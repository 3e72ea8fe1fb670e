-- When an edit comes before another, and when two are concurrent, in document 01's words. Sites and sequence numbers
-- are two types, so that neither is taken for the other. Assumes nothing.
use Rattle.std.specs.Prelude.{ℕ, List, Bool, not, ◌&&◌, eqb, leb}
use Rattle.edit_record.specs.declared.Site.{Site}
use Rattle.edit_record.specs.declared.Seq.{Seq}
use Rattle.edit_record.specs.declared.Edit.{Edit}
use Rattle.edit_record.specs.Answer1.{entry_of}

-- an edit's identity is its site and its sequence number
abbrev pub same_edit : Site → Seq → Site → Seq → Bool
same_edit s q t p = eqb s.0 t.0 && eqb q.0 p.0

-- the author of the vector v had applied the edit s.q: v's entry for s is at least q
abbrev pub has_seen : List ℕ → Site → Seq → Bool
has_seen v s q = leb q.0 (entry_of v s).0

abbrev pub comes_before : Edit → Edit → Bool
comes_before a b = not (same_edit a.site a.seq b.site b.seq) && has_seen b.vector a.site a.seq

abbrev pub are_concurrent : Edit → Edit → Bool
are_concurrent a b =
    not (same_edit a.site a.seq b.site b.seq) && not (comes_before a b) && not (comes_before b a)
