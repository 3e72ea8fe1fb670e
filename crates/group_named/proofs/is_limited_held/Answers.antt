-- `group_named::is_limited_held` meets its contract: whether one of the records is limited. Assumes nothing.
use Rattle.std.proofs.Common.{◌≡◌, ◌∙◌, sym, ap, refl, Bool, List, [], ◌∷◌, ◌++◌, map, ℕ, zero, suc, ◌+◌, add-zero, arith, rules, tests}
use mathlib.Core.List.{map-append}
use Rattle.std.proofs.lemmas.Iterator.{YieldsList-from_range}
use Rattle.std.proofs.lemmas.Iterator.Search.{any_from_yields_List}
use Rattle.std.specs.List.{range_with_len}
use Rattle.math_lists.specs.SortedLists.{any}
use Rattle.edit_record.specs.declared.Edit.{Edit}
use Rattle.edit_record.specs.Answer1.{is_limited}
use Rattle.edit_history.specs.EditsHeld.{record_at, edits_of}
use Rattle.group_sight.proofs.OneMoreTaken.{any-of-map}
use Rattle.group_named.proofs.is_limited_held.Goals as goal

one_more : (a n : ℕ) → range_with_len a (suc n) ≡ range_with_len a n ++ ((a + n) ∷ [])
one_more a zero = ap (λ (m : ℕ). m ∷ []) (sym (add-zero a))
one_more a (suc n) =
    ap (λ (ms : List ℕ). a ∷ ms)
    (one_more (a + 1) n ∙ ap (λ (m : ℕ). range_with_len (a + 1) n ++ (m ∷ [])) (omega arith))

edits-in-range : (rs : List ℕ) (n : ℕ) → map (record_at rs) (range_with_len 0 n) ≡ edits_of rs n
unfolding edits_of
edits-in-range rs zero = refl
edits-in-range rs (suc n) =
    ap (map (record_at rs)) (one_more 0 n)
    ∙ map-append (record_at rs) (range_with_len 0 n) ((0 + n) ∷ [])
    ∙ ap (λ (es : List Edit). es ++ (record_at rs (0 + n) ∷ [])) (edits-in-range rs n)
    ∙ ap (λ (p : ℕ). edits_of rs n ++ (record_at rs p ∷ [])) (omega arith)

pub returns : goal.returns
returns c =
    let rs = c.args.recs.now in
    let n = c.args.n in
    let test : ℕ → Bool = λ p. is_limited (record_at rs p) in
    any_from_yields_List test _ _ _ c.any.ensures.ran (YieldsList-from_range 0 n n (cc) (omega arith))
    (λ x b q k. search (rules, tests))
    ∙ any-of-map is_limited (record_at rs) (range_with_len 0 n)
    ∙ ap (any is_limited) (edits-in-range rs n)
