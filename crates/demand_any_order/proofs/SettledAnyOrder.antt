-- What is settled in a causal order is settled in any other. Assumes at most 16 sites.
use mathlib.Core.List.{List}
use Prim.Native.Nat.{ℕ, ◌≤◌}
use native.Mathlib.Omega.{arith}
use Rattle.edit_record.specs.declared.Edit.{Edit}
use Rattle.edit_record.specs.Layout.{most_sites}
use Rattle.edit_record.specs.Answer1.{is_create}
use Rattle.edit_history.specs.EditsHeld.{creates, is_set_on, sets_on}
use Rattle.math_lists.specs.Rearranged.{Mem, Rearranged}
use Rattle.demand_any_order.specs.Settled.{create_named, Causal, Settled}
use Rattle.group_true.specs.Identities.{Differ}
use Rattle.math_lists.proofs.Rearranged.{turned, same_length, same-members, chosen-rearranged}
use Rattle.math_lists.proofs.PairsInList.{pairs-rearranged}
use Rattle.group_true.proofs.Identities.{differ-turned}
use Rattle.demand_any_order.proofs.SameGroups.{named-in-any-order, as-many-in-any-order}
use Rattle.demand_any_order.proofs.SettledBoxes.{Ordered, ordered}

module _ (n : ℕ) (few : n ≤ most_sites) (es fs : List Edit) (r : Rearranged es fs) (s : Settled n es) where
  back : (x : Edit) → Mem x fs → Mem x es
  back = same-members (turned r)

  -- what has no order in it
  pub ordered-in-any-order : Ordered n fs
  ordered-in-any-order =
      record {
        fit = λ e m. s.fit e (back e m);
        apart = pairs-rearranged Differ differ-turned r s.apart;
        whole = λ a e k m. s.whole a e (back a k) (back e m);
        numbered = λ e m. s.numbered e (back e m);
        known = λ e m limited x listed.
            let (a, k, on, seen, name) = s.known e (back e m) limited x listed in
            (a, same-members r a k, on, seen, name);
      }

  module _ (causal : Causal es) (causal' : Causal fs) where
    pub settled-in-any-order : Settled n fs
    unfolding creates sets_on
    settled-in-any-order =
        let o = ordered n es s in
        let p = ordered-in-any-order in
        record {
          fit = p.fit;
          apart = p.apart;
          closed = λ e m x q l k b. let (a, i, y, z) = s.closed e (back e m) x q l k b in
              (a, same-members r a i, y, z);
          whole = p.whole;
          aimed = λ e m k. let (c, i, a) = s.aimed e (back e m) k in (c, same-members r c i, a);
          numbered = p.numbered;
          known = p.known;
          versions = λ x q.
              named-in-any-order n few es fs r o p causal causal' (create_named x q) (s.versions x q);
          few-records = omega (arith, s.few-records, same_length r);
          few-objects = omega (arith, s.few-objects, same_length (chosen-rearranged is_create r));
          few-sets = λ c m k.
              omega (arith, s.few-sets c (back c m) k, same_length (chosen-rearranged (is_set_on c.site c.seq) r));
          few-groups = λ c m k.
              omega (
                arith,
                s.few-groups c (back c m) k,
                as-many-in-any-order n few es fs r o p causal causal' c (s.versions c.site c.seq),
              );
        }
