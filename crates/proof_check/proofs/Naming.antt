-- The numbers of the groups of a node, of its rows and of those of its parent.
use Rattle.std.proofs.Common.{◌≡◌, ℕ, ◌<◌, Option, None, Some, List, nat_eq, position, sym, ap, subst, ◌∙◌}
use Rattle.tdp_core.specs.RawView.{RawView, child_link, raw_len, shape_child_place, shape_parent}
use Rattle.proof_check.specs.Lines.{AreNamed, AreNumbers}

module _ {R : Type 0} (raw : RawView R) (groups : List ℕ) (v : ℕ) where
  pub named_from : (parent child : ℕ) (own named : List (Option ℕ)) → parent ≡ shape_parent raw.shapes v
      → child ≡ shape_child_place raw.shapes v → AreNumbers raw groups v None (raw_len raw v) own
      → AreNumbers raw groups parent (Some child) (raw_len raw parent) named → AreNamed raw groups v own named
  named_from parent child own named up place o n = record {
    own_length = o.count;
    own_numbers = o.each;
    named_length = λ some. n.count ∙ ap (raw_len raw) up;
    named_numbers = λ some r l.
        n.each r (subst (λ p. r < raw_len raw p) (sym up) l)
        ∙ ap (λ p. position (nat_eq (child_link raw p r child)) groups) up
        ∙ ap (λ q. position (nat_eq (child_link raw (shape_parent raw.shapes v) r q)) groups) place;
  }

  -- no row names a group at the root
  pub named_root : (own named : List (Option ℕ)) → (0 < v → ⊥) → AreNumbers raw groups v None (raw_len raw v) own
      → AreNamed raw groups v own named
  named_root own named none o = record {
    own_length = o.count;
    own_numbers = o.each;
    named_length = λ some. absurd (none some);
    named_numbers = λ some. absurd (none some);
  }
