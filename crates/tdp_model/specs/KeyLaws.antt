-- What keys have to satisfy so that sums of keys can be ranked.
use Rattle.std.specs.Prelude.{◌≡◌}
use Rattle.rankings.specs.Order.{IsOrder}

-- keys that are added: a strict total order that adding keeps
pub record IsKeys (K : Type 0) (Below : K → K → Type 0) (add : K → K → K) (none : K) : Type 0 where
  pub order : IsOrder K Below
  pub add_assoc : (a b c : K) → add (add a b) c ≡ add a (add b c)
  pub add_comm : (a b : K) → add a b ≡ add b a
  pub add_none : (a : K) → add a none ≡ a
  pub add_below : (a b c : K) → Below a b → Below (add a c) (add b c)
