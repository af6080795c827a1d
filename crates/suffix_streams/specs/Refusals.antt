-- What a search leaves as it was if memory is refused.
use Rattle.std.specs.Prelude.{◌≡◌, ℕ, List}
use Rattle.suffix_streams.specs.NodeStreamsView.{NodeStreamsView}
use Rattle.suffix_streams.specs.TreeStreams.{product_of}

-- each product of node v has the same solutions, with their ranks, and the same frontier
abbrev pub AreUnstepped : {R : Type 0} → ℕ → List (NodeStreamsView R) → List (NodeStreamsView R)
    → Type 0
AreUnstepped v nodes nodes' = (r c : ℕ)
    → ((product_of nodes' v r c).found ≡ (product_of nodes v r c).found)
    × ((product_of nodes' v r c).frontier ≡ (product_of nodes v r c).frontier)
    × ((product_of nodes' v r c).ranks ≡ (product_of nodes v r c).ranks)
