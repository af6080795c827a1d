-- One of the engines, as its callers see it.
use Rattle.std.specs.Prelude.{ℕ, List, Option, Some, None}
use Rattle.tdp_model.specs.KeyTuple.{KeyOf}
use Rattle.tdp_core.specs.AnswerView.{AnswerView}
use Rattle.tdp_core.specs.TreeView.{NodeView}
use Rattle.anyk_part.specs.Regions.{rest_of as rest_of_part}
use Rattle.anyk_rec.specs.RecView.{rest_of as rest_of_rec}
use Rattle.engine_choice.specs.declared.choice.ChosenEngine.{ChosenEngine}
use Rattle.engine_choice.specs.declared.choice.ChosenEngine.TheVariants.{Best, Part, Rec}
use Rattle.engine_choice.specs.declared.kind.EngineKind.{EngineKind}
use Rattle.engine_choice.specs.declared.kind.EngineKind.TheVariants as kind

-- the answers that are left
abbrev pub rest_of : {R : Type 0} (d : ℕ) (key : R → KeyOf d 16) → ChosenEngine R → List AnswerView
rest_of d key (Part part) = rest_of_part d key part.tree part.candidates
rest_of d key (Rec rec) = rest_of_rec d key rec
rest_of d key (Best best) = best.rest

-- how often it was called
abbrev pub calls_of : {R : Type 0} → ChosenEngine R → ℕ
calls_of (Part part) = part.calls
calls_of (Rec rec) = rec.calls
calls_of (Best best) = best.calls

-- the tree whose answers it gives
abbrev pub tree_of : {R : Type 0} → ChosenEngine R → List (NodeView R)
tree_of (Part part) = part.tree
tree_of (Rec rec) = rec.streams.tree
tree_of (Best best) = best.tree

-- its kind, or none if it gives the best answer of each row of the root
abbrev pub kind_of_engine : {R : Type 0} → ChosenEngine R → Option EngineKind
kind_of_engine (Part _) = Some kind.Part
kind_of_engine (Rec _) = Some kind.Rec
kind_of_engine (Best _) = None
