-- A command to which options and arguments are added one after another.
use Rattle.std.proofs.Common.{◌≡◌, ◌<◌, ◌+◌, ◌∙◌, ℕ, List, [], ◌∷◌, ◌++◌, refl, sym, ap, ap₂, map, take, get_or, length}
use Rattle.std.proofs.lemmas.List.{map-append, take_more}
use Rattle.clap.specs.Simple.{App, with_rule}
use Rattle.clap.specs.Walk.{Rule}
use Rattle.cmd_words.specs.TakenRules.{rule_taken, with_rules}
use Rattle.cmd_words.specs.declared.arguments.Taken.{Taken}

-- one more rule after the others
one_more : (app : App) (rules : List Rule) (rule : Rule) → with_rules app (rules ++ rule ∷ []) ≡ with_rule (with_rules app rules) rule
one_more app [] rule = refl
one_more app (first ∷ rules) rule = one_more (with_rule app first) rules rule

-- one more option or argument after the first ones
pub added : (app old new : App) (takes : List Taken) (k : ℕ) (d : Taken) (rule : Rule) → k < length takes → rule ≡ rule_taken (get_or takes k d)
    → old ≡ with_rules app (map rule_taken (take k takes)) → new ≡ with_rule old rule
    → new ≡ with_rules app (map rule_taken (take (k + 1) takes))
added app old new takes k d rule within same before after =
    let firsts = ap (map rule_taken) (take_more takes k d within) ∙ map-append rule_taken (take k takes) (get_or takes k d ∷ []) in
    after ∙ ap₂ with_rule before same ∙ sym (ap (with_rules app) firsts ∙ one_more app (map rule_taken (take k takes)) (rule_taken (get_or takes k d)))
