use Rattle.std.proofs.Common.{◌∙◌, ap}
use Rattle.clap.specs.Walk.{rule_of}
use Rattle.cmd_words.proofs.Forming.{as_defaulted, as_option, as_place, as_required}
use Rattle.cmd_words.proofs.arguments.arg.Goals as goal

pub returns-in-Option : goal.returns-in-Option
returns-in-Option c = record {
  rule = as_option c.args.taken c.new.result c.action-arg.result c.long.result c.new.ensures.rule c.action-arg.ensures c.in-Option.is c.long.ensures;
  local = ap (λ a. a.global) (c.long.ensures) ∙ ap (λ a. a.global) c.action-arg.ensures ∙ c.new.ensures.optional.1;
}

pub returns-in-Defaulted : goal.returns-in-Defaulted
returns-in-Defaulted c = record {
  rule = as_defaulted c.args.taken c.new.result c.action-arg.result c.default_value.result c.new.ensures.rule c.action-arg.ensures c.in-Defaulted.value c.long-in-Defaulted.result
      c.in-Defaulted.is c.long-in-Defaulted.ensures (ap rule_of c.default_value.ensures);
  local = ap (λ a. a.global) c.default_value.ensures ∙ ap (λ a. a.global) c.long-in-Defaulted.ensures ∙ ap (λ a. a.global) c.action-arg.ensures ∙ c.new.ensures.optional.1;
}

pub returns-in-Required : goal.returns-in-Required
returns-in-Required c = record {
  rule = as_required c.args.taken c.new.result c.action-arg.result c.required.result c.new.ensures.rule c.action-arg.ensures c.long-in-Required.result
      c.in-Required.is c.long-in-Required.ensures c.required.ensures;
  local = ap (λ a. a.global) c.required.ensures ∙ ap (λ a. a.global) c.long-in-Required.ensures ∙ ap (λ a. a.global) c.action-arg.ensures ∙ c.new.ensures.optional.1;
}

pub returns-in-Place : goal.returns-in-Place
returns-in-Place c = record {
  rule = as_place c.args.taken c.new.result c.action-arg.result c.required-in-Place.result c.new.ensures.rule c.action-arg.ensures c.in-Place.is c.required-in-Place.ensures;
  local = ap (λ a. a.global) c.required-in-Place.ensures ∙ ap (λ a. a.global) c.action-arg.ensures ∙ c.new.ensures.optional.1;
}
