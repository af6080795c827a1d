-- An option or argument as `clap` has it, by its form.
use Rattle.std.proofs.Common.{◌≡◌, ◌∷◌, [], ◌∙◌, ℕ, List, Some, true, sym, ap}
use Rattle.clap.specs.Simple.{new_rule}
use Rattle.clap.specs.Walk.{Rule, rule_of}
use Rattle.clap.specs.declared.builder.arg.Arg.{Arg}
use Rattle.cmd_words.specs.TakenRules.{formed, rule_taken}
use Rattle.cmd_words.specs.declared.arguments.ArgumentForm.{ArgumentForm}
use Rattle.cmd_words.specs.declared.arguments.ArgumentForm.TheVariants as form
use Rattle.cmd_words.specs.declared.arguments.Taken.{Taken}
use denote.Ref.{Bor}

module _ (taken : Taken) (new arg made : Arg) (is : rule_of new ≡ new_rule taken.name.now) (acts : arg ≡ record new { action = Some taken.action }) where
  abbrev base : Rule → Rule
  base r = record r { action = Some taken.action }

  taken_as : (f : ArgumentForm) → taken.form ≡ f → formed f taken.name.now (base (new_rule taken.name.now)) ≡ rule_taken taken
  taken_as f same = sym (ap (λ (g : ArgumentForm). formed g taken.name.now (base (new_rule taken.name.now))) same)

  pub as_option : taken.form ≡ form.Option → made ≡ record arg { long = Some taken.name } → rule_of made ≡ rule_taken taken
  as_option same made_is =
      ap rule_of (made_is ∙ ap (λ (a : Arg). record a { long = Some taken.name }) acts)
      ∙ ap (λ (r : Rule). record (base r) { long = Some taken.name.now }) is ∙ taken_as form.Option same

  pub as_defaulted : (value : Bor (List ℕ)) (long : Arg) → taken.form ≡ form.Defaulted value → long ≡ record arg { long = Some taken.name }
      → rule_of made ≡ record (rule_of long) { defaults = value.now ∷ [] } → rule_of made ≡ rule_taken taken
  as_defaulted value long same long_is made_is =
      made_is
      ∙ ap (λ (a : Arg). record (rule_of a) { defaults = value.now ∷ [] }) (long_is ∙ ap (λ (a : Arg). record a { long = Some taken.name }) acts)
      ∙ ap (λ (r : Rule). record (base r) { long = Some taken.name.now; defaults = value.now ∷ [] }) is ∙ taken_as (form.Defaulted value) same

  pub as_required : (long : Arg) → taken.form ≡ form.Required → long ≡ record arg { long = Some taken.name }
      → made ≡ record long { required = true } → rule_of made ≡ rule_taken taken
  as_required long same long_is made_is =
      ap rule_of (made_is ∙ ap (λ (a : Arg). record a { required = true }) long_is ∙ ap (λ (a : Arg). record a { long = Some taken.name; required = true }) acts)
      ∙ ap (λ (r : Rule). record (base r) { long = Some taken.name.now; required = true }) is ∙ taken_as form.Required same

  pub as_place : taken.form ≡ form.Place → made ≡ record arg { required = true } → rule_of made ≡ rule_taken taken
  as_place same made_is =
      ap rule_of (made_is ∙ ap (λ (a : Arg). record a { required = true }) acts)
      ∙ ap (λ (r : Rule). record (base r) { required = true }) is ∙ taken_as form.Place same
