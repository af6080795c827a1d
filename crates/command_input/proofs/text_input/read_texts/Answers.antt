use Rattle.std.proofs.Common.{◌≡◌, ◌∙◌, Bool, false, ℕ, List, Option, None, Some, Result, Ok, Err, IfOk, ap, length, option_map, refl, subst, sym}
use Rattle.std.proofs.lemmas.List.{length-map}
use Rattle.anyk_model.specs.Table.{Table}
use Rattle.cmd_words.specs.NamedPairs.{named_pair}
use Rattle.refusals.specs.declared.refusal.Refusal.{Refusal}
use Rattle.verdict.specs.StageResults.{Pure}
use Rattle.verdict.specs.Words.{Command, InputFiles, input_files_of, load, plan, prove, run, session, verify}
use Rattle.command_input.specs.Planned.{HasOne}
use Rattle.command_input.specs.Tasks.{command_of}
use Rattle.command_input.specs.TextInput.{IsLoadedOver, text_over, text_result_view}
use Rattle.command_input.specs.declared.text_input.TextInput.{TextInput}
use Rattle.command_input.proofs.text_input.read_texts.Goals as goal

module _ (tables : List Table) where
  -- there is one query where several are not allowed, and no item where none is named
  has_one : (command : Command) (r : Result TextInput Refusal)
      → ((input_files_of command).several ≡ false → IfOk r (λ text. length text.queries.items ≡ 1))
      → ((input_files_of command).best_of ≡ None → IfOk r (λ text. text.best ≡ None)) → IfOk r (λ text. HasOne command (text_over tables text))
  has_one command (Err refusal) one none = tt
  has_one (run words) (Ok text) one none = tt
  has_one (plan words) (Ok text) one none = one refl
  has_one (session script words) (Ok text) one none = one refl
  has_one (load number rows) (Ok text) one none = one refl
  has_one (prove words) (Ok text) one none = (one refl, none refl)
  has_one (verify proof words) (Ok text) one none = (one refl, none refl)

unnamed : {A B : Type 0} (f : A → B) (o : Option A) → option_map f o ≡ None → o ≡ None
unnamed f None h = refl
unnamed f (Some a) h = cc

pub read_texts_of-requires : goal.read_texts_of-requires
read_texts_of-requires c =
    sym (length-map c.asked_of-sought.result.named.now named_pair) ∙ ap (λ (s : InputFiles). length s.named) c.asked_of-sought.ensures ∙ c.requires

pub returns : goal.returns
returns c = record {
  loaded =
      let P : InputFiles → Type 0 = λ sought. Pure (IsLoadedOver sought c.args.query.now c.args.side.now c.args.tables.now) (text_result_view c.args.tables.now c.read_texts_of.result) in
      subst P c.asked_of-sought.ensures c.read_texts_of.ensures.loaded;
  over = c.read_texts_of.ensures.over;
  alone =
      let command = command_of c.args.task.now in
      has_one c.args.tables.now command c.read_texts_of.result
      (λ one. c.read_texts_of.ensures.alone (ap (λ (s : InputFiles). s.several) c.asked_of-sought.ensures ∙ one))
      (λ none. c.read_texts_of.ensures.unnamed
      (unnamed (λ alias. alias.now) c.asked_of-sought.result.best_of (ap (λ (s : InputFiles). s.best_of) c.asked_of-sought.ensures ∙ none)));
}
