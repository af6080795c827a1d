use Rattle.std.proofs.Common.{◌≡◌, [], ◌∙◌, Err, ap, inl, inr, map, refl, subst, sym}
use Rattle.std.specs.Prelude.{Result, IsErrOf}
use Rattle.std.specs.String.{string_bytes}
use Rattle.clap.specs.Faults.{fault_of, is_simple_and_free}
use Rattle.clap.specs.Simple.{app_of, is_simple, matches_of}
use Rattle.clap.specs.Kinds.{Kinds, HasKind}
use Rattle.clap.specs.Values.{kind_of}
use Rattle.clap.specs.declared.error.Error.{Error}
use Rattle.clap.specs.declared.error.kind.ErrorKind.TheVariants.{OutOfMemory}
use Rattle.cmd_words.specs.CommandNames.{app_named}
use Rattle.cmd_words.specs.declared.fault.WordsFault.{WordsFault}
use Rattle.cmd_words.specs.declared.fault.WordsFault.TheVariants.{Usage}
use Rattle.cmd_words.proofs.Pairing.{no_fault}
use Rattle.cmd_words.proofs.Taken.{named_free, named_simple}
use Rattle.cmd_words.proofs.parse.parse_arguments.Goals as goal

-- an error that has none of the kinds says that memory ran out
out_of_memory : (kinds : Kinds) (error : Error) → kinds ≡ [] → HasKind kinds error → kind_of error ≡ OutOfMemory
out_of_memory kinds error none has =
    let bare : HasKind [] error = subst (λ (k : Kinds). HasKind k error) none has in
    elim bare [ inl refused ↦ refused | inr among ↦ absurd among ]

the_fault : {T : Type 0} (r : Result T WordsFault) (fault : WordsFault) → r ≡ Err fault → IsErrOf r Usage → fault ≡ Usage
the_fault r fault is usage = cc

pub returns-in-Ok : goal.returns-in-Ok
returns-in-Ok c = record {
  taken =
      let same : app_of c.in_ok-parser_for.field-0 ≡ app_named c.args.name = c.in_ok-parser_for.ensures in
      sym (ap (λ a. fault_of a (map string_bytes c.args.words.now)) same)
      ∙ c.in-Ok.ensures.kinds (ap is_simple_and_free same ∙ named_free c.args.name);
  matches =
      let same : app_of c.in_ok-parser_for.field-0 ≡ app_named c.args.name = c.in_ok-parser_for.ensures in
      (c.in-Ok.ensures.matches (ap is_simple same ∙ named_simple c.args.name)).0
      ∙ ap (λ a. matches_of a (map string_bytes c.args.words.now)) same;
  usage = λ usage. no_fault _ _ usage;
}

pub returns-in-Err : goal.returns-in-Err
returns-in-Err c = record {
  taken = tt;
  matches = tt;
  usage =
      let same : app_of c.in_ok-parser_for.field-0 ≡ app_named c.args.name = c.in_ok-parser_for.ensures in
      λ usage none.
      c.fault_of_error.ensures (the_fault (Err c.fault_of_error.result) c.fault_of_error.result refl usage)
      (out_of_memory _ c.in-Err.error (ap (λ a. fault_of a (map string_bytes c.args.words.now)) same ∙ none)
      (c.in-Err.ensures.kinds (ap is_simple_and_free same ∙ named_free c.args.name)));
}
