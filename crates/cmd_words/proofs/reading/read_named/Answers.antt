use Rattle.std.proofs.Common.{◌∙◌, map, refl}
use Rattle.std.specs.Prelude.{Err}
use Rattle.std.specs.String.{string_bytes}
use Rattle.std.proofs.lemmas.Result.{IfOk-weaker}
use Rattle.clap.specs.Matches.{found_of}
use Rattle.clap.specs.Walk.{rows_of}
use Rattle.cmd_words.proofs.Taken.{not_taken, same_error, taken}
use Rattle.cmd_words.proofs.reading.read_named.Goals as goal

pub returns-in-Ok : goal.returns-in-Ok
returns-in-Ok c = record {
  words =
      IfOk-weaker c.read_matches.result _ _ (λ said h.
      taken c.args.name (map string_bytes c.args.words.now) (rows_of (found_of c.in-Ok.matches)) c.in-Ok.ensures.taken c.in-Ok.ensures.matches ∙ h) c.read_matches.ensures.words;
  usage =
      λ h.
      taken c.args.name (map string_bytes c.args.words.now) (rows_of (found_of c.in-Ok.matches)) c.in-Ok.ensures.taken c.in-Ok.ensures.matches ∙ c.read_matches.ensures.usage h;
  ranges = c.read_matches.ensures.ranges;
}

pub returns-in-Err : goal.returns-in-Err
returns-in-Err c = record {
  words = tt;
  usage =
      λ h.
      not_taken c.args.name (map string_bytes c.args.words.now)
      (c.in-Err.ensures.usage (same_error (Err c.in-Err.fault) (Err c.in-Err.fault) c.in-Err.fault _ refl refl h));
  ranges = tt;
}
