-- A column that is read.
use Rattle.std.proofs.Common.{ℕ, List, Result, ap}
use Rattle.query_select.specs.Lexeme.{Lexeme}
use Rattle.query_parse.specs.declared.fault.ParseFault.{ParseFault}
use Rattle.query_parse.specs.declared.fault.ParseFault.TheVariants as fault
use Rattle.query_parse.specs.Reading.{◌>>=◌, IsParseFault}

pub fails_on : {A B : Type 0} (end : ℕ) (e : ParseFault) (r : Result A (List Lexeme)) (f : A → Result B (List Lexeme)) → IsParseFault end e r → IsParseFault end e (r >>= f)
fails_on end fault.NoMemory r f h = tt
fails_on end (fault.Syntax at) r f h = (h.0, ap (λ (s : Result _ (List Lexeme)). s >>= f) h.1, h.2)
fails_on end _ r f h = h
