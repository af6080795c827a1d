-- Handing on what was read, as something that was found.
use Rattle.std.proofs.Common.{◌≡◌, ◌≢◌, ℕ, List, Result, Ok, Err, refl, subst}
use Rattle.std.specs.Option.{option_map}
use Rattle.query_parse.specs.declared.fault.ParseFault.{ParseFault}
use Rattle.query_parse.specs.declared.fault.ParseFault.TheVariants as fault
use Rattle.query_select.specs.Lexeme.{Lexeme}
use Rattle.query_parse.specs.Reading.{Gives, IsParseFault, found}

pub found_gives : {X Y : Type 0} (end : ℕ) (view : X → Y) (r : Result X ParseFault) (read : Result Y (List Lexeme)) → Gives end view r read → Gives end (option_map view) (found r) (found read)
found_gives end view (Ok x) read h = rw h refl
found_gives end view (Err fault.NoMemory) read h = tt
found_gives end view (Err (fault.Syntax at)) read h = (h.0, rw h.1 refl, h.2)
found_gives end view _ read h = h

-- what a result that is known gives
pub given : {X Y : Type 0} (end : ℕ) (view : X → Y) (r : Result X ParseFault) (x : X) (read : Result Y (List Lexeme)) → r ≡ Ok x → Gives end view r read → read ≡ Ok (view x)
given end view r x read is g = subst (λ (s : Result _ ParseFault). Gives end view s read) is g

-- a fault that is handed on is one of reading
pub faulty : {X Y : Type 0} (end : ℕ) (view : X → Y) (r : Result X ParseFault) (e : ParseFault) (read : Result Y (List Lexeme)) → (fault.NoMemory ≢ e → r ≡ Err e) → Gives end view r read → IsParseFault end e read
faulty end view r fault.NoMemory read is g = tt
faulty end view r _ read is g = subst (λ (s : Result _ ParseFault). Gives end view s read) (is (λ q. absurd cc)) g
