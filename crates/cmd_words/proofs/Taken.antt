-- What follows from what `clap` says of the words.
use Rattle.std.proofs.Common.{◌≡◌, ℕ, List, [], ◌∷◌, Bool, Option, Some, None, true, false, refl, sym, ap, ◌∙◌, Err, codes, ◌≤◌, arith, get_or, length, map, if◌then◌else◌}
use Rattle.std.specs.Prelude.{Result, IsErrOf, option_map, option_and_then}
use Rattle.std.specs.Str.{bytes_eq}
use Rattle.clap.specs.Faults.{fault_of, is_simple_and_free}
use Rattle.clap.specs.Kinds.{Kinds}
use Rattle.clap.specs.Simple.{is_simple, matches_of}
use Rattle.clap.specs.Walk.{Row}
use Rattle.cmd_words.specs.Arguments.{run_app, session_app, plan_app, prove_app, verify_app, load_app}
use Rattle.cmd_words.specs.Commands.{CommandSaid, run_said, session_said, plan_said, prove_said, verify_said, load_said, if_no, run_of, session_of, plan_of, prove_of, verify_of, load_of, parsed_command, said_to}
use Rattle.cmd_words.specs.CommandNames.{app_named, load_by_options, name_of, said_as, said_by_rows}
use Rattle.cmd_words.specs.ArgumentMeaning.{OptionTexts}
use Rattle.cmd_words.specs.declared.name.FilesName.TheVariants.{Run, Session, Plan, Prove, Verify}
use Rattle.cmd_words.specs.declared.name.CommandName.{CommandName}
use Rattle.cmd_words.specs.declared.name.CommandName.TheVariants.{OverFiles, Load}

-- each command is one of those whose matches and faults `clap` states
pub named_simple : (name : CommandName) → is_simple (app_named name) ≡ true
unfolding run_app session_app plan_app prove_app verify_app load_app
named_simple (OverFiles Run) = refl
named_simple (OverFiles Session) = refl
named_simple (OverFiles Plan) = refl
named_simple (OverFiles Prove) = refl
named_simple (OverFiles Verify) = refl
named_simple Load = refl

pub named_free : (name : CommandName) → is_simple_and_free (app_named name) ≡ true
unfolding run_app session_app plan_app prove_app verify_app load_app
named_free (OverFiles Run) = refl
named_free (OverFiles Session) = refl
named_free (OverFiles Plan) = refl
named_free (OverFiles Prove) = refl
named_free (OverFiles Verify) = refl
named_free Load = refl

module _ {T : Type 0} where
  if_none : (faults : Kinds) (some : Option T) → (faults ≡ [] → ⊥) → if_no faults some ≡ None
  if_none [] some fails = absurd (fails refl)
  if_none (fault ∷ faults) some fails = refl

-- where `clap` refuses the words they say nothing
pub not_taken : (name : CommandName) (words : List (List ℕ)) → (fault_of (app_named name) words ≡ [] → ⊥) → said_as name words ≡ None
unfolding said_as
not_taken name words fails = if_none (fault_of (app_named name) words) (said_by_rows name (matches_of (app_named name) words)) fails

-- where it takes them they say what the matches say
pub taken : (name : CommandName) (words : List (List ℕ)) (rows : List Row) → fault_of (app_named name) words ≡ [] → rows ≡ matches_of (app_named name) words → said_as name words ≡ said_by_rows name rows
unfolding said_as
taken name words rows e found = ap (λ (k : Kinds). if_no k (said_by_rows name (matches_of (app_named name) words))) e ∙ ap (said_by_rows name) (sym found)

-- what is made of the value, if there is no fault
if_no_map : {S T : Type 0} (f : S → T) (faults : Kinds) (value : Option S) → option_map f (if_no faults value) ≡ if_no faults (option_map f value)
if_no_map f [] value = refl
if_no_map f (fault ∷ faults) value = refl

-- what the arguments say is what they say to the command that the first of them names
module _ (words : List (List ℕ)) where
  abbrev saying : Option CommandName → Option CommandSaid
  saying name = option_and_then (λ n. said_as n words) name

  choice : (a b c d e f : Bool) → (if a then option_map run_said (run_of words)
      else if b then option_map session_said (session_of words)
      else if c then option_map plan_said (plan_of words)
      else if d then option_map prove_said (prove_of words)
      else if e then option_map verify_said (verify_of words)
      else if f then option_map (λ p. load_said p.0 p.1 p.2) (load_of words)
      else None) ≡ saying (if a then Some (OverFiles Run) else if b then Some (OverFiles Session)
      else if c then Some (OverFiles Plan) else if d then Some (OverFiles Prove)
      else if e then Some (OverFiles Verify) else if f then Some Load else None)
  unfolding said_as run_of session_of plan_of prove_of verify_of load_of
  choice true b c d e f = if_no_map run_said (fault_of run_app words) _
  choice false true c d e f = if_no_map session_said (fault_of session_app words) _
  choice false false true d e f = if_no_map plan_said (fault_of plan_app words) _
  choice false false false true e f = if_no_map prove_said (fault_of prove_app words) _
  choice false false false false true f = if_no_map verify_said (fault_of verify_app words) _
  choice false false false false false true = if_no_map (λ p. load_said p.0 p.1 p.2) (fault_of load_app words) _
  choice false false false false false false = refl

  named : (first : List ℕ) (name : Option CommandName) → name ≡ name_of first → said_to first words ≡ saying name
  named first name same =
      choice (bytes_eq first (codes "run")) (bytes_eq first (codes "session")) (bytes_eq first (codes "plan")) (bytes_eq first (codes "prove")) (bytes_eq first (codes "verify")) (bytes_eq first (codes "load"))
      ∙ ap saying (sym same)

pub said_to_first : {A : Type 0} (view : A → List ℕ) (words : List A) (first : A) (text : List ℕ) (name : CommandName)
    → 1 ≤ length words → first ≡ get_or words 0 first → text ≡ view first → Some name ≡ name_of text
    → parsed_command (map view words) ≡ said_as name (map view words)
said_to_first view [] first text name some at is same = absurd (omega (arith, some))
said_to_first view (word ∷ words) first text name some at is same =
    named (map view (word ∷ words)) (view word) (Some name) (same ∙ ap name_of (is ∙ ap view at))

abbrev pub made : Option (List ℕ) → Option (List ℕ) → Option (List ℕ) → Option (List ℕ) → Option (List ℕ) → Option (List ℕ) → Option (List ℕ) → Option (List (List ℕ)) → OptionTexts
made a b c d e f g h = record { engine = a; ranks = b; rows = c; script = d; proof = e; best_of = f; query = g; tables = h }

pub same_texts : (a a' b b' c c' d d' e e' f f' g g' : Option (List ℕ)) (h h' : Option (List (List ℕ)))
    → a ≡ a' → b ≡ b' → c ≡ c' → d ≡ d' → e ≡ e' → f ≡ f' → g ≡ g' → h ≡ h' → made a b c d e f g h ≡ made a' b' c' d' e' f' g' h'
same_texts a a' b b' c c' d d' e e' f f' g g' h h' p q r s t u v w =
    ap (λ (o : Option (List ℕ)). made o b c d e f g h) p ∙ ap (λ (o : Option (List ℕ)). made a' o c d e f g h) q
    ∙ ap (λ (o : Option (List ℕ)). made a' b' o d e f g h) r ∙ ap (λ (o : Option (List ℕ)). made a' b' c' o e f g h) s
    ∙ ap (λ (o : Option (List ℕ)). made a' b' c' d' o f g h) t ∙ ap (λ (o : Option (List ℕ)). made a' b' c' d' e' o g h) u
    ∙ ap (λ (o : Option (List ℕ)). made a' b' c' d' e' f' o h) v ∙ ap (λ (o : Option (List (List ℕ))). made a' b' c' d' e' f' g' o) w

pub same_options : (a b c x y z : Option (List ℕ)) → a ≡ x → b ≡ y → c ≡ z → load_by_options x y z ≡ load_by_options a b c
same_options a b c x y z p q r =
    sym (ap (λ (o : Option (List ℕ)). load_by_options o b c) p ∙ ap (λ (o : Option (List ℕ)). load_by_options x o c) q ∙ ap (λ (o : Option (List ℕ)). load_by_options x y o) r)

-- an error of one result is that of another
module _ {S T E : Type 0} where
  pub same_error : (r : Result S E) (q : Result T E) (e f : E) → r ≡ Err e → q ≡ Err e → IsErrOf r f → IsErrOf q f
  same_error r q e f a b h = let same : e ≡ f = cc in b ∙ ap Err same
