-- What opening a file of those that are held does.
use Rattle.std.proofs.Common.{◌≡◌, ℕ, Bool, true, false, List, [], Option, Some, None, is_some, unwrap_or, if◌then◌else◌, refl, sym, ap, ◌∙◌}
use Rattle.outer_io.specs.Counts.{Rose, saturating}
use Rattle.outer_io.specs.Files.{HasFile, bytes_of}
use Rattle.outer_io.specs.Holding.{Holding}
use Rattle.outer_io.proofs.Counting.{Rose-saturating}

none_is : {X : Type 0} (o : Option X) (b : Bool) → b ≡ is_some o → b ≡ false → o ≡ None
none_is None b found missed = refl
none_is (Some x) b found missed = absurd cc

has_rest : (files : List (List ℕ × List ℕ)) (name rest : List ℕ) (o : Option (List ℕ)) (b : Bool) → o ≡ bytes_of files name → b ≡ is_some o → b ≡ true → rest ≡ unwrap_or o []
    → HasFile (Some files) name (Some rest)
has_rest files name rest None b is found there e = absurd cc
has_rest files name rest (Some x) b is found there e = (ap Some e ∙ is, refl)

-- one was held, and the file of the name was opened or none
module _ (held now old : Holding) (name : List ℕ) (b : Bool) (same : held ≡ old) (found : b ≡ is_some (bytes_of held.files name))
    (after : now ≡ record {
      files = held.files;
      rest = unwrap_or (bytes_of held.files name) [];
      misses = if b then held.misses else saturating held.misses 1;
      taken = held.taken;
    }) where
  pub kept_files : now.files ≡ old.files
  kept_files = ap (λ (h : Holding). h.files) after ∙ ap (λ (h : Holding). h.files) same

  pub kept_taken : now.taken ≡ old.taken
  kept_taken = ap (λ (h : Holding). h.taken) after ∙ ap (λ (h : Holding). h.taken) same

  none_held : b ≡ false → bytes_of held.files name ≡ None
  none_held missed = none_is (bytes_of held.files name) b found missed

  pub is_missing : b ≡ false → bytes_of old.files name ≡ None
  is_missing missed = ap (λ (h : Holding). bytes_of h.files name) (sym same) ∙ none_held missed

  pub no_rest : b ≡ false → now.rest ≡ []
  no_rest missed = ap (λ (h : Holding). h.rest) after ∙ ap (λ o. unwrap_or o []) (none_held missed)

  pub missed_once : b ≡ false → Rose old.misses now.misses
  missed_once missed =
      Rose-saturating old.misses now.misses (ap (λ (h : Holding). h.misses) after ∙ ap (λ c. if c then held.misses else saturating held.misses 1) missed
      ∙ ap (λ (h : Holding). saturating h.misses 1) same)

  pub has_file : b ≡ true → HasFile (Some old.files) name (Some now.rest)
  has_file there =
      has_rest old.files name now.rest (bytes_of held.files name) b (ap (λ (h : Holding). bytes_of h.files name) same) found there (ap (λ (h : Holding). h.rest) after)
