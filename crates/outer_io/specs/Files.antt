-- Files by name.
use Rattle.std.specs.Prelude.{◌≡◌, ◌<◌, ℕ, List, [], ◌∷◌, length, Option, Some, None, if◌then◌else◌}
use Rattle.std.specs.Option.{IsSome}
use Rattle.std.specs.Str.{bytes_eq}

-- a finite map from names to bytes, as the list of its entries: a name has the bytes of its first
-- one
abbrev pub Files : Type 0
Files = List (List ℕ × List ℕ)

-- the bytes of the file of this name
abbrev pub bytes_of : Files → List ℕ → Option (List ℕ)
bytes_of [] name = None
bytes_of (file ∷ files) name = if bytes_eq file.0 name then Some file.1 else bytes_of files name

-- if the files are known: there is one of this name, and it has these bytes
abbrev pub HasFile : Option Files → List ℕ → Option (List ℕ) → Type 0
HasFile None name bytes = Unit {0}
HasFile (Some files) name bytes = (bytes ≡ bytes_of files name) × IsSome bytes

-- if the files are known: there is none of this name
abbrev pub LacksFile : Option Files → List ℕ → Type 0
LacksFile None name = Unit {0}
LacksFile (Some files) name = bytes_of files name ≡ None

-- the files are known, and the one of this name has more than n bytes
abbrev pub HasLongFile : ℕ → Option Files → List ℕ → Type 0
HasLongFile n files name = (all : Files) × (bytes : List ℕ) × (files ≡ Some all)
    × (bytes_of all name ≡ Some bytes) × (n < length bytes)

-- if the files are known: the one of this name has more than n bytes
abbrev pub IsNoShortFile : ℕ → Option Files → List ℕ → Type 0
IsNoShortFile n None name = Unit {0}
IsNoShortFile n (Some all) name = (bytes : List ℕ) × (bytes_of all name ≡ Some bytes)
    × (n < length bytes)
