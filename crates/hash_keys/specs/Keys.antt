-- What a clause reads of the keys of a hash.
use Rattle.std.specs.Hash.DefaultHasher as sip
use Rattle.std.specs.RandomState.{initial_hasher}
use Rattle.std.specs.declared.hash.DefaultHasher.{DefaultHasher}
use Rattle.hash_keys.specs.declared.keys.Keys.{Keys}
use Rattle.hash_keys.specs.declared.keys.Keys.TheVariants.{Drawn, Known}

-- the hasher that they make
abbrev pub first_hasher : Keys → DefaultHasher
first_hasher Known = sip.initial
first_hasher (Drawn state) = initial_hasher state
