-- Members of classes after one class got the least column of another.
use Rattle.std.specs.Prelude.{ℕ, ◌==◌, ◌&&◌, if◌then◌else◌}
use Rattle.query_bind.specs.declared.classes.Member.{Member}

-- the member with the new least column, if it had the old one
abbrev pub with_least : ℕ × ℕ → ℕ × ℕ → Member → Member
with_least new old m = if (m.least.0 == old.0) &&
    (m.least.1 == old.1) then record { column = m.column; least = new } else m
