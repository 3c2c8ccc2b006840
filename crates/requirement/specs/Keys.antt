-- The key of a requirement.
use Rattle.std.specs.Prelude.{ℕ}
use Rattle.requirement.specs.declared.requirements.Requirement.{Requirement}

-- class and characteristic together
abbrev pub key_of : Requirement → ℕ × ℕ
key_of q = (q.class, q.characteristic)
