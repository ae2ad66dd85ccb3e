-- A version as one number.
use Rattle.std.specs.Prelude.{ℕ, ◌+◌, ◌*◌}

-- the number of the version with these three parts
abbrev pub version_number : ℕ → ℕ → ℕ → ℕ
version_number major minor patch = major * 65536 + minor * 256 + patch
