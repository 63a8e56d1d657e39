-- Rows as they are written, read again.
use Rattle.std.specs.Prelude.{◌∷◌}
use Rattle.laws.specs.{Bool, true, false, []}
use Rattle.sheet_read.specs.{Row}

-- "Within the header and each record, there may be one or more fields": a row without one would be read as one empty field
abbrev pub has_field : Row → Bool
has_field [] = false
has_field (field ∷ fields) = true
