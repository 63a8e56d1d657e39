-- The answer to a line that was not read as an entry.
use Rattle.std.specs.Prelude.{Ok, Err}
use Rattle.refusals.specs.{Written}
use Rattle.line_entry.specs.Rules.{Parsed}

abbrev pub refused_by : Parsed → Written
refused_by (Err refusal) = Err refusal
refused_by (Ok entry) = Ok 0
