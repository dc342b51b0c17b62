-- Values to hold, in one table: each row has what the definitions give, and what it has to be. Assumes nothing.
use Rattle.std.specs.Prelude.{List, ◌++◌}
use Rattle.values.specs.Row.{Row}
use Rattle.values.specs.Cipher.{cipher_rows}
use Rattle.values.specs.Masks.{mask_rows}
use Rattle.values.specs.Records.{record_rows}
use Rattle.values.specs.Bodies.{body_rows}
use Rattle.values.specs.Histories.{history_rows}
use Rattle.values.specs.Windows.{window_rows}
use Rattle.values.specs.Refusals.{refusal_rows}

-- those that take longest to compute stand last
abbrev pub rows : List Row
rows = body_rows ++ (history_rows ++ (window_rows ++ (refusal_rows ++ (mask_rows ++ (cipher_rows ++ record_rows)))))
