-- What the functions below the writer's call take and give. Not part of what a reader must believe: the call's own
-- contract names none of it.
use Rattle.std.specs.Prelude.{ℕ, List, [], ◌++◌}
use Rattle.std.proofs.Math.Option.{Option, none, some}
use Rattle.numbers.specs.Numbers.{joined}
use Rattle.text.specs.Text.{bytes, decimal, spaced}

-- A form that may be absent: two strings, and a number between them.
unfoldable pub optional_text : List ℕ → List ℕ → Option ℕ → List ℕ
optional_text front end none = []
optional_text front end (some v) = front ++ (decimal v ++ end)

-- The lines of a list's text before its tasks, each from its own bracket to its own end. (`script_text` has the bracket
-- of a line at the end of the string before it, as the reader takes it.)
unfoldable pub slack_text : ℕ → List ℕ
slack_text slack = bytes "(slack " ++ (decimal slack ++ bytes ")\n")

unfoldable pub idle_line : Option ℕ → List ℕ
idle_line = optional_text (bytes "(idle ") (bytes ")\n")

unfoldable pub rates_text : List ℕ → List ℕ
rates_text rates = bytes "(rates" ++ (joined spaced rates ++ bytes ")\n")
