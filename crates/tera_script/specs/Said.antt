-- What is answered of a line.
use Rattle.std.specs.Prelude.{ℕ, List}
use Rattle.tera_context.specs.Request.{command_form}
use Rattle.tera_script.specs.Line.{Says, IsSkipped, IsBad}
use Rattle.tera_script.specs.declared.line.Reading.{Reading}
use Rattle.tera_script.specs.declared.line.Reading.TheVariants.{Skipped, Bad, Says as Command}

-- a line that is skipped, a bad one, or one that says the command
abbrev pub IsReadingOf : List ℕ → Reading → Type 0
IsReadingOf line Skipped = IsSkipped line
IsReadingOf line Bad = IsBad line
IsReadingOf line (Command command) = Says line (command_form command)
